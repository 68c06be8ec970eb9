-- Words with their numbers.
use Rattle.std.specs.Prelude.{ℕ, List, [], ◌∷◌, ◌++◌, Option, Some, None, if◌then◌else◌}
use Rattle.std.specs.Str.{bytes_eq}

-- the number of a word, if it has one
abbrev pub number_in : List (List ℕ × ℕ) → List ℕ → Option ℕ
number_in [] word = None
number_in (entry ∷ entries) word = if bytes_eq word entry.0 then Some entry.1 else number_in entries word

-- with one word more, where it isn't empty
abbrev pub with_number : List (List ℕ × ℕ) → List ℕ → ℕ → List (List ℕ × ℕ)
with_number entries [] number = entries
with_number entries (first ∷ rest) number = entries ++ (first ∷ rest, number) ∷ []
