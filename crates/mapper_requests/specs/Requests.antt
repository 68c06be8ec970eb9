-- The request that the words of a line are.
use Rattle.std.specs.Prelude.{ℕ, Bool, ◌&&◌, nat_le, if◌then◌else◌, List, [], ◌∷◌, length, find, slice_index_or, Option, Some, None, unwrap_or, codes}
use Rattle.std.specs.Option.{option_map}
use Rattle.std.specs.Str.{bytes_eq}
use Rattle.mapper_requests.specs.declared.request.Bad.TheVariants.{UnknownVerb, WrongWords, BadNumber}
use Rattle.mapper_requests.specs.Numbers.{number_of}
use Rattle.mapper_requests.specs.Asked.{Asked, Hello, Repo, Export, Import, Compiled, Translate, Bad}

-- the word at a place, counted from 0, or the empty word where there is none
abbrev pub word_at : List (List ℕ) → ℕ → List ℕ
word_at words place = slice_index_or words place []

-- the flags behind a name, 0 where they are missing
abbrev pub flags_of : List (List ℕ) → Option ℕ
flags_of words = if nat_le (length words) 2 then Some 0 else number_of (word_at words 2)

-- HELLO version compiler [ident]
abbrev pub hello : List (List ℕ) → Option Asked
hello words = option_map (λ version. Hello version (word_at words 2) (word_at words 3)) (number_of (word_at words 1))

-- a verb alone
abbrev pub alone : Asked → List (List ℕ) → Option Asked
alone asked words = Some asked

-- verb name [flags]
abbrev pub named : (List ℕ → ℕ → Asked) → List (List ℕ) → Option Asked
named asks words = option_map (asks (word_at words 1)) (flags_of words)

-- A row of the table: a verb, the least and the most words with it, and what they ask, where their number is one.
pub record Row : Type 0 where
  pub verb : List ℕ
  pub least : ℕ
  pub most : ℕ
  pub form : List (List ℕ) → Option Asked

-- a row, by its four columns
abbrev pub row : List ℕ → ℕ → ℕ → (List (List ℕ) → Option Asked) → Row
row verb least most form = record { verb = verb; least = least; most = most; form = form }

-- the row of HELLO
abbrev pub hello_row : Row
hello_row = row (codes "HELLO") 3 4 hello

-- the row of MODULE-REPO
abbrev pub repo_row : Row
repo_row = row (codes "MODULE-REPO") 1 1 (alone Repo)

-- the row of MODULE-EXPORT
abbrev pub export_row : Row
export_row = row (codes "MODULE-EXPORT") 2 3 (named Export)

-- the row of MODULE-IMPORT
abbrev pub import_row : Row
import_row = row (codes "MODULE-IMPORT") 2 3 (named Import)

-- the row of MODULE-COMPILED
abbrev pub compiled_row : Row
compiled_row = row (codes "MODULE-COMPILED") 2 3 (named Compiled)

-- the row of INCLUDE-TRANSLATE
abbrev pub translate_row : Row
translate_row = row (codes "INCLUDE-TRANSLATE") 2 3 (named Translate)

-- the table of requests
abbrev pub table : List Row
table = hello_row ∷ repo_row ∷ export_row ∷ import_row ∷ compiled_row ∷ translate_row ∷ []

-- the row of a verb
abbrev pub find_row : List ℕ → Option Row
find_row verb = find (λ entry. bytes_eq verb entry.verb) table

-- whether a row has so many words
abbrev pub has_count : Row → ℕ → Bool
has_count row count = nat_le row.least count && nat_le count row.most

-- what words ask by a row: the count of words is tried before the number
abbrev pub asked_in : Option Row → List (List ℕ) → Asked
asked_in None words = Bad UnknownVerb
asked_in (Some row) words = if has_count row (length words) then unwrap_or (row.form words) (Bad BadNumber) else Bad WrongWords

-- the request that words are
unfoldable pub request : List (List ℕ) → Asked
request words = asked_in (find_row (word_at words 0)) words
