-- How the words of a line are kept: their octets in one list, and the places where they begin.
use Rattle.std.specs.Prelude.{◌≡◌, ℕ, ◌-◌, ◌≤◌, List, [], ◌∷◌, length, take, drop}
use Rattle.std.specs.List.{flat_map}
use Rattle.cody_words.specs.Lines.{longest_line}

-- the octets of all words
abbrev pub total : List (List ℕ) → ℕ
total words = length (flat_map (λ (w : List ℕ). w) words)

-- the pieces that begin at these places, each up to the next
abbrev pub cut : List ℕ → List ℕ → List (List ℕ)
cut [] octets = []
cut (s ∷ []) octets = drop s octets ∷ []
cut (s ∷ t ∷ starts) octets = take (t - s) (drop s octets) ∷ cut (t ∷ starts) octets

-- no place lies behind the next one, nor behind the end
abbrev pub InOrder : List ℕ → ℕ → Type 0
InOrder [] end = Unit {0}
InOrder (s ∷ []) end = s ≤ end
InOrder (s ∷ t ∷ starts) end = (s ≤ t) × InOrder (t ∷ starts) end

-- the first place is 0, and nothing stands before it
abbrev pub BeginsAtZero : List ℕ → ℕ → Type 0
BeginsAtZero [] end = end ≡ 0
BeginsAtZero (s ∷ starts) end = s ≡ 0

-- the places cut the octets, neither is more than the longest line has, and there is room for so many
pub record IsCut (starts octets : List ℕ) (starts_room octets_room : ℕ) : Type 0 where
  pub in_order : InOrder starts (length octets)
  pub from_zero : BeginsAtZero starts (length octets)
  pub few_starts : length starts ≤ longest_line
  pub few_octets : length octets ≤ longest_line
  pub starts_fit : longest_line ≤ starts_room
  pub octets_fit : longest_line ≤ octets_room
