-- How a raw word spells a word.
use Rattle.std.specs.Prelude.{◌≡◌, ◌≢◌, ℕ, ◌+◌, ◌*◌, ◌<◌, List, [], ◌∷◌, ◌++◌, map}
use Rattle.std.specs.List.{flat_map, AllByRecursion}
use Rattle.cody_words.specs.Octets.{apostrophe, backslash, hex_digit, IsBare, IsPlain, IsHexDigit}

-- An item between quotes.
pub data Item : Type 0 where
  plain : ℕ → Item
  escaped_newline : Item
  escaped_tab : Item
  escaped_apostrophe : Item
  escaped_backslash : Item
  escaped_space : Item
  one_digit : ℕ → Item
  two_digits : ℕ → ℕ → Item

-- the octets of an item: itself, \n, \t, \', \\, \_, and a backslash with one or two hexadecimal digits
abbrev pub item_raw : Item → List ℕ
item_raw (plain c) = c ∷ []
item_raw escaped_newline = backslash ∷ 110 ∷ []
item_raw escaped_tab = backslash ∷ 116 ∷ []
item_raw escaped_apostrophe = backslash ∷ apostrophe ∷ []
item_raw escaped_backslash = backslash ∷ backslash ∷ []
item_raw escaped_space = backslash ∷ 95 ∷ []
item_raw (one_digit n) = backslash ∷ hex_digit n ∷ []
item_raw (two_digits m n) = backslash ∷ hex_digit m ∷ hex_digit n ∷ []

-- the octet that an item stands for
abbrev pub item_value : Item → ℕ
item_value (plain c) = c
item_value escaped_newline = 10
item_value escaped_tab = 9
item_value escaped_apostrophe = 39
item_value escaped_backslash = 92
item_value escaped_space = 32
item_value (one_digit n) = n
item_value (two_digits m n) = 16 * m + n

-- what an item may be
abbrev pub IsItem : Item → Type 0
IsItem (plain c) = IsPlain c
IsItem (one_digit n) = n < 16
IsItem (two_digits m n) = (m < 16) × (n < 16)
IsItem escaped_newline = Unit {0}
IsItem escaped_tab = Unit {0}
IsItem escaped_apostrophe = Unit {0}
IsItem escaped_backslash = Unit {0}
IsItem escaped_space = Unit {0}

-- these items don't begin with a hexadecimal digit
abbrev pub NoDigitFirst : List Item → Type 0
NoDigitFirst [] = Unit {0}
NoDigitFirst (plain c ∷ items) = IsHexDigit c → ⊥
NoDigitFirst (escaped_newline ∷ items) = Unit {0}
NoDigitFirst (escaped_tab ∷ items) = Unit {0}
NoDigitFirst (escaped_apostrophe ∷ items) = Unit {0}
NoDigitFirst (escaped_backslash ∷ items) = Unit {0}
NoDigitFirst (escaped_space ∷ items) = Unit {0}
NoDigitFirst (one_digit n ∷ items) = Unit {0}
NoDigitFirst (two_digits m n ∷ items) = Unit {0}

-- an escape of one digit isn't followed by a second digit
abbrev pub EndsBefore : Item → List Item → Type 0
EndsBefore (one_digit n) items = NoDigitFirst items
EndsBefore (plain c) items = Unit {0}
EndsBefore escaped_newline items = Unit {0}
EndsBefore escaped_tab items = Unit {0}
EndsBefore escaped_apostrophe items = Unit {0}
EndsBefore escaped_backslash items = Unit {0}
EndsBefore escaped_space items = Unit {0}
EndsBefore (two_digits m n) items = Unit {0}

-- two digits are taken where two stand
abbrev pub TakesTwo : List Item → Type 0
TakesTwo [] = Unit {0}
TakesTwo (item ∷ items) = EndsBefore item items × TakesTwo items

-- the octets of items
abbrev pub items_raw : List Item → List ℕ
items_raw = flat_map item_raw

-- the octets that items stand for
abbrev pub items_value : List Item → List ℕ
items_value = map item_value

-- A part of a raw word: an octet for itself, or a quoted run.
pub data Part : Type 0 where
  bare : ℕ → Part
  quoted : List Item → Part

-- the octets of a part
abbrev pub part_raw : Part → List ℕ
part_raw (bare c) = c ∷ []
part_raw (quoted items) = apostrophe ∷ items_raw items ++ apostrophe ∷ []

-- the octets that a part stands for
abbrev pub part_value : Part → List ℕ
part_value (bare c) = c ∷ []
part_value (quoted items) = items_value items

-- what a part may be
abbrev pub IsPart : Part → Type 0
IsPart (bare c) = IsBare c
IsPart (quoted items) = AllByRecursion IsItem items

-- in each quoted run, two digits are taken where two stand
abbrev pub TakesDigits : Part → Type 0
TakesDigits (bare c) = Unit {0}
TakesDigits (quoted items) = TakesTwo items

-- The raw word is a run of abutting parts, at least one, and their values joined are the word.
pub record Spells (raw word : List ℕ) : Type 0 where
  pub parts : List Part
  pub some : parts ≢ []
  pub each : AllByRecursion IsPart parts
  pub digits : AllByRecursion TakesDigits parts
  pub written : raw ≡ flat_map part_raw parts
  pub meant : word ≡ flat_map part_value parts
