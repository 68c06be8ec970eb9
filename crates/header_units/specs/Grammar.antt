-- The grammar of names.
use Rattle.std.specs.Prelude.{◌≡◌, ◌≢◌, ℕ, ◌≤◌, ◌⊎◌, true, List, [], ◌∷◌, ◌++◌, length, codes}
use Rattle.std.specs.List.{AllByRecursion, join_with_byte}
use Rattle.header_units.specs.declared.name.NameKind.{NameKind}
use Rattle.header_units.specs.declared.name.NameKind.TheVariants.{Primary, Partition, Header}
use Rattle.header_units.specs.Octets.{dot, colon, is_letter, is_letter_or_digit, is_path_octet}
use Rattle.header_units.specs.Names.{longest_identifier, longest_name}

-- An identifier: a letter, and then letters and digits.
pub record IsIdentifier (word : List ℕ) : Type 0 where
  pub first : ℕ
  pub rest : List ℕ
  pub whole : word ≡ first ∷ rest
  pub letter : is_letter first ≡ true
  pub each : AllByRecursion (λ octet. is_letter_or_digit octet ≡ true) rest
  pub short : length word ≤ longest_identifier

-- A dotted name: identifiers joined by dots.
pub record IsDotted (name : List ℕ) : Type 0 where
  pub identifiers : List (List ℕ)
  pub some : identifiers ≢ []
  pub each : AllByRecursion IsIdentifier identifiers
  pub joined : name ≡ join_with_byte dot identifiers

-- Two dotted names joined by a colon.
pub record IsPartition (name : List ℕ) : Type 0 where
  pub front : List ℕ
  pub back : List ℕ
  pub front_dotted : IsDotted front
  pub back_dotted : IsDotted back
  pub joined : name ≡ front ++ colon ∷ back

-- A header name: `./` or `/`, and then a rest that isn't empty, without octets below 0x20 and 0x7f.
pub record IsHeader (name : List ℕ) : Type 0 where
  pub root : List ℕ
  pub rest : List ℕ
  pub root_is : (root ≡ codes "./") ⊎ (root ≡ codes "/")
  pub some : rest ≢ []
  pub joined : name ≡ root ++ rest
  pub each : AllByRecursion (λ octet. is_path_octet octet ≡ true) name

-- The form that a name of a kind has.
abbrev pub HasForm : NameKind → List ℕ → Type 0
HasForm Primary name = IsDotted name
HasForm Partition name = IsPartition name
HasForm Header name = IsHeader name

-- A name of this kind: it has the form, and isn't too long.
pub record IsName (kind : NameKind) (name : List ℕ) : Type 0 where
  pub form : HasForm kind name
  pub short : length name ≤ longest_name
