-- What a name is, as functions on whole names. The laws tie them to the grammar.
use Rattle.std.specs.Prelude.{ℕ, Bool, false, ◌||◌, ◌&&◌, ◌==◌, nat_eq, nat_lt, nat_le, if◌then◌else◌, List, [], ◌∷◌, length, Option, Some, None, codes}
use Rattle.std.specs.List.{list_all, slice_split, starts_with, before_first, after_first}
use Rattle.header_units.specs.declared.name.NameKind.{NameKind}
use Rattle.header_units.specs.declared.name.NameKind.TheVariants.{Primary, Partition, Header}
use Rattle.header_units.specs.Octets.{dot, colon, is_letter, is_letter_or_digit, is_path_octet}

-- the most octets of an identifier
abbrev pub longest_identifier : ℕ
longest_identifier = 255

-- the most octets of a name
abbrev pub longest_name : ℕ
longest_name = 512

-- a letter, and then letters and digits
abbrev pub is_identifier : List ℕ → Bool
is_identifier [] = false
is_identifier (first ∷ rest) = is_letter first && list_all is_letter_or_digit rest && nat_le (length (first ∷ rest)) longest_identifier

-- each part between dots is an identifier
abbrev pub is_dotted : List ℕ → Bool
is_dotted name = list_all is_identifier (slice_split (λ octet. octet == dot) name)

-- a dotted name stands before the first colon, and one behind it
abbrev pub is_partition : List ℕ → Bool
is_partition name = is_dotted (before_first (λ octet. octet == colon) name) && is_dotted (after_first (λ octet. octet == colon) name)

-- begins with `./`
abbrev pub is_relative : List ℕ → Bool
is_relative name = starts_with nat_eq name (codes "./")

-- begins with `/`
abbrev pub is_absolute : List ℕ → Bool
is_absolute name = starts_with nat_eq name (codes "/")

-- more stands behind `./` or `/`
abbrev pub is_rooted : List ℕ → Bool
is_rooted name = is_relative name && nat_lt 2 (length name) || is_absolute name && nat_lt 1 (length name)

-- `./` or `/`, and then at least one octet more, each an octet of paths
abbrev pub is_header : List ℕ → Bool
is_header name = is_rooted name && list_all is_path_octet name

-- the kind of a name, or none where the octets are no name
unfoldable pub name_kind : List ℕ → Option NameKind
name_kind name =
    if nat_lt longest_name (length name) then None
    else if is_dotted name then Some Primary
    else if is_partition name then Some Partition
    else if is_header name then Some Header
    else None

-- the part before the colon of a partition, and else the whole name
abbrev pub module_of : NameKind → List ℕ → List ℕ
module_of Primary name = name
module_of Partition name = before_first (λ octet. octet == colon) name
module_of Header name = name
