-- The CMI name of a name.
use Rattle.std.specs.Prelude.{ℕ, ◌==◌, if◌then◌else◌, List, ◌++◌, map, drop, codes}
use Rattle.std.specs.List.{list_all, slice_split, join_with_byte}
use Rattle.std.specs.Str.{bytes_eq}
use Rattle.header_units.specs.Octets.{comma, dash, slash, colon}
use Rattle.header_units.specs.Names.{is_relative, is_absolute}

-- What stands for a component of a path. Commas become three more, and so does nothing.
abbrev pub cmi_component : List ℕ → List ℕ
cmi_component part =
    if list_all (λ octet. octet == comma) part then part ++ codes ",,,"
    else if bytes_eq part (codes ".") then codes ","
    else if bytes_eq part (codes "..") then codes ",,"
    else part

-- a path with each component between slashes replaced
abbrev pub cmi_path : List ℕ → List ℕ
cmi_path path = join_with_byte slash (map cmi_component (slice_split (λ octet. octet == slash) path))

-- a dash for the colon
abbrev pub cmi_octet : ℕ → ℕ
cmi_octet octet = if octet == colon then dash else octet

-- the CMI name without its ending
unfoldable pub cmi_stem : List ℕ → List ℕ
cmi_stem name =
    if is_relative name then codes ",/" ++ cmi_path (drop 2 name)
    else if is_absolute name then codes "+/" ++ cmi_path (drop 1 name)
    else map cmi_octet name

-- the CMI name
abbrev pub cmi_name : List ℕ → List ℕ
cmi_name name = cmi_stem name ++ codes ".gcm"

-- the room that a CMI name is given without its ending
abbrev pub cmi_stem_room : ℕ
cmi_stem_room = 2096

-- the room that a CMI name is given
abbrev pub cmi_name_room : ℕ
cmi_name_room = 2100
