-- Working definitions of the set behind entries that are read.
use Rattle.std.specs.Prelude.{Bool, ◌&&◌, ◌==◌, List}
use Rattle.std.specs.List.{list_any}
use Rattle.std.specs.Str.{bytes_eq}
use Rattle.export_lists.specs.declared.distinct.OwnKey.{OwnKey}
use Rattle.export_lists.specs.Keys.{Parts}

-- what a key tells
abbrev pub seen_own : OwnKey → Parts
seen_own key = (key.kind, key.name.items, key.owner.items)

-- two keys tell the same
abbrev pub is_same_own : OwnKey → OwnKey → Bool
is_same_own key other = key.kind == other.kind && (bytes_eq key.name.items other.name.items && bytes_eq key.owner.items other.owner.items)

-- the key tells the same as one of these
abbrev pub has_own : List OwnKey → OwnKey → Bool
has_own keys key = list_any (is_same_own key) keys
