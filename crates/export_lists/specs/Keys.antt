-- Working definitions of the set behind a list of entries: what tells entries apart.
use Rattle.std.specs.Prelude.{ℕ, List}
use Rattle.export_lists.specs.declared.entries.Key.{Key}
use Rattle.export_lists.specs.Entries.{Listed, kind_number}

-- a kind's number, a name and an owner
abbrev pub Parts : Type 0
Parts = ℕ × List ℕ × List ℕ

-- what a key tells
abbrev pub seen_key : Key → Parts
seen_key key = (key.kind, key.name.now, key.owner.now)

-- what tells an entry from others
abbrev pub key_of : Listed → Parts
key_of entry = (kind_number entry.kind, entry.name, entry.owner)
