-- How many entries a history may have that is served alone.
use Rattle.std.specs.Prelude.{ℕ}

-- the fewest: the connection opens and goes, and the worker ends
abbrev pub fewest_entries : ℕ
fewest_entries = 3

-- the most
abbrev pub most_entries : ℕ
most_entries = 1048576

-- the most halls that are served at once
abbrev pub most_halls : ℕ
most_halls = 64
