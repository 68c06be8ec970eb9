-- The words behind `gen` and behind `list`, and the numbers that words may say.
use Rattle.std.specs.Prelude.{◌≡◌, ℕ, ◌≤◌, ◌==◌, Bool, not, ◌&&◌, nat_le, List, length, decimal}
use Rattle.std.specs.List.{list_all}
use Rattle.header_units.specs.Octets.{is_path_octet}

-- the word spells a number that lies between two others, or is one of them
pub record IsNumberWithin (low high : ℕ) (word : List ℕ) (number : ℕ) : Type 0 where
  pub decimal_is : word ≡ decimal number
  pub at_least : low ≤ number
  pub at_most : number ≤ high

-- the most entries of the history of `pipe`, where its words don't say
abbrev pub usual_entries : ℕ
usual_entries = 65536

-- the most units that can be generated
abbrev pub most_units : ℕ
most_units = 2000

-- the most links that a hall of `serve` gives
abbrev pub most_links : ℕ
most_links = 65536

-- the greatest seed
abbrev pub greatest_seed : ℕ
greatest_seed = 2147483647

-- the most octets of a folder
abbrev pub longest_folder : ℕ
longest_folder = 400

-- whether the word may be a folder: not empty, not too long, and no octet of it below 0x20 or 0x7f
abbrev pub is_folder : List ℕ → Bool
is_folder word = not (length word == 0) && nat_le (length word) longest_folder && list_all is_path_octet word
