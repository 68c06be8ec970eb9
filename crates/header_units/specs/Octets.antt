-- The octets of names and of CMI names, by name and by kind.
use Rattle.std.specs.Prelude.{ℕ, Bool, ◌||◌, not, ◌==◌}
use Rattle.std.specs.Char.{is_ascii_alphabetic, is_ascii_digit, is_ascii_control}

-- `,`
abbrev pub comma : ℕ
comma = 44

-- `-`
abbrev pub dash : ℕ
dash = 45

-- `.`
abbrev pub dot : ℕ
dot = 46

-- `/`
abbrev pub slash : ℕ
slash = 47

-- `:`
abbrev pub colon : ℕ
colon = 58

-- what an identifier may begin with: A to Z, a to z, and `_`
unfoldable pub is_letter : ℕ → Bool
is_letter octet = is_ascii_alphabetic octet || octet == 95

-- what an identifier may go on with: these and 0 to 9
unfoldable pub is_letter_or_digit : ℕ → Bool
is_letter_or_digit octet = is_letter octet || is_ascii_digit octet

-- what may stand in a header name: no octet below 0x20, and not 0x7f
abbrev pub is_path_octet : ℕ → Bool
is_path_octet octet = not (is_ascii_control octet)
