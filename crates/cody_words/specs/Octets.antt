-- The octets of a line, by name and by kind.
use Rattle.std.specs.Prelude.{◌≡◌, ◌≢◌, ℕ, ◌+◌, ◌<◌, ◌≤◌, ◌⊎◌, nat_lt, if◌then◌else◌}

-- TAB
abbrev pub tab : ℕ
tab = 9

-- NEWLINE, which ends a line
abbrev pub newline : ℕ
newline = 10

-- SPACE
abbrev pub space : ℕ
space = 32

-- `'`, which begins and ends a quoted run
abbrev pub apostrophe : ℕ
apostrophe = 39

-- `;`
abbrev pub semicolon : ℕ
semicolon = 59

-- `\`, which begins an escape
abbrev pub backslash : ℕ
backslash = 92

-- 0x7f
abbrev pub delete : ℕ
delete = 127

-- white space
abbrev pub IsWhite : ℕ → Type 0
IsWhite c = (c ≡ space) ⊎ (c ≡ tab)

-- what stands nowhere in a body
abbrev pub IsControl : ℕ → Type 0
IsControl c = ((c < space) × (c ≢ tab)) ⊎ (c ≡ delete)

-- what stands for itself outside quotes
abbrev pub IsBare : ℕ → Type 0
IsBare c = (space < c) × (c ≢ backslash) × (c ≢ apostrophe) × (c ≢ delete)

-- what stands for itself between quotes
abbrev pub IsPlain : ℕ → Type 0
IsPlain c = ((space ≤ c) × (c ≢ backslash) × (c ≢ apostrophe) × (c ≢ delete)) ⊎ (c ≡ tab)

-- the hexadecimal digit of a number below 16: 0 to 9, and then a to f
abbrev pub hex_digit : ℕ → ℕ
hex_digit n = if nat_lt n 10 then 48 + n else 87 + n

-- 0 to 9 and a to f
abbrev pub IsHexDigit : ℕ → Type 0
IsHexDigit c = (n : ℕ) × (n < 16) × (c ≡ hex_digit n)
