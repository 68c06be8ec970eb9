-- Numbers, as requests and replies spell them.
use Rattle.std.specs.Prelude.{ℕ, ◌≤◌, ◌+◌, ◌-◌, ◌*◌, Bool, ◌&&◌, not, ◌==◌, nat_le, if◌then◌else◌, List, length, Option, Some, None}
use Rattle.std.specs.Char.{is_ascii_digit}
use Rattle.std.specs.List.{fold, list_all}

-- the most digits of a number
abbrev pub most_digits : ℕ
most_digits = 10

-- the greatest number
abbrev pub greatest_number : ℕ
greatest_number = 4294967295

-- a value that a number may have: at most the greatest number
abbrev pub IsNumber : ℕ → Type 0
IsNumber value = value ≤ greatest_number

-- one to ten decimal digits
abbrev pub is_digits : List ℕ → Bool
is_digits word = not (length word == 0) && nat_le (length word) most_digits && list_all is_ascii_digit word

-- a number with a digit behind it
abbrev pub with_digit : ℕ → ℕ → ℕ
with_digit number digit = 10 * number + (digit - 48)

-- the value of decimal digits
abbrev pub digits_value : List ℕ → ℕ
digits_value digits = fold with_digit 0 digits

-- the number that a word spells: one to ten decimal digits, of value at most the greatest number
unfoldable pub number_of : List ℕ → Option ℕ
number_of word = if is_digits word && nat_le (digits_value word) greatest_number then Some (digits_value word) else None
