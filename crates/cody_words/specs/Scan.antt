-- The scan of a body, octet by octet: how the reader works, and no part of what a line means.
use Rattle.std.specs.Prelude.{ℕ, ◌+◌, ◌-◌, ◌*◌, Bool, true, false, ◌||◌, ◌&&◌, not, ◌==◌, nat_lt, nat_le, if◌then◌else◌, List, [], ◌∷◌, ◌++◌, Option, Some, None}
use Rattle.std.specs.List.{fold, position_or_len}
use Rattle.cody_words.specs.declared.reason.Reason.TheVariants.{ControlOctet, BackslashOutside, UnknownEscape, StraySemicolon, UnclosedQuote}
use Rattle.cody_words.specs.declared.mode.Mode.{Mode}
use Rattle.cody_words.specs.declared.mode.Mode.TheVariants.{Between, Semicolon, Outside, Inside, Escape, Digit, Refused}
use Rattle.cody_words.specs.Octets.{tab, space, apostrophe, semicolon, backslash, delete}
use Rattle.cody_words.specs.Lines.{Meaning, Blank, Words, Malformed}

-- the words so far, the last of which may still grow, the mode, and the number of octets so far
pub record Scan : Type 0 where
  pub words : List (List ℕ)
  pub mode : Mode
  pub at : ℕ

-- whether the octet is white space
abbrev pub is_white : ℕ → Bool
is_white c = c == space || c == tab

-- whether the octet stands nowhere in a body
abbrev pub is_control : ℕ → Bool
is_control c = (nat_lt c space && not (c == tab)) || c == delete

-- the octet doesn't stand for itself outside quotes
abbrev pub is_special : ℕ → Bool
is_special c = nat_le c space || c == apostrophe || c == backslash || c == delete

-- the value of a hexadecimal digit
abbrev pub hex_value : ℕ → Option ℕ
hex_value c =
    if nat_le 48 c && nat_le c 57 then Some (c - 48)
    else if nat_le 97 c && nat_le c 102 then Some (c - 87)
    else None

-- the octet that an escape of one letter stands for
abbrev pub letter_value : ℕ → Option ℕ
letter_value c =
    if c == 110 then Some 10
    else if c == 116 then Some 9
    else if c == 39 then Some 39
    else if c == 92 then Some 92
    else if c == 95 then Some 32
    else None

-- the last word has one more octet
abbrev pub with_octet : List (List ℕ) → ℕ → List (List ℕ)
with_octet [] c = []
with_octet (word ∷ []) c = (word ++ c ∷ []) ∷ []
with_octet (word ∷ other ∷ words) c = word ∷ with_octet (other ∷ words) c

-- a word is begun
abbrev pub with_word : List (List ℕ) → List (List ℕ)
with_word words = words ++ [] ∷ []

-- the scan behind one octet more
abbrev pub goes : List (List ℕ) → ℕ → Mode → Scan
goes words at mode = record { words = words; mode = mode; at = at + 1 }

-- an octet in a word, outside quotes
abbrev pub step_outside : List (List ℕ) → ℕ → ℕ → Scan
step_outside words at c =
    if is_white c then goes words at Between
    else if c == apostrophe then goes words at Inside
    else if is_control c then goes words at (Refused at ControlOctet)
    else if c == backslash then goes words at (Refused at BackslashOutside)
    else goes (with_octet words c) at Outside

-- an octet between words, or the first one of a word
abbrev pub step_between : List (List ℕ) → ℕ → ℕ → Scan
step_between words at c =
    if is_white c then goes words at Between
    else if c == semicolon then goes (with_octet (with_word words) c) at Semicolon
    else step_outside (with_word words) at c

-- an octet behind a semicolon that began a word
abbrev pub step_semicolon : List (List ℕ) → ℕ → ℕ → Scan
step_semicolon words at c = if is_white c then goes words at (Refused (at - 1) StraySemicolon) else step_outside words at c

-- an octet between quotes
abbrev pub step_inside : List (List ℕ) → ℕ → ℕ → Scan
step_inside words at c =
    if c == apostrophe then goes words at Outside
    else if c == backslash then goes words at Escape
    else if is_control c then goes words at (Refused at ControlOctet)
    else goes (with_octet words c) at Inside

-- an octet behind a quoted backslash, by what it stands for as a letter and as a digit
abbrev pub step_escape : List (List ℕ) → ℕ → Option ℕ → Option ℕ → Scan
step_escape words at (Some value) digit = goes (with_octet words value) at Inside
step_escape words at None (Some value) = goes words at (Digit value)
step_escape words at None None = goes words at (Refused (at - 1) UnknownEscape)

-- an octet behind the first digit of an escape, by its value as a digit
abbrev pub step_digit : List (List ℕ) → ℕ → ℕ → ℕ → Option ℕ → Scan
step_digit words at first c (Some second) = goes (with_octet words (16 * first + second)) at Inside
step_digit words at first c None = step_inside (with_octet words first) at c

-- an octet in each mode
abbrev pub step_in : Mode → List (List ℕ) → ℕ → ℕ → Scan
step_in Between words at c = step_between words at c
step_in Semicolon words at c = step_semicolon words at c
step_in Outside words at c = step_outside words at c
step_in Inside words at c = step_inside words at c
step_in Escape words at c = step_escape words at (letter_value c) (hex_value c)
step_in (Digit first) words at c = step_digit words at first c (hex_value c)
step_in (Refused place reason) words at c = goes words at (Refused place reason)

-- one octet
abbrev pub step : Scan → ℕ → Scan
step scan c = step_in scan.mode scan.words scan.at c

-- whether no word is begun
abbrev pub is_between : Mode → Bool
is_between Between = true
is_between mode = false

-- whether octets that stand for themselves outside quotes go on with the last word in this mode, or begin one
abbrev pub takes_run : Mode → List ℕ → Bool
takes_run Outside octets = true
takes_run Between [] = false
takes_run Between (c ∷ octets) = not (c == semicolon)
takes_run Semicolon octets = false
takes_run Inside octets = false
takes_run Escape octets = false
takes_run (Digit value) octets = false
takes_run (Refused place reason) octets = false

-- how many octets, from the first on, may be appended to the last word at once in this mode, or begin one
abbrev pub run_len : Mode → List ℕ → ℕ
run_len Outside octets = position_or_len is_special octets
run_len Between [] = 0
run_len Between (c ∷ octets) = if c == semicolon then 0 else position_or_len is_special (c ∷ octets)
run_len Semicolon octets = 0
run_len Inside octets = 0
run_len Escape octets = 0
run_len (Digit value) octets = 0
run_len (Refused place reason) octets = 0

-- before the first octet
abbrev pub start : Scan
start = record { words = []; mode = Between; at = 0 }

-- these words, or nothing where there is none
abbrev pub all_words : List (List ℕ) → Meaning
all_words [] = Blank
all_words (word ∷ words) = Words (word ∷ words)

-- what the body says where it ends in this mode
abbrev pub verdict_in : Mode → List (List ℕ) → ℕ → Meaning
verdict_in Between words at = all_words words
verdict_in Semicolon words at = Malformed (at - 1) StraySemicolon
verdict_in Outside words at = all_words words
verdict_in Inside words at = Malformed at UnclosedQuote
verdict_in Escape words at = Malformed (at - 1) UnknownEscape
verdict_in (Digit value) words at = Malformed at UnclosedQuote
verdict_in (Refused place reason) words at = Malformed place reason

-- what the body says where it ends here
abbrev pub verdict : Scan → Meaning
verdict scan = verdict_in scan.mode scan.words scan.at

-- what a body says
abbrev pub body_verdict : List ℕ → Meaning
body_verdict body = verdict (fold step start body)
