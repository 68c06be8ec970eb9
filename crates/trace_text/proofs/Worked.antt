-- Worked traces, computed by the definitions.
use Rattle.std.proofs.Common.{◌≡◌, ℕ, false, List, [], ◌∷◌, ◌++◌, refl}
use Rattle.std.specs.Fmt as fmt
use Rattle.std.specs.Prelude.{codes, Some, Ok, Err}
use Rattle.cody_words.specs.Octets.{newline}
use Rattle.mapper_requests.specs.Numbers as numbers
use Rattle.unit_registry.specs.declared.act.Act.TheVariants.{Open, Hello, Export, Import, Compiled, Pause}
use Rattle.histories.specs.declared.entry.Entry.{Entry}
use Rattle.trace_text.specs.declared.reason.TraceReason.TheVariants.{Syntax, WrongCount, NoEnd, MoreText}
use Rattle.trace_text.specs.Texts.{trace}
use Rattle.trace_text.specs.Working.{number_in}
use Rattle.trace_text.specs.Reading.{reading}

-- a trace in which an import waits until its unit is compiled
abbrev waiting_text : List ℕ
waiting_text =
    codes "modmap-trace 1 2 40" ++ newline
    ∷ (codes "0 open" ++ newline
    ∷ (codes "0 hello 1 0" ++ newline
    ∷ (codes "0 import 1" ++ newline
    ∷ (codes "0 pause" ++ newline
    ∷ (codes "1 open" ++ newline
    ∷ (codes "1 hello 1 1" ++ newline
    ∷ (codes "1 export 1" ++ newline
    ∷ (codes "1 compiled 1" ++ newline
    ∷ (codes "end 8" ++ newline ∷ [])))))))))

abbrev waiting_entries : List Entry
waiting_entries =
    record { conn = 0; act = Open }
    ∷ record { conn = 0; act = Hello 1 (Some 0) }
    ∷ record { conn = 0; act = Import (Some 1) false }
    ∷ record { conn = 0; act = Pause }
    ∷ record { conn = 1; act = Open }
    ∷ record { conn = 1; act = Hello 1 (Some 1) }
    ∷ record { conn = 1; act = Export (Some 1) }
    ∷ record { conn = 1; act = Compiled (Some 1) false }
    ∷ []

waiting_written : trace 2 40 waiting_entries ≡ waiting_text
unfolding fmt.digits
waiting_written = refl

waiting_read : reading waiting_text ≡ Ok (record { workers = 2; limit = 40; entries = waiting_entries })
unfolding reading number_in numbers.number_of fmt.digits
waiting_read = refl

-- a last line that stands for more lines than there are
miscounted : reading (codes "modmap-trace 1 1 9" ++ newline ∷ (codes "0 open" ++ newline ∷ (codes "0 left" ++ newline ∷ (codes "0 repo" ++ newline ∷ codes "end 4")))) ≡ Err (record { line = 5; reason = WrongCount })
unfolding reading number_in numbers.number_of fmt.digits
miscounted = refl

-- a number with a leading zero
leading_zero : reading (codes "modmap-trace 1 1 9" ++ newline ∷ (codes "00 open" ++ newline ∷ codes "end 1")) ≡ Err (record { line = 2; reason = Syntax })
unfolding reading number_in numbers.number_of fmt.digits
leading_zero = refl

-- a text that ends before its last line, and one that goes on behind it
unended : reading (codes "modmap-trace 1 1 9" ++ newline ∷ (codes "0 open" ++ newline ∷ [])) ≡ Err (record { line = 3; reason = NoEnd })
unfolding reading number_in numbers.number_of fmt.digits
unended = refl

going_on : reading (codes "modmap-trace 1 1 9" ++ newline ∷ (codes "end 0" ++ newline ∷ (newline ∷ []))) ≡ Err (record { line = 3; reason = MoreText })
unfolding reading number_in numbers.number_of fmt.digits
going_on = refl
