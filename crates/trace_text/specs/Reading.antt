-- Working definitions: what the lines of a text are, from the first to the last.
use Rattle.std.specs.Prelude.{◌≡◌, ℕ, ◌+◌, ◌==◌, if◌then◌else◌, List, [], ◌∷◌, ◌++◌, length, Option, Some, None, Result, Ok, Err}
use Rattle.unit_registry.specs.Lines.{lines_of}
use Rattle.histories.specs.declared.entry.Entry.{Entry}
use Rattle.trace_text.specs.declared.lines.Head.{Head}
use Rattle.trace_text.specs.declared.lines.BodyLine.{BodyLine}
use Rattle.trace_text.specs.declared.lines.BodyLine.TheVariants as body
use Rattle.trace_text.specs.declared.trace.Trace.{Trace}
use Rattle.trace_text.specs.declared.reason.TraceReason.{TraceReason}
use Rattle.trace_text.specs.declared.reason.TraceReason.TheVariants.{Syntax, WrongCount, NoEnd, MoreText}
use Rattle.trace_text.specs.declared.reason.TraceError.{TraceError}
use Rattle.trace_text.specs.declared.reason.TraceError.TheVariants.{Text, Memory}
use Rattle.trace_text.specs.Working.{words_in, body_line, head_of}

-- a line's number and its fault
pub record Fault : Type 0 where
  pub line : ℕ
  pub reason : TraceReason

-- a fault by its line and reason
abbrev pub fault_at : ℕ → TraceReason → Result Trace Fault
fault_at line reason = Err (record { line = line; reason = reason })

-- the trace, where no line follows its last
abbrev pub if_last : Trace → ℕ → List (List ℕ) → Result Trace Fault
if_last trace number [] = Ok trace
if_last trace number (line ∷ lines) = fault_at (number + 1) MoreText

-- the trace, where its last line has the number of its entries
abbrev pub at_end : Trace → ℕ → ℕ → List (List ℕ) → Result Trace Fault
at_end trace count number lines =
    if count == length trace.entries then if_last trace number lines else fault_at number WrongCount

-- a trace with one entry more
abbrev pub with_entry : Trace → Entry → Trace
with_entry trace entry = record { workers = trace.workers; limit = trace.limit; entries = trace.entries ++ entry ∷ [] }

-- a line of this number, and those behind it
abbrev pub take_line : Option BodyLine → Trace → ℕ → List (List ℕ) → (Trace → Result Trace Fault) → Result Trace Fault
take_line (Some (body.End count)) trace number lines more = at_end trace count number lines
take_line (Some (body.Item entry)) trace number lines more = more (with_entry trace entry)
take_line None trace number lines more = fault_at number Syntax

-- what the lines behind the head and the entries are, the first of them with this number
abbrev pub read_behind : Trace → ℕ → List (List ℕ) → Result Trace Fault
read_behind trace number [] = fault_at number NoEnd
read_behind trace number (line ∷ lines) =
    take_line (body_line (words_in line)) trace number lines (λ next. read_behind next (number + 1) lines)

-- a trace with no entries yet
abbrev pub begun : Head → Trace
begun head = record { workers = head.workers; limit = head.limit; entries = [] }

-- what the lines behind the first are
abbrev pub read_body : Option Head → List (List ℕ) → Result Trace Fault
read_body (Some head) lines = read_behind (begun head) 2 lines
read_body None lines = fault_at 1 Syntax

-- what the lines are
abbrev pub read_lines : List (List ℕ) → Result Trace Fault
read_lines [] = fault_at 1 NoEnd
read_lines (line ∷ lines) = read_body (head_of (words_in line)) lines

-- the one trace or fault of a text
unfoldable pub reading : List ℕ → Result Trace Fault
reading text = read_lines (lines_of text)

-- the answer is what was read, unless memory ran out
abbrev pub Answers : Result Trace Fault → Result Trace TraceError → Type 0
Answers read (Ok trace) = read ≡ Ok trace
Answers read (Err (Text line reason)) = read ≡ Err (record { line = line; reason = reason })
Answers read (Err Memory) = Unit {0}
