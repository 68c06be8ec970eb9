-- The texts of traces, and where any other text is first at fault.
use Rattle.std.specs.Prelude.{◌≡◌, ◌≢◌, ◌⊎◌, ℕ, ◌+◌, List, [], ◌∷◌, ◌++◌, length, All}
use Rattle.unit_registry.specs.Lines.{lines_of}
use Rattle.histories.specs.declared.entry.Entry.{Entry}
use Rattle.trace_text.specs.declared.reason.TraceReason.{TraceReason}
use Rattle.trace_text.specs.declared.reason.TraceReason.TheVariants.{Syntax, WrongCount, NoEnd, MoreText}
use Rattle.trace_text.specs.declared.reason.TraceError.{TraceError}
use Rattle.trace_text.specs.declared.reason.TraceError.TheVariants.{Text, Memory}
use Rattle.mapper_requests.specs.Numbers.{IsNumber}
use Rattle.histories.specs.Entries.{IsTraceEntry}
use Rattle.trace_text.specs.Texts.{entry_line, head_line, end_line, ended, first_lines, trace, IsHead}

-- The text is that of a trace, with or without its last NEWLINE.
pub record IsTraceText (text : List ℕ) (workers limit : ℕ) (entries : List Entry) : Type 0 where
  pub head : IsHead workers limit
  pub each : All IsTraceEntry entries
  pub few : IsNumber (length entries)
  pub whole : (text ≡ trace workers limit entries) ⊎ (ended text ≡ trace workers limit entries)

-- The lines are those of a trace with these entries, before its last.
pub record Begins (lines : List (List ℕ)) (entries : List Entry) : Type 0 where
  pub workers : ℕ
  pub limit : ℕ
  pub head : IsHead workers limit
  pub each : All IsTraceEntry entries
  pub same : lines ≡ first_lines workers limit entries

-- the line isn't the first one of any trace
abbrev pub IsNoHeadLine : List ℕ → Type 0
IsNoHeadLine line = (workers limit : ℕ) → IsHead workers limit → line ≢ head_line workers limit

-- the line isn't that of any entry
abbrev pub IsNoEntryLine : List ℕ → Type 0
IsNoEntryLine line = (entry : Entry) → IsTraceEntry entry → line ≢ entry_line entry

-- the line isn't the last one of any trace
abbrev pub IsNoEndLine : List ℕ → Type 0
IsNoEndLine line = (count : ℕ) → IsNumber count → line ≢ end_line count

-- The line is neither that of an entry nor the last.
pub record IsNoBodyLine (line : List ℕ) : Type 0 where
  pub no_entry : IsNoEntryLine line
  pub no_end : IsNoEndLine line

-- The line is a last one, with a number other than that of the entries.
pub record IsWrongEnd (entries : List Entry) (line : List ℕ) : Type 0 where
  pub count : ℕ
  pub number : IsNumber count
  pub differs : count ≢ length entries
  pub same : line ≡ end_line count

-- The lines are those of a whole trace.
pub record IsWhole (lines : List (List ℕ)) : Type 0 where
  pub entries : List Entry
  pub first : List (List ℕ)
  pub begins : Begins first entries
  pub few : IsNumber (length entries)
  pub same : lines ≡ first ++ end_line (length entries) ∷ []

-- why a line is at fault behind lines that aren't
abbrev pub IsFaultyBehind : TraceReason → List (List ℕ) → List ℕ → Type 0
IsFaultyBehind Syntax before line =
    ((before ≡ []) × IsNoHeadLine line)
    ⊎ ((entries : List Entry) × Begins before entries × IsNoBodyLine line)
IsFaultyBehind WrongCount before line = (entries : List Entry) × Begins before entries × IsWrongEnd entries line
IsFaultyBehind MoreText before line = IsWhole before
IsFaultyBehind NoEnd before line = ⊥

-- A line is the first at fault, for this reason. Lines are counted from 1.
pub record IsFaultyLine (text : List ℕ) (number : ℕ) (reason : TraceReason) : Type 0 where
  pub before : List (List ℕ)
  pub line : List ℕ
  pub behind : List (List ℕ)
  pub whole : lines_of text ≡ before ++ line ∷ behind
  pub fault : IsFaultyBehind reason before line
  pub number_is : number ≡ length before + 1

-- No line is at fault, and the last line is missing. The fault is behind the lines.
pub record LacksEnd (text : List ℕ) (number : ℕ) (reason : TraceReason) : Type 0 where
  pub good : (lines_of text ≡ []) ⊎ ((entries : List Entry) × Begins (lines_of text) entries)
  pub reason_is : reason ≡ NoEnd
  pub number_is : number ≡ length (lines_of text) + 1

-- the first fault of a text
abbrev pub IsFault : List ℕ → ℕ → TraceReason → Type 0
IsFault text number reason = IsFaultyLine text number reason ⊎ LacksEnd text number reason

-- what an error tells of a text, unless memory ran out
abbrev pub TellsFault : List ℕ → TraceError → Type 0
TellsFault text (Text line reason) = IsFault text line reason
TellsFault text Memory = Unit {0}
