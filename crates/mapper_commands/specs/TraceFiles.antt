-- What a file of a trace is read as.
use Rattle.std.specs.Prelude.{◌≡◌, ℕ, List, All, Option, Result}
use Rattle.mm_outside.specs.Files.{Lookup}
use Rattle.trace_text.specs.declared.reason.TraceReason.{TraceReason}
use Rattle.trace_text.specs.declared.trace.Trace.{Trace}
use Rattle.trace_text.specs.Faults.{IsTraceText, IsFault}
use Rattle.histories.specs.Entries.{IsTraceEntry}
use Rattle.trace_text.specs.Texts.{IsHead}
use Rattle.trace_text.specs.Reasons.{reason_text}
use Rattle.mapper_commands.specs.Endings.{Ended}
use Rattle.mapper_commands.specs.FileReadings.{Holds, IsFileReadAs, Stay}

-- the most octets that the file of a trace may have
abbrev pub most_trace_octets : ℕ
most_trace_octets = 67108864

-- what each trace that was read has: a head, and entries of a trace
pub record HasForm (trace : Trace) : Type 0 where
  pub head : IsHead trace.workers trace.limit
  pub each : All IsTraceEntry trace.entries

-- a text is that of a trace
abbrev pub IsTextOf : List ℕ → Trace → Type 0
IsTextOf text trace = IsTraceText text trace.workers trace.limit trace.entries

-- the file holds a text within the limit that is this trace's
abbrev pub HoldsTrace : Option (List ℕ) → Trace → Type 0
HoldsTrace held trace = Holds most_trace_octets IsTextOf held trace

-- the first fault of a text is on this line, for a reason with this text
pub record HasTraceFault (text : List ℕ) (line : ℕ) (reason : List ℕ) : Type 0 where
  pub cause : TraceReason
  pub fault : IsFault text line cause
  pub reason_is : reason ≡ reason_text cause

-- what the trace's file of this name is read as: its trace, or why there is none
abbrev pub IsTraceReadAs : Type 0 → List ℕ → Result Trace Ended → Option (List ℕ) → Type 0
IsTraceReadAs failed name result held = IsFileReadAs most_trace_octets IsTextOf HasTraceFault failed name result held

-- the file of this name was read as this, and no file changed
abbrev pub FindsTrace : Type 0 → List ℕ → Result Trace Ended → Lookup → Lookup → Type 0
FindsTrace failed name result = Stay (λ content. IsTraceReadAs failed name result (content name))
