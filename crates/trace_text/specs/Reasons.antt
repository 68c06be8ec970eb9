-- The texts of the reasons for which a trace is refused.
use Rattle.std.specs.Prelude.{ℕ, List, codes}
use Rattle.trace_text.specs.declared.reason.TraceReason.{TraceReason}
use Rattle.trace_text.specs.declared.reason.TraceReason.TheVariants.{Syntax, WrongCount, NoEnd, MoreText}

-- the text of a reason
abbrev pub reason_text : TraceReason → List ℕ
reason_text Syntax = codes "syntax"
reason_text WrongCount = codes "wrong count"
reason_text NoEnd = codes "no end"
reason_text MoreText = codes "more text"
