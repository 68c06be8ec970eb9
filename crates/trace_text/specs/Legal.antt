-- What a check of a trace tells.
use Rattle.unit_registry.specs.Projects.{ProjectView}
use Rattle.histories.specs.Histories.{IsFirstFault}
use Rattle.trace_text.specs.declared.trace.Trace.{Trace}
use Rattle.trace_text.specs.declared.legal.CheckError.{CheckError}
use Rattle.trace_text.specs.declared.legal.CheckError.TheVariants.{Illegal, Memory}

-- the history is legal up to the place, and the entry there fails a check for the reason, unless memory ran out
abbrev pub TellsIllegal : ProjectView → Trace → CheckError → Type 0
TellsIllegal project trace (Illegal place reason) =
    IsFirstFault project trace.workers trace.limit trace.entries place reason
TellsIllegal project trace Memory = Unit {0}
