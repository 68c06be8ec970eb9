-- What a reader of one line answers.
use Rattle.std.specs.Prelude.{◌≡◌, Result, Ok, Err}
use Rattle.unit_registry.specs.declared.draft.Draft.{Draft}
use Rattle.unit_registry.specs.declared.draft.LineError.{LineError}
use Rattle.unit_registry.specs.declared.draft.LineError.TheVariants as error
use Rattle.unit_registry.specs.declared.reason.ProjectReason.{ProjectReason}

-- the answer is the draft behind the line or its fault, unless memory ran out
abbrev pub Takes : Result Draft ProjectReason → Result Draft LineError → Type 0
Takes taken (Ok draft) = taken ≡ Ok draft
Takes taken (Err (error.Fault reason)) = taken ≡ Err reason
Takes taken (Err error.Memory) = Unit {0}
