-- A reader that takes a terminal.
use Rattle.std.proofs.Common.{◌≡◌, List, ◌++◌, Option, Some, None, sym, ap, ◌∙◌, refl, subst}
use Rattle.module_units.specs.Terminals.{Terminal}
use Rattle.module_units.specs.Machine.{step}
use Rattle.module_units.specs.Rules.{Fault}
use Rattle.module_units.specs.FaultRuns.{behind, fault_step, or_first, names_ended}
use Rattle.module_units.specs.Readers.{IsReader, Takes}
use Rattle.module_units.specs.declared.reader.Reader.{Reader}
use Rattle.module_units.proofs.StepNames.{Adds, step_adds}

-- no fault so far where there is none afterwards
or_none : (before : Option Fault) (faults : List Fault) → or_first before faults ≡ None → before ≡ None
or_none None faults none = refl
or_none (Some f) faults none = none

pub taken : (r : Reader) (t : Terminal) (q : Reader) → IsReader r → step r.parser.unit r.parser.place t ≡ Some q.parser → q.behind ≡ behind r.behind r.parser.place t
    → q.fault ≡ or_first r.fault (fault_step q.behind r.parser.unit r.parser.place t) → (q.fault ≡ None → q.names ≡ r.names ++ names_ended r.parser.place t) → Takes r t q × IsReader q
taken r t q is stepped behind_is fault_is names_are =
    let adds : Adds r.parser.unit (names_ended r.parser.place t) (Some q.parser) = subst (Adds r.parser.unit (names_ended r.parser.place t)) stepped (step_adds r.parser.unit r.parser.place t is.head) in (
      record { stepped = stepped; behind_is = behind_is; fault_is = fault_is },
      record {
        names = λ none. names_are none ∙ ap (λ names. names ++ names_ended r.parser.place t) (is.names (or_none r.fault (fault_step q.behind r.parser.unit r.parser.place t) (sym fault_is ∙ none))) ∙ sym adds.0;
        head = adds.1;
      },
    )
