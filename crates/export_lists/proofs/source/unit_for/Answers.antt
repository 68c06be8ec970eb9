use Rattle.std.proofs.Common.{sym, ◌∙◌, subst}
use Rattle.module_units.specs.FaultRuns.{first_fault}
use Rattle.export_lists.specs.Sources.{project_faults, RefusesFor}
use Rattle.export_lists.proofs.OneSource.{refused}
use Rattle.export_lists.proofs.source.unit_for.Goals as goal

pub returns-in-Some-clause-refused : goal.returns-in-Some-clause-refused
returns-in-Some-clause-refused c =
    subst (RefusesFor c.args.project.now c.args.unit c.args.text.now) (sym c.source_error.ensures)
    (refused c.args.project.now c.args.unit c.args.text.now c.in_ok-found.found c.in-Some.fault c.in_ok-found.ensures.unit
    (sym c.in-Some.is ∙ c.in_ok-fault.ensures ∙ (λ k. first_fault (project_faults (c.kind.ensures k) (c.name.ensures k) c.in_ok-found.found))))
