use Rattle.std.proofs.Common.{ap, sym, ◌∙◌, length}
use Rattle.export_lists.specs.Outcomes.{gathered}
use Rattle.export_lists.specs.Slots.{has_of, seen}
use Rattle.export_lists.proofs.Gathering.{lent_count}
use Rattle.export_lists.proofs.rounds.unit_outcome.Goals as goal

pub outcome_over-requires : goal.outcome_over-requires
outcome_over-requires c =
    ap length c.deref.ensures.value
    ∙ lent_count c.args.project.now (has_of c.args.slots.now) c.args.unit.now.imports c.in-All.cmis.items
    (ap (λ imports. gathered c.args.project.now (has_of c.args.slots.now) imports) (sym c.as_slice.ensures) ∙ c.in_ok-cmis.ensures ∙ ap seen c.in-All.is)
