use Rattle.std.proofs.Common.{◌≡◌, None, sym, ◌∙◌}
use Rattle.trace_text.specs.Tallies.{tally_fault}
use Rattle.trace_text.proofs.Tallied.{illegal_at, follows_next}
use Rattle.trace_text.proofs.legal.check_legal.Goals as goal

pub returns-in-Some-clause-illegal : goal.returns-in-Some-clause-illegal
returns-in-Some-clause-illegal c =
    illegal_at c.args.project.now c.args.trace.now c.loop-place.tally c.loop-place.place c.get-entry.result.now c.in-Some.reason c.loop-place.invariant c.get-entry.ensures (sym c.fault.ensures ∙ c.in-Some.is)

pub loop-place-preserved : goal.loop-place-preserved
loop-place-preserved c =
    let none : tally_fault c.args.project.now c.args.trace.now.workers c.args.trace.now.limit c.loop-place.place c.loop-place.tally.table.items c.loop-place.tally.counts c.get-entry.result.now ≡ None = sym c.fault.ensures ∙ c.in_default.is in
    follows_next c.args.project.now c.args.trace.now c.loop-place.tally c.in_ok-tally.tally c.loop-place.place c.get-entry.result.now c.loop-place.invariant c.get-entry.ensures none c.in_ok-tally.ensures.table c.in_ok-tally.ensures.counts
