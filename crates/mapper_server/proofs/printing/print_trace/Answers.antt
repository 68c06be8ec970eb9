use Rattle.std.proofs.Common.{ℕ, Err, subst, ◌∙◌}
use Rattle.mm_outside.specs.Causes.{HasCause}
use Rattle.mapper_server.proofs.Printed.{head_stops, last_line, line_next, line_stops, told_prints}
use Rattle.mapper_server.proofs.printing.print_trace.Goals as goal

pub returns-in-Err-clause-written : goal.returns-in-Err-clause-written
returns-in-Err-clause-written g c =
    told_prints _ _ _ _ _ _ _ _ c.in-Err.ensures.cause (head_stops c.args.workers c.args.limit c.args.entries.now _ _ c.in-Err.field-0 c.in-Err.ensures.written)

pub returns-in-Err-print_entry-clause-written : goal.returns-in-Err-print_entry-clause-written
returns-in-Err-print_entry-clause-written g c =
    told_prints _ _ _ _ _ _ _ _ (subst (λ (n : ℕ). HasCause {T = Unit {0}} n (g.K.Sink.faults c.print_entry.new.out) (Err c.in-Err-print_entry.field-0)) c.loop-entry.invariant.faults c.in-Err-print_entry.ensures.cause)
    (line_stops c.args.workers c.args.limit c.args.entries.now c.loop-entry.entry-index _ c.loop-entry-test.true _ _ _ tt c.loop-entry.invariant.written c.in-Err-print_entry.field-0 c.in-Err-print_entry.ensures.written)

pub loop-entry-preserved : goal.loop-entry-preserved
loop-entry-preserved g c = record {
  written = line_next c.args.workers c.args.limit c.args.entries.now c.loop-entry.entry-index _ c.loop-entry-test.true _ _ _ tt c.loop-entry.invariant.written c.in-Ok-print_entry.field-0 c.in-Ok-print_entry.ensures.written;
  faults = c.in-Ok-print_entry.ensures.cause.kept ∙ c.loop-entry.invariant.faults;
  room = c.print_entry.ensures.room ∙ c.loop-entry.invariant.room;
}

pub returns-clause-written : goal.returns-clause-written
returns-clause-written g c =
    told_prints _ _ _ _ _ _ _ _ (subst (λ (n : ℕ). HasCause n (g.K.Sink.faults c.print_end.new.out) c.print_end.result) c.loop-entry.invariant.faults c.print_end.ensures.cause)
    (last_line c.args.workers c.args.limit c.args.entries.now _ _ _ c.loop-entry.entry-index c.print_end.result tt c.loop-entry-test.false c.loop-entry.invariant.written c.print_end.ensures.written)
