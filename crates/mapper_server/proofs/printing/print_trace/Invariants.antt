use Rattle.std.proofs.Common.{◌≡◌, take, Ok}
use Rattle.mm_outside.specs.declared.errors.Failed.{Failed}
use Rattle.mm_outside.specs.Sending.{AppendsAll}
use Rattle.mm_outside.specs.Told.{Told}
use Rattle.trace_text.specs.Texts.{first_text}
use Rattle.mapper_server.specs.Printing.{capacity_of}
use Rattle.mapper_server.proofs.printing.print_trace.Given as goal

abbrev pub invariant-loop-entry : goal.invariant-loop-entry
invariant-loop-entry g l = record {
  written : Told (AppendsAll {T = Unit {0}} {E = Failed} (Ok tt) (first_text l.workers l.limit (take l.entry-index l.entries))) (g.K.Sink.written l.fn.out) (g.K.Sink.written l.out);
  faults : g.K.Sink.faults l.out ≡ g.K.Sink.faults l.fn.out;
  room : capacity_of l.line ≡ capacity_of l.fn.line;
}
