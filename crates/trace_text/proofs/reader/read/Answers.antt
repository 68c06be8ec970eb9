use Rattle.trace_text.proofs.Outcomes.{answer_trace, answer_fault}
use Rattle.trace_text.proofs.reader.read.Goals as goal

pub returns-clause-trace : goal.returns-clause-trace
returns-clause-trace c = answer_trace c.args.octets.now c.read_text.result c.read_text.ensures

pub returns-clause-fault : goal.returns-clause-fault
returns-clause-fault c = answer_fault c.args.octets.now c.read_text.result c.read_text.ensures
