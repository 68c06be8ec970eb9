use Rattle.std.proofs.Common.{◌<◌, length, rules}
use Rattle.trace_text.proofs.Cuts.{more_text}
use Rattle.trace_text.proofs.reader.if_last.Goals as goal

pub returns-else-is_empty : goal.returns-else-is_empty
returns-else-is_empty c =
    let some : 0 < length c.args.behind.now = search rules in
    more_text c.args.trace c.args.number c.args.behind.now c.fault.result some c.fault.ensures
