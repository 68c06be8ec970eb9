use Rattle.std.proofs.Common.{◌∙◌, List, ap}
use Rattle.registry_tables.specs.declared.imports.Waiting.{Waiting}
use Rattle.registry_tables.specs.Stalled.{is_waiting_in}
use Rattle.registry_tables.proofs.Scanning.{within_turned, waits_alike}
use Rattle.registry_tables.proofs.stalls.is_waiting.Goals as goal

pub is_among-requires : goal.is_among-requires
is_among-requires c = within_turned c.args.tables.now c.waiting.result.now c.args.imports.now.waiting c.waiting.ensures c.requires.within

pub returns-then-ends : goal.returns-then-ends
returns-then-ends c = c.is_among.ensures ∙ ap (λ (ws : List Waiting). is_waiting_in c.args.tables.now ws c.args.conn) c.waiting.ensures

pub returns : goal.returns
returns c = c.waits.ensures ∙ waits_alike c.args.tables.now c.args.conn c.args.imports.now.waiting (c.requires.idle c.if-ends.false)
