use Rattle.std.proofs.Common.{arith}
use Rattle.std.proofs.lemmas.Result.{err_from_is_err_and}
use Rattle.module_units.proofs.Runs.{span, room, read_more, read_stops}
use Rattle.module_units.proofs.unit.read_tokens.Goals as goal

pub read_token-requires-clause-start : goal.read_token-requires-clause-start
read_token-requires-clause-start c = (span _ _ _ _ c.requires.tokens c.token.ensures).0

pub read_token-requires-clause-end : goal.read_token-requires-clause-end
read_token-requires-clause-end c = (span _ _ _ _ c.requires.tokens c.token.ensures).1

pub read_token-requires-clause-room : goal.read_token-requires-clause-room
read_token-requires-clause-room c = room _ _ _ _ _ c.requires.small c.requires.tokens c.loop-index.invariant c.token.ensures

pub returns-in_err-reader-clause-refused : goal.returns-in_err-reader-clause-refused
returns-in_err-reader-clause-refused c =
    let p = err_from_is_err_and c.from_residual.result c.from_residual.ensures.1 in
    rw (p.1, p.2) (read_stops c.args.text.now c.args.lexed.now c.loop-index.index c.loop-index.reader c.token.result _ c.requires.tokens c.token.ensures c.loop-index.invariant c.in_err-reader.ensures)

pub loop-index-preserved : goal.loop-index-preserved
loop-index-preserved c = read_more c.args.text.now c.args.lexed.now c.loop-index.index _ c.loop-index.reader c.in_ok-reader.reader c.token.result (omega arith) c.token.ensures c.loop-index.invariant c.in_ok-reader.ensures
