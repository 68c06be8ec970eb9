use Rattle.std.proofs.lemmas.List.{take_rest}
use Rattle.module_lexer.proofs.Cuts.{piece_cut, fault_cut}
use Rattle.module_lexer.proofs.lexed.Lexed.read.Goals as goal

pub loop-place-preserved : goal.loop-place-preserved
loop-place-preserved c =
    let rest_is = take_rest c.args.text.now c.loop-place.place in
    rw (c.newline_count.ensures.value, rest_is) (piece_cut _ c.loop-place.invariant (rw rest_is at c.in-Ok.ensures) c.in_ok-push_token-in-Ok.ensures.ok)

pub returns-in-Err-clause-refused : goal.returns-in-Err-clause-refused
returns-in-Err-clause-refused c =
    let rest_is = take_rest c.args.text.now c.loop-place.place in
    rw (c.newline_count-in-Err.ensures.value, rest_is) (fault_cut c.in-Err.stop.ahead c.loop-place.invariant (rw rest_is at c.in-Err.ensures))
