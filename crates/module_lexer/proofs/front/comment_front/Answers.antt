use Rattle.std.proofs.Common.{arith}
use Rattle.std.proofs.lemmas.List.{take_rest}
use Rattle.module_lexer.proofs.Fronts.{line_comment_is_front, slash_breaks}
use Rattle.module_lexer.proofs.front.comment_front.Goals as goal

pub returns-then-rest-eq1 : goal.returns-then-rest-eq1
returns-then-rest-eq1 c = slash_breaks _ c.requires.slash c.requires.some (λ more. absurd (omega arith))

pub returns-then-rest-eq47 : goal.returns-then-rest-eq47
returns-then-rest-eq47 c =
    line_comment_is_front _ _ _ _ c.requires.slash c.if-rest-eq47.true (omega arith) (take_rest c.args.rest.now 2) c.line_len-body.ensures.run (omega arith)

pub returns-else-rest-eq42 : goal.returns-else-rest-eq42
returns-else-rest-eq42 c = slash_breaks _ c.requires.slash c.requires.some (λ more. (c.if-rest-eq47.false, c.if-rest-eq42.false))
