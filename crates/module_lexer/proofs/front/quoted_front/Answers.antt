use Rattle.std.proofs.Common.{arith, refl}
use Rattle.std.proofs.Math.Numerals.{one-add}
use Rattle.std.proofs.lemmas.List.{take_rest}
use Rattle.module_lexer.proofs.Fronts.{quoted_is_front, unclosed_string, bad_octet_in_string}
use Rattle.module_lexer.proofs.front.quoted_front.Goals as goal

pub returns-then-body-rest : goal.returns-then-body-rest
returns-then-body-rest c = unclosed_string _ _ _ c.requires.quote c.requires.some (take_rest c.args.rest.now 1) c.string_len-body.ensures.run (omega arith)

pub returns-then-rest-body-eq34 : goal.returns-then-rest-body-eq34
returns-then-rest-body-eq34 c =
    quoted_is_front _ _ _ _ c.requires.quote c.requires.some (take_rest c.args.rest.now 1) c.string_len-body.ensures.run (omega arith) (rw one-add at c.if-rest-body-eq34.true) (omega arith)

pub returns-else-rest-body-eq34 : goal.returns-else-rest-body-eq34
returns-else-rest-body-eq34 c =
    bad_octet_in_string _ _ _ _ c.requires.quote c.requires.some (take_rest c.args.rest.now 1) c.string_len-body.ensures.run (omega arith) (λ e. c.if-rest-body-eq34.false (rw one-add e)) refl
