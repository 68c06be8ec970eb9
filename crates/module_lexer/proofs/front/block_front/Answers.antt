use Rattle.std.proofs.Common.{refl}
use Rattle.std.proofs.lemmas.List.{take_rest}
use Rattle.module_lexer.proofs.Fronts.{block_comment_is_front}
use Rattle.module_lexer.proofs.front.block_front.Goals as goal

pub returns-in-Some : goal.returns-in-Some
returns-in-Some c =
    let found = c.in-Some.ensures in
    block_comment_is_front _ _ _ _ c.requires.slash c.requires.star c.requires.some (take_rest c.args.rest.now 2) found.within found.first found.star found.slash refl
