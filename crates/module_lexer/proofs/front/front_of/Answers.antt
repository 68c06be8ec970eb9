use Rattle.std.proofs.Common.{sym}
use Rattle.module_lexer.proofs.Fronts.{space_is_front, mark_is_front}
use Rattle.module_lexer.proofs.front.front_of.Goals as goal

pub returns-then-is_white : goal.returns-then-is_white
returns-then-is_white c = space_is_front _ c.requires (sym (c.if-is_white.ensures))

pub returns-then-is_punctuator : goal.returns-then-is_punctuator
returns-then-is_punctuator c = mark_is_front _ c.requires (sym (c.if-is_punctuator.ensures))
