use Rattle.std.proofs.Common.{refl}
use Rattle.module_lexer.proofs.Fronts.{long_word_breaks, word_is_front}
use Rattle.module_lexer.proofs.front.word_front.Goals as goal

pub returns-then-len-gt-LONGEST_IDENTIFIER : goal.returns-then-len-gt-LONGEST_IDENTIFIER
returns-then-len-gt-LONGEST_IDENTIFIER c = long_word_breaks _ _ c.requires.some c.requires.letter c.word_len-len.ensures.run c.if-len-gt-LONGEST_IDENTIFIER.true

pub returns-then-is_reserved : goal.returns-then-is_reserved
returns-then-is_reserved c =
    word_is_front _ _ _ c.requires.some c.requires.letter c.word_len-len.ensures.run c.if-len-gt-LONGEST_IDENTIFIER.false (rw (← c.if-is_reserved.ensures) refl)

pub returns-else-is_reserved : goal.returns-else-is_reserved
returns-else-is_reserved c =
    word_is_front _ _ _ c.requires.some c.requires.letter c.word_len-len.ensures.run c.if-len-gt-LONGEST_IDENTIFIER.false (rw (← c.if-is_reserved.ensures) refl)
