use Rattle.std.proofs.Common.{List, ℕ, sym, subst}
use Rattle.cody_words.specs.Lines.{Words, Says}
use Rattle.cody_words.proofs.Verdicts.{reading_says}
use Rattle.cody_words.proofs.reader.lex_line.Goals as goal

pub returns-in-Blank : goal.returns-in-Blank
returns-in-Blank c = reading_says c.args.raw.now c.split_mark-more.result.0.now c.in-Blank.more c.split_mark-more.result.1 c.in_ok-scanner.scanner _ c.split_mark-more.ensures c.if-raw-gt-LONGEST_LINE.false c.in_ok-scanner.ensures c.in-Blank.ensures.meaning c.in-Blank.ensures.mark

pub returns-in-Words : goal.returns-in-Words
returns-in-Words c = subst (λ (w : List (List ℕ)). Says c.args.raw.now (Words w) c.in-Words.more) (sym c.into_words.ensures) (reading_says c.args.raw.now c.split_mark-more.result.0.now c.in-Words.more c.split_mark-more.result.1 c.in_ok-scanner.scanner _ c.split_mark-more.ensures c.if-raw-gt-LONGEST_LINE.false c.in_ok-scanner.ensures c.in-Words.ensures.meaning c.in-Words.ensures.mark)

pub returns-in-Malformed : goal.returns-in-Malformed
returns-in-Malformed c = reading_says c.args.raw.now c.split_mark-more.result.0.now c.in-Malformed.more c.split_mark-more.result.1 c.in_ok-scanner.scanner _ c.split_mark-more.ensures c.if-raw-gt-LONGEST_LINE.false c.in_ok-scanner.ensures c.in-Malformed.ensures.meaning c.in-Malformed.ensures.mark
