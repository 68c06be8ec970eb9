use Rattle.std.proofs.Common.{ap, subst, ◌∙◌}
use Rattle.std.specs.Prelude.{Result, Ok, Err}
use Rattle.cody_words.specs.declared.reader.Line.{Line}
use Rattle.cody_words.specs.declared.reader.LexError.{LexError}
use Rattle.cody_words.specs.Lines as said
use Rattle.cody_words.specs.Reading.{Answers}
use Rattle.unit_registry.proofs.Said.{with_line-said, takes_said}
use Rattle.unit_registry.proofs.draft.Draft.with_line.Goals as goal

pub returns-in-Ok-Blank : goal.returns-in-Ok-Blank
returns-in-Ok-Blank c = takes_said c.args.self c.args.line.now said.Blank c.in-Ok-Blank.more c.with_blank.result
    (subst (λ (r : Result Line LexError). Answers c.args.line.now r) (c.in-Ok-Blank.is ∙ ap Ok c.in-Ok-Blank.field-0-is) c.lex_line.ensures)
    c.with_blank.ensures

pub returns-in-Ok-Words : goal.returns-in-Ok-Words
returns-in-Ok-Words c = takes_said c.args.self c.args.line.now (said.Words c.in-Ok-Words.words) c.in-Ok-Words.more c.with_words.result
    (subst (λ (r : Result Line LexError). Answers c.args.line.now r) (c.in-Ok-Words.is ∙ ap Ok c.in-Ok-Words.field-0-is) c.lex_line.ensures)
    c.with_words.ensures

pub returns-in-Err-Malformed : goal.returns-in-Err-Malformed
returns-in-Err-Malformed c =
    let f = c.in-Err-Malformed in
    with_line-said c.args.self c.args.line.now (said.Malformed f.field-0-0 f.field-0-1) f.field-0-2
    (subst (λ (r : Result Line LexError). Answers c.args.line.now r) (f.is ∙ ap Err f.field-0-is) c.lex_line.ensures)
