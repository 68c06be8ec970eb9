use Rattle.std.proofs.Common.{ap, subst, ◌∙◌}
use Rattle.std.specs.Prelude.{Result, Ok, Err}
use Rattle.cody_words.specs.declared.reader.Line.{Line}
use Rattle.cody_words.specs.declared.reader.LexError.{LexError}
use Rattle.cody_words.specs.Reading.{Answers}
use Rattle.export_lists.proofs.CmiWords.{canonical_read, blank_line, malformed_line}
use Rattle.export_lists.proofs.draft.canonical_words.Goals as goal

pub returns-in-Ok-Words : goal.returns-in-Ok-Words
returns-in-Ok-Words c = canonical_read c.args.line.now c.in-Ok-Words.words c.in-Ok-Words.field-0-1 c.only_canonical.result
    (subst (λ (r : Result Line LexError). Answers c.args.line.now r) (c.in-Ok-Words.is ∙ ap Ok c.in-Ok-Words.field-0-is) c.lex_line.ensures)
    c.only_canonical.ensures

pub returns-in-Ok-Blank : goal.returns-in-Ok-Blank
returns-in-Ok-Blank c = blank_line c.args.line.now _
    (subst (λ (r : Result Line LexError). Answers c.args.line.now r) (c.in-Ok-Blank.is ∙ ap Ok c.in-Ok-Blank.field-0-is) c.lex_line.ensures)

pub returns-in-Err-Malformed : goal.returns-in-Err-Malformed
returns-in-Err-Malformed c =
    let f = c.in-Err-Malformed in
    malformed_line c.args.line.now f.field-0-0 f.field-0-1 f.field-0-2
    (subst (λ (r : Result Line LexError). Answers c.args.line.now r) (f.is ∙ ap Err f.field-0-is) c.lex_line.ensures)
