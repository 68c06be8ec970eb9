use Rattle.std.proofs.Common.{subst}
use Rattle.std.specs.Prelude.{Option}
use Rattle.export_lists.specs.Drafts.{HasWords}
use Rattle.export_lists.specs.Words.{Row}
use Rattle.export_lists.proofs.CmiWords.{line_taken}
use Rattle.export_lists.proofs.draft.Draft.with_line.Goals as goal

pub returns-in-Some : goal.returns-in-Some
returns-in-Some c =
    line_taken c.args.self c.args.line.now c.in-Some.words c.with_words.result
    (subst (λ (found : Option Row). HasWords found c.args.line.now) c.in-Some.is c.in_ok-words.ensures)
    c.with_words.ensures
