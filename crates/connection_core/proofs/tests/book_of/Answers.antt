use Rattle.std.proofs.Common.{sym, ap, ◌∙◌, true≢false}
use Rattle.std.specs.Option.{is_some}
use Rattle.connection_core.proofs.tests.book_of.Goals as goal

pub new-requires-2-clause-built : goal.new-requires-2-clause-built
new-requires-2-clause-built c = λ unit h. absurd (true≢false (sym h ∙ ap (λ o. is_some o) (c.new.ensures unit)))
