use Rattle.std.proofs.Common.{◌≤◌, sym, subst}
use Rattle.mapper_commands.proofs.Played.{few_entries}
use Rattle.mapper_commands.proofs.replay.book_for.Goals as goal

pub enough_for-limit-requires-clause-count : goal.enough_for-limit-requires-clause-count
enough_for-limit-requires-clause-count c = subst (λ count. count ≤ 67108864) (sym c.len.ensures) (few_entries c.args.project.now c.args.trace.now c.requires.form c.requires.legal)
