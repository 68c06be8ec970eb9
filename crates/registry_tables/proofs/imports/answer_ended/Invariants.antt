use Rattle.std.proofs.Common.{◌≡◌, ℕ, Option, drop, reverse, length, vec_capacity}
use Rattle.histories.specs.declared.answer.Answer.{Answer}
use Rattle.registry_tables.specs.Imported.{Settles}
use Rattle.registry_tables.proofs.Settling.{Ahead}
use Rattle.registry_tables.proofs.imports.answer_ended.Given as goal

abbrev pub invariant-loop-waiter : goal.invariant-loop-waiter
invariant-loop-waiter l = record {
  ahead : (reply : ℕ → Option Answer) → Settles l.tables (reverse l.waiting) l.initial.replies.items reply → Ahead l.tables (drop l.waiter-index l.waiting) l.replies.items reply;
  len : length l.replies.items ≡ length l.initial.replies.items;
  capacity : vec_capacity l.replies ≡ vec_capacity l.initial.replies;
}
