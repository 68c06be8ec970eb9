use Rattle.std.proofs.Common.{◌≡◌}
use Rattle.registry_core.proofs.tests.replays.Given as goal

abbrev pub invariant-loop-place : goal.invariant-loop-place
invariant-loop-place l = record {
  project : l.book.ledger.project ≡ l.project;
  workers : l.book.ledger.workers ≡ l.workers;
}
