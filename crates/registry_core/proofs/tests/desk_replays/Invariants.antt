use Rattle.std.proofs.Common.{◌≡◌, Contains}
use Rattle.std.specs.Prelude.{IsTrue}
use Rattle.std.specs.List.{range_with_len}
use Rattle.registry_core.specs.Ledgers.{opened_in, is_open_in}
use Rattle.registry_core.proofs.tests.desk_replays.Given as goal

abbrev pub invariant-loop-asked : goal.invariant-loop-asked
invariant-loop-asked l = record {
  project : l.desk.book.ledger.project ≡ l.project;
  own : Contains (range_with_len 0 (opened_in l.desk.book.ledger)) l.conn;
  there : IsTrue (is_open_in l.desk.book.ledger l.conn);
}
