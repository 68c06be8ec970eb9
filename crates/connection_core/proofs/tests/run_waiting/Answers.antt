use Rattle.connection_core.proofs.tests.run_waiting.Goals as goal

pub desk_waits-requires : goal.desk_waits-requires
desk_waits-requires c = c.in_ok-book.ensures
