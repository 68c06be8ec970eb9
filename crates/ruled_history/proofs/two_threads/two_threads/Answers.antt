use Rattle.ruled_history.proofs.Rounds.{closed_rounds}
use Rattle.ruled_history.proofs.two_threads.two_threads.Goals as goal

pub returns : goal.returns
returns g c =
    closed_rounds _ c.in_ok-seat.seat c.close-book.result.ledger.entries c.args.count c.in_ok-seat.one.conn c.in_ok-seat.one.places.items c.in_ok-seat.two.conn c.in_ok-seat.two.places.items c.in_ok-seat.ensures c.close-book.ensures.seen c.close-book.ensures.places
