use Rattle.ruled_history.proofs.Worked.{closed_seven, closed_book}
use Rattle.ruled_history.proofs.two_seats.two_seats.Goals as goal

pub returns-clause-book : goal.returns-clause-book
returns-clause-book g c =
    let seat = c.in_ok-both.both.seat in
    let entries = closed_seven c.close-book.result.ledger.entries seat.knows.seen seat.knows.places c.close-book.ensures.seen c.in_ok-both.ensures.finished.made_are c.close-book.ensures.places in
    closed_book c.in_ok-registry.registry.opening.ledger c.close-book.result.ledger 40 c.in_ok-registry.ensures.opening_is c.close-book.ensures.book.is_ledger entries
