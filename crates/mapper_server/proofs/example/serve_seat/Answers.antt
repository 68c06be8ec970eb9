use Rattle.std.proofs.Common.{sym, ap}
use Rattle.mm_outside.proofs.ToldLemmas.{Told-map}
use Rattle.mapper_server.proofs.Joined.{seat_serves}
use Rattle.mapper_server.proofs.example.serve_seat.Goals as goal

pub returns-clause-served : goal.returns-clause-served
returns-clause-served g c =
    let is = c.in_ok-served.ensures in
    let adds = c.done.ensures.done in
    let made = c.new-desk.ensures.desk in
    Told-map (λ a b served. seat_serves c.args.registry.now.opening.ledger c.into_seat.result.knows.seen _ _ _ c.in_ok-served.served.conn adds.0 c.in_ok-served.served.how a b
    (ap (λ d. d.opening.ledger.project) made) (ap (λ d. d.opening.ledger.workers) made) (ap (λ d. d.opening.ledger.limit) made) (sym (ap (λ s. s.knows.seen) c.into_seat.ensures))
    is.others is.own is.numbered is.sound c.done.ensures.sound adds.1 served) is.served
