use denote.Param.Send.{sendable}
use Rattle.std.proofs.Common.{length, ap, sym, ◌∙◌, arith}
use Rattle.registry_core.specs.Ledgers.{LedgerView}
use Rattle.mapper_server.proofs.Closing.{few_entries, has_served, is_of}
use Rattle.mapper_server.proofs.Leasts.{less_serves, printing_serves}
use Rattle.mapper_server.proofs.serving.serve_ready.Goals as goal

pub work_all-seat-requires-clause-send : goal.work_all-seat-requires-clause-send
work_all-seat-requires-clause-send g c κs within = let link = c.type_bounds.send-H-Link in (c.type_bounds.send-H, search sendable depth 20)

pub print_book-printed-requires-clause-limit : goal.print_book-printed-requires-clause-limit
print_book-printed-requires-clause-limit g c =
    sym (ap (λ (l : LedgerView). l.limit) c.close-book.ensures.book.is_ledger ∙ ap (λ (l : LedgerView). l.limit) c.requires.ready.opening_is)

pub overflow_cast-result : goal.overflow_cast-result
overflow_cast-result g c =
    let few = few_entries c.args.ready.registry.opening.ledger c.work_all-seat.result.seat.knows.seen c.close-book.ensures.knows.ledger in
    let same = ap length (c.entries.ensures ∙ c.close-book.ensures.seen) in
    omega (arith, few, same)

pub returns-clause-kind : goal.returns-clause-kind
returns-clause-kind g c =
    less_serves c.work_all-seat.result.status c.print_book-printed.result c.less_of.result c.less_of.ensures c.work_all-seat.ensures.work.kind
    (printing_serves c.print_book-printed.result (g.K.Sink.faults c.args.out.now) (g.K.Sink.faults c.print_book-printed.new.out) c.print_book-printed.ensures.status)

pub returns-clause-returned : goal.returns-clause-returned
returns-clause-returned g c = c.work_all-seat.ensures.work.returned

pub returns-clause-headline : goal.returns-clause-headline
returns-clause-headline g c =
    let opening = c.args.ready.registry.opening.ledger in
    let history = c.close-book.result.ledger in
    let stands = c.close-book.ensures.book.is_ledger in
    let links = g.H.Hall.links in
    let faults = g.H.Hall.faults in
    let octets = g.H.Link.Link.octets in
    let read_faults = g.H.Link.Link.read_faults in
    let write_faults = g.H.Link.Link.write_faults in
    let counted = ap length c.entries.ensures in (
      history,
      is_of links faults g.H.Hall.counts octets read_faults write_faults c.args.project.now c.args.workers c.args.limit (length c.entries.result.now) opening history c.requires.ready.opening_is stands counted,
      has_served links faults g.H.Hall.counts octets read_faults write_faults c.args.project.now c.args.workers c.args.limit (length c.entries.result.now) opening history c.requires.ready.opening_is stands counted
          c.args.ready.seat c.work_all-seat.result.seat c.args.halls.items c.work_all-seat.result.halls.items c.work_all-seat.result.status c.print_book-printed.result c.less_of.result
          (g.K.Sink.faults c.args.out.now) (g.K.Sink.faults c.print_book-printed.new.out) (g.K.Sink.written c.args.out.now) (g.K.Sink.written c.print_book-printed.new.out)
          c.requires.ready.knows_is c.work_all-seat.ensures.left c.close-book.ensures.seen c.close-book.ensures.places c.close-book.ensures.opened c.close-book.ensures.dones c.close-book.ensures.knows
          c.work_all-seat.ensures.work c.print_book-printed.ensures.printed c.print_book-printed.ensures.status c.less_of.ensures,
    )
