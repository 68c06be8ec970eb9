use Rattle.std.proofs.Common.{length, ap, arith}
use Rattle.registry_core.proofs.Ready.{fits_in}
use Rattle.mapper_server.proofs.serving.print_book.Goals as goal

pub print_trace-requires-clause-few : goal.print_trace-requires-clause-few
print_trace-requires-clause-few g c =
    let fits = fits_in c.args.book.now.ledger c.is_legal.ensures.legal in
    let same = ap length c.entries.ensures in
    let limit = c.requires.limit in
    omega (arith, fits, same, limit)
