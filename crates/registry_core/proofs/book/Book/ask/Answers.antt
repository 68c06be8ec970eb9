use Rattle.std.proofs.Common.{rules}
use Rattle.registry_core.specs.Ledgers.{entry}
use Rattle.registry_core.proofs.Ready.{ask_passes, asks_no_end, trace_entry}
use Rattle.registry_core.proofs.book.Book.ask.Goals as goal

pub enter-requires-clause-passes : goal.enter-requires-clause-passes
enter-requires-clause-passes g c = ask_passes c.args.self.now.ledger c.args.conn c.args.act c.is_legal.ensures.legal c.requires.act c.requires.there c.requires.unit (search rules)

pub enter-requires-clause-whole : goal.enter-requires-clause-whole
enter-requires-clause-whole g c =
    trace_entry c.args.self.now.ledger (entry c.args.conn c.args.act) c.is_legal.ensures.legal (ask_passes c.args.self.now.ledger c.args.conn c.args.act c.is_legal.ensures.legal c.requires.act c.requires.there c.requires.unit (search rules)) (asks_no_end c.args.act c.args.conn c.requires.act) c.requires.whole c.is_of_numbers.ensures
