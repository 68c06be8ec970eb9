use Rattle.std.proofs.Common.{sym, subst}
use Rattle.unit_registry.specs.declared.act.Act.{Act}
use Rattle.histories.specs.Entries.{IsTraceEntry}
use Rattle.registry_core.specs.Ledgers.{Passes, entry}
use Rattle.registry_core.proofs.Ready.{leave_passes, leaving_entry}
use Rattle.registry_core.proofs.book.Book.leave.Goals as goal

pub enter-requires-clause-passes : goal.enter-requires-clause-passes
enter-requires-clause-passes g c = subst (λ (a : Act). Passes c.args.self.now.ledger (entry c.args.conn a)) (sym c.going_act-act.ensures) (leave_passes c.args.self.now.ledger c.args.conn c.args.how c.is_legal.ensures.legal c.requires)

pub enter-requires-clause-whole : goal.enter-requires-clause-whole
enter-requires-clause-whole g c = subst (λ (a : Act). IsTraceEntry (entry c.args.conn a)) (sym c.going_act-act.ensures) (leaving_entry c.args.self.now.ledger c.args.conn c.args.how c.is_legal.ensures.legal (leave_passes c.args.self.now.ledger c.args.conn c.args.how c.is_legal.ensures.legal c.requires))
