use Rattle.std.proofs.Common.{refl}
use Rattle.unit_registry.specs.declared.act.Act.TheVariants.{Done}
use Rattle.registry_core.specs.Ledgers.{entry}
use Rattle.registry_core.proofs.Ready.{done_passes, trace_entry}
use Rattle.registry_core.proofs.book.Book.done.Goals as goal

pub enter-requires-clause-passes : goal.enter-requires-clause-passes
enter-requires-clause-passes g c = done_passes c.args.self.now.ledger 4294967295 c.is_legal.ensures.legal c.requires

pub enter-requires-clause-whole : goal.enter-requires-clause-whole
enter-requires-clause-whole g c =
    trace_entry c.args.self.now.ledger (entry 4294967295 Done) c.is_legal.ensures.legal (done_passes c.args.self.now.ledger 4294967295 c.is_legal.ensures.legal c.requires) (λ e. refl) refl tt
