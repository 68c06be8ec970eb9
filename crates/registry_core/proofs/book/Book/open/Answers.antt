use Rattle.std.proofs.Common.{◌∙◌, ap, refl, sym, true≢false, rules}
use Rattle.unit_registry.specs.declared.act.Act.TheVariants.{Open}
use Rattle.registry_core.specs.Ledgers.{entry, opened_in}
use Rattle.registry_core.specs.Books.{BookView}
use Rattle.registry_core.proofs.Ready.{open_passes, trace_entry}
use Rattle.registry_core.proofs.book.Book.open.Goals as goal

pub enter-requires-clause-passes : goal.enter-requires-clause-passes
enter-requires-clause-passes g c = open_passes c.args.self.now.ledger c.next_conn-conn.result c.is_legal.ensures.legal (c.next_conn-conn.ensures ∙ ap (λ (b : BookView _). opened_in b.ledger) c.self.view_is) c.requires (search rules)

pub enter-requires-clause-whole : goal.enter-requires-clause-whole
enter-requires-clause-whole g c =
    trace_entry c.args.self.now.ledger (entry c.next_conn-conn.result Open) c.is_legal.ensures.legal (open_passes c.args.self.now.ledger c.next_conn-conn.result c.is_legal.ensures.legal (c.next_conn-conn.ensures ∙ ap (λ (b : BookView _). opened_in b.ledger) c.self.view_is) c.requires (search rules)) (λ e. absurd (true≢false (sym e))) refl tt
