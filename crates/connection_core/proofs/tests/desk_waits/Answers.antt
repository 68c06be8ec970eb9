use Rattle.std.proofs.Common.{refl, sym, ap, ◌∙◌}
use Rattle.registry_core.specs.Ledgers.{open_in, done_in}
use Rattle.connection_core.proofs.tests.desk_waits.Goals as goal

pub links_wait-requires : goal.links_wait-requires
links_wait-requires g c =
    let ledger = ap (λ b. b.ledger) c.new-desk.ensures.book ∙ c.requires in
    record {
      opened = ap open_in ledger;
      dones = ap done_in ledger;
      share = ap (λ l. l.workers) ledger;
      room = refl;
      project = sym (ap (λ l. l.project) ledger);
    }
