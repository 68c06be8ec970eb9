use Rattle.std.proofs.Common.{rules, ap, ◌∙◌}
use Rattle.registry_core.specs.Ledgers.{entry}
use Rattle.ruled_history.proofs.Turns.{records_at}
use Rattle.ruled_history.proofs.turn.record_told.Goals as goal

pub fetch_add-requires : goal.fetch_add-requires
fetch_add-requires g c =
    (search rules, search rules, records_at _ _ _ (λ b. b.ledger.entries) _ _ _ (entry c.args.conn c.args.act) g.J.Telling.tells c.requires.telling (λ b es stands. ap (λ l. l.entries) stands.is_ledger) c.requires.entering c.requires.share)

pub returns-clause-added : goal.returns-clause-added
returns-clause-added g c = let entering = c.requires.entering in (c.fetch_add.ensures.2 entering.book (entry c.args.conn c.args.act) entering.hand (ap (λ l. l.entries) entering.stands.is_ledger)).0

pub returns-clause-told : goal.returns-clause-told
returns-clause-told g c =
    let entering = c.requires.entering in
    let did = c.fetch_add.ensures.2 entering.book (entry c.args.conn c.args.act) entering.hand (ap (λ l. l.entries) entering.stands.is_ledger) in
    (entering.book, ap (λ m. m.1) did.0 ∙ entering.hand, did.1)
