use Rattle.std.proofs.Common.{◌≡◌, ◌≤◌, None, length, sym, subst, rules}
use Rattle.histories.proofs.ReplyLaws.{reply_unasked}
use Rattle.registry_core.specs.Ledgers.{LedgerView, reply_at}
use Rattle.registry_core.proofs.ledger.Ledger.look.Goals as goal

pub returns-then-place-len : goal.returns-then-place-len
returns-then-place-len c =
    let past : length c.self.inside.entries.items ≤ c.args.place = search rules in
    subst (λ (ledger : LedgerView). None ≡ reply_at ledger c.args.place) c.self.view_is (sym (reply_unasked c.self.inside.tables.project c.self.inside.workers c.self.inside.entries.items c.args.place past))
