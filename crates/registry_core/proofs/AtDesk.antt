-- What a connection has at a desk where it asks and then looks.
use Rattle.std.proofs.Common.{◌≡◌, inr, ℕ, true, Contains, ◌∙◌}
use Rattle.histories.specs.declared.entry.Entry.{Entry}
use Rattle.histories.specs.Counts.{Asks, effect_of}
use Rattle.registry_core.specs.Ledgers.{is_open_in}
use Rattle.registry_core.specs.Desks.{DeskState, Adds, Looks, IsSound}
use Rattle.registry_core.proofs.Desks.{adds_own, adds_is_open, looks_open}

-- it stays open
pub asked_open : {Held : Type 0} (first second third : DeskState Held) (newest : Entry) (place : ℕ) → IsSound second → IsSound third → Adds first newest place second → Looks second third → effect_of newest.act ≡ Asks → Contains first.connections newest.conn → is_open_in third.seen newest.conn ≡ true
asked_open first second third newest place was now adds looks kind own =
    looks_open second third was now looks newest.conn (adds_own first second newest place adds newest.conn own)
    ∙ adds_is_open first second newest place was adds (inr kind)
