-- What is answered with the last entry of a history, worked out.
use Rattle.std.proofs.Common.{◌≡◌, ℕ, false, List, [], ◌∷◌, Some, None, refl}
use Rattle.std.specs.Prelude.{codes}
use Rattle.unit_registry.specs.declared.act.Act.{Act}
use Rattle.unit_registry.specs.declared.act.Act.TheVariants.{Open, Hello, Export, Import, Compiled, Pause, Lost}
use Rattle.unit_registry.specs.declared.kind.Kind.TheVariants.{Module}
use Rattle.unit_registry.specs.Projects.{ProjectView}
use Rattle.histories.specs.declared.entry.Entry.{Entry}
use Rattle.registry_core.specs.Ledgers.{LedgerView, entry, answered_last, waiting_in}

abbrev two_units : ProjectView
two_units = record {
  repo = codes "gcm.cache";
  units = record { kind = Module; name = codes "a"; ident = codes "a.cc"; built = false }
      ∷ record { kind = Module; name = codes "b"; ident = codes "b.cc"; built = false }
      ∷ [];
}

abbrev with : List Entry → LedgerView
with entries = record { project = two_units; workers = 3; limit = 40; entries = entries }

abbrev asks : ℕ → Act
asks unit = Import (Some unit) false

-- two connections wait for a unit, one of them with two imports
abbrev front : Entry → List Entry
front last =
    entry 0 Open ∷ entry 0 (Hello 1 (Some 0)) ∷ entry 0 (asks 1) ∷ entry 0 (asks 1) ∷ entry 1 Open
    ∷ entry 1 (Hello 1 (Some 1)) ∷ entry 2 Open ∷ entry 2 (Hello 1 None) ∷ entry 2 (asks 1)
    ∷ entry 1 (Export (Some 1)) ∷ last ∷ []

-- its report answers all of them
reported : answered_last (with (front (entry 1 (Compiled (Some 1) false)))) ≡ 2 ∷ 3 ∷ 8 ∷ []
reported = refl

-- and so does the loss of its holder
lost : answered_last (with (front (entry 1 Lost))) ≡ 2 ∷ 3 ∷ 8 ∷ []
lost = refl

-- a pause answers none, and all of them wait
paused : answered_last (with (front (entry 0 Pause))) ≡ []
paused = refl

waiting : waiting_in (with (front (entry 0 Pause))) ≡ 3
waiting = refl
