-- What calls for an open connection leave of a desk.
use Rattle.std.proofs.Common.{◌≡◌, ℕ, ◌∙◌, inl, inr, refl, sym, subst, Contains}
use Rattle.histories.specs.Counts.{Asks, effect_of}
use Rattle.unit_registry.specs.declared.act.Act.{Act}
use Rattle.unit_registry.specs.declared.act.Act.TheVariants.{Open}
use Rattle.registry_core.specs.Ledgers.{entry}
use Rattle.registry_core.specs.Desks.{DeskState, Adds, Looks, IsSound, GoesOn}
use Rattle.registry_core.proofs.Desks.{goes_on_same, goes_on_further, looks_go_on, adds_go_on, looks_open, adds_own, adds_is_open, opens_own}
use Rattle.registry_bench.specs.Blocks.{IsFresh, HasOpen, StaysOpen}

module _ {Held : Type 0} where
  pub opened : (before after : DeskState Held) (conn place : ℕ) → IsFresh before → IsSound after → Adds before (entry conn Open) place after → StaysOpen conn before after
  opened before after conn place fresh sound adds = record {
    goes_on = adds_go_on before after (entry conn Open) place adds;
    has_open = record {
      sound = sound;
      own = opens_own before after (entry conn Open) place adds refl;
      there = adds_is_open before after (entry conn Open) place sound adds (inl refl);
      loose = adds.stays.metered ∙ fresh.loose;
    };
  }

  pub asked : (before after : DeskState Held) (conn place : ℕ) (act : Act) → effect_of act ≡ Asks → HasOpen conn before → IsSound after → Adds before (entry conn act) place after → StaysOpen conn before after
  asked before after conn place act kind has sound adds = record {
    goes_on = adds_go_on before after (entry conn act) place adds;
    has_open = record {
      sound = sound;
      own = adds_own before after (entry conn act) place adds conn has.own;
      there = adds_is_open before after (entry conn act) place sound adds (inr kind);
      loose = adds.stays.metered ∙ has.loose;
    };
  }

  pub looked : (before after : DeskState Held) (conn : ℕ) → HasOpen conn before → IsSound after → Looks before after → StaysOpen conn before after
  looked before after conn has sound looks = record {
    goes_on = looks_go_on before after looks;
    has_open = record {
      sound = sound;
      own = subst (λ cs. Contains cs conn) (sym looks.connections) has.own;
      there = looks_open before after has.sound sound looks conn has.own ∙ has.there;
      loose = looks.stays.metered ∙ has.loose;
    };
  }

  pub same : (desk : DeskState Held) (conn : ℕ) → HasOpen conn desk → StaysOpen conn desk desk
  same desk conn has = record { goes_on = goes_on_same desk; has_open = has }

  pub further : (first second third : DeskState Held) (conn : ℕ) → StaysOpen conn first second → StaysOpen conn second third → StaysOpen conn first third
  further first second third conn s t = record { goes_on = goes_on_further first second third s.goes_on t.goes_on; has_open = t.has_open }

  pub from_open : (first second third : DeskState Held) (conn : ℕ) → StaysOpen conn first second → GoesOn second third → GoesOn first third
  from_open first second third conn s on = goes_on_further first second third s.goes_on on

  pub leaves : (first second third : DeskState Held) (conn place : ℕ) (act : Act) → StaysOpen conn first second → Adds second (entry conn act) place third → GoesOn first third
  leaves first second third conn place act s adds = goes_on_further first second third s.goes_on (adds_go_on second third (entry conn act) place adds)
