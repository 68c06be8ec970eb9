use Rattle.std.proofs.Common.{◌≡◌, ℕ, ◌-◌, ◌≤◌, List, length, take}
use Rattle.client_core.specs.Clients.{StandsAfter}
use Rattle.client_core.specs.Working.{GoesOn}
use Rattle.client_core.specs.declared.stage.Stage.TheVariants as stage
use Rattle.client_core.proofs.client.Client.take.Given as goal

abbrev pub invariant-loop-line : goal.invariant-loop-line
invariant-loop-line l = record {
  within : l.used ≤ length l.piece;
  awaits : l.self.stage ≡ stage.Await;
  goes : (got : List ℕ) → StandsAfter l.initial.self got → GoesOn l.initial.self got (take l.used l.piece) l.self;
}

abbrev pub decreases-loop-line : goal.decreases-loop-line
decreases-loop-line l = length l.piece - l.used
