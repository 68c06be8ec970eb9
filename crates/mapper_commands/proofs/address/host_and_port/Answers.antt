use Rattle.std.proofs.Common.{ℕ, List, sym, subst}
use Rattle.std.specs.Prelude.{MatchOption}
use Rattle.mapper_commands.specs.Addresses.{SpellsPort}
use Rattle.mapper_commands.proofs.Colons.{no_digits}
use Rattle.mapper_commands.proofs.address.host_and_port.Goals as goal

pub returns-in_err-port : goal.returns-in_err-port
returns-in_err-port c =
    let text = c.args.text.now in
    subst (λ r. MatchOption r ((host : List ℕ) → (port : ℕ) → SpellsPort text host port → ⊥) (λ found. SpellsPort text found.0.now found.1)) (sym c.from_residual-in_err-port.ensures) (no_digits text c.in_ok-rest.rest.now c.in_ok-host.host.now c.in_ok-host.digits.now c.in_ok-rest.ensures c.in_ok-host.ensures.0 c.in_ok-host.ensures.1 c.in_err-port.ensures)
