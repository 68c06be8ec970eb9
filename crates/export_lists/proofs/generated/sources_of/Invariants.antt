use Rattle.std.proofs.Common.{◌≡◌}
use Rattle.export_lists.specs.Generated.{sources_of, state_before}
use Rattle.export_lists.proofs.generated.sources_of.Given as goal

abbrev pub invariant-loop-number : goal.invariant-loop-number
invariant-loop-number l = record { sources : l.sources ≡ sources_of l.seed l.number; state : l.state ≡ state_before l.seed l.number }
