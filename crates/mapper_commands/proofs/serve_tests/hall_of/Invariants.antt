use Rattle.std.proofs.Common.{All}
use Rattle.mm_outside.specs.MemLink.{octets_of}
use Rattle.mm_outside.specs.Octets.{IsFresh}
use Rattle.mapper_commands.proofs.serve_tests.hall_of.Given as goal

abbrev pub invariant-loop-row : goal.invariant-loop-row
invariant-loop-row l = All (λ link. IsFresh (octets_of link)) l.links.items
