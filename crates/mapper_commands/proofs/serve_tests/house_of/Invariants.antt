use Rattle.std.proofs.Common.{All}
use Rattle.mm_outside.specs.MemHall.{IsUnused}
use Rattle.mapper_commands.proofs.serve_tests.house_of.Given as goal

abbrev pub invariant-loop-row : goal.invariant-loop-row
invariant-loop-row l = All IsUnused l.halls.items
