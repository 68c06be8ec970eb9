use Rattle.std.proofs.Common.{◌≡◌, ℕ, List, ◌++◌, take, drop, slice_get}
use Rattle.export_lists.specs.Compiling.{unknown_lines, types_of}
use Rattle.export_lists.specs.Types.{Knows}
use Rattle.export_lists.proofs.types.Types.first_undeclared.Given as goal

abbrev pub invariant-loop-decl : goal.invariant-loop-decl
invariant-loop-decl l = (known : List (List ℕ)) → Knows l.fn.self known → Knows l.self (known ++ types_of (take l.decl-index l.decls)) × (slice_get (unknown_lines known l.decls) 0 ≡ slice_get (unknown_lines (known ++ types_of (take l.decl-index l.decls)) (drop l.decl-index l.decls)) 0)
