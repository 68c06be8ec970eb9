use Rattle.std.proofs.Common.{◌≡◌}
use Rattle.export_lists.specs.Generated.{more_links}
use Rattle.export_lists.specs.Drawings.{seen}
use Rattle.export_lists.proofs.draws.draw_more.Given as goal

abbrev pub invariant-loop-drawn : goal.invariant-loop-drawn
invariant-loop-drawn l = seen l.drawing ≡ more_links l.bound l._drawn (seen l.fn.drawing)
