use Rattle.std.proofs.Common.{◌≡◌, ap, ◌∙◌, add-one, arith}
use Rattle.export_lists.specs.Generated.{one_link, more_links}
use Rattle.export_lists.specs.Drawings.{seen}
use Rattle.export_lists.proofs.draws.draw_more.Goals as goal

pub loop-drawn-preserved : goal.loop-drawn-preserved
loop-drawn-preserved c = rw add-one (c.in_ok-drawing.ensures ∙ ap (one_link c.args.bound) c.loop-drawn.invariant)

pub returns : goal.returns
returns c =
    let same : c.loop-drawn._drawn ≡ c.args.count = omega arith in
    c.loop-drawn.invariant ∙ ap (λ n. more_links c.args.bound n (seen c.args.drawing)) same
