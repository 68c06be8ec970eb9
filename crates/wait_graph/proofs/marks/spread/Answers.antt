use Rattle.std.proofs.Common.{◌≡◌, ℕ, false, get_or}
use Rattle.std.proofs.lemmas.List.{get_or_default}
use Rattle.std.proofs.lemmas.Bool.{both_ways}
use Rattle.wait_graph.proofs.Spreading.{Spreads-keep, Spreads-mark}
use Rattle.wait_graph.proofs.marks.spread.Goals as goal
use Rattle.wait_graph.proofs.marks.spread.Goals.{then-marks-first+then-not-marks-second, else-marks-first, else-marks-first-via-then-marks-first+else-not-marks-second, else-marks-first-via-else-marks-first}

pub loop-first-preserved : goal.loop-first-preserved
loop-first-preserved c =
    let at_default : (d : ℕ × ℕ) → get_or c.args.pairs.now c.loop-first.first-index d ≡ get_or c.args.pairs.now c.loop-first.first-index (0, 0) = λ d. get_or_default c.args.pairs.now c.loop-first.first-index d (0, 0) c.loop-first-test.true in
    elim c.if-marks-first.branch [
      | then-marks-first+then-not-marks-second w ↦ rw (w.marks-is, w.made-is) (Spreads-mark c.args.pairs.now c.args.marks.now c.loop-first.marks c.loop-first.made c.loop-first.first-index (0, 0) c.loop-first.invariant c.loop-first-test.true (rw c.loop-first.auto.marks (c.requires c.loop-first.first-index (0, 0) c.loop-first-test.true).1) w.if-marks-first.true w.if-not-marks-second.true)
      | else-marks-first w ↦ rw (w.marks-is, w.made-is) (Spreads-keep c.args.pairs.now c.args.marks.now c.loop-first.marks c.loop-first.made c.loop-first.first-index c.loop-first.invariant (λ d first. rw (at_default d) (elim w.else-marks-first.branch [
        | else-marks-first-via-then-marks-first+else-not-marks-second w' ↦ w'.if-not-marks-second.false
        | else-marks-first-via-else-marks-first w' ↦ absurd (both_ways (get_or c.loop-first.marks (get_or c.args.pairs.now c.loop-first.first-index (0, 0)).0 false) w'.if-marks-first.false (rw (at_default d) at first))
      ])))
    ]
