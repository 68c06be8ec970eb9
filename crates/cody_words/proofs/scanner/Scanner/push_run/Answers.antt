use Rattle.std.proofs.Common.{◌∙◌, arith}
use Rattle.cody_words.proofs.Runs.{in_parts, at_part}
use Rattle.cody_words.proofs.scanner.Scanner.push_run.Goals as goal

pub loop-rest-preserved : goal.loop-rest-preserved
loop-rest-preserved c =
    let same = in_parts c.loop-rest.self c.push_some-count.new.self c.push_some-count.result c.loop-rest.rest.now c.split_at.result.1.now c.push_some-count.ensures.scan c.split_at.ensures.back in
    let count = at_part c.loop-rest.self c.push_some-count.new.self c.push_some-count.result c.loop-rest.rest.now c.split_at.result.1.now c.push_some-count.ensures.within c.push_some-count.ensures.scan c.split_at.ensures.back in
    (same ∙ c.loop-rest.invariant.0, omega (arith, count, c.loop-rest.invariant.1))
