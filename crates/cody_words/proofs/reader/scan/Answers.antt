use Rattle.std.proofs.Common.{take, ap, arith}
use Rattle.std.proofs.lemmas.List.{length-take}
use Rattle.cody_words.specs.Scan.{Scan, start}
use Rattle.cody_words.proofs.Least.{at_run}
use Rattle.cody_words.proofs.reader.scan.Goals as goal

pub push-requires : goal.push-requires
push-requires c =
    let front = take c.loop-octet.octet-index c.args.body.now in
    omega (arith, ap (λ (s : Scan). s.at) c.loop-octet.invariant, at_run front start, length-take c.loop-octet.octet-index c.args.body.now, c.loop-octet-test.true, c.requires)
