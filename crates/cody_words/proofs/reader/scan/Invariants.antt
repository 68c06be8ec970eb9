use Rattle.std.proofs.Common.{◌≡◌, take}
use Rattle.std.specs.List.{fold}
use Rattle.cody_words.specs.Scan.{start, step}
use Rattle.cody_words.proofs.reader.scan.Given as goal

abbrev pub invariant-loop-octet : goal.invariant-loop-octet
invariant-loop-octet l = l.scanner ≡ fold step start (take l.octet-index l.body)
