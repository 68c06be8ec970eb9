use Rattle.std.proofs.Common.{◌≡◌, take}
use Rattle.mm_outside.proofs.asked.NotedText.of.Given as goal

abbrev pub invariant-loop-octet : goal.invariant-loop-octet
invariant-loop-octet l = l.noted.items ≡ take l.octet-index l.octets
