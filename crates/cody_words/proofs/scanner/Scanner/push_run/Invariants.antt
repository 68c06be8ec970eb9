use Rattle.std.proofs.Common.{◌≡◌, ◌≤◌, ◌+◌, length}
use Rattle.std.specs.List.{fold}
use Rattle.cody_words.specs.Lines.{longest_line}
use Rattle.cody_words.specs.Scan.{step}
use Rattle.cody_words.proofs.scanner.Scanner.push_run.Given as goal

abbrev pub invariant-loop-rest : goal.invariant-loop-rest
invariant-loop-rest l = (fold step l.self l.rest ≡ fold step l.fn.self l.octets) × (l.self.at + length l.rest ≤ longest_line)

abbrev pub decreases-loop-rest : goal.decreases-loop-rest
decreases-loop-rest l = length l.rest
