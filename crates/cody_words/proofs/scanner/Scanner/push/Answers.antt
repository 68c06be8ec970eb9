use Rattle.std.proofs.Common.{sym, subst, ap, arith}
use Rattle.cody_words.specs.Scan.{Scan}
use Rattle.cody_words.proofs.Rooms.{RoomyScan, step_roomy}
use Rattle.cody_words.proofs.scanner.Scanner.push.Goals as goal

pub invariant_of-self : goal.invariant_of-self
invariant_of-self c =
    (subst RoomyScan (sym c.after-self-inside.ensures) (step_roomy c.self.inside.mode c.self.inside.words c.self.inside.at c.args.octet c.self.invariant.0), omega (arith, c.requires, ap (λ (s : Scan). s.at) c.self.view_is))
