use Rattle.std.proofs.Common.{◌≡◌, sym, subst, ap, ◌∙◌, arith}
use Rattle.std.specs.List.{fold}
use Rattle.cody_words.specs.Scan.{Scan, step}
use Rattle.cody_words.specs.declared.mode.Mode.TheVariants.{Outside}
use Rattle.cody_words.proofs.Rooms.{RoomyScan, run_roomy}
use Rattle.cody_words.proofs.Runs.{extended}
use Rattle.cody_words.proofs.scanner.Scanner.extend.Goals as goal

pub invariant_of-self : goal.invariant_of-self
invariant_of-self c =
    let run = c.args.run.now in
    let inside = c.self.inside in
    let outside : inside.mode ≡ Outside = ap (λ (s : Scan). s.mode) c.self.view_is ∙ c.requires.run in
    let roomy = run_roomy run (record { words = inside.words; mode = inside.mode; at = inside.at }) c.self.invariant.0 in
    (subst RoomyScan (sym (extended run inside.words c.extend.new.self inside.mode inside.at outside c.extend.ensures c.requires.bare)) roomy, omega (arith, c.requires.room, ap (λ (s : Scan). s.at) c.self.view_is))

pub returns : goal.returns
returns c =
    let run = c.args.run.now in
    let inside = c.self.inside in
    let outside : inside.mode ≡ Outside = ap (λ (s : Scan). s.mode) c.self.view_is ∙ c.requires.run in
    extended run inside.words c.extend.new.self inside.mode inside.at outside c.extend.ensures c.requires.bare ∙ ap (λ (s : Scan). fold step s run) c.self.view_is
