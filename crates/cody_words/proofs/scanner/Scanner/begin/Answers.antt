use Rattle.std.proofs.Common.{◌≡◌, ◌≤◌, [], length, sym, subst, ap, ◌∙◌, arith}
use Rattle.std.proofs.lemmas.List.{length_push}
use Rattle.std.specs.List.{fold}
use Rattle.cody_words.specs.Pieces.{total}
use Rattle.cody_words.specs.Room.{IsRoomy}
use Rattle.cody_words.specs.Scan.{Scan, step}
use Rattle.cody_words.specs.declared.mode.Mode.{Mode}
use Rattle.cody_words.specs.declared.mode.Mode.TheVariants.{Between}
use Rattle.cody_words.proofs.Rooms.{RoomyScan, run_roomy, total-with_word}
use Rattle.cody_words.proofs.Runs.{opened, takes_some}
use Rattle.cody_words.proofs.scanner.Scanner.begin.Goals as goal

pub begin-requires : goal.begin-requires
begin-requires c = omega (arith, c.requires.room, takes_some c.args.run.now c.requires.first, c.self.invariant.0.few, ap (λ (s : Scan). s.at) c.self.view_is)

pub extend-requires-clause-begun : goal.extend-requires-clause-begun
extend-requires-clause-begun c = omega (arith, ap length c.begin.ensures, length_push c.self.inside.words [])

pub extend-requires-clause-room : goal.extend-requires-clause-room
extend-requires-clause-room c =
    let between : c.self.inside.mode ≡ Between = ap (λ (s : Scan). s.mode) c.self.view_is ∙ c.requires.run in
    let owes : total c.self.inside.words ≤ c.self.inside.at = (subst (λ (mode : Mode). IsRoomy c.self.inside.words mode c.self.inside.at) between c.self.invariant.0).owes in
    omega (arith, owes, ap total c.begin.ensures, total-with_word c.self.inside.words, c.requires.room, ap (λ (s : Scan). s.at) c.self.view_is)

pub invariant_of-self : goal.invariant_of-self
invariant_of-self c =
    let run = c.args.run.now in
    let inside = c.self.inside in
    let between : inside.mode ≡ Between = ap (λ (s : Scan). s.mode) c.self.view_is ∙ c.requires.run in
    let roomy = run_roomy run (record { words = inside.words; mode = inside.mode; at = inside.at }) c.self.invariant.0 in
    (subst RoomyScan (sym (opened run inside.words c.begin.new.self c.extend.new.self inside.mode inside.at between c.begin.ensures c.extend.ensures c.requires.bare c.requires.first)) roomy, omega (arith, c.requires.room, ap (λ (s : Scan). s.at) c.self.view_is))

pub returns : goal.returns
returns c =
    let run = c.args.run.now in
    let inside = c.self.inside in
    let between : inside.mode ≡ Between = ap (λ (s : Scan). s.mode) c.self.view_is ∙ c.requires.run in
    opened run inside.words c.begin.new.self c.extend.new.self inside.mode inside.at between c.begin.ensures c.extend.ensures c.requires.bare c.requires.first ∙ ap (λ (s : Scan). fold step s run) c.self.view_is
