use Rattle.std.proofs.Common.{◌≤◌, ◌+◌, ◌-◌, length, take, get_or, sym, ap, ◌∙◌, arith}
use Rattle.std.specs.List.{fold}
use Rattle.std.proofs.lemmas.Bool.{leb-true}
use Rattle.cody_batches.specs.Feeding.{Standing}
use Rattle.cody_batches.specs.Working.{tail_octets, begun_scan, line_len, kept}
use Rattle.cody_batches.proofs.Runs.{ends_in_two, run_is, run_at}
use Rattle.cody_batches.proofs.intake.Intake.keep_run.Goals as goal

pub invariant_of-self : goal.invariant_of-self
invariant_of-self c =
    let octets = c.args.octets.now in
    let front = take (length octets - 2) octets in
    let inside = c.self.inside in
    let at = run_at inside.scanner c.scan_tail.new.scanner c.push_run.new.self (tail_octets inside.tail) front c.scan_tail.ensures c.push_run.ensures in
    let room : line_len c.args.self.now + length front ≤ 8190 = leb-true _ _ (sym c.if-has_room.ensures) in
    (c.self.invariant.0, λ some. omega (arith, at, room, ap line_len c.self.view_is))

pub returns-in-len2-up : goal.returns-in-len2-up
returns-in-len2-up c =
    let octets = c.args.octets.now in
    let front = take (length octets - 2) octets in
    let inside = c.self.inside in
    let room : line_len c.args.self.now + length front ≤ 8190 = leb-true _ _ (sym c.if-has_room.ensures) in
    let le : (begun_scan inside.scanner (tail_octets inside.tail)).at + length (tail_octets inside.tail) + length front ≤ 8190 = omega (arith, room, ap line_len c.self.view_is) in
    let before : Standing = record { scan = inside.scanner; tail = tail_octets inside.tail; too_long = inside.too_long; lines = inside.lines; over = inside.over } in
    run_is before inside.scanner c.scan_tail.new.scanner c.push_run.new.self inside.tail octets front (get_or octets (length octets - 2) 0) (get_or octets (length octets - 1) 0) le (ends_in_two octets c.in-len2-up.len_at_least) c.scan_tail.ensures c.push_run.ensures
    ∙ ap (λ (s : Standing). fold kept s octets) c.self.view_is
