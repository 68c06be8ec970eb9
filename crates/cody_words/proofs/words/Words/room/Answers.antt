use Rattle.std.proofs.Common.{◌≡◌, length, ap, sym, ◌∙◌, arith}
use Rattle.cody_words.specs.Pieces.{total}
use Rattle.cody_words.proofs.Cuts.{length-cut, total-cut, line_room-total}
use Rattle.cody_words.proofs.words.Words.room.Goals as goal

pub returns-clause-room : goal.returns-clause-room
returns-clause-room c =
    let starts = c.self.inside.starts.items in
    let octets = c.self.inside.octets.items in
    let n : length c.args.self.now ≡ length starts = sym (ap length c.self.view_is) ∙ length-cut starts octets in
    let all : total c.args.self.now ≡ length octets = sym (ap total c.self.view_is) ∙ total-cut starts octets c.self.invariant.in_order c.self.invariant.from_zero in
    omega (arith, n, all, line_room-total c.args.self.now, c.len.ensures, c.len-2.ensures, c.self.inside.octets.ok.0, c.self.inside.starts.ok.0)
