use Rattle.std.proofs.Common.{◌≡◌, List, ℕ, length, ap, sym, ◌∙◌, arith}
use Rattle.cody_words.specs.Pieces.{total, cut}
use Rattle.cody_words.proofs.Cuts.{length-cut, total-cut, word_within}
use Rattle.cody_words.proofs.words.Words.word.Goals as goal

pub piece-requires-clause-within : goal.piece-requires-clause-within
piece-requires-clause-within c =
    let n : length c.args.self.now ≡ length c.self.inside.starts.items = sym (ap length c.self.view_is) ∙ length-cut c.self.inside.starts.items c.self.inside.octets.items in
    omega (arith, n, c.requires, c.self.inside.starts.ok.0)

pub returns-clause-bound : goal.returns-clause-bound
returns-clause-bound c =
    let starts = c.self.inside.starts.items in
    let octets = c.self.inside.octets.items in
    let same = ap (λ (s : List ℕ). total (cut s c.deref.result.now)) c.deref-2.ensures.value ∙ ap (λ (o : List ℕ). total (cut starts o)) c.deref.ensures.value in
    let all = total-cut starts octets c.self.invariant.in_order c.self.invariant.from_zero in
    omega (arith, word_within (cut c.deref-2.result.now c.deref.result.now) c.args.k c.piece.result.now c.piece.ensures, same, all, c.self.invariant.few_octets)
