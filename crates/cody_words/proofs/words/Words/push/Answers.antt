use Rattle.std.proofs.Common.{◌≡◌, ◌++◌, ◌∷◌, [], ◌+◌, List, ℕ, length, ap, sym, ◌∙◌, arith}
use Rattle.std.specs.Prelude.{is_ok}
use Rattle.std.proofs.lemmas.Bool.{cond-true}
use Rattle.std.proofs.lemmas.List.{length_push}
use Rattle.cody_words.specs.Pieces.{total}
use Rattle.cody_words.specs.Scan.{with_octet}
use Rattle.cody_words.proofs.Cuts.{length-cut, total-cut, InOrder-more, BeginsAtZero-more, cut-push}
use Rattle.cody_words.proofs.words.Words.push.Goals as goal

pub unwrap-requires : goal.unwrap-requires
unwrap-requires c =
    let all : total c.args.self.now ≡ length c.self.inside.octets.items = sym (ap total c.self.view_is) ∙ total-cut c.self.inside.starts.items c.self.inside.octets.items c.self.invariant.in_order c.self.invariant.from_zero in
    c.push.ensures.succeeds (omega (arith, all, c.requires.room, c.self.invariant.octets_fit, c.self.inside.octets.ok.0))

pub invariant_of-self : goal.invariant_of-self
invariant_of-self c =
    let starts = c.self.inside.starts.items in
    let octets = c.self.inside.octets.items in
    let n : length c.args.self.now ≡ length starts = sym (ap length c.self.view_is) ∙ length-cut starts octets in
    let all : total c.args.self.now ≡ length octets = sym (ap total c.self.view_is) ∙ total-cut starts octets c.self.invariant.in_order c.self.invariant.from_zero in
    let items : c.push.new.self.items ≡ octets ++ c.args.octet ∷ [] = c.push.ensures.items ∙ cond-true _ _ _ (ap is_ok c.unwrap.ensures) in
    let longer : length (octets ++ c.args.octet ∷ []) ≡ length octets + 1 = length_push octets c.args.octet in
    record {
      in_order = rw (items, longer) (InOrder-more starts (length octets) c.self.invariant.in_order);
      from_zero = rw (items, longer) (BeginsAtZero-more starts (length octets) (omega (arith, n, c.requires.begun)) c.self.invariant.from_zero);
      few_starts = c.self.invariant.few_starts;
      few_octets = rw (items, longer) (omega (arith, all, c.requires.room));
      starts_fit = c.self.invariant.starts_fit;
      octets_fit = omega (arith, c.push.ensures.capacity, c.self.invariant.octets_fit);
    }

pub returns : goal.returns
returns c =
    let starts = c.self.inside.starts.items in
    let octets = c.self.inside.octets.items in
    let items : c.push.new.self.items ≡ octets ++ c.args.octet ∷ [] = c.push.ensures.items ∙ cond-true _ _ _ (ap is_ok c.unwrap.ensures) in
    rw items (cut-push starts octets c.args.octet c.self.invariant.in_order) ∙ ap (λ (w : List (List ℕ)). with_octet w c.args.octet) c.self.view_is
