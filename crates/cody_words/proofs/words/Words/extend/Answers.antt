use Rattle.std.proofs.Common.{◌≡◌, ◌++◌, ◌+◌, List, ℕ, length, ap, sym, ◌∙◌, arith}
use Rattle.std.specs.Prelude.{is_ok}
use Rattle.std.specs.List.{fold}
use Rattle.std.proofs.lemmas.Bool.{cond-true}
use Rattle.std.proofs.lemmas.List.{length-append}
use Rattle.cody_words.specs.Pieces.{total}
use Rattle.cody_words.specs.Scan.{with_octet}
use Rattle.cody_words.proofs.Cuts.{length-cut, total-cut}
use Rattle.cody_words.proofs.Runs.{InOrder-by, BeginsAtZero-by, cut-run}
use Rattle.cody_words.proofs.words.Words.extend.Goals as goal

pub unwrap-requires : goal.unwrap-requires
unwrap-requires c =
    let all : total c.args.self.now ≡ length c.self.inside.octets.items = sym (ap total c.self.view_is) ∙ total-cut c.self.inside.starts.items c.self.inside.octets.items c.self.invariant.in_order c.self.invariant.from_zero in
    c.extend_from_slice.ensures.succeeds (omega (arith, all, c.requires.room, c.self.invariant.octets_fit, c.self.inside.octets.ok.0))

pub invariant_of-self : goal.invariant_of-self
invariant_of-self c =
    let starts = c.self.inside.starts.items in
    let octets = c.self.inside.octets.items in
    let run = c.args.octets.now in
    let n : length c.args.self.now ≡ length starts = sym (ap length c.self.view_is) ∙ length-cut starts octets in
    let all : total c.args.self.now ≡ length octets = sym (ap total c.self.view_is) ∙ total-cut starts octets c.self.invariant.in_order c.self.invariant.from_zero in
    let items : c.extend_from_slice.new.self.items ≡ octets ++ run = c.extend_from_slice.ensures.items ∙ cond-true _ _ _ (ap is_ok c.unwrap.ensures) in
    let longer : length (octets ++ run) ≡ length octets + length run = length-append octets run in
    record {
      in_order = rw (items, longer) (InOrder-by (length run) starts (length octets) c.self.invariant.in_order);
      from_zero = rw (items, longer) (BeginsAtZero-by (length run) starts (length octets) (omega (arith, n, c.requires.begun)) c.self.invariant.from_zero);
      few_starts = c.self.invariant.few_starts;
      few_octets = rw (items, longer) (omega (arith, all, c.requires.room));
      starts_fit = c.self.invariant.starts_fit;
      octets_fit = omega (arith, c.extend_from_slice.ensures.capacity, c.self.invariant.octets_fit);
    }

pub returns : goal.returns
returns c =
    let starts = c.self.inside.starts.items in
    let octets = c.self.inside.octets.items in
    let run = c.args.octets.now in
    let items : c.extend_from_slice.new.self.items ≡ octets ++ run = c.extend_from_slice.ensures.items ∙ cond-true _ _ _ (ap is_ok c.unwrap.ensures) in
    rw items (cut-run run starts octets c.self.invariant.in_order) ∙ ap (λ (w : List (List ℕ)). fold with_octet w run) c.self.view_is
