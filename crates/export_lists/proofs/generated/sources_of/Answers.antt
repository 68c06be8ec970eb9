use Rattle.std.proofs.Common.{◌≡◌, ◌++◌, ◌∷◌, [], length, ap, ◌∙◌, arith, add-one}
use Rattle.export_lists.specs.Generated.{source_of, links_from, state_before}
use Rattle.export_lists.proofs.Counts.{sources_count}
use Rattle.export_lists.proofs.generated.sources_of.Goals as goal

pub push-requires : goal.push-requires
push-requires c =
    let counted : length c.loop-number.sources ≡ c.loop-number.number = ap length c.loop-number.invariant.sources ∙ sources_count c.args.seed c.loop-number.number in
    omega arith

pub loop-number-preserved : goal.loop-number-preserved
loop-number-preserved c =
    let made : c.in_ok-source.source ≡ source_of c.loop-number.number (links_from c.loop-number.number (state_before c.args.seed c.loop-number.number)).links =
    c.in_ok-source.ensures ∙ ap (source_of c.loop-number.number) (c.as_slice.ensures.value ∙ ap (λ d. d.links) c.in_ok-drawing.ensures ∙ ap (λ s. (links_from c.loop-number.number s).links) c.loop-number.invariant.state) in
    record {
      sources = rw add-one (c.in_ok-push.ensures.ok ∙ (λ k. c.loop-number.invariant.sources k ++ made k ∷ []));
      state = rw add-one (ap (λ d. d.state) c.in_ok-drawing.ensures ∙ ap (λ s. (links_from c.loop-number.number s).state) c.loop-number.invariant.state);
    }
