use Rattle.std.proofs.Common.{◌∙◌, inl, inr, true, not, is_none, sym, ap, List, map, reverse, get_or, None}
use Rattle.std.proofs.lemmas.Bool.{both_ways}
use Rattle.registry_tables.specs.declared.imports.Waiting.{Waiting}
use Rattle.registry_tables.specs.Imported.{Imported}
use Rattle.registry_tables.specs.Tabled.{fate_in}
use Rattle.registry_tables.proofs.Pairs.{filter_alike_in}
use Rattle.registry_tables.proofs.Settling.{pass_all, none_pass}
use Rattle.registry_tables.proofs.imports.Imports.settle.Goals as goal

pub returns-else-ends-clause-answered : goal.returns-else-ends-clause-answered
returns-else-ends-clause-answered c =
    ap (λ (i : Imported). i.answered) c.answers_none.ensures
    ∙ sym (ap (λ (ws : List Waiting). reverse (map (λ (w : Waiting). w.place) ws)) (none_pass (λ w. not (is_none (fate_in c.args.tables.now w.unit))) c.args.self.now.waiting (λ w there. ap not (c.requires.idle c.if-ends.false w there))))

pub returns-else-ends-clause-waiting : goal.returns-else-ends-clause-waiting
returns-else-ends-clause-waiting c =
    ap (λ (i : Imported). i.waiting) c.answers_none.ensures
    ∙ pass_all c.args.self.now.waiting
    ∙ filter_alike_in (λ (w : Waiting). true) (λ w. is_none (fate_in c.args.tables.now w.unit)) c.args.self.now.waiting (λ w there. sym (c.requires.idle c.if-ends.false w there))

pub returns-else-ends-clause-replies : goal.returns-else-ends-clause-replies
returns-else-ends-clause-replies c reply settles k below = elim (settles.others k below) [
  | inl right ↦ ap (λ (i : Imported). get_or i.replies k None) c.answers_none.ensures ∙ right
  | inr x ↦ absurd (both_ways (is_none (fate_in c.args.tables.now x.0.unit)) x.3 (c.requires.idle c.if-ends.false x.0 x.1))
]
