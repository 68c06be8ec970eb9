use Rattle.std.proofs.Common.{◌∷◌, [], ◌≡◌, map, sym, ap, subst, ◌∙◌, arith}
use Rattle.std.specs.Prelude.{IfNone, string_bytes}
use Rattle.mapper_commands.specs.Commands.{Task, AsksToGenerate}
use Rattle.mapper_commands.proofs.AskedLemmas.{three_items}
use Rattle.mapper_commands.proofs.askings.read_gen.Goals as goal

pub returns-in-len3-clause-none : goal.returns-in-len3-clause-none
returns-in-len3-clause-none c =
    let words_are : map string_bytes c.args.words.now ≡ c.as_bytes.result.now ∷ c.as_bytes-in-len3.result.now ∷ c.as_bytes-in-len3-2.result.now ∷ [] =
    three_items string_bytes c.args.words.now c.folder-item.result c.units-item.result c.seed-item.result (omega arith) c.folder-item.is c.units-item.is c.seed-item.is
    ∙ ap (λ word. word ∷ string_bytes c.units-item.result ∷ string_bytes c.seed-item.result ∷ []) (sym c.as_bytes.ensures.value)
    ∙ ap (λ word. c.as_bytes.result.now ∷ word ∷ string_bytes c.seed-item.result ∷ []) (sym c.as_bytes-in-len3.ensures.value)
    ∙ ap (λ word. c.as_bytes.result.now ∷ c.as_bytes-in-len3.result.now ∷ word ∷ []) (sym c.as_bytes-in-len3-2.ensures.value) in
    subst (λ words. IfNone c.read_counts.result ((task : Task) → AsksToGenerate words task → ⊥)) (sym words_are) c.read_counts.ensures.none
