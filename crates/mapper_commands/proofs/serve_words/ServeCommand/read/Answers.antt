use Rattle.std.proofs.Common.{◌≡◌, ◌∷◌, [], map, sym, ap, subst, ◌∙◌, arith}
use Rattle.std.specs.Prelude.{IfNone, codes, string_bytes}
use Rattle.mapper_commands.specs.Commands.{ServeWords, AsksToServe}
use Rattle.mapper_commands.proofs.ServeForms.{five_items}
use Rattle.mapper_commands.proofs.serve_words.ServeCommand.read.Goals as goal

pub returns-in-len5-clause-none : goal.returns-in-len5-clause-none
returns-in-len5-clause-none c =
    let words_are : map string_bytes c.args.words.now ≡ c.as_bytes.result.now ∷ c.as_bytes-in-len5.result.now ∷ c.as_bytes-in-len5-2.result.now ∷ c.as_bytes-in-len5-3.result.now ∷ c.as_bytes-in-len5-4.result.now ∷ [] =
    five_items string_bytes c.args.words.now c.project-item.result c.address-item.result c.workers-item.result c.links-item.result c.entries-item.result (omega arith) c.project-item.is c.address-item.is c.workers-item.is c.links-item.is c.entries-item.is
    ∙ ap (λ word. word ∷ string_bytes c.address-item.result ∷ string_bytes c.workers-item.result ∷ string_bytes c.links-item.result ∷ string_bytes c.entries-item.result ∷ []) (sym c.as_bytes.ensures.value)
    ∙ ap (λ word. c.as_bytes.result.now ∷ word ∷ string_bytes c.workers-item.result ∷ string_bytes c.links-item.result ∷ string_bytes c.entries-item.result ∷ []) (sym c.as_bytes-in-len5.ensures.value)
    ∙ ap (λ word. c.as_bytes.result.now ∷ c.as_bytes-in-len5.result.now ∷ word ∷ string_bytes c.links-item.result ∷ string_bytes c.entries-item.result ∷ []) (sym c.as_bytes-in-len5-2.ensures.value)
    ∙ ap (λ word. c.as_bytes.result.now ∷ c.as_bytes-in-len5.result.now ∷ c.as_bytes-in-len5-2.result.now ∷ word ∷ string_bytes c.entries-item.result ∷ []) (sym c.as_bytes-in-len5-3.ensures.value)
    ∙ ap (λ word. c.as_bytes.result.now ∷ c.as_bytes-in-len5.result.now ∷ c.as_bytes-in-len5-2.result.now ∷ c.as_bytes-in-len5-3.result.now ∷ word ∷ []) (sym c.as_bytes-in-len5-4.ensures.value) in
    subst (λ words. IfNone c.read_counts.result ((serve : ServeWords) → AsksToServe (codes "serve" ∷ words) serve → ⊥)) (sym words_are) c.read_counts.ensures.none
