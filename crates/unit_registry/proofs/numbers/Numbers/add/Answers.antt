use Rattle.std.proofs.Common.{◌≡◌, ℕ, List, [], ◌∷◌, ◌++◌, None, sym, ap, ◌∙◌}
use Rattle.std.specs.Str.{bytes_eq}
use Rattle.indexmap.specs.IndexMap.{get}
use Rattle.indexmap.proofs.CallerLemmas.{insert_entry-new}
use Rattle.unit_registry.specs.Numbers.{number_in}
use Rattle.unit_registry.proofs.Found.{lookup-number, with_number-some}
use Rattle.unit_registry.proofs.numbers.Numbers.add.Goals as goal

pub returns-clause-ok : goal.returns-clause-ok
returns-clause-ok c =
    let key : List ℕ = c.in_ok-key.key in
    let same : key ≡ c.args.word.now = c.in_ok-key.ensures.ok in
    let absent : get bytes_eq c.self.inside.numbers key ≡ None =
    lookup-number key c.self.inside.numbers.entries
    ∙ ap (number_in c.self.inside.numbers.entries) same
    ∙ ap (λ entries. number_in entries c.args.word.now) c.self.view_is
    ∙ c.requires in
    c.in_ok-insert.ensures.entries
    ∙ insert_entry-new bytes_eq c.self.inside.numbers key c.args.number absent
    ∙ ap (λ entries. entries ++ (key, c.args.number) ∷ []) c.self.view_is
    ∙ ap (λ word. c.args.self.now ++ (word, c.args.number) ∷ []) same
    ∙ sym (with_number-some c.args.self.now c.args.word.now c.args.number c.if-is_empty.ensures)
