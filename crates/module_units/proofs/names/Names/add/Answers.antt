use Rattle.std.proofs.Common.{ap, ◌∙◌, ◌++◌, ◌∷◌, []}
use Rattle.std.specs.List.{list_any}
use Rattle.std.specs.Str.{bytes_eq}
use Rattle.module_units.proofs.NameSets.{any_of, added}
use Rattle.module_units.proofs.names.Names.add.Goals as goal

pub returns : goal.returns
returns c =
    let absent = any_of (λ key. key.items) (bytes_eq c.in_ok-name.name.items) c.self.inside.set.keys ∙ ap (list_any (bytes_eq c.in_ok-name.name.items)) c.self.view_is ∙ ap (λ name. list_any (bytes_eq name) c.args.self.now) c.in_ok-name.ensures.items ∙ c.requires in
    added (λ key. key.items) _ c.self.inside.set.keys _ c.in_ok-name.name absent c.in_ok-insert.ensures.keys
    ∙ ap (λ names. names ++ c.in_ok-name.name.items ∷ []) c.self.view_is ∙ ap (λ name. c.args.self.now ++ name ∷ []) c.in_ok-name.ensures.items
