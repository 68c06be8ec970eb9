use Rattle.std.proofs.Common.{ap, ◌∙◌}
use Rattle.std.specs.List.{list_any}
use Rattle.std.specs.Str.{bytes_eq}
use Rattle.export_lists.proofs.Sets.{any_map}
use Rattle.export_lists.proofs.types.Types.has.Goals as goal

pub returns : goal.returns
returns c = c.contains.ensures ∙ any_map (λ key. key.now) (bytes_eq c.args.name.now) c.self.inside.names.keys ∙ ap (list_any (bytes_eq c.args.name.now)) c.self.view_is
