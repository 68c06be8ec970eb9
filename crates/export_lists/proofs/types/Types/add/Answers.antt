use Rattle.export_lists.proofs.Names.{added, moved_names}
use Rattle.export_lists.proofs.types.Types.add.Goals as goal

pub returns : goal.returns
returns c = λ known h. added c.self.inside.names.keys c.insert.new.self.keys c.args.name known c.in_ok-insert.ensures.keys (moved_names c.self.view_is h)
