use Rattle.std.proofs.Common.{sym, ap, arith}
use Rattle.unit_registry.specs.declared.draft.Draft.{Draft}
use Rattle.unit_registry.specs.Lines.{lines_of}
use Rattle.unit_registry.specs.Readings.{read_behind, reading}
use Rattle.unit_registry.proofs.reader.read_project.Goals as goal

pub loop-rest-init : goal.loop-rest-init
unfolding reading
loop-rest-init c = (ap (λ (draft : Draft). read_behind draft 1 (lines_of c.args.octets.now)) (sym c.new-draft.ensures), omega arith)
