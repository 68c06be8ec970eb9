use Rattle.std.proofs.Common.{◌≡◌, take, Ok}
use Rattle.export_lists.specs.Outcomes.{gathered}
use Rattle.export_lists.specs.Lent.{lent}
use Rattle.export_lists.specs.Slots.{has_of}
use Rattle.export_lists.proofs.rounds.gather.Given as goal

abbrev pub invariant-loop-import : goal.invariant-loop-import
invariant-loop-import l = gathered l.project (has_of l.slots) (take l.import-index l.imports) ≡ Ok (lent l.cmis.items)
