use Rattle.std.proofs.Common.{arith, refl, sym, ap, ◌∙◌, length, Err, Ok}
use Rattle.std.proofs.lemmas.Option.{slice_get_read}
use Rattle.export_lists.specs.Lent.{lent}
use Rattle.export_lists.specs.Slots.{has_of}
use Rattle.export_lists.proofs.Gathering.{gathered_more, gathered_lack, lent_more}
use Rattle.export_lists.proofs.rounds.gather.Goals as goal

pub returns-in-None : goal.returns-in-None
returns-in-None c =
    gathered_lack c.args.project.now (has_of c.args.slots.now) c.args.imports.now c.loop-import.import-index c.import-item.result (lent c.loop-import.cmis.items)
    (slice_get_read c.args.imports.now (length c.args.imports.now) c.loop-import.import-index c.import-item.result refl (omega arith) c.import-item.is)
    c.loop-import.invariant (sym c.in-None.ensures) ∙ ap Err (sym c.octets.ensures)

pub loop-import-preserved : goal.loop-import-preserved
loop-import-preserved c =
    gathered_more c.args.project.now (has_of c.args.slots.now) c.args.imports.now c.loop-import.import-index c.import-item.result (lent c.loop-import.cmis.items) c.in-Some.cmi.now
    (slice_get_read c.args.imports.now (length c.args.imports.now) c.loop-import.import-index c.import-item.result refl (omega arith) c.import-item.is)
    c.loop-import.invariant (sym c.in-Some.ensures) ∙ ap Ok (sym (ap lent c.in_ok-push-in-Some.ensures.items ∙ lent_more c.loop-import.cmis.items c.in-Some.cmi))
