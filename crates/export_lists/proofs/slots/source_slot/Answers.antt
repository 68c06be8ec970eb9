use Rattle.std.proofs.Common.{refl, subst}
use Rattle.export_lists.specs.Sources.{RefusesFor}
use Rattle.module_units.specs.Reading.{Good, Bad}
use Rattle.export_lists.proofs.slots.source_slot.Goals as goal

pub returns-in-Ok : goal.returns-in-Ok
returns-in-Ok c = record { reading = Good c.in-Ok.unit; reads = c.in-Ok.ensures.unit; slot_is = refl }

pub returns-in-Err-Text : goal.returns-in-Err-Text
returns-in-Err-Text c = record { reading = Bad c.in-Err-Text.line c.in-Err-Text.reason; reads = subst (RefusesFor c.args.project.now c.args.number c.args.text.now) c.in-Err-Text.field-0-is c.in-Err-Text.ensures.refused; slot_is = refl }
