use Rattle.std.proofs.Common.{Some, sym, ap, rules, ◌∙◌, arith}
use Rattle.mm_outside.specs.declared.errors.Failed.{Failed}
use Rattle.mapper_commands.proofs.Fronts.{none_yet, sources_more, sources_stop}
use Rattle.mapper_commands.proofs.generator.write_sources.Goals as goal

pub loop-number-init : goal.loop-number-init
loop-number-init g c = record { written = none_yet c.args.folder.now c.args.sources.now _; write_faults = search rules; read_faults = search rules; room = search rules }

pub loop-number-preserved : goal.loop-number-preserved
loop-number-preserved g c = record {
  written = sources_more (Unit {0}) Failed c.args.folder.now c.args.sources.now c.loop-number.number c.octets-text.result.now tt _ _ _ (omega arith) (omega arith) (c.get.ensures ∙ ap Some (sym c.octets-text.ensures)) c.loop-number.invariant.written c.in-Ok.ensures.content;
  write_faults = c.in-Ok.ensures.cause.kept ∙ c.loop-number.invariant.write_faults;
  read_faults = c.in-Ok.ensures.read_faults ∙ c.loop-number.invariant.read_faults;
  room = c.in-Ok.ensures.room ∙ c.loop-number.invariant.room;
}

pub returns-in_default-clause-content : goal.returns-in_default-clause-content
returns-in_default-clause-content g c =
    sources_stop (Unit {0}) Failed c.args.folder.now c.args.sources.now c.loop-number.number c.octets-text.result.now c.in_default.field-0 _ _ _ (omega arith) (omega arith) (c.get.ensures ∙ ap Some (sym c.octets-text.ensures)) c.loop-number.invariant.written c.in_default.ensures.content
