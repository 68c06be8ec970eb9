use Rattle.std.proofs.Common.{arith, sym, ◌∙◌}
use Rattle.export_lists.proofs.Listings.{built_inside, built_slot, short_source, source_slots}
use Rattle.export_lists.proofs.slots.first_slot.Goals as goal

pub bounds-built-place : goal.bounds-built-place
bounds-built-place c =
    let inside = built_inside c.args.project.now c.args.number c.requires.number (sym c.is_built.ensures ∙ c.if-is_built.true) in
    let place = c.requires.place in
    let count = c.requires.built in
    omega arith

pub source_slot-requires : goal.source_slot-requires
source_slot-requires c = record {
  number = c.requires.number;
  short = short_source 2147483648 c.args.sources.now c.args.number c.index-sources-number.result c.octets.result.now c.requires.short (let n = c.requires.number in let m = c.requires.sources in omega arith) c.index-sources-number.is c.octets.ensures;
}

pub returns-then-is_built : goal.returns-then-is_built
returns-then-is_built c =
    built_slot c.args.project.now c.args.sources.now c.args.built.now c.args.number c.args.place c.index-built-place.result c.in_ok-cmi.cmi
    c.requires.number c.requires.built c.requires.place (sym c.is_built.ensures ∙ c.if-is_built.true) c.index-built-place.is c.in_ok-cmi.ensures

pub returns : goal.returns
returns c =
    source_slots c.args.project.now c.args.sources.now c.args.built.now c.args.number c.index-sources-number.result c.octets.result.now c.source_slot.result
    c.requires.number c.requires.sources (sym c.is_built.ensures ∙ c.if-is_built.false) c.index-sources-number.is c.octets.ensures c.source_slot.ensures
