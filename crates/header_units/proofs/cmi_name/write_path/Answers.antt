use Rattle.header_units.proofs.Paths.{written_more, written_last}
use Rattle.header_units.proofs.cmi_name.write_path.Goals as goal

pub loop-part-preserved : goal.loop-part-preserved
loop-part-preserved c =
    written_more _ _ c.in-Some.part.now c.in-Some.behind.now _ _ _ _ c.in-Some.ensures.found c.in-Some.ensures.front c.in-Some.ensures.back c.loop-part.invariant c.write_component.ensures.text c.write_component.ensures.room c.push.ensures

pub returns-clause-text : goal.returns-clause-text
returns-clause-text c = written_last _ _ _ _ _ c.in_default.ensures.none c.loop-part.invariant c.write_component-2.ensures.text
