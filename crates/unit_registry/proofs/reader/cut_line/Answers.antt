use Rattle.std.proofs.Common.{ap, ◌∙◌}
use Rattle.unit_registry.specs.Lines.{lines_of}
use Rattle.unit_registry.proofs.Cuts.{lines_of-found, lines_of-none}
use Rattle.unit_registry.proofs.reader.cut_line.Goals as goal

pub returns-in-Some-clause-lines : goal.returns-in-Some-clause-lines
returns-in-Some-clause-lines c =
    ap lines_of c.in-Some.ensures.whole ∙ lines_of-found c.in-Some.line.now c.in-Some.behind.now c.in-Some.ensures.front

pub returns-in-None-clause-lines : goal.returns-in-None-clause-lines
returns-in-None-clause-lines c = lines_of-none c.args.octets.now c.in-None.ensures.none c.requires
