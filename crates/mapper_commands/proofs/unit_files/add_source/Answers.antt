use Rattle.std.proofs.Common.{suc, sym, subst}
use Rattle.mm_outside.specs.Causes.{Rose}
use Rattle.mapper_commands.specs.ListRuns.{Fit}
use Rattle.mapper_commands.proofs.Gatherings.{fit_source, source_adds}
use Rattle.mapper_commands.proofs.unit_files.add_source.Goals as goal

pub returns-clause-file : goal.returns-clause-file
returns-clause-file g c =
    source_adds (Rose (g.F.Files.read_faults c.args.files.now) (g.F.Files.read_faults c.read_source.new.files)) c.args.project.now c.args.unit c.args.gathered.now.sources c.push.new.self c.args.gathered.now.built c.in-Ok.text _ _ c.requires.unit c.requires.source c.in_ok-push.ensures.ok c.in-Ok.ensures.file

pub returns-clause-fit : goal.returns-clause-fit
returns-clause-fit g c =
    subst (λ all. Fit c.args.project.now (suc c.args.unit) all c.args.gathered.now.built) (sym c.in_ok-push.ensures.ok)
    (fit_source c.args.project.now c.args.unit c.args.gathered.now.sources c.args.gathered.now.built c.in-Ok.text c.requires.unit c.requires.source c.in-Ok.ensures.bound c.requires.fit)
