use Rattle.std.proofs.Common.{◌++◌, ◌∷◌, [], suc, sym, ap, subst, ◌∙◌}
use Rattle.mm_outside.specs.Causes.{Rose}
use Rattle.mapper_commands.specs.ListRuns.{Fit}
use Rattle.mapper_commands.proofs.Gatherings.{fit_built, built_adds}
use Rattle.mapper_commands.proofs.unit_files.add_built.Goals as goal

pub returns-clause-file : goal.returns-clause-file
returns-clause-file g c =
    built_adds (Rose (g.F.Files.read_faults c.args.files.now) (g.F.Files.read_faults c.read_cmi.new.files)) c.args.project.now c.args.unit c.args.gathered.now.sources c.push.new.self c.args.gathered.now.built c.push-2.new.self c.in-Ok.cmi _ _ c.requires.unit c.requires.built
    (c.in_ok-push.ensures.ok ∙ ap (λ text. c.args.gathered.now.sources ++ text ∷ []) c.new.ensures) c.in_ok-push-2.ensures.ok c.in-Ok.ensures.file

pub returns-clause-fit : goal.returns-clause-fit
returns-clause-fit g c =
    subst (λ all. Fit c.args.project.now (suc c.args.unit) all c.push-2.new.self) (sym (c.in_ok-push.ensures.ok ∙ ap (λ text. c.args.gathered.now.sources ++ text ∷ []) c.new.ensures))
    (subst (λ all. Fit c.args.project.now (suc c.args.unit) (c.args.gathered.now.sources ++ [] ∷ []) all) (sym c.in_ok-push-2.ensures.ok)
    (fit_built c.args.project.now c.args.unit c.args.gathered.now.sources c.args.gathered.now.built c.in-Ok.cmi c.requires.unit c.requires.built c.requires.fit))
