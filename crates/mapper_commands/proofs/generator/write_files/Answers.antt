use Rattle.std.proofs.Common.{Ok, Err, subst}
use Rattle.mm_outside.specs.Files.{Stores}
use Rattle.mm_outside.specs.Told.{Told}
use Rattle.mm_outside.specs.declared.errors.Failed.{Failed}
use Rattle.mapper_commands.specs.Generating.{project_name}
use Rattle.mapper_commands.proofs.Fronts.{files_then, files_stop}
use Rattle.mapper_commands.proofs.generator.write_files.Goals as goal

pub returns-in_default-clause-content : goal.returns-in_default-clause-content
returns-in_default-clause-content g c =
    files_stop (Unit {0}) Failed c.args.folder.now c.args.made.now c.in_default.field-0 _ _
    (subst (λ text. Told (Stores {T = Unit {0}} {E = Failed} (Err c.in_default.field-0) (project_name c.args.folder.now) text) (g.F.Files.content c.args.files.now) (g.F.Files.content c.write_project.new.files)) c.octets.ensures c.in_default.ensures.content)

pub returns-clause-content : goal.returns-clause-content
returns-clause-content g c =
    files_then (Unit {0}) Failed c.args.folder.now c.args.made.now c.write_sources.result tt _ _ _
    (subst (λ text. Told (Stores {T = Unit {0}} {E = Failed} (Ok tt) (project_name c.args.folder.now) text) (g.F.Files.content c.args.files.now) (g.F.Files.content c.write_project.new.files)) c.octets.ensures c.in-Ok.ensures.content)
    c.write_sources.ensures.content
