use Rattle.std.proofs.Common.{Err, subst}
use Rattle.mm_outside.specs.Files.{Finds}
use Rattle.mm_outside.specs.Told.{Told}
use Rattle.mapper_commands.proofs.Gatherings.{told_too_long}
use Rattle.mapper_commands.proofs.unit_files.read_file.Goals as goal

pub returns-in-Err-TooLong-clause-file : goal.returns-in-Err-TooLong-clause-file
returns-in-Err-TooLong-clause-file g c =
    told_too_long _ c.args.name.now c.args.most _ _
    (subst (λ error. Told (Finds (Err error) c.args.name.now c.args.most) (g.F.Files.content c.args.files.now) (g.F.Files.content c.read_all.new.self)) c.in-Err-TooLong.field-0-is c.in-Err-TooLong.ensures.content)
