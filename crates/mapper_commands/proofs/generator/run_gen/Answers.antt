use Rattle.std.proofs.Common.{refl, subst}
use Rattle.mm_outside.specs.Told.{Told}
use Rattle.mapper_commands.specs.Endings.{WriteFailed}
use Rattle.mapper_commands.specs.Generating.{StopsWithin, files_of, write_stopped}
use Rattle.mapper_commands.proofs.generator.run_gen.Goals as goal

pub returns-in_default-write_files-clause-run : goal.returns-in_default-write_files-clause-run
returns-in_default-write_files-clause-run g c =
    record {
      ending = WriteFailed;
      status_is = refl;
      spoken = c.print_text.ensures.written;
      cause = c.print_text.ensures.cause;
      so = write_stopped
          (subst (λ made. Told (StopsWithin (files_of c.args.folder.now made)) (g.F.Files.content c.args.files.now) (g.F.Files.content c.write_files.new.files)) c.in-Ok-generate.ensures c.in_default-write_files.ensures.content)
          c.in_default-write_files.ensures.cause.failed refl;
    }
