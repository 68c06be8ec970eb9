use Rattle.std.proofs.Common.{◌≡◌, refl, rules, subst}
use Rattle.mm_outside.specs.Told.{Told}
use Rattle.mm_outside.proofs.ToldLemmas.{Told-same}
use Rattle.mapper_server.specs.Printing.{Prints}
use Rattle.mapper_commands.specs.Endings.{OutOfMemory, RisesOnlyOver, message_of, told_by}
use Rattle.mapper_commands.specs.Running.{no_memory}
use Rattle.mapper_commands.proofs.PrintLemmas.{ends_as, ends_told}
use Rattle.mapper_commands.proofs.alone.run_pipe.Goals as goal

pub returns-in_default-clause-run : goal.returns-in_default-clause-run
returns-in_default-clause-run g c = ends_as OutOfMemory (no_memory (record { files = Told-same (λ x. refl); link = refl }) refl) (no_memory (record { files = Told-same (λ x. refl); link = refl }) refl) c.tell_memory.ensures

pub returns-clause-run : goal.returns-clause-run
returns-clause-run g c =
    let same : c.octets.result.now ≡ message_of (told_by c.serve_project-ending.result) = search rules in
    ends_told c.serve_project-ending.result _ c.status.ensures
    (subst (λ text. Told (Prints text (g.K.Sink.faults c.args.out.now) (g.K.Sink.faults c.print_text.new.out)) (g.K.Sink.written c.args.out.now) (g.K.Sink.written c.print_text.new.out)) same c.print_text.ensures.written)
    (subst (λ text. RisesOnlyOver text (g.K.Sink.faults c.args.out.now) (g.K.Sink.faults c.print_text.new.out)) same c.print_text.ensures.cause)
    c.serve_project-ending.ensures.pipes
