use Rattle.std.proofs.Common.{◌≡◌, inl, inr, refl, rules, subst}
use Rattle.mm_outside.specs.Told.{Told}
use Rattle.mapper_server.specs.Printing.{Prints}
use Rattle.mapper_commands.specs.Endings.{OutOfMemory, RisesOnlyOver, message_of, told_by}
use Rattle.mapper_commands.proofs.PrintLemmas.{ends_as, ends_told}
use Rattle.mapper_commands.proofs.telling.tell.Goals as goal

pub returns-in_default : goal.returns-in_default
returns-in_default g c = ends_as OutOfMemory (inr refl) (inr refl) c.tell_memory.ensures

pub returns : goal.returns
returns g c =
    let same : c.octets.result.now ≡ message_of (told_by c.args.ending) = search rules in
    ends_told c.args.ending _ c.status.ensures
    (subst (λ text. Told (Prints text (g.K.Sink.faults c.args.out.now) (g.K.Sink.faults c.print_text.new.out)) (g.K.Sink.written c.args.out.now) (g.K.Sink.written c.print_text.new.out)) same c.print_text.ensures.written)
    (subst (λ text. RisesOnlyOver text (g.K.Sink.faults c.args.out.now) (g.K.Sink.faults c.print_text.new.out)) same c.print_text.ensures.cause)
    (inl refl)
