use Rattle.std.proofs.Common.{subst}
use Rattle.mapper_commands.specs.Commands.{serve_words}
use Rattle.mapper_commands.specs.Endings.{Tells, output_of, told_by}
use Rattle.mapper_commands.specs.Hosting.{around_of, served, stopped}
use Rattle.mapper_commands.proofs.Hostings.{run_hosts, told_stop}
use Rattle.mapper_commands.proofs.shared.run_shared.Goals as goal

pub returns-in_default-clause-headline : goal.returns-in_default-clause-headline
returns-in_default-clause-headline g c = λ serve project asks has reads faults three. absurd (c.in_default.ensures.none serve asks)

pub returns-in-Ok-clause-headline : goal.returns-in-Ok-clause-headline
returns-in-Ok-clause-headline g c =
    run_hosts (around_of g.O.Hall.Hall.links g.O.Hall.Hall.faults g.O.Hall.Link.Link.octets g.O.Hall.Link.Link.read_faults g.O.Hall.Link.Link.write_faults g.F.Files.content g.F.Files.read_faults g.O.House.stock g.O.House.faults c.args.files.now c.run_serve.new.files c.args.house.now c.run_serve.new.house)
    c.args.words.now (output_of g.K.Sink.written g.K.Sink.faults c.args.out.now c.run_serve.new.out) c.in-Ok.status
    (served (record { serve = serve_words c.in-Some.command; asks = c.in-Some.ensures.asked; so = c.in-Ok.ensures.served }))

pub returns-in-Err-clause-run : goal.returns-in-Err-clause-run
returns-in-Err-clause-run g c =
    stopped (serve_words c.in-Some.command) c.in-Some.ensures.asked
    (told_stop (around_of g.O.Hall.Hall.links g.O.Hall.Hall.faults g.O.Hall.Link.Link.octets g.O.Hall.Link.Link.read_faults g.O.Hall.Link.Link.write_faults g.F.Files.content g.F.Files.read_faults g.O.House.stock g.O.House.faults c.args.files.now c.run_serve.new.files c.args.house.now c.run_serve.new.house)
    (serve_words c.in-Some.command) (told_by c.in-Err.ending) (output_of g.K.Sink.written g.K.Sink.faults c.args.out.now c.tell.new.out) c.tell.result c.in-Err.ensures.stopped
    (subst (λ out. Tells (told_by c.in-Err.ending) (output_of g.K.Sink.written g.K.Sink.faults out c.tell.new.out) c.tell.result) c.in-Err.ensures.silent c.tell.ensures))

pub returns-in-Err-clause-headline : goal.returns-in-Err-clause-headline
returns-in-Err-clause-headline g c =
    run_hosts (around_of g.O.Hall.Hall.links g.O.Hall.Hall.faults g.O.Hall.Link.Link.octets g.O.Hall.Link.Link.read_faults g.O.Hall.Link.Link.write_faults g.F.Files.content g.F.Files.read_faults g.O.House.stock g.O.House.faults c.args.files.now c.run_serve.new.files c.args.house.now c.run_serve.new.house)
    c.args.words.now (output_of g.K.Sink.written g.K.Sink.faults c.args.out.now c.tell.new.out) c.tell.result
    (stopped (serve_words c.in-Some.command) c.in-Some.ensures.asked
    (told_stop (around_of g.O.Hall.Hall.links g.O.Hall.Hall.faults g.O.Hall.Link.Link.octets g.O.Hall.Link.Link.read_faults g.O.Hall.Link.Link.write_faults g.F.Files.content g.F.Files.read_faults g.O.House.stock g.O.House.faults c.args.files.now c.run_serve.new.files c.args.house.now c.run_serve.new.house)
    (serve_words c.in-Some.command) (told_by c.in-Err.ending) (output_of g.K.Sink.written g.K.Sink.faults c.args.out.now c.tell.new.out) c.tell.result c.in-Err.ensures.stopped
    (subst (λ out. Tells (told_by c.in-Err.ending) (output_of g.K.Sink.written g.K.Sink.faults out c.tell.new.out) c.tell.result) c.in-Err.ensures.silent c.tell.ensures)))
