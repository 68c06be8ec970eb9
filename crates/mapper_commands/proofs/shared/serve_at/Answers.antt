use Rattle.std.proofs.Common.{◌∙◌}
use Rattle.mapper_commands.specs.Commands.{serve_words}
use Rattle.mapper_commands.specs.Endings.{output_of}
use Rattle.mapper_commands.proofs.Hostings.{hosts_so}
use Rattle.mapper_commands.proofs.shared.serve_at.Goals as goal

pub returns-in-Ok-serve_halls-clause-served : goal.returns-in-Ok-serve_halls-clause-served
returns-in-Ok-serve_halls-clause-served g c = record {
  status_is = c.in-Ok-serve_halls.ensures.kind;
  faults_kept = c.serve_halls.ensures.faults ∙ c.in-Ok.ensures.cause.kept;
  hosts = hosts_so g.O.Hall.Hall.links g.O.Hall.Hall.faults g.O.Hall.Link.Link.octets g.O.Hall.Link.Link.read_faults g.O.Hall.Link.Link.write_faults c.args.project.now (serve_words c.args.command.now) c.in-Ok.halls (output_of g.K.Sink.written g.K.Sink.faults c.args.out.now c.serve_halls.new.out) c.in-Ok-serve_halls.status (g.O.House.stock c.args.house.now) (g.O.House.stock c.bind.new.self) (g.O.House.stock c.serve_halls.new.house)
      c.in-Ok.ensures.workers c.in-Ok.ensures.stock c.in-Ok-serve_halls.ensures.served;
}
