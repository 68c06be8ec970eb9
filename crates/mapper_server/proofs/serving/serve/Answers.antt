use Rattle.std.proofs.Common.{vec_len}
use Rattle.mapper_server.proofs.Completes.{result_whole}
use Rattle.mapper_server.proofs.serving.serve.Goals as goal

pub returns-clause-complete : goal.returns-clause-complete
returns-clause-complete g c =
    result_whole g.H.Hall.links g.H.Hall.faults g.H.Link.Link.octets g.H.Link.Link.read_faults g.H.Link.Link.write_faults (λ s. s.halls.items) (λ s. s.status) (λ s. s.entries) c.args.project.now (vec_len c.args.halls) c.args.entries c.args.halls.items (g.K.Sink.faults c.args.out.now)
    (g.K.Sink.faults c.serve_halls.new.out) (g.K.Sink.written c.args.out.now) (g.K.Sink.written c.serve_halls.new.out) c.serve_halls.result c.serve_halls.ensures.headline
