use Rattle.mapper_server.proofs.Returning.{leaves_then}
use Rattle.registry_core.proofs.Desks.{adds_go_on}
use Rattle.histories.specs.Entries.{no_connection}
use Rattle.registry_core.specs.Ledgers.{entry}
use Rattle.unit_registry.specs.declared.act.Act.TheVariants as act
use Rattle.mapper_server.proofs.Working.{works_done}
use Rattle.mapper_server.proofs.worker.work.Goals as goal

pub returns-clause-works : goal.returns-clause-works
returns-clause-works g c =
    let adds = c.done.ensures.done in
    works_done g.H.Link.Link.octets g.H.Link.Link.read_faults g.H.Link.Link.write_faults g.H.Hall.links g.H.Hall.faults g.H.Hall.counts (g.D.Desk.tells c.serve_all-status.new.desk) (g.D.Desk.tells c.done.new.self) adds.0 c.args.hall.now c.serve_all-status.new.hall c.serve_all-status.result c.serve_all-status.ensures.sound c.done.ensures.sound adds.1 c.serve_all-status.ensures.works

pub returns-clause-others : goal.returns-clause-others
returns-clause-others g c =
    let adds = c.done.ensures.done in
    leaves_then (g.D.Desk.tells c.args.desk.now) (g.D.Desk.tells c.serve_all-status.new.desk) (g.D.Desk.tells c.done.new.self) c.requires.bare c.serve_all-status.ensures.others (adds_go_on (g.D.Desk.tells c.serve_all-status.new.desk) (g.D.Desk.tells c.done.new.self) (entry no_connection act.Done) adds.0 adds.1)
