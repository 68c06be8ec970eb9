use Rattle.std.proofs.Common.{refl}
use Rattle.mm_outside.proofs.ToldLemmas.{Told-map}
use Rattle.mapper_server.proofs.Leasts.{end_serves, nine_serves}
use Rattle.mapper_server.proofs.Working.{gives_away, gives_served}
use Rattle.mapper_server.proofs.worker.serve_next.Goals as goal

pub returns-clause-kind : goal.returns-clause-kind
returns-clause-kind g c = end_serves c.in-Some.served.how c.conn_status-status.result c.conn_status-status.ensures

pub returns-in_default-clause-kind : goal.returns-in_default-clause-kind
returns-in_default-clause-kind g c = nine_serves

pub returns-clause-back : goal.returns-clause-back
returns-clause-back g c =
    let is = c.in-Some.ensures in
    Told-map (gives_served g.H.Link.Link.octets g.H.Link.Link.read_faults g.H.Link.Link.write_faults (g.D.Desk.tells c.args.desk.now) (g.D.Desk.tells c.serve_link.new.desk) c.args.link c.serve_link.new.link c.in-Some.served.conn c.in-Some.served.how c.conn_status-status.result c.conn_status-status.ensures is.served is.causes is.was_full is.room is.numbered is.own) c.give_back-2.ensures.links

pub returns-in_default-clause-back : goal.returns-in_default-clause-back
returns-in_default-clause-back g c =
    let is = c.in_default.ensures in
    Told-map (gives_away g.H.Link.Link.octets g.H.Link.Link.read_faults g.H.Link.Link.write_faults (g.D.Desk.tells c.args.desk.now) (g.D.Desk.tells c.serve_link.new.desk) c.args.link c.serve_link.new.link (is.untouched refl) (is.refused refl) (is.looked refl).connections) c.give_back.ensures.links
