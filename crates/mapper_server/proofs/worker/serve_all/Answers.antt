use Rattle.std.proofs.Common.{refl, ap, ◌∙◌, arith}
use Rattle.mm_outside.specs.Hall.{Accepts, Links}
use Rattle.mm_outside.specs.declared.hall.Accepted.TheVariants.{Link}
use Rattle.mm_outside.proofs.ToldLemmas.{Told-same, Told-then}
use Rattle.mapper_server.specs.Workers.{GivesBackOne}
use Rattle.mapper_server.proofs.Leasts.{less_serves, none_serves}
use Rattle.mapper_server.proofs.Returning.{leaves_further, leaves_same, none_own}
use Rattle.mapper_server.proofs.Working.{worked_more, worked_none, works_failed, works_out}
use Rattle.mapper_server.proofs.worker.serve_all.Goals as goal

pub loop-init : goal.loop-init
loop-init g c = record {
  project = c.requires.project;
  loose = c.requires.loose;
  turn = c.requires.turn;
  sound = c.requires.sound;
  worker = c.requires.worker;
  others = leaves_same (g.D.Desk.tells c.args.desk.now);
  opened = refl;
  dones = refl;
  kind = none_serves;
  returned = record { as_many = omega arith };
  given = c.requires.given;
  faults = refl;
  worked = Told-same (λ x. worked_none g.H.Link.Link.octets g.H.Link.Link.read_faults g.H.Link.Link.write_faults (g.D.Desk.tells c.args.desk.now).seen (g.D.Desk.tells c.args.desk.now).connections x c.requires.bare);
}

pub loop-preserved : goal.loop-preserved
loop-preserved g c =
    let inv = c.loop.invariant in
    let next = c.serve_next-next.ensures in
    let opened = next.opened in
    let dones = next.dones in
    let share = next.others.stays.share in
    let worker = inv.worker in
    let given = inv.given in
    let one_given = ap (λ n. n.given) c.in-Link.ensures.counts in
    let same_back = ap (λ n. n.back) c.in-Link.ensures.counts in
    let one_back = ap (λ n. n.back) next.counts in
    let same_given = ap (λ n. n.given) next.counts in
    record {
      project = next.others.stays.project ∙ inv.project;
      loose = next.others.stays.metered ∙ inv.loose;
      turn = next.turn;
      sound = next.sound;
      worker = omega (arith, opened, dones, share, worker);
      others = leaves_further (g.D.Desk.tells c.args.desk.now) (g.D.Desk.tells c.loop.desk) (g.D.Desk.tells c.serve_next-next.new.desk) (λ conn own. absurd (none_own (g.D.Desk.tells c.args.desk.now).connections conn c.requires.bare own)) inv.others next.others;
      opened = next.opened ∙ inv.opened;
      dones = next.dones ∙ inv.dones;
      kind = less_serves c.loop.status c.serve_next-next.result c.less_of-status.result c.less_of-status.ensures inv.kind next.kind;
      returned = record { as_many = (let returned = inv.returned.as_many in omega (arith, returned, one_given, same_back, one_back, same_given)) };
      given = omega (arith, given, one_given, same_back, one_back, same_given);
      faults = next.faults ∙ c.in-Link.ensures.cause.kept ∙ inv.faults;
      worked = rw c.less_of-status.ensures
          (Told-then (λ a b d h both. worked_more g.H.Link.Link.octets g.H.Link.Link.read_faults g.H.Link.Link.write_faults (g.D.Desk.tells c.loop.desk) (g.D.Desk.tells c.serve_next-next.new.desk) next.others next.sound c.loop.status c.serve_next-next.result c.in-Link.link a b both.0 d h both.1 both.2) inv.worked
          (Told-then {Q = λ (b d : Links g.row.H-Link.Denot). (m : Links g.row.H-Link.Denot) × Accepts (Link c.in-Link.link) b m × GivesBackOne g.H.Link.Link.octets g.H.Link.Link.read_faults g.H.Link.Link.write_faults (g.D.Desk.tells c.loop.desk) (g.D.Desk.tells c.serve_next-next.new.desk) c.in-Link.link c.serve_next-next.result m d}
          (λ b m d accepts gives. (m, accepts, gives)) c.in-Link.ensures.links next.back));
    }

pub returns-in-NoMore-clause-works : goal.returns-in-NoMore-clause-works
returns-in-NoMore-clause-works g c =
    works_out g.H.Link.Link.octets g.H.Link.Link.read_faults g.H.Link.Link.write_faults g.H.Hall.links g.H.Hall.faults g.H.Hall.counts (g.D.Desk.tells c.loop.desk).seen (g.D.Desk.tells c.loop.desk).connections c.loop.status c.args.hall.now c.loop.hall c.accept.new.self c.loop.invariant.worked c.loop.invariant.faults (record { as_many = (let returned = c.loop.invariant.returned.as_many in let given = ap (λ n. n.given) c.in-NoMore.ensures.counts in let back = ap (λ n. n.back) c.in-NoMore.ensures.counts in omega (arith, returned, given, back)) }) c.loop.invariant.kind c.in-NoMore.ensures.links c.in-NoMore.ensures.cause.kept

pub returns-in-Failed-clause-works : goal.returns-in-Failed-clause-works
returns-in-Failed-clause-works g c =
    rw c.less_of.ensures
    (works_failed g.H.Link.Link.octets g.H.Link.Link.read_faults g.H.Link.Link.write_faults g.H.Hall.links g.H.Hall.faults g.H.Hall.counts (g.D.Desk.tells c.loop.desk).seen (g.D.Desk.tells c.loop.desk).connections c.loop.status c.args.hall.now c.loop.hall c.accept.new.self c.loop.invariant.worked c.loop.invariant.faults (record { as_many = (let returned = c.loop.invariant.returned.as_many in let given = ap (λ n. n.given) c.in-Failed.ensures.counts in let back = ap (λ n. n.back) c.in-Failed.ensures.counts in omega (arith, returned, given, back)) }) c.loop.invariant.kind c.in-Failed.ensures.links c.in-Failed.ensures.cause.failed)
