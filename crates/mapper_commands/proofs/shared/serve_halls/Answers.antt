use Rattle.std.proofs.Common.{◌≡◌, ◌+◌, ℕ, refl, sym, ap, subst, ◌∙◌}
use Rattle.mapper_server.specs.Complete.{NothingHinders}
use Rattle.std.specs.Prelude.{vec_len}
use Rattle.mapper_server.specs.Headline.{GivesNoMore}
use Rattle.mapper_server.proofs.Halls.{each_length}
use Rattle.mapper_commands.proofs.shared.serve_halls.Goals as goal

pub returns-in-Ok-clause-served : goal.returns-in-Ok-clause-served
returns-in-Ok-clause-served g c =
    let found = c.in-Ok.ensures.headline in
    record {
      back = c.in-Ok.served.halls.items;
      history = found.0;
      history_is = record { project_is = found.1.project_is; workers_is = found.1.workers_is ∙ c.args.halls.ok.0; limit_is = found.1.limit_is; count_is = refl };
      serves = found.2;
      complete = λ none. c.in-Ok.ensures.complete (subst (λ (n : ℕ). NothingHinders g.O.Hall.Hall.links g.O.Hall.Hall.faults g.O.Hall.Link.Link.octets g.O.Hall.Link.Link.read_faults g.O.Hall.Link.Link.write_faults c.args.project.now n c.args.entries c.args.halls.items c.in-Ok.served.halls.items (g.K.Sink.faults c.args.out.now) (g.K.Sink.faults c.serve.new.out)) (sym c.args.halls.ok.0) none);
      taken_back = c.take_back.ensures.stock;
    }

pub returns-in-Ok-clause-counts : goal.returns-in-Ok-clause-counts
returns-in-Ok-clause-counts g c =
    let found = c.in-Ok.ensures.headline in
    let as_many : vec_len c.in-Ok.served.halls ≡ vec_len c.args.halls = c.in-Ok.served.halls.ok.0 ∙ sym (each_length (GivesNoMore g.O.Hall.Hall.links g.O.Hall.Hall.faults) c.args.halls.items c.in-Ok.served.halls.items found.2.used_up) ∙ sym c.args.halls.ok.0 in
    c.take_back.ensures.counts ∙ ap (λ (n : ℕ). record (g.O.House.counts c.args.house.now) { taken_back = (g.O.House.counts c.args.house.now).taken_back + n }) as_many
