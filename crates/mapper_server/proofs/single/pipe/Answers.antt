use Rattle.std.proofs.Common.{sym, ap, subst, ◌∙◌, true≢false}
use Rattle.std.specs.Option.{is_some}
use Rattle.mm_outside.specs.Told.{Told}
use Rattle.connection_core.specs.Serving.{ServesAlone}
use Rattle.mapper_server.specs.Serving.{FillsUp}
use Rattle.mapper_server.proofs.Unhindered.{unhindered_closes}
use Rattle.mapper_server.proofs.single.pipe.Goals as goal

pub new-requires-3-clause-built : goal.new-requires-3-clause-built
new-requires-3-clause-built g c = λ unit h. absurd (true≢false (sym h ∙ ap (λ o. is_some o) (c.new-2.ensures unit)))

pub serve_alone-requires-clause-anew : goal.serve_alone-requires-clause-anew
serve_alone-requires-clause-anew g c = record {
  stands = c.in_ok-session.ensures.stands c.args.project.now;
  going = c.in_ok-session.ensures.going;
  idle = c.in_ok-session.ensures.idle;
  no_item = c.in_ok-session.ensures.stash;
  conn_is = c.in_ok-session.ensures.conn;
}

pub returns-clause-served : goal.returns-clause-served
returns-clause-served g c =
    subst (λ limit. Told (ServesAlone c.args.project.now limit c.serve_alone.result) (g.L.Link.octets c.args.link.now) (g.L.Link.octets c.serve_alone.new.link)) (ap (λ book. book.ledger.limit) (c.new-desk.ensures.book ∙ c.in_ok-book.ensures))
    c.serve_alone.ensures.served

pub returns-clause-full : goal.returns-clause-full
returns-clause-full g c = subst (λ limit. FillsUp c.serve_alone.result limit) (ap (λ book. book.ledger.limit) (c.new-desk.ensures.book ∙ c.in_ok-book.ensures)) c.serve_alone.ensures.full

pub returns-clause-complete : goal.returns-clause-complete
returns-clause-complete g c = λ none.
    unhindered_closes c.args.project.now c.args.entries c.serve_alone.result (g.L.Link.octets c.args.link.now) (g.L.Link.octets c.serve_alone.new.link) _ _ _ _ none c.serve_alone.ensures.causes (returns-clause-served g c)
