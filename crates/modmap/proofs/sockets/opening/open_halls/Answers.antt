use Rattle.std.proofs.Common.{◌≤◌, ◌+◌, All, sym, ap, subst, ◌∙◌}
use Rattle.std.proofs.lemmas.List.Elements.{All-push}
use Rattle.modmap.specs.Sockets.{IsReady}
use Rattle.modmap.proofs.sockets.opening.open_halls.Goals as goal

pub loop-added-preserved : goal.loop-added-preserved
loop-added-preserved g c = record {
  len = c.push_reserved.ensures.len ∙ ap (λ n. n + 1) c.loop-added.invariant.len;
  room = subst (λ n. c.args.workers ≤ n) (sym c.push_reserved.ensures.capacity) c.loop-added.invariant.room;
  workers = c.loop-added.invariant.workers;
  ready = subst (All (IsReady c.args.links)) (sym c.push_reserved.ensures.items) (All-push (IsReady c.args.links) _ _ c.loop-added.invariant.ready c.in-Some-another.ensures);
  last = c.new-last.ensures;
}

pub returns-clause-ready : goal.returns-clause-ready
returns-clause-ready g c = subst (All (IsReady c.args.links)) (sym c.push_reserved-2.ensures.items) (All-push (IsReady c.args.links) _ _ c.loop-added.invariant.ready c.new-last.ensures)
