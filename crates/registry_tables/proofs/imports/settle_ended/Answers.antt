use Rattle.std.proofs.Common.{◌≡◌, None, reverse, take, get_or, sym, subst}
use Rattle.registry_tables.specs.declared.imports.Waiting.{Waiting}
use Rattle.registry_tables.proofs.Settling.{settled_graph, graph_start, graph_step, in_at, newest_more}
use Rattle.registry_tables.proofs.imports.settle_ended.Goals as goal

pub loop-waiter-init : goal.loop-waiter-init
loop-waiter-init c = graph_start c.args.tables.now c.args.graph.now

pub settle_unit-requires : goal.settle_unit-requires
settle_unit-requires c = c.requires _ (in_at c.args.waiting.now c.loop-waiter.waiter-index _ c.loop-waiter-test.true)

pub loop-waiter-preserved : goal.loop-waiter-preserved
loop-waiter-preserved c =
    let d : Waiting = record { place = 0; conn = 0; unit = 0; holder = None } in
    let ws = c.args.waiting.now in
    let i = c.loop-waiter.waiter-index in
    let t = c.args.tables.now in
    subst (λ ys. c.settle_unit.new.graph ≡ settled_graph t ys c.args.graph.now) (sym (newest_more ws i d c.loop-waiter-test.true))
    (graph_step t (get_or ws i d) (reverse (take i ws)) c.args.graph.now c.loop-waiter.graph c.settle_unit.new.graph c.loop-waiter.invariant c.settle_unit.ensures.ended c.settle_unit.ensures.open)
