use Rattle.unit_registry.specs.Projects.{unit_count}
use Rattle.std.proofs.Common.{ap}
use Rattle.registry_tables.proofs.Settling.{in_at}
use Rattle.registry_tables.proofs.stalls.give_up.Goals as goal

pub has_gone-requires : goal.has_gone-requires
has_gone-requires c = rw (ap (λ t. t.room) c.loop-waiter.invariant.same) (c.requires.conns _ (in_at c.args.waiting.now c.loop-waiter.waiter-index _ c.loop-waiter-test.true))

pub is_free-requires : goal.is_free-requires
is_free-requires c = rw (ap (λ t. unit_count t.project) c.loop-waiter.invariant.same) (c.requires.units _ (in_at c.args.waiting.now c.loop-waiter.waiter-index _ c.loop-waiter-test.true))

pub give_up-requires : goal.give_up-requires
give_up-requires c = rw (ap (λ t. unit_count t.project) c.loop-waiter.invariant.same) (c.requires.units _ (in_at c.args.waiting.now c.loop-waiter.waiter-index _ c.loop-waiter-test.true))
