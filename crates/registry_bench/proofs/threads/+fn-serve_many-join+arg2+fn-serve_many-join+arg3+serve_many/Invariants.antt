use Rattle.std.proofs.Common.{◌+◌, ◌*◌}
use Rattle.registry_bench.proofs.threads.+fn-serve_many-join+arg2+fn-serve_many-join+arg3+serve_many.Given as goal

abbrev pub decreases-join+arg2 : goal.decreases-join+arg2
decreases-join+arg2 g l = 2 * l.rest + 1

abbrev pub decreases-join+arg3 : goal.decreases-join+arg3
decreases-join+arg3 g l = 2 * l.half + 1

abbrev pub decreases-serve_many : goal.decreases-serve_many
decreases-serve_many g l = 2 * l.threads
