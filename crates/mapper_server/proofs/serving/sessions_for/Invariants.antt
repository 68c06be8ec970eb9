use Rattle.std.proofs.Common.{◌≡◌, vec_len}
use Rattle.std.specs.Vec.{vec_capacity}
use Rattle.mapper_server.proofs.serving.sessions_for.Given as goal

abbrev pub invariant-loop-made : goal.invariant-loop-made
invariant-loop-made l = (vec_len l.sessions ≡ l._made) × (vec_capacity l.sessions ≡ l.workers)
