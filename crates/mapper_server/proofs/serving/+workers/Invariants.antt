use Rattle.std.proofs.Common.{◌+◌, ◌*◌, vec_len}
use Rattle.mapper_server.proofs.serving.+workers.Given as goal

abbrev pub decreases-work_all : goal.decreases-work_all
decreases-work_all g l = 3 * vec_len l.halls

abbrev pub decreases-work_beside : goal.decreases-work_beside
decreases-work_beside g l = 3 * vec_len l.halls + 2

abbrev pub decreases-work_beside-join+arg2 : goal.decreases-work_beside-join+arg2
decreases-work_beside-join+arg2 g l = 3 * vec_len l.halls + 1
