use Rattle.std.proofs.Common.{length, ap, arith}
use Rattle.client_core.specs.Scripts.{imports_in}
use Rattle.client_core.proofs.client.Client.import_path.Goals as goal

pub overflow_add-paths_before : goal.overflow_add-paths_before
overflow_add-paths_before c =
    let within = c.requires.within in
    let few = c.paths_before.ensures.few in
    let same = ap (λ s. length (imports_in s.task.reading)) c.self.view_is in
    omega (arith, within, few, same)
