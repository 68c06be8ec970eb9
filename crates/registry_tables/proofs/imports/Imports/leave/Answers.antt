use Rattle.std.proofs.Common.{◌∙◌, ◌&&◌, ◌==◌, not, filter, List, ap, sym}
use Rattle.registry_tables.specs.declared.imports.Waiting.{Waiting}
use Rattle.registry_tables.specs.Imported.{Imported}
use Rattle.registry_tables.proofs.Settling.{pass_all}
use Rattle.registry_tables.proofs.imports.Imports.leave.Goals as goal

abbrev with_waiting : Imported → List Waiting → Imported
with_waiting i ws = record i { waiting = ws }

pub returns-else-goes : goal.returns-else-goes
returns-else-goes c =
    ap (λ (ws : List Waiting). with_waiting c.args.self.now ws) (pass_all c.args.self.now.waiting ∙ ap (λ b. filter (λ (w : Waiting). not (b && w.conn == c.args.newest.conn)) c.args.self.now.waiting) (sym (sym c.goes.ensures ∙ c.if-goes.false)))
