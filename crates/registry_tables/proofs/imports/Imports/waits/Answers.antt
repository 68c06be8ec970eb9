use Rattle.std.proofs.Common.{◌∙◌, ◌==◌, not, get_or, sym, ap, ℕ, List}
use Rattle.std.specs.List.{list_any}
use Rattle.registry_tables.specs.declared.imports.Waiting.{Waiting}
use Rattle.registry_tables.specs.Imported.{Imported}
use Rattle.registry_tables.proofs.Counted.{any_counted}
use Rattle.registry_tables.proofs.Scanning.{any_reversed}
use Rattle.registry_tables.proofs.imports.Imports.waits.Goals as goal

pub returns : goal.returns
returns c =
    ap (λ (n : ℕ). not (n == 0)) (c.count_at.ensures ∙ ap (λ (xs : List ℕ). get_or xs c.args.conn 0) c.deref.ensures.value ∙ c.self.invariant.counted c.args.conn)
    ∙ any_counted c.self.inside.waiting.items c.args.conn
    ∙ sym (any_reversed (λ (w : Waiting). w.conn == c.args.conn) c.self.inside.waiting.items)
    ∙ ap (λ (i : Imported). list_any (λ w. w.conn == c.args.conn) i.waiting) c.self.view_is
