use Rattle.std.proofs.Common.{◌++◌, ◌∷◌, [], ◌∙◌, ap, sym}
use Rattle.export_lists.proofs.Loops.{taken}
use Rattle.export_lists.proofs.copies.copy_list.Goals as goal

pub loop-k-preserved : goal.loop-k-preserved
loop-k-preserved c =
    c.in_ok-append_copy.ensures ∙ ap (λ l. l ++ c.get.result.now ∷ []) c.loop-k.invariant ∙ sym (taken c.args.entries.now c.loop-k.k c.get.result.now c.get.ensures)
