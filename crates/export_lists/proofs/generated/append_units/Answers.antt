use Rattle.std.proofs.Common.{◌++◌, ap, ◌∙◌, add-one, append_assoc}
use Rattle.export_lists.specs.Generated.{module_line, module_lines}
use Rattle.export_lists.proofs.generated.append_units.Goals as goal

pub loop-number-preserved : goal.loop-number-preserved
loop-number-preserved c =
    rw add-one (c.in_ok-append_unit.ensures ∙ ap (λ t. t ++ module_line c.args.folder.now c.loop-number.number) c.loop-number.invariant
    ∙ append_assoc c.args.text.now (module_lines c.args.folder.now c.loop-number.number) (module_line c.args.folder.now c.loop-number.number))
