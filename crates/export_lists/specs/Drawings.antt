-- Working definitions of the drawing of imports.
use Rattle.export_lists.specs.declared.draws.Drawing.{Drawing as Kept}
use Rattle.export_lists.specs.Generated.{Drawing}

-- what is seen of a drawing
abbrev pub seen : Kept → Drawing
seen drawing = record { state = drawing.state; links = drawing.links.items }
