use Rattle.std.proofs.Common.{◌≡◌, ◌<◌, ◌∷◌, List, length, get_or, sym, ap, subst, ◌∙◌, arith}
use Rattle.registry_tables.specs.declared.conn_rows.ConnRow.{ConnRow}
use Rattle.registry_tables.specs.Tabled.{ConnRows, conn_row_after, empty_row, padded}
use Rattle.registry_tables.proofs.Padding.{length-padded, padded-row, padded-set}
use Rattle.registry_tables.proofs.Tabling.{conns_after}
use Rattle.registry_tables.proofs.conn_rows.ConnTable.note.Goals as goal

pub returns-clause-rows : goal.returns-clause-rows
returns-clause-rows c answered was =
    let written = c.write_up_to.new.rows.items in
    let room = c.self.inside.room in
    let conn = c.args.newest.conn in
    let same : padded written room ≡ c.args.self.now = c.write_up_to.ensures.same ∙ c.self.view_is in
    let before : ConnRows (padded written room) answered = subst (λ (rows : List ConnRow). ConnRows rows answered) (sym same) was in
    let below : conn < length (padded written room) = omega (arith, length-padded written room c.write_up_to.ensures.few, c.write_up_to.ensures.written, c.write_up_to.ensures.few) in
    let row = conn_row_after (get_or written conn empty_row) c.args.newest in
    let is : row ≡ conn_row_after (get_or (padded written room) conn empty_row) c.args.newest = ap (λ (r : ConnRow). conn_row_after r c.args.newest) (sym (padded-row written room conn c.write_up_to.ensures.written)) in
    subst (λ (rows : List ConnRow). ConnRows rows (c.args.newest ∷ answered))
    (sym (ap (λ (rows : List ConnRow). padded rows room) c.note_in_rows.ensures.rows ∙ padded-set written room conn row c.write_up_to.ensures.written))
    (conns_after (padded written room) answered c.args.newest empty_row row below is before)
