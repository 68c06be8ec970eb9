use Rattle.std.proofs.Common.{rules, ◌≡◌, ◌<◌, ◌+◌, List, length, ap, ◌∙◌, arith}
use Rattle.std.proofs.lemmas.List.{length_push}
use Rattle.registry_tables.specs.declared.conn_rows.ConnRow.{ConnRow}
use Rattle.registry_tables.specs.Tabled.{empty_row, padded}
use Rattle.registry_tables.proofs.Padding.{padded-push}
use Rattle.registry_tables.proofs.conn_rows.write_up_to.Goals as goal

pub loop-rows-preserved : goal.loop-rows-preserved
loop-rows-preserved c =
    let lt : length c.loop-rows.rows.items < c.args.room = search rules in
    let more : length c.push_reserved.new.self.items ≡ length c.loop-rows.rows.items + 1 = ap length c.push_reserved.ensures.items ∙ length_push c.loop-rows.rows.items empty_row in
    record {
      few = omega arith;
      same = ap (λ (rows : List ConnRow). padded rows c.args.room) c.push_reserved.ensures.items ∙ padded-push c.loop-rows.rows.items c.args.room lt ∙ c.loop-rows.invariant.same;
      capacity = c.push_reserved.ensures.capacity ∙ c.loop-rows.invariant.capacity;
    }
