use Rattle.unit_registry.specs.Projects.{unit_count}
use Rattle.std.proofs.Common.{true, ◌^◌, vec_capacity, ◌≡◌, ◌<◌, ◌+◌, ◌∷◌, length, IfSome, false, reverse, rules, ap, ◌∙◌, sym, arith, subst}
use Rattle.std.proofs.lemmas.List.{length-reverse, length_push}
use Rattle.unit_registry.specs.Acts.{is_done, unit_of, is_open_act}
use Rattle.histories.specs.Answered.{open_count}
use Rattle.registry_tables.specs.Tabled.{Tabled}
use Rattle.registry_tables.proofs.Openings.{reverse_push, holder_within, opens_no_done, held_within}
use Rattle.registry_tables.proofs.tables.Tables.push.Goals as goal

pub note_open-requires : goal.note_open-requires
note_open-requires c opens =
    let seats : open_count (reverse c.self.inside.answered.items) < vec_capacity c.self.inside.open = subst (λ (t : Tabled). is_open_act c.args.newest.act ≡ true → open_count t.answered < t.seats) (sym c.self.view_is) c.requires.seats opens in
    let listed : length (reverse c.self.inside.open.items) ≡ open_count (reverse c.self.inside.answered.items) = ap length c.self.invariant.open_is in
    let turned : length (reverse c.self.inside.open.items) ≡ length c.self.inside.open.items = length-reverse c.self.inside.open.items in
    omega arith

pub invariant_of-self : goal.invariant_of-self
invariant_of-self c =
    let now : reverse c.push_reserved.new.self.items ≡ c.args.newest ∷ reverse c.self.inside.answered.items = ap reverse c.push_reserved.ensures.items ∙ reverse_push c.self.inside.answered.items c.args.newest in
    let conn : is_done c.args.newest.act ≡ false → c.args.newest.conn < length c.self.inside.conns = subst (λ (t : Tabled). is_done c.args.newest.act ≡ false → c.args.newest.conn < t.room) (sym c.self.view_is) c.requires.conn in
    record {
      open_within = rw c.note.ensures.len (c.note_open.ensures.within (length c.self.inside.conns) (λ s. conn (opens_no_done c.args.newest.act s)) c.self.invariant.open_within);
      unit_rows = rw now (c.note_in_units.ensures.rows (reverse c.self.inside.answered.items) c.self.invariant.unit_rows);
      conn_rows = rw now (c.note.ensures.rows (reverse c.self.inside.answered.items) c.self.invariant.conn_rows);
      open_is = rw now (c.note_open.ensures.open (reverse c.self.inside.answered.items) c.self.invariant.open_is (search rules));
      opened_is = rw now (c.opened_after-self-inside.ensures.opened (reverse c.self.inside.answered.items) c.self.invariant.opened_is);
      done_is = rw now (c.done_after-self-inside.ensures.done (reverse c.self.inside.answered.items) c.self.invariant.done_is);
      holders = rw now (holder_within c.args.newest (reverse c.self.inside.answered.items) _ (rw c.note.ensures.len conn) (rw c.note.ensures.len c.self.invariant.holders));
      held_within = rw now (held_within c.args.newest (reverse c.self.inside.answered.items) (unit_count c.self.inside.project.value) (subst (λ (t : Tabled). IfSome (unit_of c.args.newest.act) (λ u. u < unit_count t.project)) (sym c.self.view_is) c.requires.unit) c.self.invariant.held_within);
      built_is = c.self.invariant.built_is;
      open_few = search rules;
      opened_few = search rules;
      done_few = search rules;
      units_len = search rules;
      given_len = search rules;
      built_len = search rules;
      small = (let before : length (reverse c.self.inside.answered.items) + 1 < 2 ^ 31 = subst (λ (t : Tabled). length t.answered + 1 < 2 ^ 31) (sym c.self.view_is) c.requires.small in let more : length c.push_reserved.new.self.items ≡ length c.self.inside.answered.items + 1 = ap length c.push_reserved.ensures.items ∙ length_push c.self.inside.answered.items c.args.newest in let turned : length (reverse c.self.inside.answered.items) ≡ length c.self.inside.answered.items = length-reverse c.self.inside.answered.items in omega arith);
    }
