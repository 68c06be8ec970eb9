-- The tables after one more entry.
use Rattle.std.proofs.Common.{◌≡◌, ◌≢◌, ℕ, ◌<◌, Bool, true, false, ◌||◌, ◌&&◌, inl, inr, List, ◌∷◌, length, get_or, set, Option, Some, None, is_some, refl, sym, ap, subst, ◌∙◌, arith, get_or-set_same, get_or-set_other, length-set, eq-eqb, ne_eqb}
use Rattle.std.proofs.lemmas.Bool.{cases_eq, cond-true, cond-false}
use Rattle.std.specs.Prelude.{if◌then◌else◌}
use Rattle.std.specs.List.{list_any}
use Rattle.unit_registry.specs.declared.act.Act.{Act}
use Rattle.unit_registry.specs.declared.act.Act.TheVariants.{Hello, Export, Compiled}
use Rattle.histories.specs.declared.answered.Answered.{Answered}
use Rattle.unit_registry.specs.Acts.{names, hello_of, unit_of, is_export_of, is_compiled_of, goes}
use Rattle.histories.specs.Answered.{is_accepted}
use Rattle.histories.specs.Answered.{takes, accepted_hello, who_by, who, is_exported, is_reported, has_gone}
use Rattle.registry_tables.specs.declared.conn_rows.ConnRow.{ConnRow}
use Rattle.registry_tables.specs.declared.tables.UnitRow.{UnitRow}
use Rattle.registry_tables.specs.Tabled.{UnitRows, ConnRows, IsUnitRow, IsConnRow, unit_row_after, conn_row_after}

pub conn_row-own : (row : ConnRow) (answered : List Answered) (e : Answered) → IsConnRow row answered e.conn → IsConnRow (conn_row_after row e) (e ∷ answered) e.conn
conn_row-own row answered e r = record {
  who = ap (λ w. if is_some (accepted_hello e) then who_by (accepted_hello e) else w) r.who ∙ ap (λ b. if b && is_some (accepted_hello e) then who_by (accepted_hello e) else who answered e.conn) (sym (eq-eqb e.conn e.conn refl));
  paused = sym (cond-true _ _ _ (eq-eqb e.conn e.conn refl));
  gone = ap (λ b. goes e.act || b) r.gone ∙ ap (λ b. (b && goes e.act) || has_gone answered e.conn) (sym (eq-eqb e.conn e.conn refl));
}

pub conn_row-other : (row : ConnRow) (answered : List Answered) (e : Answered) (conn : ℕ) → e.conn ≢ conn → IsConnRow row answered conn → IsConnRow row (e ∷ answered) conn
conn_row-other row answered e conn other r = record {
  who = r.who ∙ ap (λ b. if b && is_some (accepted_hello e) then who_by (accepted_hello e) else who answered conn) (sym (ne_eqb e.conn conn other));
  paused = r.paused ∙ sym (cond-false _ _ _ (ne_eqb e.conn conn other));
  gone = r.gone ∙ ap (λ b. (b && goes e.act) || has_gone answered conn) (sym (ne_eqb e.conn conn other));
}

pub unit_row-own : (row : UnitRow) (answered : List Answered) (e : Answered) (unit : ℕ) → IsUnitRow row answered unit → IsUnitRow (unit_row_after row unit e) (e ∷ answered) unit
unit_row-own row answered e unit r = record {
  holder = ap (λ o. if takes unit e then Some e.conn else o) r.holder;
  exported = ap (λ b. (is_accepted e.said && is_export_of unit e.act) || b) r.exported;
  reported = ap (λ b. (is_accepted e.said && is_compiled_of unit e.act) || b) r.reported;
}

-- an act that doesn't name the unit says nothing of it
record SaysNothing (e : Answered) (unit : ℕ) : Type 0 where
  takes_not : takes unit e ≡ false
  export_not : is_export_of unit e.act ≡ false
  compiled_not : is_compiled_of unit e.act ≡ false

names_not : (named : Option ℕ) (unit : ℕ) → named ≢ Some unit → names named unit ≡ false
names_not None unit other = refl
names_not (Some u) unit other = ne_eqb u unit (λ e. other (ap (λ x. Some x) e))

takes_by : (accepted : Bool) (hello : Option (Option ℕ)) (unit : ℕ) → ((named : Option ℕ) → hello ≡ Some named → names named unit ≡ false) → Rattle.std.specs.Option.option_map_or (λ named. names named unit) (if accepted then hello else None) false ≡ false
takes_by false hello unit h = refl
takes_by true None unit h = refl
takes_by true (Some named) unit h = h named refl

says_nothing : (e : Answered) (unit : ℕ) → unit_of e.act ≢ Some unit → SaysNothing e unit
says_nothing e unit other = record {
  takes_not = takes_by (is_accepted e.said) (hello_of e.act) unit (hello e.act other);
  export_not = export e.act other;
  compiled_not = compiled e.act other;
}
  where
    hello : (act : Act) → unit_of act ≢ Some unit → (named : Option ℕ) → hello_of act ≡ Some named → names named unit ≡ false
    hello (Hello version u) other named h = let s : u ≡ named = cc in subst (λ n. names n unit ≡ false) s (names_not u unit other)
    hello act other named h = absurd (cc)

    export : (act : Act) → unit_of act ≢ Some unit → is_export_of unit act ≡ false
    export (Export u) other = names_not u unit other
    export act other = refl

    compiled : (act : Act) → unit_of act ≢ Some unit → is_compiled_of unit act ≡ false
    compiled (Compiled u stored) other = names_not u unit other
    compiled act other = refl

and_false : (a b : Bool) → b ≡ false → (a && b) ≡ false
and_false true b h = h
and_false false b h = refl

pub unit_row-other : (row : UnitRow) (answered : List Answered) (e : Answered) (unit : ℕ) → unit_of e.act ≢ Some unit → IsUnitRow row answered unit → IsUnitRow row (e ∷ answered) unit
unit_row-other row answered e unit other r =
    let n = says_nothing e unit other in
    record {
      holder = r.holder ∙ sym (cond-false _ _ _ n.takes_not);
      exported = r.exported ∙ ap (λ b. b || is_exported answered unit) (sym (and_false (is_accepted e.said) _ n.export_not));
      reported = r.reported ∙ ap (λ b. b || is_reported answered unit) (sym (and_false (is_accepted e.said) _ n.compiled_not));
    }

-- the rows of all connections
conns_rows : (conns : List ConnRow) (answered : List Answered) (e : Answered) (d : ConnRow) → e.conn < length conns → ((k : ℕ) (d : ConnRow) → k < length conns → IsConnRow (get_or conns k d) answered k) → (k : ℕ) (d' : ConnRow) → k < length conns → IsConnRow (get_or (set conns e.conn (conn_row_after (get_or conns e.conn d) e)) k d') (e ∷ answered) k
conns_rows conns answered e d below rows k d' within =
    elim (cases_eq k e.conn) [
      | inl same ↦ subst (λ x. IsConnRow (get_or (set conns e.conn (conn_row_after (get_or conns e.conn d) e)) x d') (e ∷ answered) x) (sym same) (subst (λ r. IsConnRow r (e ∷ answered) e.conn) (sym (get_or-set_same conns e.conn (conn_row_after (get_or conns e.conn d) e) d' below)) (conn_row-own (get_or conns e.conn d) answered e (rows e.conn d below)))
      | inr other ↦ subst (λ r. IsConnRow r (e ∷ answered) k) (sym (get_or-set_other conns e.conn k (conn_row_after (get_or conns e.conn d) e) d' other)) (conn_row-other (get_or conns k d') answered e k (λ s. other (sym s)) (rows k d' within))
    ]

-- the rows of all units
units_named_rows : (units : List UnitRow) (answered : List Answered) (e : Answered) (unit : ℕ) (d : UnitRow) → unit_of e.act ≡ Some unit → unit < length units → ((k : ℕ) (d : UnitRow) → k < length units → IsUnitRow (get_or units k d) answered k) → (k : ℕ) (d' : UnitRow) → k < length units → IsUnitRow (get_or (set units unit (unit_row_after (get_or units unit d) unit e)) k d') (e ∷ answered) k
units_named_rows units answered e unit d names_it below rows k d' within =
    elim (cases_eq k unit) [
      | inl same ↦ subst (λ x. IsUnitRow (get_or (set units unit (unit_row_after (get_or units unit d) unit e)) x d') (e ∷ answered) x) (sym same) (subst (λ r. IsUnitRow r (e ∷ answered) unit) (sym (get_or-set_same units unit (unit_row_after (get_or units unit d) unit e) d' below)) (unit_row-own (get_or units unit d) answered e unit (rows unit d below)))
      | inr other ↦ subst (λ r. IsUnitRow r (e ∷ answered) k) (sym (get_or-set_other units unit k (unit_row_after (get_or units unit d) unit e) d' other)) (unit_row-other (get_or units k d') answered e k (λ s. other (let q : Some unit ≡ Some k = sym names_it ∙ s in cc)) (rows k d' within))
    ]

units_unnamed_rows : (units : List UnitRow) (answered : List Answered) (e : Answered) → unit_of e.act ≡ None → ((k : ℕ) (d : UnitRow) → k < length units → IsUnitRow (get_or units k d) answered k) → (k : ℕ) (d' : UnitRow) → k < length units → IsUnitRow (get_or units k d') (e ∷ answered) k
units_unnamed_rows units answered e names_none rows k d' within =
    unit_row-other (get_or units k d') answered e k (λ s. let q : None ≡ Some k = sym names_none ∙ s in cc) (rows k d' within)

pub conns_after : (conns : List ConnRow) (answered : List Answered) (e : Answered) (d : ConnRow) (row : ConnRow) → e.conn < length conns → row ≡ conn_row_after (get_or conns e.conn d) e → ConnRows conns answered → ConnRows (set conns e.conn row) (e ∷ answered)
conns_after conns answered e d row below is rows = record { row = λ k d' within. subst (λ r. IsConnRow (get_or (set conns e.conn r) k d') (e ∷ answered) k) (sym is) (conns_rows conns answered e d below rows.row k d' (let l : length (set conns e.conn row) ≡ length conns = length-set conns e.conn row in omega arith)) }

pub units_named : (units : List UnitRow) (answered : List Answered) (e : Answered) (unit : ℕ) (d : UnitRow) (row : UnitRow) → unit_of e.act ≡ Some unit → unit < length units → row ≡ unit_row_after (get_or units unit d) unit e → UnitRows units answered → UnitRows (set units unit row) (e ∷ answered)
units_named units answered e unit d row names_it below is rows = record { row = λ k d' within. subst (λ r. IsUnitRow (get_or (set units unit r) k d') (e ∷ answered) k) (sym is) (units_named_rows units answered e unit d names_it below rows.row k d' (let l : length (set units unit row) ≡ length units = length-set units unit row in omega arith)) }

pub units_unnamed : (units : List UnitRow) (answered : List Answered) (e : Answered) → unit_of e.act ≡ None → UnitRows units answered → UnitRows units (e ∷ answered)
units_unnamed units answered e names_none rows = record { row = units_unnamed_rows units answered e names_none rows.row }
