-- A draft stands behind the lines that led to it.
use Rattle.std.proofs.Common.{◌≡◌, ℕ, Bool, true, false, ◌&&◌, ◌==◌, List, [], ◌∷◌, ◌++◌, length, map, Option, Some, None, if◌then◌else◌, sym, ap, ◌∙◌, refl, subst, append_assoc}
use Rattle.std.specs.Prelude.{codes, is_some, option_and_then}
use Rattle.std.specs.Option.{option_map}
use Rattle.std.specs.Str.{bytes_eq}
use Rattle.std.proofs.lemmas.Bool.{eqb-true, and_parts}
use Rattle.std.proofs.lemmas.Option.{cond_some}
use Rattle.std.proofs.lemmas.List.{append-nil, map-append, nil_from_length}
use Rattle.header_units.specs.Names.{name_kind}
use Rattle.mapper_requests.specs.Requests.{word_at}
use Rattle.unit_registry.specs.Lines.{is_word}
use Rattle.module_units.specs.declared.parts.DeclKind.{DeclKind}
use Rattle.export_lists.specs.Entries.{Listed}
use Rattle.export_lists.specs.declared.draft.Lists.{Lists}
use Rattle.export_lists.specs.declared.draft.Draft.{Draft}
use Rattle.export_lists.specs.declared.draft.Draft.TheVariants.{Start, Headed, Listing, Over}
use Rattle.export_lists.specs.Drafts.{may_follow, kind_in, role_in, cmi_of, blank, headed, with_role, begun, added, with_exports, with_view, exported, seen, with_entry_line, with_kind, lists_next, next}
use Rattle.export_lists.proofs.Readings.{may_all_follow, MayBeRead, rows_before, led, Stands}
use Rattle.export_lists.specs.CmiTexts.{head_row, unit_row, end_row}
use Rattle.export_lists.specs.Words.{Row, entry_row}
use Rattle.export_lists.proofs.Leads.{same_word, one_word, two_words, three_words, four_words, role_is, kind_is}

-- entries may follow with one that may follow them
follow_more : (before es : List Listed) (x : Listed) → may_all_follow before es ≡ true → may_follow (before ++ es) x ≡ true → may_all_follow before (es ++ x ∷ []) ≡ true
follow_more before [] x all may =
    let here : may_follow before x ≡ true = ap (λ b. may_follow b x) (sym (append-nil before)) ∙ may in
    ap (λ (b : Bool). b && true) here
follow_more before (e ∷ es) x all may =
    let parts = and_parts (may_follow before e) (may_all_follow (before ++ e ∷ []) es) all in
    let rest = follow_more (before ++ e ∷ []) es x parts.1 (ap (λ b. may_follow b x) (append_assoc before (e ∷ []) es) ∙ may) in
    (λ k. parts.0 k && rest k)

added_is : (entries more : List Listed) (x : Listed) → added entries x ≡ Some more → (may_follow entries x ≡ true) × (entries ++ x ∷ [] ≡ more)
added_is entries more x e = cond_some (may_follow entries x) (entries ++ x ∷ []) more e

mapped : {X Y : Type 0} (f : X → Y) (found : Option X) (y : Y) → option_map f found ≡ Some y → (x : X) × (found ≡ Some x) × (f x ≡ y)
mapped f None y e = absurd (cc)
mapped f (Some x) y e = (x, refl, cc)

unless : {X : Type 0} (b : Bool) (found : Option X) (y : X) → (if b then found else None) ≡ Some y → (b ≡ true) × (found ≡ Some y)
unless true found y e = (refl, e)
unless false found y e = absurd (cc)

head_stands : (rows : List Row) (words : Row) (after : Draft) → rows ≡ [] → headed words ≡ Some after → Stands after (rows ++ words ∷ [])
head_stands rows words after none e =
    let found = cond_some (length words == 2 && is_word words 0 (codes "modmap-cmi") && is_word words 1 (codes "1")) Headed after e in
    let outer = and_parts (length words == 2 && is_word words 0 (codes "modmap-cmi")) (is_word words 1 (codes "1")) found.0 in
    let inner = and_parts (length words == 2) (is_word words 0 (codes "modmap-cmi")) outer.0 in
    let zeroth = same_word (word_at words 0) (codes "modmap-cmi") inner.1 in
    let first = same_word (word_at words 1) (codes "1") outer.1 in
    let is : words ≡ head_row = two_words words (eqb-true (length words) 2 inner.0) ∙ (λ k. zeroth k ∷ first k ∷ []) in
    subst (λ d. Stands d (rows ++ words ∷ [])) found.1 (λ k. none k ++ is k ∷ [])

unit_stands : (rows : List Row) (words : Row) (after : Draft) → rows ≡ head_row ∷ [] → begun words ≡ Some after → Stands after (rows ++ words ∷ [])
unit_stands rows words after was e =
    let found = unless (length words == 3 && is_word words 0 (codes "unit")) (with_role (word_at words 1) (role_in (word_at words 2))) after e in
    let inner = and_parts (length words == 3) (is_word words 0 (codes "unit")) found.0 in
    by_role (role_in (word_at words 2)) refl found.1 (same_word (word_at words 0) (codes "unit") inner.1) (three_words words (eqb-true (length words) 3 inner.0))
  where
    by_role : (role : Option Bool) → role_in (word_at words 2) ≡ role → with_role (word_at words 1) role ≡ Some after → word_at words 0 ≡ codes "unit"
        → words ≡ word_at words 0 ∷ word_at words 1 ∷ word_at words 2 ∷ [] → Stands after (rows ++ words ∷ [])
    by_role None is e first three = absurd (cc)
    by_role (Some interface) is e first three =
        let good = cond_some (is_some (name_kind (word_at words 1))) (Listing (blank (word_at words 1) interface)) after e in
        let role = role_is (word_at words 2) interface is in
        let same : words ≡ unit_row (word_at words 1) interface = three ∙ (λ k. first k ∷ word_at words 1 ∷ role k ∷ []) in
        subst (λ d. Stands d (rows ++ words ∷ [])) good.1 (record { named = good.0; exports = refl; view = refl }, (λ k. was k ++ same k ∷ []))

-- the rows with one more behind them
rows_more : (lists : Lists) (x : Listed) → rows_before (cmi_of lists) ++ entry_row (codes "inner") x ∷ [] ≡ head_row ∷ unit_row lists.unit lists.interface ∷ map (entry_row (codes "export")) lists.exports ++ map (entry_row (codes "inner")) (lists.view ++ x ∷ [])
rows_more lists x =
    ap (λ rows. head_row ∷ unit_row lists.unit lists.interface ∷ rows)
    (append_assoc (map (entry_row (codes "export")) lists.exports) (map (entry_row (codes "inner")) lists.view) (entry_row (codes "inner") x ∷ [])
    ∙ ap (λ rows. map (entry_row (codes "export")) lists.exports ++ rows) (sym (map-append (entry_row (codes "inner")) lists.view (x ∷ []))))

export_more : (lists : Lists) (x : Listed) → lists.view ≡ [] → rows_before (cmi_of lists) ++ entry_row (codes "export") x ∷ [] ≡ head_row ∷ unit_row lists.unit lists.interface ∷ map (entry_row (codes "export")) (lists.exports ++ x ∷ []) ++ map (entry_row (codes "inner")) lists.view
export_more lists x none =
    ap (λ rows. head_row ∷ unit_row lists.unit lists.interface ∷ rows)
    (ap (λ (v : List Listed). (map (entry_row (codes "export")) lists.exports ++ map (entry_row (codes "inner")) v) ++ entry_row (codes "export") x ∷ []) none
    ∙ ap (λ rows. rows ++ entry_row (codes "export") x ∷ []) (append-nil (map (entry_row (codes "export")) lists.exports))
    ∙ sym (map-append (entry_row (codes "export")) lists.exports (x ∷ []))
    ∙ sym (append-nil (map (entry_row (codes "export")) (lists.exports ++ x ∷ [])))
    ∙ ap (λ (v : List Listed). map (entry_row (codes "export")) (lists.exports ++ x ∷ []) ++ map (entry_row (codes "inner")) v) (sym none))

entry_stands : (lists : Lists) (rows : List Row) (first : List ℕ) (x : Listed) (after : Draft) → MayBeRead (cmi_of lists) → rows ≡ rows_before (cmi_of lists)
    → with_entry_line lists first x ≡ Some after → Stands after (rows ++ entry_row first x ∷ [])
entry_stands lists rows first x after good was e = by_first (bytes_eq first (codes "export")) (bytes_eq first (codes "inner")) refl refl e
  where
    export_stands : first ≡ codes "export" → exported lists x ≡ Some after → Stands after (rows ++ entry_row first x ∷ [])
    export_stands is e =
        let none = unless (length lists.view == 0) (option_map (with_exports lists) (added lists.exports x)) after e in
        let made = mapped (with_exports lists) (added lists.exports x) after none.1 in
        let more = added_is lists.exports made.0 x made.1 in
        subst (λ d. Stands d (rows ++ entry_row first x ∷ [])) (ap (with_exports lists) more.1 ∙ made.2) (
          record { named = good.named; exports = follow_more [] lists.exports x good.exports more.0; view = good.view },
          (λ k. was k ++ entry_row (is k) x ∷ []) ∙ export_more lists x (nil_from_length lists.view (eqb-true (length lists.view) 0 none.0)),
        )

    inner_stands : first ≡ codes "inner" → seen lists x ≡ Some after → Stands after (rows ++ entry_row first x ∷ [])
    inner_stands is e =
        let made = mapped (with_view lists) (added lists.view x) after e in
        let more = added_is lists.view made.0 x made.1 in
        subst (λ d. Stands d (rows ++ entry_row first x ∷ [])) (ap (with_view lists) more.1 ∙ made.2) (
          record { named = good.named; exports = good.exports; view = follow_more [] lists.view x good.view more.0 },
          (λ k. was k ++ entry_row (is k) x ∷ []) ∙ rows_more lists x,
        )

    by_first : (b c : Bool) → bytes_eq first (codes "export") ≡ b → bytes_eq first (codes "inner") ≡ c
        → (if b then exported lists x else if c then seen lists x else None) ≡ Some after → Stands after (rows ++ entry_row first x ∷ [])
    by_first true c is other e = export_stands (same_word first (codes "export") is) e
    by_first false true is other e = inner_stands (same_word first (codes "inner") other) e
    by_first false false is other e = absurd (cc)

lists_stand : (lists : Lists) (rows : List Row) (words : Row) (after : Draft) → MayBeRead (cmi_of lists) → rows ≡ rows_before (cmi_of lists)
    → lists_next lists words ≡ Some after → Stands after (rows ++ words ∷ [])
lists_stand lists rows words after good was e = by_count (length words == 4) (length words == 1 && is_word words 0 (codes "end")) refl refl e
  where
    by_kind : (kind : Option DeclKind) → kind_in (word_at words 1) ≡ kind → words ≡ word_at words 0 ∷ word_at words 1 ∷ word_at words 2 ∷ word_at words 3 ∷ []
        → with_kind lists (word_at words 0) kind (word_at words 2) (word_at words 3) ≡ Some after → Stands after (rows ++ words ∷ [])
    by_kind None is four e = absurd (cc)
    by_kind (Some kind) is four e =
        let x : Listed = record { kind = kind; name = word_at words 2; owner = word_at words 3 } in
        let word = kind_is (word_at words 1) kind is in
        let same : words ≡ entry_row (word_at words 0) x = four ∙ (λ k. word_at words 0 ∷ word k ∷ word_at words 2 ∷ word_at words 3 ∷ []) in
        subst (λ ws. Stands after (rows ++ ws ∷ [])) (sym same) (entry_stands lists rows (word_at words 0) x after good was e)

    by_count : (b c : Bool) → (length words == 4) ≡ b → (length words == 1 && is_word words 0 (codes "end")) ≡ c
        → (if b then with_kind lists (word_at words 0) (kind_in (word_at words 1)) (word_at words 2) (word_at words 3) else if c then Some (Over (cmi_of lists)) else None) ≡ Some after
        → Stands after (rows ++ words ∷ [])
    by_count true c is other e = by_kind (kind_in (word_at words 1)) refl (four_words words (eqb-true (length words) 4 is)) e
    by_count false true is other e =
        let inner = and_parts (length words == 1) (is_word words 0 (codes "end")) other in
        let end = same_word (word_at words 0) (codes "end") inner.1 in
        let last : words ≡ end_row = one_word words (eqb-true (length words) 1 inner.0) ∙ (λ k. end k ∷ []) in
        let done : Over (cmi_of lists) ≡ after = cc in
        subst (λ d. Stands d (rows ++ words ∷ [])) done (good, (λ k. was k ++ last k ∷ []))
    by_count false false is other e = absurd (cc)

-- one line more
pub step_stands : (draft after : Draft) (rows : List Row) (words : Row) → Stands draft rows → next draft words ≡ Some after → Stands after (rows ++ words ∷ [])
step_stands Start after rows words h e = head_stands rows words after h e
step_stands Headed after rows words h e = unit_stands rows words after h e
step_stands (Listing lists) after rows words h e = lists_stand lists rows words after h.0 h.1 e
step_stands (Over cmi) after rows words h e = absurd (cc)

led_stands : (draft after : Draft) (rows more : List Row) → Stands draft rows → led draft more ≡ Some after → Stands after (rows ++ more)
led_stands draft after rows [] h e =
    let same : draft ≡ after = cc in
    subst (λ d. Stands d (rows ++ [])) same (subst (λ rs. Stands draft rs) (sym (append-nil rows)) h)
led_stands draft after rows (words ∷ more) h e =
    by_next (next draft words) refl (λ d is k. led_stands d after (rows ++ words ∷ []) more (step_stands draft d rows words h is) k) e
  where
    by_next : (found : Option Draft) → next draft words ≡ found
        → ((d : Draft) → next draft words ≡ Some d → led d more ≡ Some after → Stands after ((rows ++ words ∷ []) ++ more))
        → option_and_then (λ d. led d more) found ≡ Some after → Stands after (rows ++ words ∷ more)
    by_next None is rest e = absurd (cc)
    by_next (Some d) is rest e = subst (λ rs. Stands after rs) (append_assoc rows (words ∷ []) more) (rest d is e)

-- the lines that led to a draft are those behind which it stands
pub stands : (rows : List Row) (draft : Draft) → led Start rows ≡ Some draft → Stands draft rows
stands rows draft e = led_stands Start draft [] rows refl e
