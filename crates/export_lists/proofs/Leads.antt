-- What lines lead to: the lines of an interface to that interface, and no others.
use Rattle.std.proofs.Common.{◌≡◌, ℕ, Bool, true, false, List, [], ◌∷◌, ◌++◌, length, map, Option, Some, None, if◌then◌else◌, sym, ap, ◌∙◌, refl, arith, append_assoc}
use Rattle.std.specs.Prelude.{codes, is_some, find, option_and_then}
use Rattle.std.specs.Option.{option_map}
use Rattle.std.specs.Str.{bytes_eq}
use Rattle.std.proofs.lemmas.Bool.{and_parts}
use Rattle.std.proofs.lemmas.Option.{same_Some}
use Rattle.std.proofs.lemmas.List.{append-nil}
use Rattle.std.proofs.lemmas.Slice.Eq.{bytes_eq-Decides}
use Rattle.header_units.specs.Names.{name_kind}
use Rattle.mapper_requests.specs.Requests.{word_at}
use Rattle.module_units.specs.declared.parts.DeclKind.{DeclKind}
use Rattle.module_units.specs.declared.parts.DeclKind.TheVariants.{Struct, Class, Alias, Variable, Function}
use Rattle.export_lists.specs.Entries.{Listed}
use Rattle.export_lists.specs.Lists.{Cmi}
use Rattle.export_lists.specs.Words.{kind_word, Row, entry_row}
use Rattle.export_lists.specs.CmiTexts.{role_word, unit_row, end_row}
use Rattle.export_lists.specs.declared.draft.Draft.{Draft}
use Rattle.export_lists.specs.declared.draft.Draft.TheVariants.{Start, Listing, Over}
use Rattle.export_lists.specs.Drafts.{may_follow, kind_in, role_in, begun, with_exports, with_view, with_kind, next}
use Rattle.export_lists.proofs.Readings.{may_all_follow, MayBeRead, rows_of, led}

-- ---- the lines of an interface lead to it

kind_known : (kind : DeclKind) → kind_in (kind_word kind) ≡ Some kind
kind_known Struct = refl
kind_known Class = refl
kind_known Alias = refl
kind_known Variable = refl
kind_known Function = refl

abbrev listing : List ℕ → Bool → List Listed → List Listed → Draft
listing name interface exports view = Listing (record { unit = name; interface = interface; exports = exports; view = view })

unit_next : (name : List ℕ) (interface : Bool) → is_some (name_kind name) ≡ true → begun (unit_row name interface) ≡ Some (listing name interface [] [])
unit_next name true named = ap (λ (b : Bool). if b then Some (listing name true [] []) else None) named
unit_next name false named = ap (λ (b : Bool). if b then Some (listing name false [] []) else None) named

export_next : (name : List ℕ) (interface : Bool) (done : List Listed) (x : Listed) → may_follow done x ≡ true
    → next (listing name interface done []) (entry_row (codes "export") x) ≡ Some (listing name interface (done ++ x ∷ []) [])
export_next name interface done x may =
    ap (λ (k : Option DeclKind). with_kind (record { unit = name; interface = interface; exports = done; view = [] }) (codes "export") k x.name x.owner) (kind_known x.kind)
    ∙ ap (λ (b : Bool). option_map (with_exports (record { unit = name; interface = interface; exports = done; view = [] })) (if b then Some (done ++ x ∷ []) else None)) may

inner_next : (name : List ℕ) (interface : Bool) (exports done : List Listed) (x : Listed) → may_follow done x ≡ true
    → next (listing name interface exports done) (entry_row (codes "inner") x) ≡ Some (listing name interface exports (done ++ x ∷ []))
inner_next name interface exports done x may =
    ap (λ (k : Option DeclKind). with_kind (record { unit = name; interface = interface; exports = exports; view = done }) (codes "inner") k x.name x.owner) (kind_known x.kind)
    ∙ ap (λ (b : Bool). option_map (with_view (record { unit = name; interface = interface; exports = exports; view = done })) (if b then Some (done ++ x ∷ []) else None)) may

exports_led : (name : List ℕ) (interface : Bool) (done es : List Listed) (tail : List Row) → may_all_follow done es ≡ true
    → led (listing name interface done []) (map (entry_row (codes "export")) es ++ tail) ≡ led (listing name interface (done ++ es) []) tail
exports_led name interface done [] tail may = ap (λ d. led (listing name interface d []) tail) (sym (append-nil done))
exports_led name interface done (x ∷ es) tail may =
    let parts = and_parts (may_follow done x) (may_all_follow (done ++ x ∷ []) es) may in
    ap (λ d. option_and_then (λ after. led after (map (entry_row (codes "export")) es ++ tail)) d) (export_next name interface done x parts.0)
    ∙ exports_led name interface (done ++ x ∷ []) es tail parts.1
    ∙ ap (λ d. led (listing name interface d []) tail) (append_assoc done (x ∷ []) es)

view_led : (name : List ℕ) (interface : Bool) (exports done es : List Listed) (tail : List Row) → may_all_follow done es ≡ true
    → led (listing name interface exports done) (map (entry_row (codes "inner")) es ++ tail) ≡ led (listing name interface exports (done ++ es)) tail
view_led name interface exports done [] tail may = ap (λ d. led (listing name interface exports d) tail) (sym (append-nil done))
view_led name interface exports done (x ∷ es) tail may =
    let parts = and_parts (may_follow done x) (may_all_follow (done ++ x ∷ []) es) may in
    ap (λ d. option_and_then (λ after. led after (map (entry_row (codes "inner")) es ++ tail)) d) (inner_next name interface exports done x parts.0)
    ∙ view_led name interface exports (done ++ x ∷ []) es tail parts.1
    ∙ ap (λ d. led (listing name interface exports d) tail) (append_assoc done (x ∷ []) es)

-- the lines of an interface lead to it
pub complete : (cmi : Cmi) → MayBeRead cmi → led Start (rows_of cmi) ≡ Some (Over cmi)
complete cmi good =
    let entries = map (entry_row (codes "export")) cmi.exports in
    let inner = map (entry_row (codes "inner")) cmi.view in
    ap (λ d. option_and_then (λ after. led after ((entries ++ inner) ++ end_row ∷ [])) d) (unit_next cmi.unit cmi.interface good.named)
    ∙ ap (led (listing cmi.unit cmi.interface [] [])) (append_assoc entries inner (end_row ∷ []))
    ∙ exports_led cmi.unit cmi.interface [] cmi.exports (inner ++ end_row ∷ []) good.exports
    ∙ view_led cmi.unit cmi.interface cmi.exports [] cmi.view (end_row ∷ []) good.view

-- lines lead on from where the first of them led
pub led_more : (draft after : Draft) (rows more : List Row) → led draft rows ≡ Some after → led draft (rows ++ more) ≡ led after more
led_more draft after [] more e = let same : draft ≡ after = cc in ap (λ d. led d more) same
led_more draft after (words ∷ rows) more e = by_next (next draft words) (λ d h. led_more d after rows more h) e
  where
    by_next : (found : Option Draft) → ((d : Draft) → led d rows ≡ Some after → led d (rows ++ more) ≡ led after more)
        → option_and_then (λ d. led d rows) found ≡ Some after → option_and_then (λ d. led d (rows ++ more)) found ≡ led after more
    by_next None rest e = absurd (cc)
    by_next (Some d) rest e = rest d e

-- ---- and no others do

pub same_word : (word other : List ℕ) → bytes_eq word other ≡ true → word ≡ other
same_word word other e = (bytes_eq-Decides word other).0 e

pub one_word : (words : Row) → length words ≡ 1 → words ≡ word_at words 0 ∷ []
one_word [] e = absurd (omega arith)
one_word (a ∷ []) e = refl
one_word (a ∷ b ∷ words) e = absurd (omega arith)

pub two_words : (words : Row) → length words ≡ 2 → words ≡ word_at words 0 ∷ word_at words 1 ∷ []
two_words [] e = absurd (omega arith)
two_words (a ∷ []) e = absurd (omega arith)
two_words (a ∷ b ∷ []) e = refl
two_words (a ∷ b ∷ c ∷ words) e = absurd (omega arith)

pub three_words : (words : Row) → length words ≡ 3 → words ≡ word_at words 0 ∷ word_at words 1 ∷ word_at words 2 ∷ []
three_words [] e = absurd (omega arith)
three_words (a ∷ []) e = absurd (omega arith)
three_words (a ∷ b ∷ []) e = absurd (omega arith)
three_words (a ∷ b ∷ c ∷ []) e = refl
three_words (a ∷ b ∷ c ∷ d ∷ words) e = absurd (omega arith)

pub four_words : (words : Row) → length words ≡ 4 → words ≡ word_at words 0 ∷ word_at words 1 ∷ word_at words 2 ∷ word_at words 3 ∷ []
four_words [] e = absurd (omega arith)
four_words (a ∷ []) e = absurd (omega arith)
four_words (a ∷ b ∷ []) e = absurd (omega arith)
four_words (a ∷ b ∷ c ∷ []) e = absurd (omega arith)
four_words (a ∷ b ∷ c ∷ d ∷ []) e = refl
four_words (a ∷ b ∷ c ∷ d ∷ f ∷ words) e = absurd (omega arith)

-- what is found passes the test
found_passes : {X : Type 0} (test : X → Bool) (xs : List X) (x : X) → find test xs ≡ Some x → test x ≡ true
found_passes test [] x e = absurd (cc)
found_passes test (y ∷ xs) x e = by_test (test y) refl e (found_passes test xs x)
  where
    by_test : (b : Bool) → test y ≡ b → (if b then Some y else find test xs) ≡ Some x → (find test xs ≡ Some x → test x ≡ true) → test x ≡ true
    by_test true is h rest = sym (ap test (same_Some y x h)) ∙ is
    by_test false is h rest = rest h

pub role_is : (word : List ℕ) (interface : Bool) → role_in word ≡ Some interface → word ≡ role_word interface
role_is word interface e = same_word word (role_word interface) (found_passes (λ role. bytes_eq word (role_word role)) (true ∷ false ∷ []) interface e)

pub kind_is : (word : List ℕ) (kind : DeclKind) → kind_in word ≡ Some kind → word ≡ kind_word kind
kind_is word kind e = same_word word (kind_word kind) (found_passes (λ other. bytes_eq word (kind_word other)) (Struct ∷ Class ∷ Alias ∷ Variable ∷ Function ∷ []) kind e)
