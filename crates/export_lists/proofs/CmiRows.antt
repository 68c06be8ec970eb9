-- The lines of an interface, and reading them.
use Rattle.std.proofs.Common.{◌≡◌, ◌≢◌, ℕ, suc, ◌+◌, ◌≤◌, Bool, true, false, List, [], ◌∷◌, ◌++◌, length, map, Option, Some, None, sym, ap, ◌∙◌, refl, subst, arith, append_assoc, length-append, add-one}
use Rattle.std.specs.Prelude.{codes, is_some, option_and_then, Result, Ok, Err, IfOk, IfErr}
use Rattle.std.specs.List.{AllByRecursion}
use Rattle.std.proofs.lemmas.Grind.{flat_map-append}
use Rattle.std.proofs.lemmas.Bool.{and_parts}
use Rattle.std.proofs.lemmas.List.{append-nil}
use Rattle.cody_words.specs.Octets.{newline}
use Rattle.cody_words.specs.Lines.{longest_line}
use Rattle.cody_words.specs.Canonical.{canonical_text, spaced, line_room}
use Rattle.cody_words.proofs.Written.{room_end}
use Rattle.header_units.specs.declared.name.NameKind.{NameKind}
use Rattle.header_units.specs.Names as names
use Rattle.header_units.specs.Names.{is_identifier}
use Rattle.header_units.specs.Octets as octets
use Rattle.header_units.proofs.Forms as forms
use Rattle.module_units.specs.declared.parts.DeclKind.{DeclKind}
use Rattle.module_units.specs.declared.parts.DeclKind.TheVariants.{Struct, Class, Alias, Variable, Function}
use Rattle.export_lists.specs.Entries.{Listed}
use Rattle.export_lists.specs.Lists.{Cmi}
use Rattle.export_lists.specs.Words.{kind_word, line_of, entry_line, entry_lines, Row, entry_row}
use Rattle.export_lists.specs.CmiTexts.{role_word, cmi_text, owns, is_owner, is_good_entry, head_row, unit_row, end_row}
use Rattle.export_lists.specs.CmiFaults.{IsCmiText, first_lines, BeginsAsOne, IsFaultyLine, TellsCmiFault}
use Rattle.export_lists.specs.declared.cmi_error.CmiError.{CmiError}
use Rattle.export_lists.specs.declared.cmi_error.CmiError.TheVariants as errors
use Rattle.export_lists.specs.declared.draft.Draft.{Draft}
use Rattle.export_lists.specs.declared.draft.Draft.TheVariants.{Start, Headed, Listing, Over}
use Rattle.export_lists.specs.Drafts.{may_follow, IsRow, IsLine, cmi_of, next, EndsSo}
use Rattle.export_lists.proofs.Readings.{may_all_follow, MayBeRead, rows_of, text_of, led, HasRead, Stands}
use Rattle.export_lists.proofs.GoodLists.{may_be_read, is_good}
use Rattle.export_lists.proofs.RowTexts.{Clean, first_none, first_line, not_clean, not_empty, line_then, row_first, rows_first, behind}
use Rattle.export_lists.proofs.Leads.{complete, led_more}
use Rattle.export_lists.proofs.Standing.{stands}

-- ---- the text of an interface is that of its lines

entries_text : (first : List ℕ) (es : List Listed) → text_of (map (entry_row first) es) ≡ entry_lines first es
entries_text first [] = refl
entries_text first (e ∷ es) = ap (λ t. entry_line first e ++ t) (entries_text first es)

five_parts : (a b c d e : List ℕ) → a ++ b ++ c ++ d ++ e ≡ a ++ (b ++ (c ++ (d ++ e)))
five_parts a b c d e =
    append_assoc (a ++ b ++ c) d e ∙ append_assoc (a ++ b) c (d ++ e) ∙ append_assoc a b (c ++ (d ++ e))

pub text_is : (cmi : Cmi) → cmi_text cmi ≡ text_of (rows_of cmi)
text_is cmi =
    let exports = map (entry_row (codes "export")) cmi.exports in
    let inner = map (entry_row (codes "inner")) cmi.view in
    five_parts (line_of head_row) (line_of (unit_row cmi.unit cmi.interface)) (entry_lines (codes "export") cmi.exports) (entry_lines (codes "inner") cmi.view) (line_of end_row)
    ∙ sym (ap (λ t. line_of head_row ++ (line_of (unit_row cmi.unit cmi.interface) ++ t))
    (ap text_of (append_assoc exports inner (end_row ∷ []))
    ∙ flat_map-append line_of exports (inner ++ end_row ∷ [])
    ∙ (λ k. entries_text (codes "export") cmi.exports k ++ flat_map-append line_of inner (end_row ∷ []) k)
    ∙ (λ k. entry_lines (codes "export") cmi.exports ++ (entries_text (codes "inner") cmi.view k ++ append-nil (line_of end_row) k))))

-- ---- its lines aren't too long

fits : (words : Row) → words ≢ [] → line_room words ≤ longest_line → IsRow words
fits words some room = record { some = some; short = omega (arith, room_end words, length-append (spaced words) []) }

name_short : (name : List ℕ) → is_some (names.name_kind name) ≡ true → length name ≤ 512
name_short name e = by_kind (names.name_kind name) refl e
  where
    by_kind : (found : Option NameKind) → names.name_kind name ≡ found → is_some found ≡ true → length name ≤ 512
    by_kind None is e = absurd (cc)
    by_kind (Some kind) is e = (forms.kind_is kind name is).short

owner_short : (name : List ℕ) → is_owner name ≡ true → length name ≤ 512
owner_short name e = by_kind (names.name_kind name) refl e
  where
    by_kind : (found : Option NameKind) → names.name_kind name ≡ found → owns found ≡ true → length name ≤ 512
    by_kind None is e = absurd (cc)
    by_kind (Some kind) is e = (forms.kind_is kind name is).short

kind_short : (kind : DeclKind) → length (kind_word kind) ≤ 8
kind_short Struct = omega arith
kind_short Class = omega arith
kind_short Alias = omega arith
kind_short Variable = omega arith
kind_short Function = omega arith

role_short : (interface : Bool) → length (role_word interface) ≤ 14
role_short true = omega arith
role_short false = omega arith

entry_fits : (first : List ℕ) (before : List Listed) (e : Listed) → length first ≤ 6 → may_follow before e ≡ true → IsRow (entry_row first e)
entry_fits first before e short may =
    let good = and_parts (is_good_entry e.name e.owner) _ may in
    let parts = and_parts (is_identifier e.name) (is_owner e.owner) good.0 in
    let name : length e.name ≤ 255 = (forms.identifier_is e.name parts.0).short in
    fits (entry_row first e) (λ no. cc) (omega (arith, short, kind_short e.kind, name, owner_short e.owner parts.1))

entries_fit : (first : List ℕ) (before es : List Listed) → length first ≤ 6 → may_all_follow before es ≡ true → AllByRecursion IsRow (map (entry_row first) es)
entries_fit first before [] short may = tt
entries_fit first before (e ∷ es) short may =
    let parts = and_parts (may_follow before e) (may_all_follow (before ++ e ∷ []) es) may in
    (entry_fits first before e short parts.0, entries_fit first (before ++ e ∷ []) es short parts.1)

pub all_more : {X : Type 0} (P : X → Type 0) (xs ys : List X) → AllByRecursion P xs → AllByRecursion P ys → AllByRecursion P (xs ++ ys)
all_more P [] ys a b = b
all_more P (x ∷ xs) ys a b = (a.0, all_more P xs ys a.1 b)

pub rows_fit : (cmi : Cmi) → MayBeRead cmi → AllByRecursion IsRow (rows_of cmi)
rows_fit cmi good =
    let exports = map (entry_row (codes "export")) cmi.exports in
    let inner = map (entry_row (codes "inner")) cmi.view in
    let last : AllByRecursion IsRow (end_row ∷ []) = (fits end_row (λ no. cc) (omega arith), tt) in
    let entries = all_more IsRow exports inner (entries_fit (codes "export") [] cmi.exports (omega arith) good.exports) (entries_fit (codes "inner") [] cmi.view (omega arith) good.view) in (
      fits head_row (λ no. cc) (omega arith),
      (
        fits (unit_row cmi.unit cmi.interface) (λ no. cc) (omega (arith, name_short cmi.unit good.named, role_short cmi.interface)),
        all_more IsRow (exports ++ inner) (end_row ∷ []) entries last,
      ),
    )

-- ---- reading

abbrev sample : Cmi
sample = record { unit = codes "a"; interface = false; exports = []; view = [] }

sample_good : MayBeRead sample
unfolding names.name_kind octets.is_letter octets.is_letter_or_digit
sample_good = record { named = refl; exports = refl; view = refl }

-- a text begins as one of an interface that has the lines that were read
begins_with : (text rest : List ℕ) (rows more : List Row) (cmi : Cmi) → MayBeRead cmi → text ≡ text_of rows ++ rest → rows_of cmi ≡ rows ++ more → BeginsAsOne text (length rows)
begins_with text rest rows more cmi good whole same = record {
  cmi = cmi;
  good = is_good cmi good;
  same =
      ap (first_lines (length rows)) (text_is cmi ∙ ap text_of same ∙ flat_map-append line_of rows more)
      ∙ rows_first rows (text_of more) ∙ sym (rows_first rows rest) ∙ ap (first_lines (length rows)) (sym whole);
}

begins : (text : List ℕ) (draft : Draft) (rows : List Row) (rest : List ℕ) → text ≡ text_of rows ++ rest → Stands draft rows → BeginsAsOne text (length rows)
begins text Start rows rest whole none = begins_with text rest rows (rows_of sample) sample sample_good whole (ap (λ (rs : List Row). rs ++ rows_of sample) (sym none))
begins text Headed rows rest whole is = begins_with text rest rows (unit_row (codes "a") false ∷ end_row ∷ []) sample sample_good whole (ap (λ (rs : List Row). rs ++ unit_row (codes "a") false ∷ end_row ∷ []) (sym is))
begins text (Listing lists) rows rest whole h = begins_with text rest rows (end_row ∷ []) (cmi_of lists) h.0 whole (ap (λ (rs : List Row). rs ++ end_row ∷ []) (sym h.1))
begins text (Over cmi) rows rest whole h = begins_with text rest rows [] cmi h.0 whole (sym h.1 ∙ sym (append-nil rows))

-- the next line is at fault where no interface has lines behind those that were read that begin as the rest does
faulty : (text : List ℕ) (draft : Draft) (number : ℕ) (rest : List ℕ) → HasRead text draft number rest
    → ((more : List Row) (cmi : Cmi) → AllByRecursion IsRow more → first_lines 1 (text_of more) ≡ first_lines 1 rest → led draft more ≡ Some (Over cmi) → ⊥)
    → IsFaultyLine text number
faulty text draft number rest h none = record {
  before = length h.rows;
  counted = h.counted;
  begins = begins text draft h.rows rest h.whole (stands h.rows draft h.leads);
  differs = λ other. differs other;
}
  where
    differs : BeginsAsOne text (suc (length h.rows)) → ⊥
    differs other =
        let good = may_be_read other.cmi other.good in
        let found = behind h.rows (rows_of other.cmi) rest h.each (rows_fit other.cmi good)
        (ap (first_lines (suc (length h.rows))) (sym (text_is other.cmi)) ∙ other.same ∙ ap (first_lines (suc (length h.rows))) h.whole) in
        none found.more other.cmi found.each found.first
        (sym (led_more Start draft h.rows found.more h.leads) ∙ ap (led Start) (sym found.whole) ∙ complete other.cmi good)

-- a line that isn't taken is at fault
pub line_faulty : (text : List ℕ) (draft : Draft) (number : ℕ) (rest line back : List ℕ) → HasRead text draft number rest → rest ≡ line ++ newline ∷ back → Clean line
    → ((words : Row) → IsLine line words → next draft words ≡ None) → IsFaultyLine text number
line_faulty text draft number rest line back h is clean refuses = faulty text draft number rest h none
  where
    first_is : first_lines 1 rest ≡ line ++ newline ∷ []
    first_is = ap (first_lines 1) is ∙ first_line line back clean

    none : (more : List Row) (cmi : Cmi) → AllByRecursion IsRow more → first_lines 1 (text_of more) ≡ first_lines 1 rest → led draft more ≡ Some (Over cmi) → ⊥
    none [] cmi each e leads = not_empty line [] (e ∙ first_is)
    none (words ∷ more) cmi each e leads =
        let same : line_of words ++ [] ≡ line ++ newline ∷ [] = sym (row_first words (text_of more) 0) ∙ e ∙ first_is in
        let is_line : IsLine line words = record { row = each.0; same = sym same ∙ append-nil (line_of words) } in
        let no : None ≡ Some (Over cmi) = ap (λ d. option_and_then (λ after. led after more) d) (sym (refuses words is_line)) ∙ leads in
        absurd (cc)

-- a text that ends too early, or that goes on behind its end, is at fault
pub end_faulty : (text : List ℕ) (draft : Draft) (number : ℕ) (rest : List ℕ) → HasRead text draft number rest → Clean rest
    → ((cmi : Cmi) → draft ≡ Over cmi → rest ≢ []) → IsFaultyLine text number
end_faulty text draft number rest h clean refuses = faulty text draft number rest h none
  where
    none : (more : List Row) (cmi : Cmi) → AllByRecursion IsRow more → first_lines 1 (text_of more) ≡ first_lines 1 rest → led draft more ≡ Some (Over cmi) → ⊥
    none [] cmi each e leads = let over : draft ≡ Over cmi = cc in refuses cmi over (sym (e ∙ first_none rest 0 clean))
    none (words ∷ more) cmi each e leads =
        not_clean (canonical_text words false) [] rest clean
        (sym (line_then words []) ∙ sym (row_first words (text_of more) 0) ∙ e ∙ first_none rest 0 clean)

-- the text of an interface whose lines were all read
pub read_whole : (text : List ℕ) (cmi : Cmi) (number : ℕ) (rest : List ℕ) → HasRead text (Over cmi) number rest → rest ≡ [] → IsCmiText text cmi
read_whole text cmi number rest h none =
    let is = stands h.rows (Over cmi) h.leads in
    record {
      good = is_good cmi is.0;
      written = h.whole ∙ (λ k. text_of (is.1 k) ++ none k) ∙ append-nil (text_of (rows_of cmi)) ∙ sym (text_is cmi);
    }

-- nothing was read yet
pub read_none : (text : List ℕ) → HasRead text Start 1 text
read_none text = record { rows = []; each = tt; leads = refl; whole = refl; counted = refl }

-- one line more was read
pub read_more : (text : List ℕ) (draft after : Draft) (number : ℕ) (rest line back : List ℕ) (words : Row) → HasRead text draft number rest → rest ≡ line ++ newline ∷ back
    → IsLine line words → next draft words ≡ Some after → HasRead text after (number + 1) back
read_more text draft after number rest line back words h is good e = record {
  rows = h.rows ++ words ∷ [];
  each = all_more IsRow h.rows (words ∷ []) h.each (good.row, tt);
  leads = led_more Start draft h.rows (words ∷ []) h.leads ∙ ap (λ d. option_and_then (λ a. Some a) d) e;
  whole =
      h.whole ∙ ap (λ r. text_of h.rows ++ r) (is ∙ sym (append_assoc line (newline ∷ []) back) ∙ ap (λ l. l ++ back) good.same)
      ∙ sym (append_assoc (text_of h.rows) (line_of words) back)
      ∙ ap (λ t. t ++ back) (ap (λ l. text_of h.rows ++ l) (sym (append-nil (line_of words))) ∙ sym (flat_map-append line_of h.rows (words ∷ [])));
  counted = add-one number ∙ ap suc h.counted ∙ ap suc (sym (length-append h.rows (words ∷ []) ∙ add-one (length h.rows)));
}

-- ---- how reading ends

-- a reading that ends well has read an interface
pub ended_well : (text : List ℕ) (draft : Draft) (number : ℕ) (rest : List ℕ) (result : Result Cmi CmiError) → HasRead text draft number rest → EndsSo draft number rest result
    → IfOk result (IsCmiText text)
ended_well text draft number rest (Ok cmi) h e = read_whole text cmi number rest (subst (λ d. HasRead text d number rest) e.0 h) e.1
ended_well text draft number rest (Err error) h e = tt

-- and one that doesn't tells the line at fault
pub ended_badly : (text : List ℕ) (draft : Draft) (number : ℕ) (rest : List ℕ) (result : Result Cmi CmiError) → HasRead text draft number rest → Clean rest → EndsSo draft number rest result
    → IfErr result (TellsCmiFault text)
ended_badly text draft number rest (Ok cmi) h clean e = tt
ended_badly text draft number rest (Err (errors.Text line)) h clean e = subst (λ n. IsFaultyLine text n) (sym e.0) (end_faulty text draft number rest h clean e.1)
ended_badly text draft number rest (Err errors.Memory) h clean e = tt
