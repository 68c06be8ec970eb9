-- A text has one reading, and what is written is read back.
use Rattle.std.proofs.Common.{◌≡◌, ℕ, zero, suc, ◌<◌, ◌≤◌, Bool, true, false, ◌==◌, List, [], ◌∷◌, Option, Some, None, sym, ap, ◌∙◌, refl, arith}
use Rattle.std.specs.List.{AllByRecursion}
use Rattle.std.proofs.lemmas.Bool.{cond-true, cond-false}
use Rattle.cody_words.specs.Octets.{newline}
use Rattle.cody_words.specs.Canonical.{canonical_text}
use Rattle.export_lists.specs.Lists.{Cmi}
use Rattle.export_lists.specs.CmiTexts.{cmi_text, IsGoodCmi}
use Rattle.export_lists.specs.CmiFaults.{IsCmiText, first_lines, BeginsAsOne, IsFaultyLine}
use Rattle.export_lists.specs.declared.draft.Draft.{Draft}
use Rattle.export_lists.specs.declared.draft.Draft.TheVariants.{Start, Headed, Listing, Over}
use Rattle.export_lists.specs.Drafts.{IsRow}
use Rattle.export_lists.proofs.Readings.{rows_of, text_of, led}
use Rattle.export_lists.specs.Words.{Row}
use Rattle.export_lists.proofs.RowTexts.{parted, not_empty, clean_row, line_then, same_row}
use Rattle.export_lists.proofs.GoodLists.{may_be_read}
use Rattle.export_lists.proofs.Leads.{complete}
use Rattle.export_lists.proofs.CmiRows.{text_is, rows_fit}

-- lines of one text are the same lines
same_rows : (rows others : List Row) → AllByRecursion IsRow rows → AllByRecursion IsRow others → text_of rows ≡ text_of others → rows ≡ others
same_rows [] [] h k e = refl
same_rows [] (o ∷ others) h k e = absurd (not_empty (canonical_text o false) (text_of others) (e ∙ line_then o (text_of others)))
same_rows (r ∷ rows) [] h k e = absurd (not_empty (canonical_text r false) (text_of rows) (sym e ∙ line_then r (text_of rows)))
same_rows (r ∷ rows) (o ∷ others) h k e =
    let parts =
    parted (canonical_text r false) (canonical_text o false) (text_of rows) (text_of others) (clean_row r) (clean_row o)
    (sym (line_then r (text_of rows)) ∙ e ∙ line_then o (text_of others)) in
    let same : r ≡ o = same_row r o h.0 k.0 parts.0 in
    let rest : rows ≡ others = same_rows rows others h.1 k.1 parts.1 in
    (λ i. same i ∷ rest i)

-- the interface of a draft that is over, or else this one
abbrev over_in : Cmi → Option Draft → Cmi
over_in cmi (Some (Over other)) = other
over_in cmi (Some (Listing lists)) = cmi
over_in cmi (Some Headed) = cmi
over_in cmi (Some Start) = cmi
over_in cmi None = cmi

-- interfaces that may be read and have one text are the same
pub same_cmi : (cmi other : Cmi) → IsGoodCmi cmi → IsGoodCmi other → cmi_text cmi ≡ cmi_text other → cmi ≡ other
same_cmi cmi other good fine e =
    let rows : rows_of cmi ≡ rows_of other = same_rows (rows_of cmi) (rows_of other) (rows_fit cmi (may_be_read cmi good)) (rows_fit other (may_be_read other fine)) (sym (text_is cmi) ∙ e ∙ text_is other) in
    let over : Some (Over cmi) ≡ Some (Over other) = sym (complete cmi (may_be_read cmi good)) ∙ ap (led Start) rows ∙ complete other (may_be_read other fine) in
    ap (over_in cmi) over

-- a text is that of one interface
pub one_cmi : (text : List ℕ) (cmi other : Cmi) → IsCmiText text cmi → IsCmiText text other → cmi ≡ other
one_cmi text cmi other h k = same_cmi cmi other h.good k.good (sym h.written ∙ k.written)

-- the first lines of first lines, where they are no more
fewer : (few more : ℕ) (text : List ℕ) → few ≤ more → first_lines few (first_lines more text) ≡ first_lines few text
fewer zero more text le = refl
fewer (suc few) zero text le = absurd (omega (arith, le))
fewer (suc few) (suc more) [] le = refl
fewer (suc few) (suc more) (octet ∷ text) le =
    by_newline (octet == newline) refl (fewer few more text (omega (arith, le))) (fewer (suc few) (suc more) text le)
  where
    by_newline : (b : Bool) → (octet == newline) ≡ b → first_lines few (first_lines more text) ≡ first_lines few text
        → first_lines (suc few) (first_lines (suc more) text) ≡ first_lines (suc few) text
        → first_lines (suc few) (first_lines (suc more) (octet ∷ text)) ≡ first_lines (suc few) (octet ∷ text)
    by_newline true is less same =
        ap (first_lines (suc few)) (cond-true (octet == newline) (octet ∷ first_lines more text) (octet ∷ first_lines (suc more) text) is)
        ∙ cond-true (octet == newline) (octet ∷ first_lines few (first_lines more text)) (octet ∷ first_lines (suc few) (first_lines more text)) is
        ∙ ap (λ t. octet ∷ t) less
        ∙ sym (cond-true (octet == newline) (octet ∷ first_lines few text) (octet ∷ first_lines (suc few) text) is)
    by_newline false is less same =
        ap (first_lines (suc few)) (cond-false (octet == newline) (octet ∷ first_lines more text) (octet ∷ first_lines (suc more) text) is)
        ∙ cond-false (octet == newline) (octet ∷ first_lines few (first_lines (suc more) text)) (octet ∷ first_lines (suc few) (first_lines (suc more) text)) is
        ∙ ap (λ t. octet ∷ t) same
        ∙ sym (cond-false (octet == newline) (octet ∷ first_lines few text) (octet ∷ first_lines (suc few) text) is)

-- a text that begins as one up to a line does so up to each line before
begins_fewer : (text : List ℕ) (few more : ℕ) → few ≤ more → BeginsAsOne text more → BeginsAsOne text few
begins_fewer text few more le h = record {
  cmi = h.cmi;
  good = h.good;
  same = sym (fewer few more (cmi_text h.cmi) le) ∙ ap (first_lines few) h.same ∙ fewer few more text le;
}

same_place : (place other : ℕ) → (place < other → ⊥) → (other < place → ⊥) → place ≡ other
same_place zero zero f g = refl
same_place zero (suc other) f g = absurd (f (omega arith))
same_place (suc place) zero f g = absurd (g (omega arith))
same_place (suc place) (suc other) f g = ap suc (same_place place other (λ h. f (omega (arith, h))) (λ h. g (omega (arith, h))))

-- a text has one first line at fault
pub one_line : (text : List ℕ) (line other : ℕ) → IsFaultyLine text line → IsFaultyLine text other → line ≡ other
one_line text line other h k =
    let same : h.before ≡ k.before = same_place h.before k.before
    (λ less. h.differs (begins_fewer text (suc h.before) k.before (omega (arith, less)) k.begins))
    (λ less. k.differs (begins_fewer text (suc k.before) h.before (omega (arith, less)) h.begins)) in
    h.counted ∙ ap suc same ∙ sym k.counted

-- the text of an interface has no line at fault
pub no_fault : (text : List ℕ) (cmi : Cmi) (line : ℕ) → IsCmiText text cmi → IsFaultyLine text line → ⊥
no_fault text cmi line h k = k.differs (record { cmi = cmi; good = h.good; same = ap (first_lines (suc k.before)) (sym h.written) })

-- what is written is read back, as the same interface
pub written_back : (cmi other : Cmi) → IsGoodCmi cmi → IsCmiText (cmi_text cmi) other → other ≡ cmi
written_back cmi other good h = one_cmi (cmi_text cmi) other cmi h (record { good = good; written = refl })

-- and has no line at fault
pub written_well : (cmi : Cmi) (line : ℕ) → IsGoodCmi cmi → IsFaultyLine (cmi_text cmi) line → ⊥
written_well cmi line good k = no_fault (cmi_text cmi) cmi line (record { good = good; written = refl }) k
