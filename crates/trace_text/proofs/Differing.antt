-- Traces with equal texts are equal.
use Rattle.std.proofs.Common.{◌≡◌, ℕ, List, [], ◌∷◌, ◌++◌, length, map, Option, Some, refl, sym, ap, ap₂, ◌∙◌, arith}
use Rattle.std.specs.Prelude.{codes, decimal, All}
use Rattle.std.proofs.lemmas.List.{length-append}
use Rattle.std.proofs.lemmas.List.Elements.{All-head, All-tail}
use Rattle.unit_registry.specs.Lines.{lines_of}
use Rattle.histories.specs.declared.entry.Entry.{Entry}
use Rattle.trace_text.specs.declared.lines.BodyLine.{BodyLine}
use Rattle.trace_text.specs.declared.lines.BodyLine.TheVariants as body
use Rattle.mapper_requests.specs.Numbers.{IsNumber}
use Rattle.histories.specs.Entries.{IsTraceEntry}
use Rattle.trace_text.specs.Texts.{head_words, end_words, entry_line, head_line, end_line, trace_lines, trace, HasTrace}
use Rattle.trace_text.specs.Working.{words_in, body_line}
use Rattle.trace_text.proofs.Spelled.{decimal_same}
use Rattle.trace_text.proofs.Free.{end_free, head_free, spaced_free, words_back, AreLines, lines_back}
use Rattle.trace_text.proofs.Outcomes.{item_back, entries_free}

-- ---- the lines

trace_free : (workers limit : ℕ) (entries : List Entry) → HasTrace workers limit entries → AreLines (trace_lines workers limit entries)
trace_free workers limit entries h =
    (spaced_free (head_words workers limit) (head_free workers limit h.few h.bound), entries_free entries (end_line (length entries) ∷ []) h.each (spaced_free (end_words (length entries)) (end_free (length entries) h.count), tt))

same_lines : (workers others limit bound : ℕ) (entries other : List Entry) → HasTrace workers limit entries → HasTrace others bound other → trace workers limit entries ≡ trace others bound other → trace_lines workers limit entries ≡ trace_lines others bound other
same_lines workers others limit bound entries other p q e =
    sym (lines_back (trace_lines workers limit entries) (trace_free workers limit entries p))
    ∙ ap lines_of e
    ∙ lines_back (trace_lines others bound other) (trace_free others bound other q)

first_same : (one other : List ℕ) (ones others : List (List ℕ)) → one ∷ ones ≡ other ∷ others → one ≡ other
first_same one other ones others e = cc

rest_same : (one other : List ℕ) (ones others : List (List ℕ)) → one ∷ ones ≡ other ∷ others → ones ≡ others
rest_same one other ones others e = cc

-- ---- the head

head_same : (workers others limit bound : ℕ) → IsNumber workers → IsNumber limit → IsNumber others → IsNumber bound → head_line workers limit ≡ head_line others bound → (workers ≡ others) × (limit ≡ bound)
head_same workers others limit bound a b c d e =
    (decimal_same workers others a c (first_same _ _ _ _ two), decimal_same limit bound b d (first_same _ _ _ _ (rest_same _ _ _ _ two)))
  where
    words : head_words workers limit ≡ head_words others bound
    words =
        sym (words_back (codes "modmap-trace") (codes "1" ∷ decimal workers ∷ decimal limit ∷ []) (head_free workers limit a b))
        ∙ ap words_in e
        ∙ words_back (codes "modmap-trace") (codes "1" ∷ decimal others ∷ decimal bound ∷ []) (head_free others bound c d)

    two : decimal workers ∷ decimal limit ∷ [] ≡ decimal others ∷ decimal bound ∷ []
    two = rest_same _ _ _ _ (rest_same _ _ _ _ words)

-- ---- the entries

item_same : (one other : Entry) → (let o : Option BodyLine = Some (body.Item one) in o) ≡ Some (body.Item other) → one ≡ other
item_same one other e = cc

entry_same : (one other : Entry) → IsTraceEntry one → IsTraceEntry other → entry_line one ≡ entry_line other → one ≡ other
entry_same one other p q e = item_same one other (sym (item_back one p) ∙ ap (λ l. body_line (words_in l)) e ∙ item_back other q)

entries_same : (last end : List ℕ) → (entries others : List Entry) → All IsTraceEntry entries → All IsTraceEntry others → map entry_line entries ++ last ∷ [] ≡ map entry_line others ++ end ∷ [] → entries ≡ others
entries_same last end [] [] p q e = refl
entries_same last end [] (other ∷ others) p q e =
    absurd (omega (arith, ap length e, length-append (map entry_line others) (end ∷ [])))
entries_same last end (entry ∷ entries) [] p q e =
    absurd (omega (arith, ap length e, length-append (map entry_line entries) (last ∷ [])))
entries_same last end (entry ∷ entries) (other ∷ others) p q e =
    ap₂ (λ x xs. x ∷ xs) (entry_same entry other (All-head IsTraceEntry entry entries p) (All-head IsTraceEntry other others q) (first_same _ _ _ _ e)) (entries_same last end entries others (All-tail IsTraceEntry entry entries p) (All-tail IsTraceEntry other others q) (rest_same _ _ _ _ e))

pub same_heads : (workers others limit bound : ℕ) (history other : List Entry) → HasTrace workers limit history → HasTrace others bound other → trace workers limit history ≡ trace others bound other → (workers ≡ others) × (limit ≡ bound)
same_heads workers others limit bound history other p q e =
    head_same workers others limit bound p.few p.bound q.few q.bound (first_same _ _ _ _ (same_lines workers others limit bound history other p q e))

pub same_entries : (workers others limit bound : ℕ) (history other : List Entry) → HasTrace workers limit history → HasTrace others bound other → trace workers limit history ≡ trace others bound other → history ≡ other
same_entries workers others limit bound history other p q e =
    entries_same (end_line (length history)) (end_line (length other)) history other p.each q.each (rest_same _ _ _ _ (same_lines workers others limit bound history other p q e))
