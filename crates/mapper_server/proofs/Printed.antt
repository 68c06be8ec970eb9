-- Texts that are printed one after another, and the lines of a trace among them.
use Rattle.std.proofs.Common.{◌≡◌, ℕ, ◌+◌, ◌<◌, ◌≤◌, List, [], ◌∷◌, ◌++◌, length, take, drop, map, flat_map, get_or, Option, Result, Ok, Err, sym, ap, subst, ◌∙◌, append_assoc, arith}
use Rattle.std.proofs.lemmas.List.{append-nil, length-append, map-append, take-append-drop, take-append-le, take_all, take_more}
use Rattle.std.proofs.lemmas.Grind.{flat_map-append}
use Rattle.std.proofs.Math.Seq.{take-append-add}
use Rattle.mm_outside.specs.Causes.{HasCause}
use Rattle.mm_outside.specs.Sending.{AppendsAll}
use Rattle.mm_outside.specs.Told.{Told}
use Rattle.mm_outside.specs.declared.errors.Failed.{Failed}
use Rattle.mm_outside.proofs.ToldLemmas.{Told-map, Told-then}
use Rattle.histories.specs.declared.entry.Entry.{Entry}
use Rattle.trace_text.specs.Texts.{end_line, ended, entry_line, first_lines, first_text, head_line, trace}
use Rattle.mapper_server.specs.Printing.{Prints}

-- ---- texts

module _ (T E : Type 0) where
  prints : (result : Result T E) (text : List ℕ) (before now : ℕ) (old new : List ℕ) → HasCause before now result → AppendsAll result text old new → Prints text before now old new
  prints (Ok u) text before now old new cause a = Prints.whole a cause.kept
  prints (Err e) text before now old new cause a = Prints.cut (record { count = a.0; proper = a.1; appended = a.2 }) cause.failed

  -- what was printed is the text, or a part of it where the count rose
  pub told_prints : (result : Result T E) (text : List ℕ) (before now : ℕ) (a b : Option (List ℕ)) → HasCause before now result → Told (AppendsAll result text) a b → Told (Prints text before now) a b
  told_prints result text before now a b cause = Told-map {R = AppendsAll result text} (λ x y p. prints result text before now x y cause p)

appends_then : (result : Result (Unit {0}) Failed) (done : Unit {0}) (one two x y z : List ℕ) → AppendsAll {E = Failed} (Ok done) one x y → AppendsAll result two y z → AppendsAll result (one ++ two) x z
appends_then (Ok u) done one two x y z first second = second ∙ ap (λ t. t ++ two) first ∙ append_assoc x one two
appends_then (Err e) done one two x y z first second = (
  length one + second.0,
  (let s = second.1 in omega (arith, s, length-append one two)),
  second.2 ∙ ap (λ t. t ++ take second.0 two) first ∙ append_assoc x one (take second.0 two) ∙ ap (λ t. x ++ t) (sym (take-append-add one two second.0)),
)

appends_part : (failed : Failed) (one more x y : List ℕ) → AppendsAll {T = Unit {0}} (Err failed) one x y → AppendsAll {T = Unit {0}} (Err failed) (one ++ more) x y
appends_part failed one more x y p = (
  p.0,
  (let s = p.1 in omega (arith, s, length-append one more)),
  p.2 ∙ ap (λ t. x ++ t) (sym (take-append-le p.0 one more (let s = p.1 in omega (arith, s)))),
)

module _ (a b c : Option (List ℕ)) where
  -- a text after one that was printed
  pub told_then : (result : Result (Unit {0}) Failed) (done : Unit {0}) (one two : List ℕ) → Told (AppendsAll {E = Failed} (Ok done) one) a b → Told (AppendsAll result two) b c → Told (AppendsAll result (one ++ two)) a c
  told_then result done one two = Told-then {R = AppendsAll {E = Failed} (Ok done) one} {S = AppendsAll result two} (λ x y z p q. appends_then result done one two x y z p q)

-- a part of a text is a part of a longer one
pub told_part : (failed : Failed) (one more : List ℕ) (a b : Option (List ℕ)) → Told (AppendsAll {T = Unit {0}} (Err failed) one) a b → Told (AppendsAll {T = Unit {0}} (Err failed) (one ++ more)) a b
told_part failed one more a b = Told-map {R = AppendsAll {T = Unit {0}} (Err failed) one} (λ x y p. appends_part failed one more x y p)

-- ---- the lines of a trace

module _ (workers limit : ℕ) (entries : List Entry) where
  -- the text of the first so many entries
  abbrev pub text_of : ℕ → List ℕ
  text_of k = first_text workers limit (take k entries)

  lines_split : (front back : List Entry) → first_text workers limit (front ++ back) ≡ first_text workers limit front ++ flat_map ended (map entry_line back)
  lines_split front back =
      ap (λ ls. flat_map ended (first_lines workers limit [] ++ ls)) (map-append entry_line front back)
      ∙ flat_map-append ended (first_lines workers limit front) (map entry_line back)

  -- the whole text is that of its entries, and the last line
  pub trace_is : trace workers limit entries ≡ first_text workers limit entries ++ ended (end_line (length entries))
  trace_is =
      flat_map-append ended (first_lines workers limit entries) (end_line (length entries) ∷ [])
      ∙ ap (λ t. first_text workers limit entries ++ t) (append-nil (ended (end_line (length entries))))

  module _ (k : ℕ) (other : Entry) (within : k < length entries) where
    abbrev line_there : List ℕ
    line_there = ended (entry_line (get_or entries k other))

    abbrev lines_after : List ℕ
    lines_after = flat_map ended (map entry_line (drop (k + 1) entries)) ++ ended (end_line (length entries))

    -- one entry more has one line more
    text_next : text_of (k + 1) ≡ text_of k ++ line_there
    text_next =
        ap (first_text workers limit) (take_more entries k other within)
        ∙ lines_split (take k entries) (get_or entries k other ∷ [])
        ∙ ap (λ t. text_of k ++ t) (append-nil line_there)

    text_whole : trace workers limit entries ≡ (text_of k ++ line_there) ++ lines_after
    text_whole =
        trace_is
        ∙ ap (λ t. t ++ ended (end_line (length entries)))
        (ap (first_text workers limit) (sym (take-append-drop (k + 1) entries))
        ∙ lines_split (take (k + 1) entries) (drop (k + 1) entries)
        ∙ ap (λ t. t ++ flat_map ended (map entry_line (drop (k + 1) entries))) text_next)
        ∙ append_assoc (text_of k ++ line_there) (flat_map ended (map entry_line (drop (k + 1) entries))) (ended (end_line (length entries)))

    module _ (a b c : Option (List ℕ)) (done : Unit {0}) (so_far : Told (AppendsAll {E = Failed} (Ok done) (text_of k)) a b) where
      -- the line of one entry more
      pub line_next : (also : Unit {0}) → Told (AppendsAll {E = Failed} (Ok also) line_there) b c → Told (AppendsAll {E = Failed} (Ok also) (text_of (k + 1))) a c
      line_next also line = subst (λ t. Told (AppendsAll {E = Failed} (Ok also) t) a c) (sym text_next) (told_then a b c (Ok also) done (text_of k) line_there so_far line)

      -- or a part of it, and nothing of what comes after it
      pub line_stops : (failed : Failed) → Told (AppendsAll {T = Unit {0}} (Err failed) line_there) b c → Told (AppendsAll {T = Unit {0}} (Err failed) (trace workers limit entries)) a c
      line_stops failed line =
          subst (λ t. Told (AppendsAll {T = Unit {0}} (Err failed) t) a c) (sym text_whole)
          (told_part failed (text_of k ++ line_there) lines_after a c (told_then a b c (Err failed) done (text_of k) line_there so_far line))

  module _ (a b : Option (List ℕ)) where
    -- a part of the first line, and nothing of what comes after it
    pub head_stops : (failed : Failed) → Told (AppendsAll {T = Unit {0}} (Err failed) (ended (head_line workers limit))) a b → Told (AppendsAll {T = Unit {0}} (Err failed) (trace workers limit entries)) a b
    head_stops failed head = told_part failed (ended (head_line workers limit)) (flat_map ended (map entry_line entries ++ end_line (length entries) ∷ [])) a b head

    -- all lines, and the last one or a part of it
    pub last_line : (c : Option (List ℕ)) (k : ℕ) (result : Result (Unit {0}) Failed) (done : Unit {0}) → length entries ≤ k → Told (AppendsAll {E = Failed} (Ok done) (text_of k)) a b → Told (AppendsAll result (ended (end_line (length entries)))) b c
        → Told (AppendsAll result (trace workers limit entries)) a c
    last_line c k result done all so_far line =
        subst (λ t. Told (AppendsAll result t) a c) (sym trace_is)
        (told_then a b c result done (first_text workers limit entries) (ended (end_line (length entries)))
        (subst (λ es. Told (AppendsAll {E = Failed} (Ok done) (first_text workers limit es)) a b) (take_all k entries all) so_far) line)
