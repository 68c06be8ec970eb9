-- A scan has room for its words: they have no more octets than it has read.
use Rattle.std.proofs.Common.{◌≡◌, ℕ, ◌+◌, ◌*◌, ◌<◌, ◌≤◌, suc, Bool, true, false, cond, eqb, Option, Some, None, List, [], ◌∷◌, ◌++◌, length, refl, sym, ap, subst, ◌∙◌, arith}
use Rattle.std.specs.List.{fold}
use Rattle.std.proofs.lemmas.List.{append-nil, length_push}
use Rattle.std.proofs.lemmas.List.Concat.{flat_map-append}
use Rattle.cody_words.specs.declared.mode.Mode.{Mode}
use Rattle.cody_words.specs.declared.mode.Mode.TheVariants.{Between, Semicolon, Outside, Inside, Escape, Digit, Refused}
use Rattle.cody_words.specs.Pieces.{total}
use Rattle.cody_words.specs.Spelling.{item_value}
use Rattle.cody_words.specs.Room.{HasRoom, IsRoomy}
use Rattle.cody_words.specs.Scan.{Scan, is_white, hex_value, with_octet, with_word, step_between, step_digit, step_in, step}
use Rattle.cody_words.proofs.Cases.{OutsideStep, outside_step, InsideStep, inside_step, EscapeStep, escape_step, hex_is}
use Rattle.cody_words.proofs.Cases as cases
use Rattle.cody_words.proofs.Cuts.{total-cons}

pub length-with_octet : (words : List (List ℕ)) (c : ℕ) → length (with_octet words c) ≡ length words
length-with_octet [] c = refl
length-with_octet (w ∷ []) c = refl
length-with_octet (w ∷ v ∷ words) c = ap suc (length-with_octet (v ∷ words) c)

pub total-with_octet : (words : List (List ℕ)) (c : ℕ) → 0 < length words → total (with_octet words c) ≡ total words + 1
total-with_octet [] c some = absurd (omega arith)
total-with_octet (w ∷ []) c some = omega (arith, total-cons (w ++ c ∷ []) [], total-cons w [], length_push w c)
total-with_octet (w ∷ v ∷ words) c some = omega (arith, total-cons w (with_octet (v ∷ words) c), total-cons w (v ∷ words), total-with_octet (v ∷ words) c (omega arith))

pub total-with_word : (words : List (List ℕ)) → total (with_word words) ≡ total words
total-with_word words = ap length (flat_map-append (λ (x : List ℕ). x) words ([] ∷ []) ∙ append-nil _)

pub HasRoom-push : (words : List (List ℕ)) (c count : ℕ) → HasRoom words (count + 1) → HasRoom (with_octet words c) count
HasRoom-push words c count h = record {
  begun = omega (arith, length-with_octet words c, h.begun);
  octets = omega (arith, total-with_octet words c h.begun, h.octets);
}

abbrev pub RoomyScan : Scan → Type 0
RoomyScan s = IsRoomy s.words s.mode s.at

abbrev Roomy : Mode → List (List ℕ) → ℕ → Type 0
Roomy mode words at = IsRoomy words mode at

outside_roomy : (words : List (List ℕ)) (at c : ℕ) (t : Scan) → total words ≤ at → 0 < length words → length words ≤ at + 1 → OutsideStep words at c t → RoomyScan t
outside_roomy words at c t few some many (cases.OutsideStep.white w e) = subst RoomyScan (sym e) (record { owes = omega arith; few = many })
outside_roomy words at c t few some many (cases.OutsideStep.opened q e) = subst RoomyScan (sym e) (record { owes = (omega arith, some); few = many })
outside_roomy words at c t few some many (cases.OutsideStep.control k e) = subst RoomyScan (sym e) (record { owes = tt; few = many })
outside_roomy words at c t few some many (cases.OutsideStep.slash q e) = subst RoomyScan (sym e) (record { owes = tt; few = many })
outside_roomy words at c t few some many (cases.OutsideStep.letter b e) =
    let n = length-with_octet words c in
    let m = total-with_octet words c some in
    subst RoomyScan (sym e) (record { owes = (omega arith, omega arith); few = omega arith })

inside_roomy : (words : List (List ℕ)) (at c : ℕ) (t : Scan) → total words + 1 ≤ at → 0 < length words → length words ≤ at → InsideStep words at c t → RoomyScan t
inside_roomy words at c t few some many (cases.InsideStep.closed q e) = subst RoomyScan (sym e) (record { owes = (omega arith, some); few = omega arith })
inside_roomy words at c t few some many (cases.InsideStep.escape q e) = subst RoomyScan (sym e) (record { owes = (omega arith, some); few = omega arith })
inside_roomy words at c t few some many (cases.InsideStep.control k e) = subst RoomyScan (sym e) (record { owes = tt; few = omega arith })
inside_roomy words at c t few some many (cases.InsideStep.item p e) =
    let n = length-with_octet words c in
    let m = total-with_octet words c some in
    subst RoomyScan (sym e) (record { owes = (omega arith, omega arith); few = omega arith })

escape_roomy : (words : List (List ℕ)) (at c : ℕ) (t : Scan) → total words + 2 ≤ at → 0 < length words → length words ≤ at → EscapeStep words at c t → RoomyScan t
escape_roomy words at c t few some many (cases.EscapeStep.letter i one any raw e) =
    let n = length-with_octet words (item_value i) in
    let m = total-with_octet words (item_value i) some in
    subst RoomyScan (sym e) (record { owes = (omega arith, omega arith); few = omega arith })
escape_roomy words at c t few some many (cases.EscapeStep.digit n lt hex e) = subst RoomyScan (sym e) (record { owes = (omega arith, some, lt); few = omega arith })
escape_roomy words at c t few some many (cases.EscapeStep.unknown l h e) = subst RoomyScan (sym e) (record { owes = tt; few = omega arith })

digit_roomy : (words : List (List ℕ)) (at first c : ℕ) (o : Option ℕ) → total words + 3 ≤ at → 0 < length words → length words ≤ at → RoomyScan (step_digit words at first c o)
digit_roomy words at first c None few some many =
    let n = length-with_octet words first in
    let m = total-with_octet words first some in
    inside_roomy (with_octet words first) at c _ (omega arith) (omega arith) (omega arith) (inside_step (with_octet words first) at c)
digit_roomy words at first c (Some second) few some many =
    let n = length-with_octet words (16 * first + second) in
    let m = total-with_octet words (16 * first + second) some in
    record { owes = (omega arith, omega arith); few = omega arith }

roomy_cond : (b : Bool) (s t : Scan) → RoomyScan s → RoomyScan t → RoomyScan (cond b s t)
roomy_cond true s t p q = p
roomy_cond false s t p q = q

between_roomy : (words : List (List ℕ)) (at c : ℕ) → total words ≤ at → length words ≤ at → RoomyScan (step_between words at c)
between_roomy words at c few many =
    let one = length_push words [] in
    let same = total-with_word words in
    let n = length-with_octet (with_word words) c in
    let m = total-with_octet (with_word words) c (omega arith) in
    roomy_cond (is_white c) _ _ (record { owes = omega arith; few = omega arith })
    (roomy_cond (eqb c 59) _ _ (record { owes = (omega arith, omega arith); few = omega arith })
    (outside_roomy (with_word words) at c _ (omega arith) (omega arith) (omega arith) (outside_step (with_word words) at c)))

pub step_roomy : (mode : Mode) (words : List (List ℕ)) (at c : ℕ) → Roomy mode words at → RoomyScan (step_in mode words at c)
step_roomy Between words at c h = between_roomy words at c h.owes h.few
step_roomy Semicolon words at c h = roomy_cond (is_white c) _ _ (record { owes = tt; few = omega (arith, h.few) }) (outside_roomy words at c _ h.owes.0 h.owes.1 (omega (arith, h.few)) (outside_step words at c))
step_roomy Outside words at c h = outside_roomy words at c _ h.owes.0 h.owes.1 (omega (arith, h.few)) (outside_step words at c)
step_roomy Inside words at c h = inside_roomy words at c _ h.owes.0 h.owes.1 h.few (inside_step words at c)
step_roomy Escape words at c h = escape_roomy words at c _ h.owes.0 h.owes.1 h.few (escape_step words at c)
step_roomy (Digit value) words at c h = digit_roomy words at value c (hex_value c) h.owes.0 h.owes.1 h.few
step_roomy (Refused place reason) words at c h = record { owes = tt; few = omega (arith, h.few) }

pub run_roomy : (octets : List ℕ) (s : Scan) → RoomyScan s → RoomyScan (fold step s octets)
run_roomy [] s h = h
run_roomy (c ∷ octets) s h = run_roomy octets (step s c) (step_roomy s.mode s.words s.at c (record { owes = h.owes; few = h.few }))
