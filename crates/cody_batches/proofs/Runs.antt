-- Octets within a line that are kept at once.
use Rattle.std.proofs.Common.{◌≡◌, ◌≢◌, ℕ, ◌+◌, ◌<◌, ◌≤◌, ◌-◌, zero, suc, true, false, All, List, [], ◌∷◌, ◌++◌, length, take, get_or, refl, sym, ap, subst, ◌∙◌, append_assoc, arith}
use Rattle.std.specs.List.{fold}
use Rattle.std.proofs.lemmas.Bool.{cond-true, lt-ltb, ne_eqb}
use Rattle.std.proofs.lemmas.List.{append-nil}
use Rattle.cody_words.specs.Scan.{Scan, start, step as scan_step}
use Rattle.cody_words.proofs.Least.{at_run}
use Rattle.cody_batches.specs.declared.intake.Tail.{Tail}
use Rattle.cody_batches.specs.declared.intake.Tail.TheVariants as tail
use Rattle.cody_batches.specs.Feeding.{Standing, StandsAfter}
use Rattle.cody_batches.specs.Working.{tail_octets, begun_scan, kept}
use Rattle.cody_batches.proofs.Stands.{over_stands, within_stands, kept_over}

-- ---- after which octets an intake stands

pub over_run : (octets : List ℕ) (s : Standing) (fed : List ℕ) → s.over ≡ true → StandsAfter s fed → StandsAfter s (fed ++ octets)
over_run [] s fed o h = subst (StandsAfter s) (sym (append-nil fed)) h
over_run (c ∷ octets) s fed o h = subst (StandsAfter s) (append_assoc fed (c ∷ []) octets) (over_run octets s (fed ++ c ∷ []) o (over_stands s fed c o h))

pub within_run : (octets : List ℕ) (s : Standing) (fed : List ℕ) → All (λ c. c ≢ 10) octets → s.over ≡ false → StandsAfter s fed → StandsAfter (fold kept s octets) (fed ++ octets)
within_run [] s fed clean o h = subst (StandsAfter s) (sym (append-nil fed)) h
within_run (c ∷ octets) s fed clean o h =
    subst (StandsAfter (fold kept (kept s c) octets)) (append_assoc fed (c ∷ []) octets)
    (within_run octets (kept s c) (fed ++ c ∷ []) (λ k d below. clean (suc k) d (omega arith)) (kept_over s s.tail c ∙ o)
    (within_stands s fed c (ne_eqb c 10 (clean 0 0 (omega arith))) o h))

-- ---- all but the last two octets are scanned

kept_two : (s : Standing) (scan : Scan) (a b c : ℕ) → scan.at < 8190
    → kept (record s { scan = scan; tail = a ∷ b ∷ [] }) c ≡ record s { scan = scan_step scan a; tail = b ∷ c ∷ [] }
kept_two s scan a b c lt = cond-true _ _ _ (lt-ltb scan.at 8190 lt)

one_more : (scan : Scan) (a : ℕ) → (scan_step scan a).at ≡ scan.at + 1
one_more scan a = at_run (a ∷ []) scan

two_run : (front : List ℕ) (s : Standing) (scan : Scan) (a b x y : ℕ) → scan.at + 2 + length front ≤ 8190
    → fold kept (record s { scan = scan; tail = a ∷ b ∷ [] }) (front ++ x ∷ y ∷ []) ≡ record s { scan = fold scan_step scan (a ∷ b ∷ front); tail = x ∷ y ∷ [] }
two_run [] s scan a b x y le =
    ap (λ (t : Standing). kept t y) (kept_two s scan a b x (omega arith)) ∙ kept_two s (scan_step scan a) b x y (omega (arith, one_more scan a))
two_run (c ∷ front) s scan a b x y le =
    ap (λ (t : Standing). fold kept t (front ++ x ∷ y ∷ [])) (kept_two s scan a b c (omega arith))
    ∙ two_run front s (scan_step scan a) b c x y (omega (arith, one_more scan a))

pub kept_run : (front : List ℕ) (s : Standing) (scan : Scan) (t : Tail) (x y : ℕ) → (begun_scan scan (tail_octets t)).at + length (tail_octets t) + length front ≤ 8190
    → fold kept (record s { scan = scan; tail = tail_octets t }) (front ++ x ∷ y ∷ [])
    ≡ record s { scan = fold scan_step (fold scan_step (begun_scan scan (tail_octets t)) (tail_octets t)) front; tail = x ∷ y ∷ [] }
kept_run [] s scan tail.Nothing x y le = refl
kept_run (c ∷ []) s scan tail.Nothing x y le = kept_two s start c x y (omega arith)
kept_run (c ∷ d ∷ front) s scan tail.Nothing x y le = two_run front s start c d x y (omega arith)
kept_run [] s scan (tail.One a) x y le = kept_two s scan a x y (omega arith)
kept_run (c ∷ front) s scan (tail.One a) x y le = two_run front s scan a c x y (omega arith)
kept_run front s scan (tail.Two a b) x y le = two_run front s scan a b x y (omega arith)

-- ---- the last two of a list

last_two : (octets : List ℕ) (n : ℕ) → suc (suc n) ≡ length octets → octets ≡ take n octets ++ get_or octets n 0 ∷ get_or octets (suc n) 0 ∷ []
last_two [] n e = absurd (omega arith)
last_two (x ∷ []) n e = absurd (omega arith)
last_two (x ∷ y ∷ []) zero e = refl
last_two (x ∷ y ∷ z ∷ octets) zero e = absurd (omega arith)
last_two (x ∷ y ∷ octets) (suc n) e = ap (λ (rest : List ℕ). x ∷ rest) (last_two (y ∷ octets) n (omega arith))

pub ends_in_two : (octets : List ℕ) → 2 ≤ length octets → octets ≡ take (length octets - 2) octets ++ get_or octets (length octets - 2) 0 ∷ get_or octets (length octets - 1) 0 ∷ []
ends_in_two octets some =
    let last : suc (length octets - 2) ≡ length octets - 1 = omega arith in
    last_two octets (length octets - 2) (omega arith)
    ∙ ap (λ (k : ℕ). take (length octets - 2) octets ++ get_or octets (length octets - 2) 0 ∷ get_or octets k 0 ∷ []) last

-- ---- what a run leaves

-- the scan read the tail and all but the last two octets
pub run_is : (s : Standing) (scan mid after : Scan) (t : Tail) (octets front : List ℕ) (x y : ℕ)
    → (begun_scan scan (tail_octets t)).at + length (tail_octets t) + length front ≤ 8190
    → octets ≡ front ++ x ∷ y ∷ [] → mid ≡ fold scan_step (begun_scan scan (tail_octets t)) (tail_octets t) → after ≡ fold scan_step mid front
    → record s { scan = after; tail = x ∷ y ∷ [] } ≡ fold kept (record s { scan = scan; tail = tail_octets t }) octets
run_is s scan mid after t octets front x y le whole e f =
    ap (λ (z : Scan). record s { scan = z; tail = x ∷ y ∷ [] }) (f ∙ ap (λ (z : Scan). fold scan_step z front) e)
    ∙ sym (ap (fold kept (record s { scan = scan; tail = tail_octets t })) whole ∙ kept_run front s scan t x y le)

pub run_at : (scan mid after : Scan) (tail front : List ℕ) → mid ≡ fold scan_step (begun_scan scan tail) tail → after ≡ fold scan_step mid front
    → after.at ≡ (begun_scan scan tail).at + length tail + length front
run_at scan mid after tail front e f = omega (arith, ap (λ (z : Scan). z.at) f, at_run front mid, ap (λ (z : Scan). z.at) e, at_run tail (begun_scan scan tail))
