-- A run of octets within a word.
use Rattle.std.proofs.Common.{◌≡◌, ℕ, ◌+◌, ◌≤◌, ◌<◌, ◌==◌, zero, suc, Bool, true, false, cond, not, List, [], ◌∷◌, ◌++◌, length, take, drop, refl, sym, ap, subst, ◌∙◌, append_assoc, arith}
use Rattle.std.specs.List.{fold, position_or_len, AllByRecursion}
use Rattle.std.proofs.lemmas.Bool.{cond-false, not-true}
use Rattle.std.proofs.lemmas.Bool.Decides.{nat_tests}
use Rattle.std.proofs.lemmas.List.{length-append, length-take, length-drop, append-nil, take-append-drop}
use Rattle.std.proofs.lemmas.List.Sums.{fold-append, prefix_len-le-length}
use Rattle.cody_words.specs.declared.mode.Mode.{Mode}
use Rattle.cody_words.specs.declared.mode.Mode.TheVariants.{Between, Semicolon, Outside, Inside, Escape, Digit, Refused}
use Rattle.cody_words.specs.Octets.{IsBare, semicolon}
use Rattle.cody_words.specs.Pieces.{cut, InOrder, BeginsAtZero}
use Rattle.cody_words.specs.Scan.{Scan, is_special, with_octet, with_word, run_len, takes_run, step}
use Rattle.cody_words.proofs.Cases.{bare_not_white}
use Rattle.cody_words.proofs.Found.{bare_step}
use Rattle.cody_words.proofs.Least.{at_run}
use Rattle.cody_words.proofs.Cuts.{cut-push, InOrder-more}

pub not_special : (c : ℕ) → is_special c ≡ false → IsBare c
not_special c e = (grind (arith, nat_tests), grind (arith, nat_tests), grind (arith, nat_tests), grind (arith, nat_tests))

abbrev pub AreBare : List ℕ → Type 0
AreBare octets = AllByRecursion (λ c. is_special c ≡ false) octets

-- what stands before the first special octet has none
pub bare_before : (octets : List ℕ) → AreBare (take (position_or_len is_special octets) octets)
bare_before [] = tt
bare_before (c ∷ octets) = by (is_special c) refl (bare_before octets)
  where
    by : (b : Bool) → is_special c ≡ b → AreBare (take (position_or_len is_special octets) octets) → AreBare (take (position_or_len is_special (c ∷ octets)) (c ∷ octets))
    by true e rest = subst (λ (k : ℕ). AreBare (take k (c ∷ octets))) (sym (ap (λ (b : Bool). cond (not b) (1 + position_or_len is_special octets) 0) e)) tt
    by false e rest =
        let one_more : position_or_len is_special (c ∷ octets) ≡ suc (position_or_len is_special octets) = ap (λ (b : Bool). cond (not b) (1 + position_or_len is_special octets) 0) e ∙ omega arith in
        subst (λ (k : ℕ). AreBare (take k (c ∷ octets))) (sym one_more) (e, rest)

-- octets outside quotes that stand for themselves
pub run_outside : (run : List ℕ) (words : List (List ℕ)) (at : ℕ) → AreBare run
    → fold step (record { words = words; mode = Outside; at = at }) run ≡ record { words = fold with_octet words run; mode = Outside; at = at + length run }
run_outside [] words at h = ap (λ (n : ℕ). record { words = words; mode = Outside; at = n }) (omega arith)
run_outside (c ∷ run) words at h =
    ap (λ (s : Scan). fold step s run) (bare_step words at c (not_special c h.0))
    ∙ run_outside run (with_octet words c) (at + 1) h.1
    ∙ ap (λ (n : ℕ). record { words = fold with_octet (with_octet words c) run; mode = Outside; at = n }) (omega arith)

-- octets more at the end are more in the last piece
pub cut-run : (run starts octets : List ℕ) → InOrder starts (length octets) → cut starts (octets ++ run) ≡ fold with_octet (cut starts octets) run
cut-run [] starts octets h = ap (cut starts) (append-nil octets)
cut-run (c ∷ run) starts octets h =
    ap (cut starts) (sym (append_assoc octets (c ∷ []) run))
    ∙ cut-run run starts (octets ++ c ∷ []) (subst (InOrder starts) (sym (length-append octets (c ∷ []))) (InOrder-more starts (length octets) h))
    ∙ ap (λ (w : List (List ℕ)). fold with_octet w run) (cut-push starts octets c h)

pub InOrder-by : (n : ℕ) (starts : List ℕ) (end : ℕ) → InOrder starts end → InOrder starts (end + n)
InOrder-by zero starts end h = subst (InOrder starts) (omega arith) h
InOrder-by (suc n) starts end h = subst (InOrder starts) (omega arith) (InOrder-by n starts (end + 1) (InOrder-more starts end h))

pub BeginsAtZero-by : (n : ℕ) (starts : List ℕ) (end : ℕ) → 0 < length starts → BeginsAtZero starts end → BeginsAtZero starts (end + n)
BeginsAtZero-by n [] end some h = absurd (omega arith)
BeginsAtZero-by n (s ∷ starts) end some h = h

-- ---- octets that are appended to the last word at once

-- the last word has these octets more, and no mode was left
pub extended : (run : List ℕ) (words after : List (List ℕ)) (mode : Mode) (at : ℕ) → mode ≡ Outside → after ≡ fold with_octet words run → AreBare run
    → record { words = after; mode = mode; at = at + length run } ≡ fold step (record { words = words; mode = mode; at = at }) run
extended run words after mode at m e h =
    ap (λ (w : List (List ℕ)). record { words = w; mode = mode; at = at + length run }) e
    ∙ ap (λ (x : Mode). record { words = fold with_octet words run; mode = x; at = at + length run }) m
    ∙ sym (run_outside run words at h)
    ∙ ap (λ (x : Mode). fold step (record { words = words; mode = x; at = at }) run) (sym m)

within_cond : (b : Bool) (k n : ℕ) → k ≤ n → cond b 0 k ≤ n
within_cond true k n le = omega arith
within_cond false k n le = le

bare_cond : (b : Bool) (k : ℕ) (octets : List ℕ) → AreBare (take k octets) → AreBare (take (cond b 0 k) octets)
bare_cond true k octets h = tt
bare_cond false k octets h = h

pub run_within : (mode : Mode) (octets : List ℕ) → run_len mode octets ≤ length octets
run_within Between [] = omega arith
run_within Between (c ∷ octets) = within_cond (c == semicolon) _ _ (prefix_len-le-length (λ c. not (is_special c)) (c ∷ octets))
run_within Semicolon octets = omega arith
run_within Outside octets = prefix_len-le-length (λ c. not (is_special c)) octets
run_within Inside octets = omega arith
run_within Escape octets = omega arith
run_within (Digit value) octets = omega arith
run_within (Refused place reason) octets = omega arith

pub run_bare : (mode : Mode) (octets : List ℕ) → AreBare (take (run_len mode octets) octets)
run_bare Between [] = tt
run_bare Between (c ∷ octets) = bare_cond (c == semicolon) _ (c ∷ octets) (bare_before (c ∷ octets))
run_bare Semicolon octets = tt
run_bare Outside octets = bare_before octets
run_bare Inside octets = tt
run_bare Escape octets = tt
run_bare (Digit value) octets = tt
run_bare (Refused place reason) octets = tt

-- what may be appended at once goes on with a word, or begins one
pub run_takes : (mode : Mode) (octets : List ℕ) (n : ℕ) → n ≡ run_len mode octets → (n ≡ 0 → ⊥) → takes_run mode (take n octets) ≡ true
run_takes Between [] n e some = absurd (some e)
run_takes Between (c ∷ octets) zero e some = absurd (some refl)
run_takes Between (c ∷ octets) (suc n) e some = by (c == semicolon) refl
  where
    by : (b : Bool) → (c == semicolon) ≡ b → not (c == semicolon) ≡ true
    by true h = (let none : suc n ≡ 0 = e ∙ ap (λ (b : Bool). cond b 0 (position_or_len is_special (c ∷ octets))) h in absurd (omega arith))
    by false h = ap not h
run_takes Semicolon octets n e some = absurd (some e)
run_takes Outside octets n e some = refl
run_takes Inside octets n e some = absurd (some e)
run_takes Escape octets n e some = absurd (some e)
run_takes (Digit value) octets n e some = absurd (some e)
run_takes (Refused place reason) octets n e some = absurd (some e)

pub takes_some : (run : List ℕ) → takes_run Between run ≡ true → 0 < length run
takes_some [] h = absurd cc
takes_some (c ∷ run) h = omega arith

-- a word that is begun by such octets is an empty one that goes on with them
pub begun : (run : List ℕ) (words : List (List ℕ)) (at : ℕ) → AreBare run → takes_run Between run ≡ true
    → fold step (record { words = words; mode = Between; at = at }) run ≡ fold step (record { words = with_word words; mode = Outside; at = at }) run
begun [] words at h t = absurd cc
begun (c ∷ run) words at h t =
    ap (λ (s : Scan). fold step s run) (cond-false _ _ _ (bare_not_white c (not_special c h.0)) ∙ cond-false _ _ _ (not-true _ t))

-- the scan behind a word that is begun so
pub opened : (run : List ℕ) (words mid after : List (List ℕ)) (mode : Mode) (at : ℕ) → mode ≡ Between → mid ≡ with_word words → after ≡ fold with_octet mid run → AreBare run → takes_run Between run ≡ true
    → record { words = after; mode = Outside; at = at + length run } ≡ fold step (record { words = words; mode = mode; at = at }) run
opened run words mid after mode at m b e h t =
    extended run mid after Outside at refl e h
    ∙ ap (λ (w : List (List ℕ)). fold step (record { words = w; mode = Outside; at = at }) run) b
    ∙ sym (begun run words at h t)
    ∙ ap (λ (x : Mode). fold step (record { words = words; mode = x; at = at }) run) (sym m)

-- the octets of a scan are scanned in two parts
pub in_parts : (s after : Scan) (n : ℕ) (octets behind : List ℕ) → after ≡ fold step s (take n octets) → behind ≡ drop n octets → fold step after behind ≡ fold step s octets
in_parts s after n octets behind e f =
    ap (λ (x : Scan). fold step x behind) e ∙ ap (fold step (fold step s (take n octets))) f
    ∙ sym (fold-append step s (take n octets) (drop n octets)) ∙ ap (fold step s) (take-append-drop n octets)

pub at_part : (s after : Scan) (n : ℕ) (octets behind : List ℕ) → n ≤ length octets → after ≡ fold step s (take n octets) → behind ≡ drop n octets → after.at + length behind ≡ s.at + length octets
at_part s after n octets behind le e f = omega (arith, ap (λ (x : Scan). x.at) e, at_run (take n octets) s, length-take n octets, ap length f, length-drop n octets)
