-- The cases of a step, with what each says of the octet.
use Rattle.std.proofs.Common.{◌≡◌, ◌≢◌, ℕ, ◌-◌, ◌<◌, ◌≤◌, inl, inr, Bool, true, false, eqb, ltb, leb, ◌&&◌, List, [], ◌∷◌, Option, Some, None, refl, sym, ap, subst, ◌∙◌, arith}
use Rattle.std.proofs.lemmas.Bool.{cases_Bool, cases_lt, and_parts, leb-true, lt-ltb, le-ltb, agree_below_at, eqb-true, eqb-false, cond-true, cond-false}
use Rattle.std.proofs.lemmas.Option.{same_Some, none-some}
use Rattle.std.specs.Option.{is_some, option_map_or}
use Rattle.std.proofs.lemmas.Bool.Decides.{nat_tests}
use Rattle.cody_words.specs.declared.reason.Reason.TheVariants.{ControlOctet, BackslashOutside, UnknownEscape}
use Rattle.cody_words.specs.declared.mode.Mode.TheVariants.{Between, Outside, Inside, Escape, Digit, Refused}
use Rattle.cody_words.specs.Octets.{IsWhite, IsControl, IsBare, IsPlain, IsHexDigit, hex_digit}
use Rattle.cody_words.specs.Spelling.{Item, escaped_newline, escaped_tab, escaped_apostrophe, escaped_backslash, escaped_space, item_raw, item_value, IsItem, EndsBefore}
use Rattle.cody_words.specs.Scan.{Scan, is_white, is_control, hex_value, letter_value, with_octet, goes, step_outside, step_inside, step_escape}

pub white_is : (c : ℕ) → is_white c ≡ true → IsWhite c
white_is c e = elim (cases_Bool (eqb c 32)) [ inl y ↦ inl (eqb-true c 32 y) | inr n ↦ inr (grind (arith, nat_tests)) ]

not_white : (c : ℕ) → is_white c ≡ false → (c ≢ 32) × (c ≢ 9)
not_white c e = (grind (arith, nat_tests), grind (arith, nat_tests))

pub control_is : (c : ℕ) → is_control c ≡ true → IsControl c
control_is c e = elim (cases_Bool (eqb c 127)) [ inl y ↦ inr (eqb-true c 127 y) | inr n ↦ inl (grind (arith, nat_tests), grind (arith, nat_tests)) ]

pub not_control : (c : ℕ) → is_control c ≡ false → (c ≢ 127) × (c < 32 → c ≡ 9)
not_control c e = (grind (arith, nat_tests), λ lt. grind (arith, nat_tests))

pub white_again : (c : ℕ) → IsWhite c → is_white c ≡ true
white_again c (inl e) = rw e refl
white_again c (inr e) = rw e refl

pub control_again : (c : ℕ) → IsControl c → is_control c ≡ true
control_again c (inl h) = grind (arith, nat_tests)
control_again c (inr e) = rw e refl

pub bare_not_white : (c : ℕ) → IsBare c → is_white c ≡ false
bare_not_white c h = grind (arith, nat_tests)

pub bare_not_control : (c : ℕ) → IsBare c → is_control c ≡ false
bare_not_control c h = grind (arith, nat_tests)

pub plain_not_control : (c : ℕ) → IsPlain c → is_control c ≡ false
plain_not_control c (inl h) = grind (arith, nat_tests)
plain_not_control c (inr e) = rw e refl

-- ---- hexadecimal digits

option_none : (o : Option ℕ) → ((n : ℕ) → o ≡ Some n → ⊥) → o ≡ None
option_none None h = refl
option_none (Some n) h = absurd (h n refl)

above_space : (c : ℕ) → c ≢ 32 → c ≢ 9 → (c < 32 → c ≡ 9) → 32 < c
above_space c a b h =
    elim (cases_lt c 32) [ inl lt ↦ absurd (b (h lt)) | inr le ↦ omega arith ]

plain_is : (c : ℕ) → c ≢ 92 → c ≢ 39 → (c ≢ 127) × (c < 32 → c ≡ 9) → IsPlain c
plain_is c s q k =
    elim (cases_lt c 32) [ inl lt ↦ inr (k.1 lt) | inr le ↦ inl (le, s, q, k.0) ]

abbrev gives_back : ℕ → Bool
gives_back n = option_map_or (λ m. eqb m n) (hex_value (hex_digit n)) false

some_is : (o : Option ℕ) (n : ℕ) → option_map_or (λ m. eqb m n) o false ≡ true → o ≡ Some n
some_is None n e = absurd cc
some_is (Some m) n e = ap (λ (k : ℕ). Some k) (eqb-true m n e)

pub hex_again : (n : ℕ) → n < 16 → hex_value (hex_digit n) ≡ Some n
hex_again n lt = some_is (hex_value (hex_digit n)) n (agree_below_at gives_back (λ _. true) 16 n refl lt)

-- what isn't there is nothing
pub none_is : (o : Option ℕ) → is_some o ≡ false → o ≡ None
none_is None e = refl
none_is (Some m) e = absurd cc

pub letter_of_digit : (n : ℕ) → n < 16 → letter_value (hex_digit n) ≡ None
letter_of_digit n lt = none_is (letter_value (hex_digit n)) (agree_below_at (λ k. is_some (letter_value (hex_digit k))) (λ _. false) 16 n refl lt)

pub hex_is : (c n : ℕ) → hex_value c ≡ Some n → (n < 16) × (c ≡ hex_digit n)
hex_is c n e =
    elim (cases_Bool (leb 48 c && leb c 57)) [
      | inl y ↦
          let low = and_parts (leb 48 c) (leb c 57) y in
          let a : 48 ≤ c = leb-true 48 c low.0 in
          let b : c ≤ 57 = leb-true c 57 low.1 in
          let h : n ≡ c - 48 = same_Some n (c - 48) (sym e ∙ cond-true _ _ _ y) in
          let lt : ltb n 10 ≡ true = lt-ltb n 10 (omega arith) in
          (omega arith, rw lt (omega arith))
      | inr nd ↦ elim (cases_Bool (leb 97 c && leb c 102)) [
        | inl y ↦
            let high = and_parts (leb 97 c) (leb c 102) y in
            let a : 97 ≤ c = leb-true 97 c high.0 in
            let b : c ≤ 102 = leb-true c 102 high.1 in
            let h : n ≡ c - 87 = same_Some n (c - 87) (sym e ∙ cond-false _ _ _ nd ∙ cond-true _ _ _ y) in
            let ge : ltb n 10 ≡ false = le-ltb n 10 (omega arith) in
            (omega arith, rw ge (omega arith))
        | inr nn ↦ absurd (none-some n (sym (cond-false _ _ _ nd ∙ cond-false _ _ _ nn) ∙ e))
      ]
    ]

pub hex_none : (c : ℕ) → hex_value c ≡ None → IsHexDigit c → ⊥
hex_none c e h = none-some h.0 (sym e ∙ ap hex_value h.2 ∙ hex_again h.0 h.1)

pub hex_not : (c : ℕ) → (IsHexDigit c → ⊥) → hex_value c ≡ None
hex_not c other = option_none (hex_value c) (λ n e. other (n, (hex_is c n e).0, (hex_is c n e).1))

-- ---- the steps by cases

pub data OutsideStep (words : List (List ℕ)) (at c : ℕ) (t : Scan) : Type 0 where
  white : IsWhite c → t ≡ goes words at Between → OutsideStep words at c t
  opened : c ≡ 39 → t ≡ goes words at Inside → OutsideStep words at c t
  control : IsControl c → t ≡ goes words at (Refused at ControlOctet) → OutsideStep words at c t
  slash : c ≡ 92 → t ≡ goes words at (Refused at BackslashOutside) → OutsideStep words at c t
  letter : IsBare c → t ≡ goes (with_octet words c) at Outside → OutsideStep words at c t

pub outside_step : (words : List (List ℕ)) (at c : ℕ) → OutsideStep words at c (step_outside words at c)
outside_step words at c =
    elim (cases_Bool (is_white c)) [
      | inl y ↦ white (white_is c y) (cond-true _ _ _ y)
      | inr n ↦ elim (cases_Bool (eqb c 39)) [
        | inl q ↦ opened (eqb-true c 39 q) (cond-false _ _ _ n ∙ cond-true _ _ _ q)
        | inr nq ↦ elim (cases_Bool (is_control c)) [
          | inl k ↦ control (control_is c k) (cond-false _ _ _ n ∙ cond-false _ _ _ nq ∙ cond-true _ _ _ k)
          | inr nk ↦ elim (cases_Bool (eqb c 92)) [
            | inl s ↦ slash (eqb-true c 92 s) (cond-false _ _ _ n ∙ cond-false _ _ _ nq ∙ cond-false _ _ _ nk ∙ cond-true _ _ _ s)
            | inr ns ↦
                let w = not_white c n in
                let k = not_control c nk in
                let above : 32 < c = above_space c w.0 w.1 k.1 in
                letter (above, eqb-false c 92 ns, eqb-false c 39 nq, k.0) (cond-false _ _ _ n ∙ cond-false _ _ _ nq ∙ cond-false _ _ _ nk ∙ cond-false _ _ _ ns)
          ]
        ]
      ]
    ]

pub data InsideStep (words : List (List ℕ)) (at c : ℕ) (t : Scan) : Type 0 where
  closed : c ≡ 39 → t ≡ goes words at Outside → InsideStep words at c t
  escape : c ≡ 92 → t ≡ goes words at Escape → InsideStep words at c t
  control : IsControl c → t ≡ goes words at (Refused at ControlOctet) → InsideStep words at c t
  item : IsPlain c → t ≡ goes (with_octet words c) at Inside → InsideStep words at c t

pub inside_step : (words : List (List ℕ)) (at c : ℕ) → InsideStep words at c (step_inside words at c)
inside_step words at c =
    elim (cases_Bool (eqb c 39)) [
      | inl q ↦ closed (eqb-true c 39 q) (cond-true _ _ _ q)
      | inr nq ↦ elim (cases_Bool (eqb c 92)) [
        | inl s ↦ escape (eqb-true c 92 s) (cond-false _ _ _ nq ∙ cond-true _ _ _ s)
        | inr ns ↦ elim (cases_Bool (is_control c)) [
          | inl k ↦ control (control_is c k) (cond-false _ _ _ nq ∙ cond-false _ _ _ ns ∙ cond-true _ _ _ k)
          | inr nk ↦ item (plain_is c (eqb-false c 92 ns) (eqb-false c 39 nq) (not_control c nk)) (cond-false _ _ _ nq ∙ cond-false _ _ _ ns ∙ cond-false _ _ _ nk)
        ]
      ]
    ]

pub data EscapeStep (words : List (List ℕ)) (at c : ℕ) (t : Scan) : Type 0 where
  letter : (i : Item) → IsItem i → ((items : List Item) → EndsBefore i items) → item_raw i ≡ 92 ∷ c ∷ [] → t ≡ goes (with_octet words (item_value i)) at Inside → EscapeStep words at c t
  digit : (n : ℕ) → n < 16 → c ≡ hex_digit n → t ≡ goes words at (Digit n) → EscapeStep words at c t
  unknown : letter_value c ≡ None → hex_value c ≡ None → t ≡ goes words at (Refused (at - 1) UnknownEscape) → EscapeStep words at c t

escape_by_digit : (words : List (List ℕ)) (at c : ℕ) (o : Option ℕ) → letter_value c ≡ None → hex_value c ≡ o → EscapeStep words at c (step_escape words at None o)
escape_by_digit words at c None l e = unknown l e refl
escape_by_digit words at c (Some n) l e = digit n (hex_is c n e).0 (hex_is c n e).1 refl

pub escape_step : (words : List (List ℕ)) (at c : ℕ) → EscapeStep words at c (step_escape words at (letter_value c) (hex_value c))
escape_step words at c =
    elim (cases_Bool (eqb c 110)) [
      | inl y ↦ let e : c ≡ 110 = eqb-true c 110 y in letter escaped_newline tt (λ _. tt) (rw e refl) (rw e refl)
      | inr n1 ↦ elim (cases_Bool (eqb c 116)) [
        | inl y ↦ let e : c ≡ 116 = eqb-true c 116 y in letter escaped_tab tt (λ _. tt) (rw e refl) (rw e refl)
        | inr n2 ↦ elim (cases_Bool (eqb c 39)) [
          | inl y ↦ let e : c ≡ 39 = eqb-true c 39 y in letter escaped_apostrophe tt (λ _. tt) (rw e refl) (rw e refl)
          | inr n3 ↦ elim (cases_Bool (eqb c 92)) [
            | inl y ↦ let e : c ≡ 92 = eqb-true c 92 y in letter escaped_backslash tt (λ _. tt) (rw e refl) (rw e refl)
            | inr n4 ↦ elim (cases_Bool (eqb c 95)) [
              | inl y ↦ let e : c ≡ 95 = eqb-true c 95 y in letter escaped_space tt (λ _. tt) (rw e refl) (rw e refl)
              | inr n5 ↦
                  let l : letter_value c ≡ None = cond-false _ _ _ n1 ∙ cond-false _ _ _ n2 ∙ cond-false _ _ _ n3 ∙ cond-false _ _ _ n4 ∙ cond-false _ _ _ n5 in
                  subst (λ (o : Option ℕ). EscapeStep words at c (step_escape words at o (hex_value c))) (sym l) (escape_by_digit words at c (hex_value c) l refl)
            ]
          ]
        ]
      ]
    ]
