-- A reader's run against the grammar: what it accepts, and where it stops.
use Rattle.std.proofs.Common.{◌≡◌, ℕ, ◌+◌, List, [], ◌∷◌, ◌++◌, length, Option, Some, None, sym, ap, ◌∙◌, refl, subst, append_assoc}
use Rattle.std.proofs.lemmas.List.{append-nil}
use Rattle.module_units.specs.Terminals.{Terminal}
use Rattle.module_units.specs.Grammar.{UnitTree, unit_tree, BeginsUnit, IsSyntaxFault}
use Rattle.module_units.specs.Unit.{UnitOf, head_of, unit_of}
use Rattle.module_units.specs.Machine.{Stage, AtHead, Place, Between, Parser, at, step, start, run}
use Rattle.module_units.proofs.UnitParts.{FHead, front_tree, UnitPart, PBetween, PExported, PModule, PPartition, PAfterImport, PWhole, PPart, PHeader, PItem, PGroup, PGroupItem, unit_tokens, state_of, Grows, unit_grows}
use Rattle.module_units.proofs.Rounds.{unit_completes, unit_round, EndsBetween}
use Rattle.std.proofs.Common.{◌<◌, ◌≤◌, take, drop, get_or, arith, take-append-drop}
use Rattle.std.proofs.lemmas.List.{take_more, take_all, take-take}
use Rattle.std.proofs.lemmas.Bool.{cases_order, cases_lt}
use Rattle.std.proofs.Common.{inl, inr}

run-append : (s : Option Parser) (a b : List Terminal) → run s (a ++ b) ≡ run (run s a) b
run-append s [] b = refl
run-append None (t ∷ a) [] = refl
run-append None (t ∷ a) (v ∷ b) = refl
run-append (Some s) (t ∷ a) b = run-append (step s.unit s.place t) a b

none_run : (ts : List Terminal) → run None ts ≡ None
none_run [] = refl
none_run (t ∷ ts) = refl

-- what a run has reached has a part with these tokens
reached_from : (o : Option Parser) (tokens : List Terminal) → Grows tokens o → (ts : List Terminal) → Grows (tokens ++ ts) (run o ts)
reached_from None tokens g [] = tt
reached_from None tokens g (t ∷ ts) = tt
reached_from (Some s) tokens (q, is, are) [] = (q, is, are ∙ sym (append-nil tokens))
reached_from (Some s) tokens (q, is, are) (t ∷ ts) =
    let next : Grows (unit_tokens q ++ t ∷ []) (step (state_of q).unit (state_of q).place t) = unit_grows q t in
    let moved : Grows (tokens ++ t ∷ []) (step s.unit s.place t) =
    subst (λ x. Grows (tokens ++ t ∷ []) (step x.unit x.place t)) is (subst (λ l. Grows (l ++ t ∷ []) (step (state_of q).unit (state_of q).place t)) are next) in
    subst (λ l. Grows l (run (step s.unit s.place t) ts)) (append_assoc tokens (t ∷ []) ts) (reached_from (step s.unit s.place t) (tokens ++ t ∷ []) moved ts)

pub reached : (ts : List Terminal) → Grows ts (run (Some start) ts)
reached ts = reached_from (Some start) [] (PBetween FHead, refl, refl) ts

-- these tokens are a unit
pub record IsUnit (tokens : List Terminal) (u : UnitOf) : Type 0 where
  pub tree : UnitTree
  pub tokens_are : unit_tree tree ≡ tokens
  pub unit_is : unit_of tree ≡ u

between_part : (p : UnitPart) (u : UnitOf) (s : Stage) (tokens : List Terminal) → state_of p ≡ record { unit = u; place = Between s } → unit_tokens p ≡ tokens → IsUnit tokens u
between_part (PBetween f) u s tokens is are = record { tree = front_tree f; tokens_are = are; unit_is = ap (λ x. x.unit) is }
between_part (PExported f line) u s tokens is are = let e = ap (λ x. x.place) is in absurd (cc e)
between_part (PModule e line n) u s tokens is are = let e = ap (λ x. x.place) is in absurd (cc e)
between_part (PPartition e line m c n) u s tokens is are = let e = ap (λ x. x.place) is in absurd (cc e)
between_part (PAfterImport m is' e line) u s tokens is are = let e = ap (λ x. x.place) is in absurd (cc e)
between_part (PWhole m is' e line d dot) u s tokens is are = let e = ap (λ x. x.place) is in absurd (cc e)
between_part (PPart m is' e line c n) u s tokens is are = let e = ap (λ x. x.place) is in absurd (cc e)
between_part (PHeader m is' e line name l) u s tokens is are = let e = ap (λ x. x.place) is in absurd (cc e)
between_part (PItem f e p) u s tokens is are = let e = ap (λ x. x.place) is in absurd (cc e)
between_part (PGroup f line items) u s tokens is are = let e = ap (λ x. x.place) is in absurd (cc e)
between_part (PGroupItem f line items p) u s tokens is are = let e = ap (λ x. x.place) is in absurd (cc e)

-- a run that ends between parts has read a unit
pub accepted : (ts : List Terminal) (u : UnitOf) (s : Stage) → run (Some start) ts ≡ at u (Between s) → IsUnit ts u
accepted ts u s e =
    let r : Grows ts (at u (Between s)) = subst (λ o. Grows ts o) e (reached ts) in
    between_part r.0 u s ts r.1 r.2

-- and reads each unit
pub read_back : (ts : List Terminal) (u : UnitOf) → IsUnit ts u → EndsBetween (run (Some start) ts) u
read_back ts u is =
    let r = unit_round is.tree in
    (r.0, ap (run (Some start)) (sym is.tokens_are) ∙ r.1 ∙ ap (λ v. at v (Between r.0)) is.unit_is)

abbrev place_in : Option Parser → Place
place_in None = Between AtHead
place_in (Some s) = s.place

abbrev unit_in : Option Parser → UnitOf
unit_in None = head_of None
unit_in (Some s) = s.unit

-- tokens are one unit at most
pub one_unit : (ts : List Terminal) (u v : UnitOf) → IsUnit ts u → IsUnit ts v → u ≡ v
one_unit ts u v a b = ap unit_in (sym (read_back ts u a).1 ∙ (read_back ts v b).1)

-- what a run has reached begins a unit
pub begun : (ts : List Terminal) (s : Parser) → run (Some start) ts ≡ Some s → BeginsUnit ts
begun ts s e =
    let r : Grows ts (Some s) = subst (λ o. Grows ts o) e (reached ts) in
    subst BeginsUnit r.2 (unit_completes r.0)

-- and where a run has stopped, no unit begins so
pub not_begun : (ts : List Terminal) → run (Some start) ts ≡ None → BeginsUnit ts → ⊥
not_begun ts e (u, more, is) =
    let r = (unit_round u).1 in
    let x : run (Some start) (unit_tree u) ≡ None = ap (run (Some start)) is ∙ run-append (Some start) ts more ∙ ap (λ o. run o more) e ∙ none_run more in
    cc (r, x)

-- the token at which a run stops
pub stops_at : (ts : List Terminal) (k : ℕ) (t : Terminal) (s : Parser) → k < length ts → get_or ts k t ≡ t → run (Some start) (take k ts) ≡ Some s → step s.unit s.place t ≡ None → IsSyntaxFault ts k
stops_at ts k t s lt at_k e none =
    let more : take (k + 1) ts ≡ take k ts ++ get_or ts k t ∷ [] = take_more ts k t lt in
    let stopped : run (Some start) (take (k + 1) ts) ≡ None =
    ap (run (Some start)) (more ∙ ap (λ x. take k ts ++ x ∷ []) at_k) ∙ run-append (Some start) (take k ts) (t ∷ []) ∙ ap (λ o. run o (t ∷ [])) e ∙ none in
    record {
      begins = begun (take k ts) s e;
      within = omega arith;
      stuck = λ in_range b. not_begun (take (k + 1) ts) stopped b;
      ended = λ is u are. absurd (omega arith);
    }

-- the end of the tokens, where a run doesn't stop between parts
pub ends_early : (ts : List Terminal) (s : Parser) → run (Some start) ts ≡ Some s → ((st : Stage) → s.place ≡ Between st → ⊥) → IsSyntaxFault ts (length ts)
ends_early ts s e other = record {
  begins = subst BeginsUnit (sym (take_all (length ts) ts (omega arith))) (begun ts s e);
  within = omega arith;
  stuck = λ in_range b. absurd (omega arith);
  ended = λ is u are. let r = unit_round u in let x : Some s ≡ at (unit_of u) (Between r.0) = sym e ∙ ap (run (Some start)) (sym are) ∙ r.1 in other r.0 (ap place_in x);
}

begins_front : (a b : List Terminal) → BeginsUnit (a ++ b) → BeginsUnit a
begins_front a b (u, more, is) = (u, b ++ more, is ∙ append_assoc a b more)

begins_take : (ts : List Terminal) (k l : ℕ) → k ≤ l → BeginsUnit (take l ts) → BeginsUnit (take k ts)
begins_take ts k l le begins =
    let split : take l ts ≡ take k ts ++ drop k (take l ts) = sym (take-append-drop k (take l ts)) ∙ ap (λ x. x ++ drop k (take l ts)) (take-take k l ts le) in
    begins_front (take k ts) (drop k (take l ts)) (subst BeginsUnit split begins)

not_before : (ts : List Terminal) (k l : ℕ) → IsSyntaxFault ts k → IsSyntaxFault ts l → k < l → ⊥
not_before ts k l a b lt = a.stuck (omega (arith, b.within)) (begins_take ts (k + 1) l (omega arith) b.begins)

-- a list of tokens has one syntax fault at most
pub one_syntax_fault : (ts : List Terminal) (k l : ℕ) → IsSyntaxFault ts k → IsSyntaxFault ts l → k ≡ l
one_syntax_fault ts k l a b =
    elim (cases_order k l) [
      | inl same ↦ same
      | inr other ↦ elim other [ inl lt ↦ absurd (not_before ts k l a b lt) | inr gt ↦ absurd (not_before ts l k b a gt) ]
    ]

-- and none where it is a unit
pub unit_no_fault : (ts : List Terminal) (u : UnitOf) (k : ℕ) → IsUnit ts u → IsSyntaxFault ts k → ⊥
unit_no_fault ts u k is fault =
    elim (cases_lt k (length ts)) [
      | inl lt ↦
          let whole : BeginsUnit (take (length ts) ts) = (is.tree, [], is.tokens_are ∙ sym (append-nil _ ∙ take_all (length ts) ts (omega arith))) in
          fault.stuck lt (begins_take ts (k + 1) (length ts) (omega arith) whole)
      | inr ge ↦ fault.ended (omega (arith, fault.within)) is.tree is.tokens_are
    ]
