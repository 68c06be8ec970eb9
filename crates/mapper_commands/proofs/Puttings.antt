-- Texts that go out one behind another.
use Rattle.std.proofs.Common.{◌≡◌, ℕ, ◌+◌, List, ◌++◌, length, take, Option, Result, Ok, Err, sym, ap, subst, ◌∙◌, append_assoc, arith}
use Rattle.std.proofs.lemmas.List.{length-append, take-append-le}
use Rattle.std.proofs.Math.Seq.{take-append-add}
use Rattle.mm_outside.specs.declared.errors.Failed.{Failed}
use Rattle.mm_outside.proofs.ToldLemmas.{Told-map, Told-then}
use Rattle.mapper_server.specs.Printing.{IsCut}
use Rattle.mapper_commands.specs.Paging.{GoesOut, Puts}

goes_then : (one two h0 h1 h2 x y z : List ℕ) → GoesOut one h0 h1 x y → GoesOut two h1 h2 y z → GoesOut (one ++ two) h0 h2 x z
goes_then one two h0 h1 h2 x y z p q = record {
  gone = p.gone ++ q.gone;
  written = q.written ∙ ap (λ t. t ++ q.gone) p.written ∙ append_assoc x p.gone q.gone;
  parts = append_assoc p.gone q.gone h2 ∙ ap (λ t. p.gone ++ t) q.parts ∙ sym (append_assoc p.gone h1 two) ∙ ap (λ t. t ++ two) p.parts ∙ append_assoc h0 one two;
}

cut_then : (one two h0 h1 x y z : List ℕ) → GoesOut one h0 h1 x y → IsCut (h1 ++ two) y z → IsCut (h0 ++ (one ++ two)) x z
cut_then one two h0 h1 x y z p q = record {
  count = length p.gone + q.count;
  proper = let s = q.proper in let e = ap length whole in omega (arith, s, e, length-append p.gone (h1 ++ two));
  appended = q.appended ∙ ap (λ t. t ++ take q.count (h1 ++ two)) p.written ∙ append_assoc x p.gone (take q.count (h1 ++ two)) ∙ ap (λ t. x ++ t) (sym (take-append-add p.gone (h1 ++ two) q.count) ∙ ap (take (length p.gone + q.count)) whole);
}
  where
    whole : p.gone ++ (h1 ++ two) ≡ h0 ++ (one ++ two)
    whole = sym (append_assoc p.gone h1 two) ∙ ap (λ t. t ++ two) p.parts ∙ append_assoc h0 one two

cut_more : (text more x y : List ℕ) → IsCut text x y → IsCut (text ++ more) x y
cut_more text more x y q = record {
  count = q.count;
  proper = let s = q.proper in omega (arith, s, length-append text more);
  appended = q.appended ∙ ap (λ t. x ++ t) (sym (take-append-le q.count text more (let s = q.proper in omega (arith, s))));
}

module _ (a b c : Option (List ℕ)) where
  -- a text behind one that was put
  pub puts_then : (result : Result (Unit {0}) Failed) (done : Unit {0}) (one two h0 h1 h2 : List ℕ) → Puts (Ok done) one h0 h1 a b → Puts result two h1 h2 b c → Puts result (one ++ two) h0 h2 a c
  puts_then (Ok u) done one two h0 h1 h2 = Told-then {R = GoesOut one h0 h1} {S = GoesOut two h1 h2} (λ x y z p q. goes_then one two h0 h1 h2 x y z p q)
  puts_then (Err e) done one two h0 h1 h2 = Told-then {R = GoesOut one h0 h1} {S = IsCut (h1 ++ two)} (λ x y z p q. cut_then one two h0 h1 x y z p q)

-- nothing behind one that wasn't
pub puts_part : (failed : Failed) (one two h0 h1 h2 : List ℕ) (a b : Option (List ℕ)) → Puts (Err failed) one h0 h1 a b → Puts (Err failed) (one ++ two) h0 h2 a b
puts_part failed one two h0 h1 h2 a b = Told-map {R = IsCut (h0 ++ one)} (λ x y q. subst (λ t. IsCut t x y) (append_assoc h0 one two) (cut_more (h0 ++ one) two x y q))
