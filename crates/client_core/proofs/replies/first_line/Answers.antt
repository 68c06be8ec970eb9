use Rattle.std.proofs.Common.{ℕ, ◌+◌, ◌<◌, List, ◌∷◌, ◌++◌, take, drop, get_or, sym, ap, ◌∙◌, arith, eqb-true, eq-eqb}
use Rattle.std.proofs.lemmas.List.{take-append-drop, drop_more, get_or-take, length-take, get_or_default}
use Rattle.client_core.proofs.replies.first_line.Goals as goal

pub returns-in-Some : goal.returns-in-Some
returns-in-Some c =
    let none = c.in-Some.ensures.0 in
    let piece = c.args.piece.now in (
      λ k d below is.
          let short : k < c.in-Some.k = omega (arith, length-take c.in-Some.k piece) in
          none.before k (omega arith) short (eq-eqb (get_or piece k 0) 10 (get_or_default piece k 0 d (omega (arith, none.high)) ∙ sym (get_or-take c.in-Some.k piece k d short) ∙ is)),
      (
        drop (c.in-Some.k + 1) piece,
        sym (take-append-drop c.in-Some.k piece) ∙ ap (λ (rest : List ℕ). take c.in-Some.k piece ++ rest) (drop_more piece c.in-Some.k 0 none.high ∙ ap (λ (x : ℕ). x ∷ drop (c.in-Some.k + 1) piece) (eqb-true (get_or piece c.in-Some.k 0) 10 c.in-Some.ensures.1)),
      ),
    )

pub returns-in-None : goal.returns-in-None
returns-in-None c = λ k d below is. c.in-None.ensures k (omega arith) below (eq-eqb (get_or c.args.piece.now k 0) 10 (get_or_default c.args.piece.now k 0 d below ∙ is))
