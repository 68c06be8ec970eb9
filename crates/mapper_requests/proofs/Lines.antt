-- The texts of requests, as they are written word by word.
use Rattle.std.proofs.Common.{◌≡◌, ◌≢◌, ℕ, ◌+◌, ◌%◌, ◌<◌, ◌^◌, Bool, true, not, List, [], ◌∷◌, ◌++◌, length, refl, sym, ap, ◌∙◌, append_assoc, append-nil, arith}
use Rattle.std.specs.Prelude.{codes, decimal, ◌==◌}
use Rattle.std.specs.List.{list_all}
use Rattle.std.proofs.lemmas.Bool.{ne_eqb, and_from}
use Rattle.std.proofs.lemmas.Bool.Decides.{nat_tests}
use Rattle.std.proofs.lemmas.Fmt.{decimal_by_steps, decimal_nonempty}
use Rattle.cody_words.specs.Octets.{space}
use Rattle.cody_words.specs.Canonical.{is_bare_letter, quote, spaced}
use Rattle.mapper_requests.specs.Writing.{given_text, given_flags}
use Rattle.mapper_requests.specs.declared.verb.Verb.{Verb}
use Rattle.mapper_requests.specs.declared.verb.Verb.TheVariants as verb
use Rattle.mapper_requests.specs.Working.{behind, row_of}
use Rattle.mapper_requests.proofs.Digits.{and_first, and_second}

list_all-append : (p : ℕ → Bool) (xs ys : List ℕ) → list_all p xs ≡ true → list_all p ys ≡ true → list_all p (xs ++ ys) ≡ true
list_all-append p [] ys f g = g
list_all-append p (x ∷ xs) ys f g = and_from (p x) _ (and_first (p x) (list_all p xs) f) (list_all-append p xs ys (and_second (p x) (list_all p xs) f) g)

digit_bare : (n : ℕ) → n < 10 → list_all is_bare_letter ((48 + n) ∷ []) ≡ true
unfolding is_bare_letter
digit_bare n small = grind (arith, nat_tests)

decimal_bare : (n : ℕ) → n < 2 ^ 64 → list_all is_bare_letter (decimal n) ≡ true
decimal_bare n small = decimal_by_steps (λ m ds. list_all is_bare_letter ds ≡ true) (λ m lt. digit_bare m lt) (λ m ds ge e. list_all-append is_bare_letter ds _ e (digit_bare (m % 10) (omega arith))) n small

-- a number is written bare
pub quote-decimal : (n : ℕ) → n < 2 ^ 64 → quote (decimal n) ≡ decimal n
quote-decimal n small =
    let some : 0 < length (decimal n) = decimal_nonempty n small in
    let a : not (length (decimal n) == 0) ≡ true = grind (arith, nat_tests) in
    rw (a, decimal_bare n small) refl

-- a line is its first word and what stands behind it
pub spaced_is : (word : List ℕ) (words : List (List ℕ)) → spaced (word ∷ words) ≡ quote word ++ behind words
spaced_is word [] = sym (append-nil (quote word))
spaced_is word (other ∷ words) = ap (λ (t : List ℕ). quote word ++ space ∷ t) (spaced_is other words)

-- flags that aren't 0
pub flags_behind : (n : ℕ) → n < 2 ^ 64 → n ≢ 0 → space ∷ decimal n ≡ behind (given_flags n)
flags_behind n small some = rw (ne_eqb n 0 some) (ap (λ (t : List ℕ). space ∷ t) (sym (append-nil (quote (decimal n)) ∙ quote-decimal n small)))

-- a verb is written bare
pub verb_bare : (v : Verb) → quote (row_of v).verb ≡ (row_of v).verb
unfolding is_bare_letter
verb_bare verb.Hello = refl
verb_bare verb.Repo = refl
verb_bare verb.Export = refl
verb_bare verb.Import = refl
verb_bare verb.Compiled = refl
verb_bare verb.Translate = refl

-- the words of HELLO
pub hello_text : (version : ℕ) (compiler ident : List ℕ) → version < 2 ^ 64 → ((codes "HELLO" ++ space ∷ decimal version) ++ space ∷ quote compiler) ++ behind (given_text ident) ≡ spaced (codes "HELLO" ∷ decimal version ∷ compiler ∷ given_text ident)
hello_text version compiler ident small =
    sym (spaced_is (codes "HELLO") (decimal version ∷ compiler ∷ given_text ident) ∙ ap (λ (t : List ℕ). t ++ behind (decimal version ∷ compiler ∷ given_text ident)) (verb_bare verb.Hello) ∙ ap (λ (t : List ℕ). codes "HELLO" ++ space ∷ t ++ behind (compiler ∷ given_text ident)) (quote-decimal version small) ∙ simp append_assoc)

-- the words of a request with a name
pub named_text : (verb name : List ℕ) (flags : ℕ) → quote verb ≡ verb → (verb ++ space ∷ quote name) ++ behind (given_flags flags) ≡ spaced (verb ∷ name ∷ given_flags flags)
named_text verb name flags bare =
    append_assoc verb (space ∷ quote name) (behind (given_flags flags)) ∙ sym (spaced_is verb (name ∷ given_flags flags) ∙ ap (λ (t : List ℕ). t ++ behind (name ∷ given_flags flags)) bare)
