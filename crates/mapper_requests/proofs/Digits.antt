-- Numbers: how large digits are, and that a number which is written is read back.
use Rattle.std.proofs.Common.{◌≡◌, ℕ, ◌<◌, ◌≤◌, ◌^◌, zero, suc, Bool, true, false, ◌&&◌, not, List, [], ◌∷◌, length, take, None, refl, sym, ap, subst, ◌∙◌, arith, rules}
use Rattle.std.specs.Prelude.{Some, decimal, ◌==◌, nat_le}
use Rattle.std.specs.Char.{is_ascii_digit}
use Rattle.std.specs.List.{fold, list_all}
use Rattle.std.proofs.lemmas.Str.Parse.{IsDigitsTest, FoldsDigits, IsNumeralModel, numerals_by_fold, digits_value_short}
use Rattle.std.proofs.lemmas.Fmt.{digits_decimal, digits_value-decimal, length-decimal-le, decimal_nonempty}
use Rattle.std.proofs.lemmas.Bool.{and_from}
use Rattle.std.proofs.lemmas.Bool.Decides.{nat_tests}
use Rattle.mapper_requests.specs.Numbers.{with_digit, digits_value, IsNumber, greatest_number, number_of}

abbrev pub AreDigits : List ℕ → Type 0
AreDigits word = list_all is_ascii_digit word ≡ true

tells : IsDigitsTest AreDigits
tells = search rules

folds : FoldsDigits (fold with_digit)
folds = search rules

own : IsNumeralModel AreDigits (fold with_digit 0)
own = numerals_by_fold AreDigits tells (fold with_digit) folds

pub and_first : (a b : Bool) → (a && b) ≡ true → a ≡ true
and_first true b e = refl
and_first false b e = e

pub and_second : (a b : Bool) → (a && b) ≡ true → b ≡ true
and_second true b e = e
and_second false b e = absurd cc

digits-take : (k : ℕ) (word : List ℕ) → AreDigits word → AreDigits (take k word)
digits-take zero word e = refl
digits-take (suc k) [] e = refl
digits-take (suc k) (c ∷ word) e = and_from (is_ascii_digit c) _ (and_first (is_ascii_digit c) (list_all is_ascii_digit word) e) (digits-take k word (and_second (is_ascii_digit c) (list_all is_ascii_digit word) e))

-- ten digits, and the front of them, are small
pub value_small : (word : List ℕ) → length word ≤ 10 → AreDigits word → digits_value word < 10 ^ 10
value_small word few e = digits_value_short own word 10 e few

pub value-take_small : (word : List ℕ) (k : ℕ) → length (take k word) ≤ 10 → AreDigits word → digits_value (take k word) < 10 ^ 10
value-take_small word k few e = value_small (take k word) few (digits-take k word e)

number_by : (word : List ℕ) (n : ℕ) → 0 < length word → length word ≤ 10 → AreDigits word → digits_value word ≡ n → IsNumber n → number_of word ≡ Some n
unfolding number_of
number_by word n some few each value small =
    let a : not (length word == 0) ≡ true = grind (arith, nat_tests) in
    let b : nat_le (length word) 10 ≡ true = grind (arith, nat_tests) in
    let d : nat_le n greatest_number ≡ true = grind (arith, nat_tests) in
    rw (a, b, each, value, d) refl

-- a number that is written is read back
pub number_back : (n : ℕ) → IsNumber n → number_of (decimal n) ≡ Some n
number_back n small = number_by (decimal n) n (decimal_nonempty n (omega arith)) (length-decimal-le 10 n (omega arith) (omega arith) (omega arith)) (digits_decimal own n (omega arith)) (digits_value-decimal own n (omega arith)) small

-- a word that spells no number is no number's decimal digits
pub no_decimal : (word : List ℕ) → number_of word ≡ None → (number : ℕ) → IsNumber number → word ≡ decimal number → ⊥
no_decimal word none number small spelled = let wrong : Some number ≡ None = sym (number_back number small) ∙ ap number_of (sym spelled) ∙ none in search rules

-- the number that decimal digits spell is their own
pub own_decimal : (word : List ℕ) (read number : ℕ) → number_of word ≡ Some read → IsNumber number → word ≡ decimal number → word ≡ decimal read
own_decimal word read number is small spelled =
    let found : Some number ≡ Some read = sym (number_back number small) ∙ ap number_of (sym spelled) ∙ is in
    let same : number ≡ read = search rules in
    subst (λ other. word ≡ decimal other) same spelled
