-- Numbers, units and acts, by the words in which they are written.
use Rattle.std.proofs.Common.{◌≡◌, ◌≢◌, ℕ, ◌<◌, ◌≤◌, ◌^◌, Bool, true, false, ◌&&◌, nat_lt, List, [], ◌∷◌, Option, Some, None, refl, sym, ap, subst, ◌∙◌, arith}
use Rattle.std.specs.Prelude.{codes, decimal, option_map, nat_le, IfSome, if◌then◌else◌}
use Rattle.std.specs.Str.{bytes_eq}
use Rattle.std.proofs.lemmas.Bool.{and_parts, cond-true, cond-false}
use Rattle.std.proofs.lemmas.Bool.Decides.{nat_tests}
use Rattle.std.proofs.lemmas.Slice.Eq.{bytes_eq-Decides}
use Rattle.mapper_requests.specs.declared.request.Bad.{Bad as Cause}
use Rattle.mapper_requests.specs.declared.request.Bad.TheVariants.{UnknownVerb, WrongWords, BadNumber}
use Rattle.mapper_requests.specs.Numbers as numbers
use Rattle.mapper_requests.specs.Numbers.{number_of, is_digits, digits_value, greatest_number}
use Rattle.mapper_requests.proofs.Digits.{number_back}
use Rattle.unit_registry.specs.declared.act.Act.{Act}
use Rattle.unit_registry.specs.declared.act.Act.TheVariants.{Open, Repo, Export, Import, Compiled, Translate, Bad, Pause, Left, Lost}
use Rattle.unit_registry.specs.Acts.{is_done}
use Rattle.histories.specs.Entries.{no_connection, has_its_unit, HasNumbers}
use Rattle.mapper_requests.specs.Numbers.{IsNumber}
use Rattle.trace_text.specs.Texts.{unit_word, name_word, header_word, cause_word, act_words}
use Rattle.trace_text.specs.Working.{as_written, number_in, unit_in, if_conn, header_in, cause_in, Row, row, act_by, LONE, PAIRED, lone_act, paired_act, hello_by, hello_act}

-- ---- options

pub some_same : {A : Type 0} (x y : A) → Some x ≡ Some y → x ≡ y
some_same x y e = cc

pub none_some : {A : Type 0} (x : A) → (let o : Option A = None in o) ≡ Some x → ⊥
none_some x e = cc

pub map_is : {A B : Type 0} (f : A → B) (o : Option A) (y : B) → option_map f o ≡ Some y → (x : A) × (o ≡ Some x) × (f x ≡ y)
map_is f (Some x) y e = (x, refl, some_same _ _ e)
map_is f None y e = absurd (none_some y e)

-- ---- words that are the same

pub bytes_same : (one other : List ℕ) → bytes_eq one other ≡ true → one ≡ other
bytes_same one other e = (bytes_eq-Decides one other).0 e

pub bytes_own : (word : List ℕ) → bytes_eq word word ≡ true
bytes_own word = (bytes_eq-Decides word word).1 refl

-- ---- numbers

number_small : (word : List ℕ) (n : ℕ) → number_of word ≡ Some n → n < 2 ^ 32
unfolding numbers.number_of
number_small word n e = by (is_digits word && nat_le (digits_value word) greatest_number) refl e
  where
    by : (b : Bool) → (is_digits word && nat_le (digits_value word) greatest_number) ≡ b → (if b then Some (digits_value word) else None) ≡ Some n → n < 2 ^ 32
    by true t s =
        let le : nat_le (digits_value word) greatest_number ≡ true = (and_parts (is_digits word) _ t).1 in
        let same : digits_value word ≡ n = some_same _ _ s in
        let small : digits_value word ≤ 4294967295 = grind (arith, nat_tests) in
        omega arith
    by false t s = absurd (none_some n s)

as_written-is : (o : Option ℕ) (word : List ℕ) (n : ℕ) → as_written o word ≡ Some n → (o ≡ Some n) × (word ≡ decimal n)
as_written-is None word n e = absurd (none_some n e)
as_written-is (Some m) word n e = by (bytes_eq (decimal m) word) refl e
  where
    by : (b : Bool) → bytes_eq (decimal m) word ≡ b → (if b then Some m else None) ≡ Some n → (Some m ≡ Some n) × (word ≡ decimal n)
    by true t s = (s, sym (bytes_same _ _ t) ∙ ap decimal (some_same m n s))
    by false t s = absurd (none_some n s)

-- a word that is a number is written so
pub number_in-is : (word : List ℕ) (n : ℕ) → number_in word ≡ Some n → (word ≡ decimal n) × IsNumber n
unfolding number_in
number_in-is word n e =
    let parts = as_written-is (number_of word) word n e in
    (parts.1, omega (arith, number_small word n parts.0))

-- a number that is written is read back
pub number_in-back : (n : ℕ) → IsNumber n → number_in (decimal n) ≡ Some n
unfolding number_in
number_in-back n small =
    ap (λ o. as_written o (decimal n)) (number_back n small)
    ∙ cond-true _ _ _ (bytes_own (decimal n))

-- what `read_decimal` tells is that number
pub read_is : (word : List ℕ) (r : Option ℕ) → IfSome r IsNumber → IfSome r (λ n. word ≡ decimal n) → (r ≡ None → (n : ℕ) → IsNumber n → word ≢ decimal n) → r ≡ number_in word
read_is word (Some n) small same none = sym (ap number_in same ∙ number_in-back n small)
read_is word None small same none = by (number_in word) refl
  where
    by : (o : Option ℕ) → number_in word ≡ o → None ≡ o
    by None e = refl
    by (Some n) e = let found = number_in-is word n e in absurd (none refl n found.1 found.0)

-- what spells no number isn't how one is written
pub not_number : (n : ℕ) (word : List ℕ) → IsNumber n → number_of word ≡ None → bytes_eq (decimal n) word ≡ false
not_number n word small none = by (bytes_eq (decimal n) word) refl
  where
    by : (b : Bool) → bytes_eq (decimal n) word ≡ b → b ≡ false
    by true t = absurd (none_some n (sym none ∙ ap number_of (sym (bytes_same _ _ t)) ∙ number_back n small))
    by false t = refl

pub decimal_same : (m n : ℕ) → IsNumber m → IsNumber n → decimal m ≡ decimal n → m ≡ n
decimal_same m n small few e = some_same m n (sym (number_back m small) ∙ ap number_of e ∙ number_back n few)

-- ---- units

pub unit_in-is : (none word : List ℕ) (u : Option ℕ) → unit_in none word ≡ Some u → (word ≡ unit_word none u) × IfSome u IsNumber
unit_in-is none word u e = by (bytes_eq word none) refl e
  where
    by : (b : Bool) → bytes_eq word none ≡ b → (if b then Some None else option_map Some (number_in word)) ≡ Some u → (word ≡ unit_word none u) × IfSome u IsNumber
    by true t s = subst (λ (v : Option ℕ). (word ≡ unit_word none v) × IfSome v IsNumber) (some_same _ _ s) (bytes_same _ _ t, tt)
    by false t s =
        let found = map_is (λ (n : ℕ). Some n) (number_in word) u s in
        subst (λ (v : Option ℕ). (word ≡ unit_word none v) × IfSome v IsNumber) found.2 (number_in-is word found.0 found.1)

pub unit_in-back : (none : List ℕ) (u : Option ℕ) → number_of none ≡ None → IfSome u IsNumber → unit_in none (unit_word none u) ≡ Some u
unit_in-back none None unspelled small = cond-true _ _ _ (bytes_own none)
unit_in-back none (Some n) unspelled small =
    cond-false _ _ _ (not_number n none small unspelled)
    ∙ ap (λ (o : Option ℕ). option_map (λ (k : ℕ). Some k) o) (number_in-back n small)

pub no_name : number_of (codes "?") ≡ None
unfolding numbers.number_of
no_name = refl

pub no_ident : number_of (codes "guest") ≡ None
unfolding numbers.number_of
no_ident = refl

pub no_dash : number_of (codes "-") ≡ None
unfolding numbers.number_of
no_dash = refl

pub no_end_word : number_of (codes "end") ≡ None
unfolding numbers.number_of
no_end_word = refl

-- ---- connections

pub if_conn-is : (o : Option ℕ) (n : ℕ) → if_conn o ≡ Some n → (o ≡ Some n) × (nat_lt n no_connection ≡ true)
if_conn-is None n e = absurd (none_some n e)
if_conn-is (Some m) n e = by (nat_lt m no_connection) refl e
  where
    by : (b : Bool) → nat_lt m no_connection ≡ b → (if b then Some m else None) ≡ Some n → (Some m ≡ Some n) × (nat_lt n no_connection ≡ true)
    by true t s = (s, ap (λ k. nat_lt k no_connection) (sym (some_same m n s)) ∙ t)
    by false t s = absurd (none_some n s)

-- the connection that a word is
pub conn_is : (who : List ℕ) (n : ℕ) → if_conn (number_in who) ≡ Some n → (who ≡ decimal n) × (nat_lt n no_connection ≡ true)
conn_is who n e =
    let parts = if_conn-is (number_in who) n e in
    ((number_in-is who n parts.0).0, parts.1)

pub conn_small : (n : ℕ) → nat_lt n no_connection ≡ true → IsNumber n
conn_small n t = let small : n < 4294967295 = grind (arith, nat_tests) in omega arith

pub conn_back : (n : ℕ) → nat_lt n no_connection ≡ true → if_conn (number_in (decimal n)) ≡ Some n
conn_back n t = ap if_conn (number_in-back n (conn_small n t)) ∙ cond-true _ _ _ t

-- ---- acts

-- an act that a line of a connection may have
pub record IsGoodAct (act : Act) : Type 0 where
  pub numbers : HasNumbers act
  pub no_done : is_done act ≡ false
  pub unit : has_its_unit act ≡ true

-- words that are the act's
abbrev pub Spells : List (List ℕ) → Act → Type 0
Spells words act = (words ≡ act_words act) × IsGoodAct act

-- a row gives acts that are written so
abbrev IsSound : (List ℕ → List (List ℕ)) → Row → Type 0
IsSound words first = (word : List ℕ) (act : Act) → first.act word ≡ Some act → Spells (first.verb ∷ words word) act

abbrev AreSound : (List ℕ → List (List ℕ)) → List Row → Type 0
AreSound words [] = Unit {0}
AreSound words (first ∷ rows) = IsSound words first × AreSound words rows

act_by-sound : (words : List ℕ → List (List ℕ)) → (rows : List Row) → AreSound words rows → (verb word : List ℕ) (act : Act) → act_by rows verb word ≡ Some act → Spells (verb ∷ words word) act
act_by-sound words [] sound verb word act e = absurd (none_some act e)
act_by-sound words (first ∷ rows) sound verb word act e = by (bytes_eq verb first.verb) refl e (act_by-sound words rows sound.1 verb word act)
  where
    by : (b : Bool) → bytes_eq verb first.verb ≡ b → (if b then first.act word else act_by rows verb word) ≡ Some act
        → (act_by rows verb word ≡ Some act → Spells (verb ∷ words word) act) → Spells (verb ∷ words word) act
    by true t s again =
        let found = sound.0 word act s in
        (ap (λ v. v ∷ words word) (bytes_same _ _ t) ∙ found.0, found.1)
    by false t s again = again s

abbrev no_word : List ℕ → List (List ℕ)
no_word word = []

abbrev one_word : List ℕ → List (List ℕ)
one_word word = word ∷ []

lone_sound : (made : Act) (verb : List ℕ) → Spells (verb ∷ []) made → IsSound no_word (row verb (λ _. Some made))
lone_sound made verb good word act e = subst (λ (a : Act). Spells (verb ∷ []) a) (some_same _ _ e) good

LONE-sound : AreSound no_word LONE
LONE-sound = (
  lone_sound Open (codes "open") (refl, record { numbers = tt; no_done = refl; unit = refl }),
  (
    lone_sound Repo (codes "repo") (refl, record { numbers = tt; no_done = refl; unit = refl }),
    (
      lone_sound Pause (codes "pause") (refl, record { numbers = tt; no_done = refl; unit = refl }),
      (
        lone_sound Left (codes "left") (refl, record { numbers = tt; no_done = refl; unit = refl }),
        (lone_sound Lost (codes "lost") (refl, record { numbers = tt; no_done = refl; unit = refl }), tt),
      ),
    ),
  ),
)

named_sound : (verb : List ℕ) (make : Option ℕ → Act) → ((u : Option ℕ) → IfSome u IsNumber → Spells (verb ∷ name_word u ∷ []) (make u)) → IsSound one_word (row verb (λ word. option_map make (unit_in (codes "?") word)))
named_sound verb make good word act e =
    let found = map_is make (unit_in (codes "?") word) act e in
    let unit = unit_in-is (codes "?") word found.0 found.1 in
    let made = good found.0 unit.1 in
    subst (λ (a : Act). Spells (verb ∷ word ∷ []) a) found.2 (ap (λ w. verb ∷ w ∷ []) unit.0 ∙ made.0, made.1)

unstored : (u : Option ℕ) → has_its_unit (Compiled u false) ≡ true
unstored None = refl
unstored (Some n) = refl

stored_sound : IsSound one_word (row (codes "stored") (λ word. option_map (λ unit. Compiled (Some unit) true) (number_in word)))
stored_sound word act e =
    let found = map_is (λ (unit : ℕ). Compiled (Some unit) true) (number_in word) act e in
    let number = number_in-is word found.0 found.1 in
    subst (λ (a : Act). Spells (codes "stored" ∷ word ∷ []) a) found.2 (ap (λ w. codes "stored" ∷ w ∷ []) number.0, record { numbers = number.1; no_done = refl; unit = refl })

header_is : (word : List ℕ) (header : Bool) → header_in word ≡ Some header → word ≡ header_word header
header_is word header e = by (bytes_eq word (codes "yes")) (bytes_eq word (codes "no")) refl refl e
  where
    by : (x y : Bool) → bytes_eq word (codes "yes") ≡ x → bytes_eq word (codes "no") ≡ y → (if x then Some true else if y then Some false else None) ≡ Some header → word ≡ header_word header
    by true y p q s = bytes_same _ _ p ∙ ap header_word (some_same _ _ s)
    by false true p q s = bytes_same _ _ q ∙ ap header_word (some_same _ _ s)
    by false false p q s = absurd (none_some header s)

cause_is : (word : List ℕ) (why : Cause) → cause_in word ≡ Some why → word ≡ cause_word why
cause_is word why e = by (bytes_eq word (codes "verb")) (bytes_eq word (codes "words")) (bytes_eq word (codes "number")) refl refl refl e
  where
    by : (x y z : Bool) → bytes_eq word (codes "verb") ≡ x → bytes_eq word (codes "words") ≡ y → bytes_eq word (codes "number") ≡ z
        → (if x then Some UnknownVerb else if y then Some WrongWords else if z then Some BadNumber else None) ≡ Some why → word ≡ cause_word why
    by true y z p q r s = bytes_same _ _ p ∙ ap cause_word (some_same _ _ s)
    by false true z p q r s = bytes_same _ _ q ∙ ap cause_word (some_same _ _ s)
    by false false true p q r s = bytes_same _ _ r ∙ ap cause_word (some_same _ _ s)
    by false false false p q r s = absurd (none_some why s)

translate_sound : IsSound one_word (row (codes "translate") (λ word. option_map Translate (header_in word)))
translate_sound word act e =
    let found = map_is Translate (header_in word) act e in
    subst (λ (a : Act). Spells (codes "translate" ∷ word ∷ []) a) found.2 (ap (λ w. codes "translate" ∷ w ∷ []) (header_is word found.0 found.1), record { numbers = tt; no_done = refl; unit = refl })

bad_sound : IsSound one_word (row (codes "bad") (λ word. option_map Bad (cause_in word)))
bad_sound word act e =
    let found = map_is Bad (cause_in word) act e in
    subst (λ (a : Act). Spells (codes "bad" ∷ word ∷ []) a) found.2 (ap (λ w. codes "bad" ∷ w ∷ []) (cause_is word found.0 found.1), record { numbers = tt; no_done = refl; unit = refl })

PAIRED-sound : AreSound one_word PAIRED
PAIRED-sound = (
  named_sound (codes "export") Export (λ u small. (refl, record { numbers = small; no_done = refl; unit = refl })),
  (
    named_sound (codes "import") (λ unit. Import unit false) (λ u small. (refl, record { numbers = small; no_done = refl; unit = refl })),
    (
      named_sound (codes "name") (λ unit. Import unit true) (λ u small. (refl, record { numbers = small; no_done = refl; unit = refl })),
      (
        named_sound (codes "compiled") (λ unit. Compiled unit false) (λ u small. (refl, record { numbers = small; no_done = refl; unit = unstored u })),
        (
          stored_sound,
          (
            translate_sound,
            (bad_sound, tt),
          ),
        ),
      ),
    ),
  ),
)

pub lone_is : (verb : List ℕ) (act : Act) → lone_act verb ≡ Some act → Spells (verb ∷ []) act
lone_is verb act e = act_by-sound no_word LONE LONE-sound verb [] act e

pub paired_is : (verb word : List ℕ) (act : Act) → paired_act verb word ≡ Some act → Spells (verb ∷ word ∷ []) act
paired_is verb word act e = act_by-sound one_word PAIRED PAIRED-sound verb word act e

pub hello_is : (verb version unit : List ℕ) (act : Act) → hello_act verb version unit ≡ Some act → Spells (verb ∷ version ∷ unit ∷ []) act
hello_is verb version unit act e = by (bytes_eq verb (codes "hello")) refl e
  where
    made : (v : Option ℕ) (u : Option (Option ℕ)) → number_in version ≡ v → unit_in (codes "guest") unit ≡ u → hello_by v u ≡ Some act → Spells (codes "hello" ∷ version ∷ unit ∷ []) act
    made (Some v) (Some u) p q s =
        let number = number_in-is version v p in
        let named = unit_in-is (codes "guest") unit u q in
        subst (λ (a : Act). Spells (codes "hello" ∷ version ∷ unit ∷ []) a) (some_same _ _ s) (ap (λ w. codes "hello" ∷ w ∷ unit ∷ []) number.0 ∙ ap (λ w. codes "hello" ∷ decimal v ∷ w ∷ []) named.0, record { numbers = (number.1, named.1); no_done = refl; unit = refl })
    made (Some v) None p q s = absurd (none_some act s)
    made None u p q s = absurd (none_some act s)

    by : (b : Bool) → bytes_eq verb (codes "hello") ≡ b → (if b then hello_by (number_in version) (unit_in (codes "guest") unit) else None) ≡ Some act → Spells (verb ∷ version ∷ unit ∷ []) act
    by true t s =
        let found = made (number_in version) (unit_in (codes "guest") unit) refl refl s in
        (ap (λ w. w ∷ version ∷ unit ∷ []) (bytes_same _ _ t) ∙ found.0, found.1)
    by false t s = absurd (none_some act s)
