-- The table of requests: its verbs, and the numbers of what is read by it.
use Rattle.std.proofs.Common.{◌≡◌, ℕ, ◌+◌, ◌*◌, ◌≤◌, zero, suc, Bool, true, false, ◌&&◌, cond, List, [], ◌∷◌, length, map, refl, ap, ◌∙◌, arith}
use Rattle.std.specs.Prelude.{Option, Some, None, unwrap_or, find, nat_le}
use Rattle.std.specs.Option.{option_map}
use Rattle.std.specs.List.{AllByRecursion}
use Rattle.std.specs.Str.{bytes_eq}
use Rattle.std.proofs.lemmas.Bool.Decides.{nat_tests}
use Rattle.cody_words.specs.Canonical.{line_room}
use Rattle.mapper_requests.specs.declared.request.Bad.{Bad as Cause}
use Rattle.mapper_requests.specs.declared.request.Bad.TheVariants.{UnknownVerb, WrongWords, BadNumber}
use Rattle.mapper_requests.specs.declared.verb.TheConstants.{VERBS}
use Rattle.mapper_requests.specs.Asked.{Asked, Hello, Export, Import, Compiled, Translate, Bad, HasNumbers}
use Rattle.mapper_requests.specs.Numbers.{number_of, digits_value, is_digits, IsNumber, greatest_number}
use Rattle.mapper_requests.specs.Requests.{Row, table, hello, named, flags_of, word_at, find_row, has_count, asked_in, request}
use Rattle.mapper_requests.specs.Writing.{request_room}
use Rattle.mapper_requests.specs.Working.{row_of}
use Rattle.mapper_requests.proofs.Digits.{and_second}

option_map-cond : {A B : Type 0} (f : A → B) (b : Bool) (x y : Option A) → option_map f (cond b x y) ≡ cond b (option_map f x) (option_map f y)
option_map-cond f true x y = refl
option_map-cond f false x y = refl

find-map : {A B : Type 0} (f : A → B) (p : B → Bool) (xs : List A) → option_map f (find (λ x. p (f x)) xs) ≡ find p (map f xs)
find-map f p [] = refl
find-map f p (x ∷ xs) = option_map-cond f (p (f x)) (Some x) (find (λ x. p (f x)) xs) ∙ ap (λ rest. cond (p (f x)) (Some (f x)) rest) (find-map f p xs)

-- the verbs are those of the table
pub find_row_is : (word : List ℕ) → option_map row_of (find (λ v. bytes_eq word (row_of v).verb) VERBS) ≡ find_row word
find_row_is word = find-map row_of (λ (r : Row). bytes_eq word r.verb) VERBS

-- a value is a number, where there is one
abbrev IsSmall : Option ℕ → Type 0
IsSmall None = Unit {0}
IsSmall (Some n) = IsNumber n

-- a number where the test holds
abbrev if_some : Bool → ℕ → Option ℕ
if_some b n = cond b (Some n) None

small_if : (b : Bool) (n : ℕ) → (b ≡ true → IsNumber n) → IsSmall (if_some b n)
small_if true n h = h refl
small_if false n h = tt

below_greatest : (n : ℕ) → nat_le n greatest_number ≡ true → IsNumber n
below_greatest n e = grind (arith, nat_tests)

number_small : (word : List ℕ) → IsSmall (number_of word)
unfolding number_of
number_small word = small_if (is_digits word && nat_le (digits_value word) greatest_number) (digits_value word) (λ e. below_greatest (digits_value word) (and_second (is_digits word) _ e))

cond_small : (b : Bool) (x y : Option ℕ) → IsSmall x → IsSmall y → IsSmall (cond b x y)
cond_small true x y p q = p
cond_small false x y p q = q

flags_small : (words : List (List ℕ)) → IsSmall (flags_of words)
flags_small words = cond_small (nat_le (length words) 2) (Some 0) _ (omega arith) (number_small (word_at words 2))

-- what a row asks, if it asks something, is such a thing
abbrev Forms : (Asked → Type 0) → Option Asked → Type 0
Forms P None = Unit {0}
Forms P (Some asked) = P asked

by_form : (P : Asked → Type 0) → ((why : Cause) → P (Bad why)) → (b : Bool) (o : Option Asked) → Forms P o → P (cond b (unwrap_or o (Bad BadNumber)) (Bad WrongWords))
by_form P bad true None h = bad BadNumber
by_form P bad true (Some asked) h = h
by_form P bad false o h = bad WrongWords

by_row : (P : Asked → Type 0) → ((why : Cause) → P (Bad why)) → (b : Bool) (r : Row) (others : Option Row) (words : List (List ℕ)) → Forms P (r.form words) → P (asked_in others words) → P (asked_in (cond b (Some r) others) words)
by_row P bad true r others words h k = by_form P bad (has_count r (length words)) (r.form words) h
by_row P bad false r others words h k = k

by_rows : (P : Asked → Type 0) → ((why : Cause) → P (Bad why)) → (p : Row → Bool) (rows : List Row) (words : List (List ℕ)) → AllByRecursion (λ (r : Row). Forms P (r.form words)) rows → P (asked_in (find p rows) words)
by_rows P bad p [] words h = bad UnknownVerb
by_rows P bad p (r ∷ rows) words h = by_row P bad (p r) r (find p rows) words h.0 (by_rows P bad p rows words h.1)

-- what holds of each row, and of what is bad, holds of each request
by_table : (P : Asked → Type 0) → ((why : Cause) → P (Bad why)) → (words : List (List ℕ)) → AllByRecursion (λ (r : Row). Forms P (r.form words)) table → P (request words)
unfolding request
by_table P bad words h = by_rows P bad (λ (r : Row). bytes_eq (word_at words 0) r.verb) table words h

map_form : (P : Asked → Type 0) (asks : ℕ → Asked) (o : Option ℕ) → ((n : ℕ) → IsNumber n → P (asks n)) → IsSmall o → Forms P (option_map asks o)
map_form P asks None h s = tt
map_form P asks (Some n) h s = h n s

hello_form : (P : Asked → Type 0) (words : List (List ℕ)) → ((n : ℕ) → IsNumber n → P (Hello n (word_at words 2) (word_at words 3))) → Forms P (hello words)
hello_form P words h = map_form P (λ (n : ℕ). Hello n (word_at words 2) (word_at words 3)) (number_of (word_at words 1)) h (number_small (word_at words 1))

named_form : (P : Asked → Type 0) (asks : List ℕ → ℕ → Asked) (words : List (List ℕ)) → ((n : ℕ) → IsNumber n → P (asks (word_at words 1) n)) → Forms P (named asks words)
named_form P asks words h = map_form P (asks (word_at words 1)) (flags_of words) h (flags_small words)

-- the version and the flags of a request that is read are numbers
pub numbers_small : (words : List (List ℕ)) → HasNumbers (request words)
numbers_small words =
    let P = λ (asked : Asked). HasNumbers asked in
    by_table P (λ why. tt) words (hello_form P words (λ n s. s), (tt, (named_form P Export words (λ n s. s), (named_form P Import words (λ n s. s), (named_form P Compiled words (λ n s. s), (named_form P Translate words (λ n s. s), tt))))))

one_text : (words : List (List ℕ)) (k : ℕ) → 3 * length (word_at words k) ≤ line_room words
one_text [] k = omega arith
one_text (word ∷ words) zero = omega arith
one_text (word ∷ words) (suc k) = omega (arith, one_text words k)

two_texts : (words : List (List ℕ)) → 3 * (length (word_at words 2) + length (word_at words 3)) ≤ line_room words
two_texts [] = omega arith
two_texts (a ∷ []) = omega arith
two_texts (a ∷ b ∷ []) = omega arith
two_texts (a ∷ b ∷ c ∷ words) = omega (arith, one_text words 0)

-- a request asks for no more room than its words, and 64
pub room_small : (words : List (List ℕ)) → request_room (request words) ≤ line_room words + 64
room_small words =
    let P = λ (asked : Asked). request_room asked ≤ line_room words + 64 in
    let name : 3 * length (word_at words 1) + 64 ≤ line_room words + 64 = omega (arith, one_text words 1) in
    by_table P (λ why. omega arith) words (hello_form P words (λ n s. omega (arith, two_texts words)), (omega arith, (named_form P Export words (λ n s. name), (named_form P Import words (λ n s. name), (named_form P Compiled words (λ n s. name), (named_form P Translate words (λ n s. name), tt))))))
