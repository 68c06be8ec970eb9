-- What is written of a request is read back.
use Rattle.std.proofs.Common.{◌≡◌, ◌≢◌, ℕ, ◌≤◌, zero, suc, Bool, true, false, cond, eqb, List, [], ◌∷◌, length, refl, ap, ◌∙◌, arith}
use Rattle.std.specs.Prelude.{Some, codes, decimal}
use Rattle.std.proofs.lemmas.Bool.{ne_eqb}
use Rattle.cody_words.specs.Lines.{Words, Says, longest_line}
use Rattle.cody_words.specs.Canonical.{canonical_text}
use Rattle.cody_words.proofs.Canon.{line_says_its_words}
use Rattle.cody_words.proofs.Fits.{words_fit}
use Rattle.cody_words.proofs.Verdicts.{one_meaning}
use Rattle.mapper_requests.specs.Asked.{Asked, Hello, Repo, Export, Import, Compiled, Translate, Bad, IsGood, HasNumbers}
use Rattle.mapper_requests.specs.Numbers.{IsNumber}
use Rattle.mapper_requests.specs.Requests.{Row, row, named, flags_of, has_count, asked_in, request}
use Rattle.mapper_requests.specs.Writing.{given_text, given_flags, request_words}
use Rattle.mapper_requests.proofs.Digits.{number_back}

-- flags that are written are read back
flags_back : (verb name : List ℕ) (flags : ℕ) → IsNumber flags → flags_of (verb ∷ name ∷ given_flags flags) ≡ Some flags
flags_back verb name zero small = refl
flags_back verb name (suc n) small = rw (ne_eqb (suc n) 0 (λ e. omega arith)) (number_back (suc n) small)

-- a name and flags are two words or three
flags_count : (b : Bool) (verb name text : List ℕ) (r : Row) → r.least ≡ 2 → r.most ≡ 3 → has_count r (length (verb ∷ name ∷ cond b [] (text ∷ []))) ≡ true
flags_count true verb name text r p q = rw (p, q) refl
flags_count false verb name text r p q = rw (p, q) refl

named_back : (verb name : List ℕ) (asks : List ℕ → ℕ → Asked) (flags : ℕ) → IsNumber flags → asked_in (Some (row verb 2 3 (named asks))) (verb ∷ name ∷ given_flags flags) ≡ asks name flags
named_back verb name asks flags small = rw (flags_count (eqb flags 0) verb name (decimal flags) (row verb 2 3 (named asks)) refl refl, flags_back verb name flags small) refl

hello_back : (version : ℕ) (compiler ident : List ℕ) → IsNumber version → request (codes "HELLO" ∷ decimal version ∷ compiler ∷ given_text ident) ≡ Hello version compiler ident
unfolding request
hello_back version compiler [] small = rw (number_back version small) refl
hello_back version compiler (c ∷ ident) small = rw (ne_eqb (length (c ∷ ident)) 0 (λ e. omega arith), number_back version small) refl

pub words_back : (asked : Asked) → IsGood asked → HasNumbers asked → request (request_words asked) ≡ asked
unfolding request request_words
words_back (Hello version compiler ident) good small = hello_back version compiler ident small
words_back Repo good small = refl
words_back (Export name flags) good small = named_back (codes "MODULE-EXPORT") name (λ n f. Export n f) flags small
words_back (Import name flags) good small = named_back (codes "MODULE-IMPORT") name (λ n f. Import n f) flags small
words_back (Compiled name flags) good small = named_back (codes "MODULE-COMPILED") name (λ n f. Compiled n f) flags small
words_back (Translate name flags) good small = named_back (codes "INCLUDE-TRANSLATE") name (λ n f. Translate n f) flags small
words_back (Bad why) good small = absurd good

words_some : (asked : Asked) → IsGood asked → request_words asked ≢ []
unfolding request_words
words_some (Hello version compiler ident) good = λ e. cc
words_some Repo good = λ e. cc
words_some (Export name flags) good = λ e. cc
words_some (Import name flags) good = λ e. cc
words_some (Compiled name flags) good = λ e. cc
words_some (Translate name flags) good = λ e. cc
words_some (Bad why) good = absurd good

pub line_says : (asked : Asked) (more : Bool) → IsGood asked → length (canonical_text (request_words asked) more) ≤ longest_line → Says (canonical_text (request_words asked) more) (Words (request_words asked)) more
line_says asked more good short = line_says_its_words (request_words asked) more (words_some asked good) short

words_same : (words others : List (List ℕ)) → Words words ≡ Words others → words ≡ others
words_same words others e = cc

pub line_back : (asked : Asked) (more marked : Bool) (words : List (List ℕ)) → IsGood asked → HasNumbers asked → Says (canonical_text (request_words asked) more) (Words words) marked → (request words ≡ asked) × (marked ≡ more)
line_back asked more marked words good small says =
    let text = canonical_text (request_words asked) more in
    let same = one_meaning text (Words words) (Words (request_words asked)) marked more says (line_says asked more good (words_fit text words marked says).0) in
    (ap request (words_same words (request_words asked) same.0) ∙ words_back asked good small, same.1)
