-- The words in which a reply is written are that reply.
use Rattle.std.proofs.Common.{◌≡◌, ◌≢◌, ℕ, ◌≤◌, inl, inr, Bool, true, false, cond, eqb, List, [], ◌∷◌, length, refl, sym, subst, arith}
use Rattle.std.specs.Prelude.{codes, decimal}
use Rattle.std.proofs.lemmas.Bool.{eqb-true}
use Rattle.cody_words.specs.Lines.{Meaning, Words, Says, longest_line}
use Rattle.cody_words.specs.Canonical.{canonical_text}
use Rattle.cody_words.proofs.Fits.{words_fit}
use Rattle.cody_words.proofs.Verdicts.{one_meaning}
use Rattle.cody_words.proofs.Canon.{line_says_its_words}
use Rattle.mapper_requests.specs.Numbers.{IsNumber}
use Rattle.mapper_replies.specs.Values.{ReplyValue, Hello, Pathname, Done, Truth, Error, HasNumber}
use Rattle.mapper_replies.specs.Replies.{IsReply, reply_words, SaysReply}
use Rattle.mapper_requests.proofs.Digits.{number_back}

-- the words of a greeting, with flags where they aren't 0
hello_is : (zero_flags : Bool) (builder : List ℕ) (flags : ℕ) → eqb flags 0 ≡ zero_flags → IsNumber flags → IsReply (codes "HELLO" ∷ codes "1" ∷ builder ∷ cond zero_flags [] (decimal flags ∷ [])) (Hello builder flags)
hello_is true builder flags e le = inl (refl, eqb-true flags 0 e)
hello_is false builder flags e le = inr (decimal flags, refl, number_back flags (omega arith))

-- the words in which a reply is written are that reply
pub words_are : (value : ReplyValue) → HasNumber value → IsReply (reply_words value) value
words_are (Hello builder flags) h = hello_is (eqb flags 0) builder flags refl h
words_are (Pathname path) h = refl
words_are Done h = refl
words_are (Truth truth) h = refl
words_are (Error message) h = refl

word_some : (word : List ℕ) (words : List (List ℕ)) → word ∷ words ≡ [] → ⊥
word_some word words e = cc

words_some : (value : ReplyValue) → reply_words value ≢ []
words_some (Hello builder flags) e = word_some _ _ e
words_some (Pathname path) e = word_some _ _ e
words_some Done e = word_some _ _ e
words_some (Truth truth) e = word_some _ _ e
words_some (Error message) e = word_some _ _ e

-- a canonical line says the reply
pub line_says : (value : ReplyValue) (more : Bool) → HasNumber value → length (canonical_text (reply_words value) more) ≤ longest_line → SaysReply (canonical_text (reply_words value) more) value more
line_says value more h le = record {
  words = reply_words value;
  says = line_says_its_words (reply_words value) more (words_some value) le;
  are = words_are value h;
}

abbrev said : List (List ℕ) → Meaning
said words = Words words

words_same : (one other : List (List ℕ)) → said one ≡ said other → one ≡ other
words_same one other e = cc

-- and whatever words it is read as are the reply
pub read_back : (value : ReplyValue) (more again : Bool) (words : List (List ℕ)) → HasNumber value → Says (canonical_text (reply_words value) more) (Words words) again → IsReply words value × (again ≡ more)
read_back value more again words h says =
    let line = canonical_text (reply_words value) more in
    let mine = line_says_its_words (reply_words value) more (words_some value) (words_fit line words again says).0 in
    let same = one_meaning line (Words words) (Words (reply_words value)) again more says mine in
    (subst (λ (said : List (List ℕ)). IsReply said value) (sym (words_same words (reply_words value) same.0)) (words_are value h), same.1)
