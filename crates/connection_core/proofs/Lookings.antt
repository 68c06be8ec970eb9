-- Answers that are looked at, one place after another.
use Rattle.std.proofs.Common.{◌≡◌, ℕ, ◌+◌, ◌<◌, false, cond, List, [], ◌∷◌, ◌++◌, length, take, drop, get_or, All, IsTrue, Option, Some, None, is_some, refl, sym, ap, ◌∙◌, append_assoc, arith}
use Rattle.std.proofs.lemmas.List.{append-nil, take-append-drop, drop_more}
use Rattle.std.proofs.lemmas.List.Elements.{All-cons}
use Rattle.histories.specs.declared.answer.Answer.{Answer}
use Rattle.connection_replies.specs.declared.line_reply.LineReply.{LineReply}
use Rattle.connection_replies.specs.declared.line_reply.LineReply.TheVariants as line
use Rattle.registry_core.specs.Ledgers.{reply_at}
use Rattle.registry_core.specs.Desks.{DeskState, Looks}
use Rattle.registry_core.proofs.Desks.{reply_stays, looks_go_on, stays_same}
use Rattle.connection_core.specs.declared.asked.Asked.{Asked}
use Rattle.connection_core.specs.Asking.{is_refused}
use Rattle.connection_core.specs.Answers.{IsFirstMissing, answer_first, dealt, replies_to, refusals}
use Rattle.connection_core.specs.Replying.{looked}

pub looks_same : {Held : Type 0} (desk : DeskState Held) → Looks desk desk
looks_same desk = record { since = []; history = sym (append-nil desk.seen.entries); places = refl; connections = refl; opened = refl; dones = refl; room = refl; stays = stays_same desk }

first_some : (answer : Answer) (replies : List LineReply) (a : Option Answer) (b : Option (List LineReply)) → a ≡ Some answer → b ≡ Some replies → answer_first a b ≡ Some (line.Answer answer ∷ replies)
first_some answer replies a b e f = ap (λ x. answer_first x b) e ∙ ap (λ (y : Option (List LineReply)). answer_first (Some answer) y) f

pub parts_of : (a : Option Answer) (b : Option (List LineReply)) (given : List LineReply) → answer_first a b ≡ Some given
    → (answer : Answer) × (replies : List LineReply) × (a ≡ Some answer) × (b ≡ Some replies) × (given ≡ line.Answer answer ∷ replies)
parts_of (Some answer) (Some replies) given e = (answer, replies, refl, refl, sym (let f : line.Answer answer ∷ replies ≡ given = cc in f))
parts_of (Some answer) None given e = absurd cc
parts_of None b given e = absurd cc

-- one place more
pub looked-push : (f : ℕ → Option Answer) (places : List ℕ) (given : List LineReply) (place : ℕ) (answer : Answer) → looked f places ≡ Some given → f place ≡ Some answer → looked f (places ++ place ∷ []) ≡ Some (given ++ line.Answer answer ∷ [])
looked-push f [] given place answer e a = first_some answer [] (f place) (Some []) a refl ∙ ap (λ (xs : List LineReply). Some (xs ++ line.Answer answer ∷ [])) (let none : [] ≡ given = cc in none)
looked-push f (p ∷ places) given place answer e a =
    let parts = parts_of (f p) (looked f places) given e in
    first_some parts.0 (parts.1 ++ line.Answer answer ∷ []) (f p) (looked f (places ++ place ∷ [])) parts.2 (looked-push f places parts.1 place answer parts.3 a)
    ∙ ap (λ (xs : List LineReply). Some (xs ++ line.Answer answer ∷ [])) (sym parts.4)

-- answers that have come stay
pub looked_stays : (f g : ℕ → Option Answer) → ((place : ℕ) (answer : Answer) → f place ≡ Some answer → g place ≡ Some answer) → (places : List ℕ) (given : List LineReply) → looked f places ≡ Some given → looked g places ≡ Some given
looked_stays f g stay [] given e = e
looked_stays f g stay (p ∷ places) given e =
    let parts = parts_of (f p) (looked f places) given e in
    first_some parts.0 parts.1 (g p) (looked g places) (stay p parts.0 parts.2) (looked_stays f g stay places parts.1 parts.3) ∙ ap (λ (xs : List LineReply). Some xs) (sym parts.4)

-- one place more, in what is then seen
pub looks_more : {Held : Type 0} (before after : DeskState Held) (places next : List ℕ) (given : List LineReply) (place : ℕ) (answer : Answer) → Looks before after → looked (reply_at before.seen) places ≡ Some given
    → next ≡ places ++ place ∷ [] → Some answer ≡ reply_at after.seen place → looked (reply_at after.seen) next ≡ Some (given ++ line.Answer answer ∷ [])
looks_more before after places next given place answer looks e n a =
    ap (looked (reply_at after.seen)) n
    ∙ looked-push (reply_at after.seen) places given place answer (looked_stays (reply_at before.seen) (reply_at after.seen) (λ p a h. reply_stays before after (looks_go_on before after looks) p a h) places given e) (sym a)

-- as many places as lines are dealt to them
dealt_looked : (f : ℕ → Option Answer) (lines : List Asked) (places : List ℕ) → length places ≡ length lines → dealt f lines places ≡ looked f places
dealt_looked f [] [] e = refl
dealt_looked f [] (p ∷ places) e = absurd (omega (arith, e))
dealt_looked f (a ∷ lines) [] e = absurd (omega (arith, e))
dealt_looked f (a ∷ lines) (p ∷ places) e = ap (answer_first (f p)) (dealt_looked f lines places (omega (arith, e)))

pub good_replies : (f : ℕ → Option Answer) (lines : List Asked) (places : List ℕ) → is_refused lines ≡ false → length places ≡ length lines → replies_to f lines places ≡ looked f places
good_replies f lines places good e = ap (λ b. cond b (Some (refusals lines)) (dealt f lines places)) good ∙ dealt_looked f lines places e

pub pushed_reply : (old given before after : List LineReply) (newest : LineReply) → after ≡ before ++ newest ∷ [] → before ≡ old ++ given → after ≡ old ++ (given ++ newest ∷ [])
pushed_reply old given before after newest e h = e ∙ ap (λ (xs : List LineReply). xs ++ newest ∷ []) h ∙ append_assoc old given (newest ∷ [])

-- ---- the first place without an answer

all_answered : (f : ℕ → Option Answer) (places : List ℕ) (given : List LineReply) → looked f places ≡ Some given → All (λ earlier. IsTrue (is_some (f earlier))) places
all_answered f [] given e = λ k d below. absurd (omega (arith, below))
all_answered f (p ∷ places) given e =
    let parts = parts_of (f p) (looked f places) given e in
    All-cons (λ earlier. IsTrue (is_some (f earlier))) p places (ap is_some parts.2) (all_answered f places parts.1 parts.3)

-- the places before this one have their answers, and it has none in what is then seen
pub first_missing : {Held : Type 0} (before after : DeskState Held) (places : List ℕ) (k d : ℕ) (given : List LineReply) → k < length places → Looks before after → looked (reply_at before.seen) (take k places) ≡ Some given
    → None ≡ reply_at after.seen (get_or places k d) → IsFirstMissing (reply_at after.seen) places (get_or places k d)
first_missing before after places k d given below looks e none = record {
  front = take k places;
  rest = drop (k + 1) places;
  places_are = sym (take-append-drop k places) ∙ ap (λ (rest : List ℕ). take k places ++ rest) (drop_more places k d below);
  answered = all_answered (reply_at after.seen) (take k places) given (looked_stays (reply_at before.seen) (reply_at after.seen) (λ p a h. reply_stays before after (looks_go_on before after looks) p a h) (take k places) given e);
  missing = sym none;
}
