-- A connection that is served alone has all its answers.
use Rattle.std.proofs.Common.{◌≡◌, ◌⊎◌, inl, inr, ℕ, zero, suc, ◌≤◌, Bool, true, false, cond, List, [], ◌∷◌, ◌++◌, length, drop, Option, Some, None, refl, sym, ap, ap₂, subst, ◌∙◌, append_assoc, arith}
use Rattle.std.specs.Option.{option_map}
use Rattle.std.proofs.lemmas.List.{append-nil, length-drop}
use Rattle.cody_words.specs.Lines.{Meaning, Blank, Words, Malformed as MalformedLine}
use Rattle.cody_words.specs.Meanings.{meaning}
use Rattle.mapper_requests.specs.Asked as line_asked
use Rattle.mapper_requests.specs.Requests.{request}
use Rattle.unit_registry.specs.declared.act.Act.{Act as Acts}
use Rattle.unit_registry.specs.declared.act.Act.TheVariants as act
use Rattle.unit_registry.specs.Acts.{act as act_by}
use Rattle.unit_registry.specs.Projects.{ProjectView}
use Rattle.histories.specs.declared.answer.Answer.{Answer}
use Rattle.histories.specs.declared.entry.Entry.{Entry}
use Rattle.histories.specs.Answered.{is_open, open_count, done_count, is_paused}
use Rattle.histories.specs.Counts.{Effect, Asks, effect_of, ChangesOpen, ChangesDone, ChangesOwn}
use Rattle.histories.specs.Histories.{answered_in, reply, IsLegal}
use Rattle.histories.proofs.Legality.{legal_prefix}
use Rattle.histories.proofs.LegalCounts.{open_with, done_with, own_with}
use Rattle.histories.proofs.Members.{In}
use Rattle.connection_replies.specs.declared.line_reply.LineReply.{LineReply}
use Rattle.connection_replies.specs.declared.line_reply.LineReply.TheVariants as line
use Rattle.connection_replies.specs.ReplyLines.{reply_lines}
use Rattle.connection_core.specs.declared.asked.Asked.{Asked}
use Rattle.connection_core.specs.Asking.{Block, asked_in, asked_of, is_refused, requests_of, block_acts, acts}
use Rattle.connection_core.specs.Answers.{all_requests, answer_first, answers_at, block_answer, dealt, joined, refusals, request_count, request_places}
use Rattle.connection_core.specs.Alone.{alone, own_answers}
use Rattle.connection_core.proofs.Staying.{course_places}
use Rattle.mapper_server.proofs.Alone.{so_far, acts_alone, alone-append}
use Rattle.histories.proofs.Pauses.{paused_own}
use Rattle.mapper_server.proofs.Waiting.{replies_alone}

-- ---- answers are there where each place has one

abbrev AreAnswered : (ℕ → Option Answer) → List ℕ → Type 0
AreAnswered f places = (place : ℕ) → In place places → (answer : Answer) × (f place ≡ Some answer)

in_drop : (n : ℕ) (place : ℕ) (places : List ℕ) → In place (drop n places) → In place places
in_drop zero place places there = there
in_drop (suc n) place [] there = there
in_drop (suc n) place (x ∷ places) there = inr (in_drop n place places there)

dealt_come : (f : ℕ → Option Answer) (lines : List Asked) (places : List ℕ) → length lines ≤ length places → AreAnswered f places → (given : List LineReply) × (dealt f lines places ≡ Some given)
dealt_come f [] places le all = ([], refl)
dealt_come f (asked ∷ lines) [] le all = absurd (omega (arith, le))
dealt_come f (asked ∷ lines) (place ∷ places) le all =
    let first = all place (inl refl) in
    let rest = dealt_come f lines places (omega (arith, le)) (λ p there. all p (inr there)) in
    (line.Answer first.0 ∷ rest.0, ap₂ answer_first first.1 rest.1)

block_come : (project : ProjectView) (f : ℕ → Option Answer) (lines : List Asked) (places : List ℕ) → request_count lines ≤ length places → AreAnswered f places → (text : List ℕ) × (block_answer project f lines places ≡ Some text)
block_come project f lines places le all = by (is_refused lines) refl
  where
    by : (b : Bool) → is_refused lines ≡ b → (text : List ℕ) × (option_map (reply_lines project) (cond (is_refused lines) (Some (refusals lines)) (dealt f lines places)) ≡ Some text)
    by true e = (reply_lines project (refusals lines), ap (λ b. option_map (reply_lines project) (cond b (Some (refusals lines)) (dealt f lines places))) e)
    by false e =
        let count : request_count lines ≡ length lines = ap (λ b. cond b 0 (length lines)) e in
        let given = dealt_come f lines places (omega (arith, le, count)) all in
        (reply_lines project given.0, ap (λ b. option_map (reply_lines project) (cond b (Some (refusals lines)) (dealt f lines places))) e ∙ ap (option_map (reply_lines project)) given.1)

answers_come : (project : ProjectView) (f : ℕ → Option Answer) (blocks : List Block) (places : List ℕ) → all_requests project blocks ≤ length places → AreAnswered f places → (text : List ℕ) × (answers_at project f blocks places ≡ Some text)
answers_come project f [] places le all = ([], refl)
answers_come project f (block ∷ blocks) places le all =
    let count : ℕ = request_count (asked_of project block) in
    let first = block_come project f (asked_of project block) places (omega (arith, le)) all in
    let rest = answers_come project f blocks (drop count places) (omega (arith, le, length-drop count places)) (λ p there. all p (in_drop count p places there)) in
    (first.0 ++ rest.0, ap₂ joined first.1 rest.1)

-- ---- what blocks enter asks

abbrev pub AllAsk : List Acts → Type 0
AllAsk [] = Unit {0}
AllAsk (asked ∷ rest) = (effect_of asked ≡ Asks) × AllAsk rest

pub ask-append : (first second : List Acts) → AllAsk first → AllAsk second → AllAsk (first ++ second)
ask-append [] second h k = k
ask-append (asked ∷ first) second h k = (h.0, ask-append first second h.1 k)

pub ask-front : (first second : List Acts) → AllAsk (first ++ second) → AllAsk first
ask-front [] second h = tt
ask-front (asked ∷ first) second h = (h.0, ask-front first second h.1)

line_asks : (project : ProjectView) (asked : line_asked.Asked) (stored : Bool) → effect_of (act_by project asked stored) ≡ Asks
line_asks project (line_asked.Hello version compiler ident) stored = refl
line_asks project line_asked.Repo stored = refl
line_asks project (line_asked.Export name flags) stored = refl
line_asks project (line_asked.Import name flags) stored = refl
line_asks project (line_asked.Compiled name flags) stored = refl
line_asks project (line_asked.Translate name flags) stored = refl
line_asks project (line_asked.Bad why) stored = refl

requests_ask : (project : ProjectView) (block : Block) → AllAsk (requests_of (asked_of project block))
requests_ask project [] = tt
requests_ask project (text ∷ block) = by (meaning text) (requests_ask project block)
  where
    by : (said : Meaning) → AllAsk (requests_of (asked_of project block)) → AllAsk (requests_of (asked_in project said ∷ asked_of project block))
    by Blank rest = (refl, rest)
    by (Words words) rest = (line_asks project (request words) false, rest)
    by (MalformedLine place reason) rest = rest

pub block_asks : (project : ProjectView) (block : Block) → AllAsk (block_acts project block)
block_asks project block = by (is_refused (asked_of project block))
  where
    by : (b : Bool) → AllAsk (cond b [] (requests_of (asked_of project block) ++ act.Pause ∷ []))
    by true = tt
    by false = ask-append (requests_of (asked_of project block)) (act.Pause ∷ []) (requests_ask project block) (refl, tt)

pub blocks_ask : (project : ProjectView) (entered : List Block) → AllAsk (acts project entered)
blocks_ask project [] = tt
blocks_ask project (block ∷ entered) = ask-append (block_acts project block) (acts project entered) (block_asks project block) (blocks_ask project entered)

-- the last of the acts that blocks enter is a Pause, if there are any
abbrev Pauses : List Acts → Type 0
Pauses asked = (asked ≡ []) ⊎ ((front : List Acts) × (asked ≡ front ++ act.Pause ∷ []))

block_pauses : (project : ProjectView) (block : Block) → Pauses (block_acts project block)
block_pauses project block = by (is_refused (asked_of project block))
  where
    by : (b : Bool) → Pauses (cond b [] (requests_of (asked_of project block) ++ act.Pause ∷ []))
    by true = inl refl
    by false = inr (requests_of (asked_of project block), refl)

blocks_pause : (project : ProjectView) (entered : List Block) → Pauses (acts project entered)
blocks_pause project [] = inl refl
blocks_pause project (block ∷ entered) = by (block_pauses project block) (blocks_pause project entered)
  where
    by : Pauses (block_acts project block) → Pauses (acts project entered) → Pauses (block_acts project block ++ acts project entered)
    by first (inr rest) = inr (block_acts project block ++ rest.0, ap (λ (xs : List Acts). block_acts project block ++ xs) rest.1 ∙ sym (append_assoc (block_acts project block) rest.0 (act.Pause ∷ [])))
    by (inl none) (inl nothing) = inl (ap₂ (λ (xs ys : List Acts). xs ++ ys) none nothing)
    by (inr first) (inl nothing) = inr (first.0, ap (λ (xs : List Acts). block_acts project block ++ xs) nothing ∙ append-nil (block_acts project block) ∙ first.1)

-- ---- the only connection of the only worker

-- it is open, and no other is
pub record IsOnly (project : ProjectView) (history : List Entry) : Type 0 where
  pub one : open_count (answered_in project 1 history) ≡ 1
  pub none : done_count (answered_in project 1 history) ≡ 0
  pub there : is_open (answered_in project 1 history) 0 ≡ true

only_asks : (project : ProjectView) (limit : ℕ) (history : List Entry) (asked : Acts) → effect_of asked ≡ Asks → IsLegal project 1 limit (history ++ record { conn = 0; act = asked } ∷ []) → IsOnly project history → IsOnly project (history ++ record { conn = 0; act = asked } ∷ [])
only_asks project limit history asked asks legal h = record {
  one = subst (λ (e : Effect). ChangesOpen e (open_count (answered_in project 1 history)) (open_count (answered_in project 1 (history ++ record { conn = 0; act = asked } ∷ [])))) asks (open_with project 1 limit history (record { conn = 0; act = asked }) legal) ∙ h.one;
  none = subst (λ (e : Effect). ChangesDone e (done_count (answered_in project 1 history)) (done_count (answered_in project 1 (history ++ record { conn = 0; act = asked } ∷ [])))) asks (done_with project 1 limit history (record { conn = 0; act = asked }) legal) ∙ h.none;
  there = (subst (λ (e : Effect). ChangesOwn e (is_open (answered_in project 1 history) 0) (is_open (answered_in project 1 (history ++ record { conn = 0; act = asked } ∷ [])) 0)) asks (own_with project 1 limit history (record { conn = 0; act = asked }) legal)).1;
}

only_along : (project : ProjectView) (limit : ℕ) (asked : List Acts) (history : List Entry) → AllAsk asked → IsLegal project 1 limit (history ++ alone asked) → IsOnly project history → IsOnly project (history ++ alone asked)
only_along project limit [] history all legal h = subst (IsOnly project) (sym (append-nil history)) h
only_along project limit (asked ∷ rest) history all legal h =
    let parts : (history ++ record { conn = 0; act = asked } ∷ []) ++ alone rest ≡ history ++ alone (asked ∷ rest) = append_assoc history (record { conn = 0; act = asked } ∷ []) (alone rest) in
    let here : IsLegal project 1 limit ((history ++ record { conn = 0; act = asked } ∷ []) ++ alone rest) = subst (IsLegal project 1 limit) (sym parts) legal in
    let first = only_asks project limit history asked all.0 (legal_prefix project 1 limit (history ++ record { conn = 0; act = asked } ∷ []) (alone rest) here) h in
    subst (IsOnly project) parts (only_along project limit rest (history ++ record { conn = 0; act = asked } ∷ []) all.1 here first)

pub only_open : (project : ProjectView) (limit : ℕ) (asked : List Acts) → AllAsk asked → IsLegal project 1 limit (alone (act.Open ∷ asked)) → IsOnly project (alone (act.Open ∷ asked))
only_open project limit asked all legal = only_along project limit asked (record { conn = 0; act = act.Open } ∷ []) all legal (begins (legal_prefix project 1 limit (record { conn = 0; act = act.Open } ∷ []) (alone asked) legal))
  where
    begins : IsLegal project 1 limit (record { conn = 0; act = act.Open } ∷ []) → IsOnly project (record { conn = 0; act = act.Open } ∷ [])
    begins first = record {
      one = open_with project 1 limit [] (record { conn = 0; act = act.Open }) first;
      none = done_with project 1 limit [] (record { conn = 0; act = act.Open }) first;
      there = (own_with project 1 limit [] (record { conn = 0; act = act.Open }) first).1;
    }

-- each of its requests has a reply
pub never_waits : (project : ProjectView) (limit : ℕ) (entered : List Block) → IsLegal project 1 limit (so_far project entered) → (place : ℕ) → In place (request_places 0 0 (so_far project entered)) → reply project 1 (so_far project entered) place ≡ None → ⊥
never_waits project limit entered legal place there none = by (blocks_pause project entered)
  where
    only : IsOnly project (so_far project entered)
    only = only_open project limit (acts project entered) (blocks_ask project entered) legal

    by : Pauses (acts project entered) → ⊥
    by (inl nothing) = subst (λ (asked : List Acts). In place (request_places 0 0 (alone (act.Open ∷ asked)))) nothing there
    by (inr pause) =
        let last : so_far project entered ≡ alone (act.Open ∷ pause.0) ++ record { conn = 0; act = act.Pause } ∷ [] = ap (λ (asked : List Acts). alone (act.Open ∷ asked)) pause.1 ∙ alone-append (act.Open ∷ pause.0) (act.Pause ∷ []) in
        let paused : is_paused (answered_in project 1 (so_far project entered)) 0 ≡ true = ap (λ (h : List Entry). is_paused (answered_in project 1 h) 0) last ∙ paused_own project 1 (alone (act.Open ∷ pause.0)) (record { conn = 0; act = act.Pause }) in
        replies_alone project limit [] (so_far project entered) 0 place legal only.one only.none only.there paused there none

some_of : (o : Option Answer) → (o ≡ None → ⊥) → (answer : Answer) × (o ≡ Some answer)
some_of (Some answer) some = (answer, refl)
some_of None some = absurd (some refl)

pub own_come : (project : ProjectView) (limit : ℕ) (entered : List Block) → IsLegal project 1 limit (so_far project entered) → (text : List ℕ) × (own_answers project entered ≡ Some text)
own_come project limit entered legal =
    let count = course_places project (so_far project entered) 0 entered (acts_alone (act.Open ∷ acts project entered)) in
    answers_come project (reply project 1 (so_far project entered)) entered (request_places 0 0 (so_far project entered)) (omega (arith, count)) (λ place there. some_of (reply project 1 (so_far project entered) place) (never_waits project limit entered legal place there))
