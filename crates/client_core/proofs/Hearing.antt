-- What is heard with one reply more.
use Rattle.std.proofs.Common.{◌≡◌, ℕ, suc, zero, ◌+◌, ◌-◌, ◌≤◌, Bool, true, false, not, cond, List, [], ◌∷◌, ◌++◌, length, map, Option, Some, None, refl, sym, ap, subst, ◌∙◌, arith}
use Rattle.std.specs.Prelude.{codes, slice_get, filter_map}
use Rattle.std.specs.Option.{option_or}
use Rattle.std.specs.List.{AllByRecursion}
use Rattle.std.proofs.lemmas.List.{length_push, append-nil}
use Rattle.cody_words.specs.Lines.{Meaning, Blank, Words, Malformed}
use Rattle.cody_words.specs.Meanings.{meaning, is_marked}
use Rattle.cody_batches.specs.declared.intake.Step.{Step}
use Rattle.cody_batches.specs.declared.intake.Step.TheVariants as step
use Rattle.cody_batches.specs.Feeding.{AnswersLine}
use Rattle.mapper_requests.specs.Asked.{Asked}
use Rattle.mapper_requests.specs.Asked as asked
use Rattle.mapper_replies.specs.Values.{ReplyValue}
use Rattle.mapper_replies.specs.Values as reply
use Rattle.mapper_replies.specs.Working.{reply_of}
use Rattle.mapper_replies.specs.Replies.{IsReply}
use Rattle.mapper_replies.proofs.Tables.{reply_of-is}
use Rattle.module_units.specs.Reading.{SourceReading, Good, Bad}
use Rattle.module_units.specs.declared.parts.Import.{Import as ImportOf}
use Rattle.export_lists.specs.declared.cmi.Cmi.{Cmi}
use Rattle.client_core.specs.declared.heard.Heard.{Heard}
use Rattle.client_core.specs.declared.outcome.ClientOutcome.{ClientOutcome}
use Rattle.client_core.specs.Scripts.{is_nameless, import_request, unit_requests, first_requests}
use Rattle.client_core.specs.Replies.{reply_in, allowed, may_have, line_reply}
use Rattle.client_core.specs.Outcomes.{by_error, first_error, path_in}
use Rattle.client_core.specs.Clients.{made_in}
use Rattle.client_core.specs.Working.{noted, reply_by}
use Rattle.client_core.proofs.Tellings.{none_some, some_none, some_same}

-- ---- what a line says

said_words : (request : Asked) (more b : Bool) (words : List (List ℕ)) → reply_by request more (step.Message (not b)) words ≡ cond (cond more b (not b)) (allowed request (reply_of words)) None
said_words request true true words = refl
said_words request true false words = refl
said_words request false true words = refl
said_words request false false words = refl

none_either : (b : Bool) → ◌≡◌ {A = Option ReplyValue} (cond b None None) None
none_either true = refl
none_either false = refl

no_reply : (request : Asked) (more : Bool) (line : List ℕ) (at : ℕ) (reason : _) → meaning line ≡ Malformed at reason → line_reply request more line ≡ None
no_reply request true line at reason e = ap (λ m. cond (is_marked line) (allowed request (reply_in m)) None) e ∙ none_either (is_marked line)
no_reply request false line at reason e = ap (λ m. cond (not (is_marked line)) (allowed request (reply_in m)) None) e ∙ none_either (not (is_marked line))

words_reply : (request : Asked) (more : Bool) (line : List ℕ) (words : List (List ℕ)) → meaning line ≡ Words words → reply_by request more (step.Message (not (is_marked line))) words ≡ line_reply request more line
words_reply request true line words e = said_words request true (is_marked line) words ∙ ap (λ m. cond (is_marked line) (allowed request (reply_in m)) None) (sym e)
words_reply request false line words e = said_words request false (is_marked line) words ∙ ap (λ m. cond (not (is_marked line)) (allowed request (reply_in m)) None) (sym e)

malformed_reply : (request : Asked) (more : Bool) (at : ℕ) (reason : _) (last : Bool) (words : List (List ℕ)) → reply_by request more (step.Malformed at reason last) words ≡ None
malformed_reply request true at reason last words = refl
malformed_reply request false at reason last words = refl

reply_said_by : (request : Asked) (more : Bool) (line : List ℕ) (answer : Step) (words : List (List ℕ)) (m : Meaning) → meaning line ≡ m → AnswersLine m (is_marked line) answer words → (answer ≡ step.More → ⊥)
    → reply_by request more answer words ≡ line_reply request more line
reply_said_by request more line answer words Blank e a some = absurd (some a)
reply_said_by request more line answer words (Words w) e a some = ap (λ t. reply_by request more t words) a.0 ∙ ap (λ ws. reply_by request more (step.Message (not (is_marked line))) ws) a.1 ∙ words_reply request more line w e
reply_said_by request more line answer words (Malformed at reason) e a some =
    ap (λ t. reply_by request more t words) a ∙ malformed_reply request more at reason (not (is_marked line)) words ∙ sym (no_reply request more line at reason e)

-- the reply that a line is, by what its end brought
pub reply_said : (request : Asked) (more : Bool) (line : List ℕ) (answer : Step) (words : List (List ℕ)) → AnswersLine (meaning line) (is_marked line) answer words → (answer ≡ step.More → ⊥)
    → reply_by request more answer words ≡ line_reply request more line
reply_said request more line answer words a some = reply_said_by request more line answer words (meaning line) refl a some

-- ---- a reply that may come

allowed_if : (request : Asked) (w v : ReplyValue) (b : Bool) → may_have request w ≡ b → cond b (Some w) None ≡ Some v → may_have request v ≡ true
allowed_if request w v true e h = subst (λ x. may_have request x ≡ true) (some_same w v h) e
allowed_if request w v false e h = absurd (none_some v h)

allowed_may : (request : Asked) (found : Option ReplyValue) (v : ReplyValue) → allowed request found ≡ Some v → may_have request v ≡ true
allowed_may request None v e = absurd (none_some v e)
allowed_may request (Some w) v e = allowed_if request w v (may_have request w) refl e

pub reply_may : (request : Asked) (more : Bool) (answer : Step) (words : List (List ℕ)) (v : ReplyValue) → reply_by request more answer words ≡ Some v → may_have request v ≡ true
reply_may request true step.More words v e = absurd (none_some v e)
reply_may request true (step.Message true) words v e = absurd (none_some v e)
reply_may request true (step.Message false) words v e = allowed_may request (reply_of words) v e
reply_may request true (step.Malformed at reason last) words v e = absurd (none_some v e)
reply_may request true step.BatchTooLong words v e = absurd (none_some v e)
reply_may request false step.More words v e = absurd (none_some v e)
reply_may request false (step.Message true) words v e = allowed_may request (reply_of words) v e
reply_may request false (step.Message false) words v e = absurd (none_some v e)
reply_may request false (step.Malformed at reason last) words v e = absurd (none_some v e)
reply_may request false step.BatchTooLong words v e = absurd (none_some v e)

-- ---- what was heard

-- the error that a reply is
abbrev pub error_in : Asked → ReplyValue → Option ClientOutcome
error_in request (reply.Error message) = Some (by_error request message)
error_in request value = None

or_none : {X : Type 0} (x : Option X) → x ≡ option_or x None
or_none None = refl
or_none (Some x) = refl

pub noted_came : (request : Asked) (v : ReplyValue) (h : Heard) → (noted request v h).came_to ≡ option_or h.came_to (error_in request v)
noted_came request (reply.Hello builder flags) h = or_none h.came_to
noted_came request (reply.Pathname path) h = or_none h.came_to
noted_came request reply.Done h = or_none h.came_to
noted_came request (reply.Truth truth) h = or_none h.came_to
noted_came request (reply.Error message) h = refl

pub noted_count : (request : Asked) (v : ReplyValue) (h : Heard) → (noted request v h).answered ≡ h.answered + 1
noted_count request (reply.Hello builder flags) h = refl
noted_count request (reply.Pathname path) h = refl
noted_count request reply.Done h = refl
noted_count request (reply.Truth truth) h = refl
noted_count request (reply.Error message) h = refl

pub noted_paths : (request : Asked) (v : ReplyValue) (h : Heard) → (noted request v h).paths ≡ h.paths ++ filter_map path_in (v ∷ [])
noted_paths request (reply.Hello builder flags) h = sym (append-nil h.paths)
noted_paths request (reply.Pathname path) h = refl
noted_paths request reply.Done h = sym (append-nil h.paths)
noted_paths request (reply.Truth truth) h = sym (append-nil h.paths)
noted_paths request (reply.Error message) h = sym (append-nil h.paths)

pub noted_few : (request : Asked) (v : ReplyValue) (h : Heard) → length (noted request v h).paths ≤ length h.paths + 1
noted_few request (reply.Hello builder flags) h = omega arith
noted_few request (reply.Pathname path) h = omega (arith, length_push h.paths path)
noted_few request reply.Done h = omega arith
noted_few request (reply.Truth truth) h = omega arith
noted_few request (reply.Error message) h = omega arith

first_none : (rs : List Asked) → first_error rs [] ≡ None
first_none [] = refl
first_none (r ∷ rs) = refl

first_one : (r : Asked) (rest : List Asked) (v : ReplyValue) → first_error (r ∷ rest) (v ∷ []) ≡ error_in r v
first_one r rest (reply.Hello builder flags) = first_none rest
first_one r rest (reply.Pathname path) = first_none rest
first_one r rest reply.Done = first_none rest
first_one r rest (reply.Truth truth) = first_none rest
first_one r rest (reply.Error message) = refl

first_step : (r q : Asked) (rest : List Asked) (w v : ReplyValue) (vs : List ReplyValue) → first_error rest (vs ++ v ∷ []) ≡ option_or (first_error rest vs) (error_in q v)
    → first_error (r ∷ rest) (w ∷ (vs ++ v ∷ [])) ≡ option_or (first_error (r ∷ rest) (w ∷ vs)) (error_in q v)
first_step r q rest (reply.Hello builder flags) v vs h = h
first_step r q rest (reply.Pathname path) v vs h = h
first_step r q rest reply.Done v vs h = h
first_step r q rest (reply.Truth truth) v vs h = h
first_step r q rest (reply.Error message) v vs h = refl

pub first_more : (rs : List Asked) (vs : List ReplyValue) (r : Asked) (v : ReplyValue) → slice_get rs (length vs) ≡ Some r → first_error rs (vs ++ v ∷ []) ≡ option_or (first_error rs vs) (error_in r v)
first_more [] vs r v at = absurd (none_some r at)
first_more (r' ∷ rest) [] r v at = first_one r' rest v ∙ ap (λ q. error_in q v) (some_same r' r at)
first_more (r' ∷ rest) (w ∷ vs) r v at = first_step r' r rest w v vs (first_more rest vs r v at)

-- ---- what is kept agrees

made_error : (request : Asked) (v : ReplyValue) → made_in None (error_in request v) ≡ None
made_error request (reply.Hello builder flags) = refl
made_error request (reply.Pathname path) = refl
made_error request reply.Done = refl
made_error request (reply.Truth truth) = refl
made_error (asked.Hello version compiler ident) (reply.Error message) = refl
made_error asked.Repo (reply.Error message) = refl
made_error (asked.Export name flags) (reply.Error message) = refl
made_error (asked.Import name flags) (reply.Error message) = refl
made_error (asked.Compiled name flags) (reply.Error message) = refl
made_error (asked.Translate name flags) (reply.Error message) = refl
made_error (asked.Bad why) (reply.Error message) = refl

pub made_kept : (request : Asked) (v : ReplyValue) (made : Option Cmi) (came_to : Option ClientOutcome) → made_in made came_to ≡ made → made_in made (option_or came_to (error_in request v)) ≡ made
made_kept request v (Some cmi) came_to e = refl
made_kept request v None None e = made_error request v
made_kept request v None (Some how) e = e

-- ---- a path for each request but the greeting

-- the requests that a path answers
abbrev pub WantsPath : Asked → Type 0
WantsPath asked.Repo = Unit {0}
WantsPath (asked.Export name flags) = Unit {0}
WantsPath (asked.Import name flags) = Unit {0}
WantsPath (asked.Hello version compiler ident) = ⊥
WantsPath (asked.Compiled name flags) = ⊥
WantsPath (asked.Translate name flags) = ⊥
WantsPath (asked.Bad why) = ⊥

imports_want : (imports : List ImportOf) → AllByRecursion WantsPath (map import_request imports)
imports_want [] = tt
imports_want (import ∷ more) = (tt, imports_want more)

named_want : (b : Bool) (name : List ℕ) (rest : List Asked) → AllByRecursion WantsPath rest → AllByRecursion WantsPath (cond b [] (asked.Export name 0 ∷ []) ++ rest)
named_want true name rest h = h
named_want false name rest h = (tt, h)

unit_wants : (name : List ℕ) (reading : SourceReading) → AllByRecursion WantsPath (unit_requests name reading)
unit_wants name (Good unit) = named_want (is_nameless name) name (map import_request unit.imports) (imports_want unit.imports)
unit_wants name (Bad line reason) = tt

wants_at : (rs : List Asked) (k : ℕ) (r : Asked) → AllByRecursion WantsPath rs → slice_get rs k ≡ Some r → WantsPath r
wants_at [] k r h at = absurd (none_some r at)
wants_at (q ∷ rs) zero r h at = subst WantsPath (some_same q r at) h.0
wants_at (q ∷ rs) (suc k) r h at = wants_at rs k r h.1 at

or_some : {X : Type 0} (x : Option X) (y : X) → option_or x (Some y) ≡ None → ⊥
or_some None y e = some_none y e
or_some (Some x) y e = some_none x e

path_noted : (r : Asked) (v : ReplyValue) (h : Heard) → WantsPath r → may_have r v ≡ true → (noted r v h).came_to ≡ None → length (noted r v h).paths ≡ length h.paths + 1
path_noted r (reply.Pathname path) h w m e = length_push h.paths path
path_noted r (reply.Error message) h w m e = absurd (or_some h.came_to (by_error r message) e)
path_noted asked.Repo (reply.Hello builder flags) h w m e = absurd (let f : ⊥ = cc m in f)
path_noted (asked.Export name n) (reply.Hello builder flags) h w m e = absurd (let f : ⊥ = cc m in f)
path_noted (asked.Import name n) (reply.Hello builder flags) h w m e = absurd (let f : ⊥ = cc m in f)
path_noted asked.Repo reply.Done h w m e = absurd (let f : ⊥ = cc m in f)
path_noted (asked.Export name n) reply.Done h w m e = absurd (let f : ⊥ = cc m in f)
path_noted (asked.Import name n) reply.Done h w m e = absurd (let f : ⊥ = cc m in f)
path_noted asked.Repo (reply.Truth truth) h w m e = absurd (let f : ⊥ = cc m in f)
path_noted (asked.Export name n) (reply.Truth truth) h w m e = absurd (let f : ⊥ = cc m in f)
path_noted (asked.Import name n) (reply.Truth truth) h w m e = absurd (let f : ⊥ = cc m in f)
path_noted (asked.Hello version compiler ident) v h w m e = absurd w
path_noted (asked.Compiled name n) v h w m e = absurd w
path_noted (asked.Translate name n) v h w m e = absurd w
path_noted (asked.Bad why) v h w m e = absurd w

greeting_noted : (version : ℕ) (compiler ident : List ℕ) (v : ReplyValue) (h : Heard) → may_have (asked.Hello version compiler ident) v ≡ true → (noted (asked.Hello version compiler ident) v h).came_to ≡ None
    → length (noted (asked.Hello version compiler ident) v h).paths ≡ length h.paths
greeting_noted version compiler ident (reply.Hello builder flags) h m e = refl
greeting_noted version compiler ident (reply.Pathname path) h m e = absurd (let f : ⊥ = cc m in f)
greeting_noted version compiler ident reply.Done h m e = refl
greeting_noted version compiler ident (reply.Truth truth) h m e = refl
greeting_noted version compiler ident (reply.Error message) h m e = refl

or_none_first : {X : Type 0} (x y : Option X) → option_or x y ≡ None → x ≡ None
or_none_first None y e = refl
or_none_first (Some x) y e = e

-- how many paths there are where no error came, after one reply more to the first block
pub each_path_noted : (ident name : List ℕ) (reading : SourceReading) (k : ℕ) (r : Asked) (v : ReplyValue) (h : Heard) → slice_get (first_requests ident name reading) k ≡ Some r → may_have r v ≡ true
    → (h.came_to ≡ None → length h.paths ≡ k - 1) → (noted r v h).came_to ≡ None → length (noted r v h).paths ≡ k
each_path_noted ident name reading zero r v h at m before e =
    let was : length h.paths ≡ 0 - 1 = before (or_none_first h.came_to (error_in r v) (sym (noted_came r v h) ∙ e)) in
    let same : asked.Hello 1 (codes "modmap") ident ≡ r = some_same (asked.Hello 1 (codes "modmap") ident) r at in
    let there = subst (λ q. may_have q v ≡ true → (noted q v h).came_to ≡ None → length (noted q v h).paths ≡ length h.paths) same (greeting_noted 1 (codes "modmap") ident v h) m e in
    omega (arith, there, was)
each_path_noted ident name reading (suc zero) r v h at m before e =
    let was : length h.paths ≡ 1 - 1 = before (or_none_first h.came_to (error_in r v) (sym (noted_came r v h) ∙ e)) in
    let there = path_noted r v h (subst WantsPath (some_same asked.Repo r at) tt) m e in
    omega (arith, there, was)
each_path_noted ident name reading (suc (suc k)) r v h at m before e =
    let was : length h.paths ≡ suc (suc k) - 1 = before (or_none_first h.came_to (error_in r v) (sym (noted_came r v h) ∙ e)) in
    let there = path_noted r v h (wants_at (unit_requests name reading) k r (unit_wants name reading) at) m e in
    omega (arith, there, was)

-- ---- words that are no reply

no_reply_words : (found : Option ReplyValue) (words : List (List ℕ)) → reply_of words ≡ found → ((value : ReplyValue) → IsReply words value → ⊥) → reply_of words ≡ None
no_reply_words None words e none = e
no_reply_words (Some v) words e none = absurd (none v (reply_of-is words v e))

pub none_allowed : (request : Asked) (words : List (List ℕ)) → ((value : ReplyValue) → IsReply words value → ⊥) → None ≡ allowed request (reply_of words)
none_allowed request words none = ap (allowed request) (sym (no_reply_words (reply_of words) words refl none))
