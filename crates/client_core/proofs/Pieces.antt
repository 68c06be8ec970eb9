-- The lines of a piece, one after another.
use Rattle.std.proofs.Common.{◌≡◌, ◌≢◌, inl, inr, ℕ, ◌+◌, ◌-◌, ◌<◌, ◌≤◌, List, [], ◌∷◌, ◌++◌, length, take, drop, refl, sym, ap, subst, ◌∙◌, append_assoc, arith, All}
use Rattle.std.specs.Prelude.{is_some}
use Rattle.std.proofs.lemmas.List.{length-append, length_push, length-take, take-append-drop}
use Rattle.std.proofs.Math.Seq.{take-add}
use Rattle.cody_words.specs.Octets.{newline}
use Rattle.cody_batches.specs.Blocks.{counted_lines}
use Rattle.cody_batches.specs.Feeding.{Standing as IntakeStanding, StandsAfter as IntakeStandsAfter}
use Rattle.cody_batches.proofs.BlockLaws.{run_within}
use Rattle.mapper_requests.specs.Asked.{Asked}
use Rattle.mapper_replies.specs.Values.{ReplyValue}
use Rattle.client_core.specs.declared.stage.Stage.TheVariants.{Await}
use Rattle.client_core.specs.Scripts.{TaskView, requests_in, lines_in}
use Rattle.client_core.specs.Replies.{AreReplies, Awaited, Faulty, told_by, told}
use Rattle.client_core.specs.Clients.{ClientState, Keeps, StandsAfter, EndsReplies, AwaitsMore, MeetsFault, requests, lines_before, telling, answer_to, stage_after}
use Rattle.client_core.specs.Outcomes.{grants_of, comes_to}
use Rattle.client_core.specs.Working.{GoesOn, EndsBlock}
use Rattle.client_core.proofs.Lines.{counted_run}
use Rattle.client_core.proofs.Tellings.{told_awaited, tellings_stay, was_awaited}
use Rattle.client_core.proofs.Taking.{keeps_replies, not_over}

-- ---- clients that differ in what was read alone

same_telling : (one other : ClientState) → other.task ≡ one.task → other.made ≡ one.made → (got : List ℕ) → telling other got ≡ telling one got
same_telling one other t m got = ap (λ x. told (lines_in (is_some other.made) x) (requests_in (is_some other.made) x) got) t ∙ ap (λ x. told (lines_in (is_some x) one.task) (requests_in (is_some x) one.task) got) m

same_lines : (one other : ClientState) → other.task ≡ one.task → other.made ≡ one.made → lines_before other ≡ lines_before one
same_lines one other t m = ap (λ x. lines_in (is_some other.made) x) t ∙ ap (λ x. lines_in (is_some x) one.task) m

same_answer : (one other : ClientState) → other.task ≡ one.task → other.made ≡ one.made → (values : List ReplyValue) → answer_to other values ≡ answer_to one values
same_answer one other t m values = ap (λ x. comes_to (requests_in (is_some other.made) x) x.reading other.made values) t ∙ ap (λ y. comes_to (requests_in (is_some y) one.task) one.task.reading y values) m

pub awaits_still : (s : ClientState) (got : List ℕ) → s.stage ≡ Await → StandsAfter s got → telling s got ≡ Awaited
awaits_still s got e h = let keeps = keeps_replies s got e h in told_awaited (requests s) _ keeps.values keeps.are keeps.some_missing

goes_awaits : (before after : ClientState) (got piece : List ℕ) → GoesOn before got piece after → telling before (got ++ piece) ≡ Awaited
goes_awaits before after got piece h = sym (same_telling before after h.task h.made (got ++ piece)) ∙ awaits_still after (got ++ piece) h.stage_is h.stands

pub awaits_more : (before after : ClientState) (got piece : List ℕ) → GoesOn before got piece after → AwaitsMore before got piece after
awaits_more before after got piece h = record { told_is = goes_awaits before after got piece h; task = h.task; made = h.made; stage_is = h.stage_is; stands = h.stands }

pub moved : {s : ClientState} {octets other : List ℕ} → octets ≡ other → StandsAfter s octets → StandsAfter s other
moved {s} {octets} {other} e h = subst (λ o. StandsAfter s o) e h

-- octets go on after others
pub then_goes_on : (before mid after : ClientState) (got first second : List ℕ) → GoesOn before got first mid → GoesOn mid (got ++ first) second after → GoesOn before got (first ++ second) after
then_goes_on before mid after got first second one two = record {
  task = two.task ∙ one.task;
  made = two.made ∙ one.made;
  stage_is = two.stage_is;
  stands = moved (append_assoc got first second) two.stands;
}

-- octets within a line
pub run_goes_on : (s : ClientState) (intake : IntakeStanding) (got run : List ℕ) → s.stage ≡ Await → All (λ octet. octet ≢ newline) run
    → ((fed : List ℕ) → IntakeStandsAfter s.intake fed → IntakeStandsAfter intake (fed ++ run)) → StandsAfter s got → GoesOn s got run (record s { intake = intake })
run_goes_on s intake got run e clean ran h =
    let keeps = keeps_replies s got e h in
    let going = not_over s.stage e in
    let same = counted_run got run clean in
    record {
      task = refl;
      made = refl;
      stage_is = e;
      stands = record {
        intake = λ _. ran got (h.intake going);
        fits = λ _. (run_within got run clean).3 ∙ h.fits going;
        keeps = subst (λ t. Keeps t (record s { intake = intake }) (got ++ run)) (sym e) (record {
          values = keeps.values;
          are = subst (λ ls. AreReplies (requests s) (drop (lines_before s) ls) keeps.values) (sym same) keeps.are;
          lines = ap length same ∙ keeps.lines;
          count = keeps.count;
          some_missing = keeps.some_missing;
          error = keeps.error;
          paths = keeps.paths;
        });
      };
    }

faulty_awaited : (n : ℕ) → Faulty n ≡ Awaited → ⊥
faulty_awaited n e = cc

-- a fault stays
stays : (before : ℕ) (rs : List Asked) (got more : List ℕ) (n : ℕ) → told before rs got ≡ Faulty n → told before rs (got ++ more) ≡ Faulty n
stays before rs got more n e = elim (tellings_stay before rs got more) [
  | inl h ↦ absurd (faulty_awaited n (sym e ∙ h))
  | inr h ↦ h ∙ e
]

-- ---- a line within a piece

-- a line stands in a piece after its first octets
pub record LineAt (piece : List ℕ) (used : ℕ) (run : List ℕ) : Type 0 where
  pub tail : List ℕ
  pub within : used + (length run + 1) ≤ length piece
  pub next : take (used + (length run + 1)) piece ≡ take used piece ++ (run ++ newline ∷ [])
  pub text : take (used + length run) piece ≡ take used piece ++ run
  pub whole : piece ≡ take used piece ++ (run ++ newline ∷ tail)

take_run : (run tail : List ℕ) → take (length run) (run ++ newline ∷ tail) ≡ run
take_run [] tail = refl
take_run (x ∷ run) tail = ap (λ xs. x ∷ xs) (take_run run tail)

take_ended : (run tail : List ℕ) → take (length run + 1) (run ++ newline ∷ tail) ≡ run ++ newline ∷ []
take_ended run tail = ap (λ n. take n (run ++ newline ∷ tail)) (sym (length_push run newline)) ∙ ap (take (length (run ++ newline ∷ []))) (sym (append_assoc run (newline ∷ []) tail)) ∙ take_front (run ++ newline ∷ []) tail
  where
    take_front : (xs ys : List ℕ) → take (length xs) (xs ++ ys) ≡ xs
    take_front [] ys = refl
    take_front (x ∷ xs) ys = ap (λ zs. x ∷ zs) (take_front xs ys)

pub line_at : (piece rest run : List ℕ) (used : ℕ) (tail : List ℕ) → rest ≡ drop used piece → used ≤ length piece → rest ≡ run ++ newline ∷ tail → LineAt piece used run
line_at piece rest run used tail back le text =
    let after : drop used piece ≡ run ++ newline ∷ tail = sym back ∙ text in
    let whole : piece ≡ take used piece ++ (run ++ newline ∷ tail) = sym (take-append-drop used piece) ∙ ap (λ xs. take used piece ++ xs) after in
    record {
      tail = tail;
      within = omega (arith, ap length whole, length-append (take used piece) (run ++ newline ∷ tail), length-append run (newline ∷ tail), length-take used piece);
      next = take-add used (length run + 1) piece ∙ ap (λ xs. take used piece ++ take (length run + 1) xs) after ∙ ap (λ xs. take used piece ++ xs) (take_ended run tail);
      text = take-add used (length run) piece ∙ ap (λ xs. take used piece ++ take (length run) xs) after ∙ ap (λ xs. take used piece ++ xs) (take_run run tail);
      whole = whole;
    }

module _ (before mid after : ClientState) (got piece run : List ℕ) (used : ℕ) (at : LineAt piece used run) (clean : All (λ octet. octet ≢ newline) run) (goes : GoesOn before got (take used piece) mid) where
  joined : (got ++ take used piece) ++ (run ++ newline ∷ []) ≡ got ++ take (used + (length run + 1)) piece
  joined = append_assoc got (take used piece) (run ++ newline ∷ []) ∙ ap (λ xs. got ++ xs) (sym at.next)

  pub next_goes_on : GoesOn mid (got ++ take used piece) (run ++ newline ∷ []) after → GoesOn before got (take (used + (length run + 1)) piece) after
  next_goes_on h = subst (λ o. GoesOn before got o after) (sym at.next) (then_goes_on before mid after got (take used piece) (run ++ newline ∷ []) goes h)

  told_before : (octets : List ℕ) → telling mid octets ≡ telling before octets
  told_before octets = same_telling before mid goes.task goes.made octets

  none_before : (n : ℕ) → n < used + (length run + 1) → telling before (got ++ take n piece) ≡ Awaited
  none_before n lt =
      let d = (used + length run) - n in
      let split : take (used + length run) piece ≡ take n piece ++ take d (drop n piece) = ap (λ m. take m piece) (omega arith) ∙ take-add n d piece in
      let there : got ++ take (used + length run) piece ≡ (got ++ take n piece) ++ take d (drop n piece) = ap (λ xs. got ++ xs) split ∙ sym (append_assoc got (take n piece) (take d (drop n piece))) in
      let text : got ++ take (used + length run) piece ≡ (got ++ take used piece) ++ run = ap (λ xs. got ++ xs) at.text ∙ sym (append_assoc got (take used piece) run) in
      let same : counted_lines ((got ++ take used piece) ++ run) ≡ counted_lines (got ++ take used piece) = counted_run (got ++ take used piece) run clean in
      let awaited : telling before ((got ++ take used piece) ++ run) ≡ Awaited = ap (λ ls. told_by (requests before) (drop (lines_before before) ls)) same ∙ goes_awaits before mid got (take used piece) goes in
      was_awaited (lines_before before) (requests before) (got ++ take n piece) (take d (drop n piece)) (ap (telling before) (sym there ∙ text) ∙ awaited)

  pub next_ends : EndsBlock mid (got ++ take used piece) (run ++ newline ∷ []) after → EndsReplies before got piece (used + (length run + 1)) after
  next_ends h =
      let answer = same_answer before mid goes.task goes.made h.values in
      record {
        some = omega arith;
        within = at.within;
        values = h.values;
        told_is = ap (telling before) (sym joined) ∙ sym (told_before ((got ++ take used piece) ++ (run ++ newline ∷ []))) ∙ h.told_is;
        none_before = none_before;
        answered = record {
          task = h.answered.task ∙ goes.task;
          made = h.answered.made ∙ goes.made;
          stage_is = h.answered.stage_is ∙ ap stage_after answer;
          outcome_is = h.answered.outcome_is ∙ answer;
          paths = λ none. h.answered.paths (goes.made ∙ none) ∙ ap (λ (t : TaskView). grants_of t.name h.values) goes.task;
        };
        stands = moved joined h.stands;
      }

  pub next_faulty : (line : ℕ) → MeetsFault mid (got ++ take used piece) (run ++ newline ∷ []) line after → MeetsFault before got piece line after
  next_faulty line h =
      let faulty : telling before (got ++ take (used + (length run + 1)) piece) ≡ Faulty h.place = ap (telling before) (sym joined) ∙ sym (told_before ((got ++ take used piece) ++ (run ++ newline ∷ []))) ∙ h.told_is in
      let rest = drop (used + (length run + 1)) piece in
      let all : (got ++ take (used + (length run + 1)) piece) ++ rest ≡ got ++ piece = append_assoc got (take (used + (length run + 1)) piece) rest ∙ ap (λ xs. got ++ xs) (take-append-drop (used + (length run + 1)) piece) in
      record {
        place = h.place;
        told_is = ap (telling before) (sym all) ∙ stays (lines_before before) (requests before) (got ++ take (used + (length run + 1)) piece) rest h.place faulty;
        line_is = h.line_is ∙ ap (λ n. n + h.place) (same_lines before mid goes.task goes.made);
        task = h.task ∙ goes.task;
        made = h.made ∙ goes.made;
        stage_is = h.stage_is;
        nothing = h.nothing;
      }
