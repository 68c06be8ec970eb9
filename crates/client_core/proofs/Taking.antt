-- What a line does to what a client keeps.
use Rattle.std.proofs.Common.{◌≡◌, ◌≢◌, ℕ, suc, zero, ◌+◌, ◌<◌, ◌≤◌, Bool, true, false, not, ltb, List, [], ◌∷◌, ◌++◌, length, drop, Option, Some, None, refl, sym, ap, subst, ◌∙◌, arith, All}
use Rattle.std.specs.Prelude.{slice_get, filter_map, is_some}
use Rattle.std.specs.Option.{option_or}
use Rattle.std.proofs.lemmas.List.{length_push, length-drop}
use Rattle.std.proofs.lemmas.List.Elements.{filter_map-append}
use Rattle.std.proofs.lemmas.Bool.{ne_eqb, eq-eqb, ltb-true, ltb-false}
use Rattle.cody_words.specs.Octets.{newline}
use Rattle.cody_batches.specs.declared.intake.Step.{Step}
use Rattle.cody_batches.specs.declared.intake.Step.TheVariants as step
use Rattle.cody_batches.specs.Blocks.{counted_lines}
use Rattle.cody_batches.specs.Feeding.{Standing as IntakeStanding, StandsAfter as IntakeStandsAfter, Answers, words_of}
use Rattle.mapper_requests.specs.Asked.{Asked}
use Rattle.mapper_replies.specs.Values.{ReplyValue}
use Rattle.module_units.specs.Reading.{SourceReading, Good, Bad}
use Rattle.export_lists.specs.declared.cmi.Cmi.{Cmi}
use Rattle.client_core.specs.declared.heard.Heard.{Heard}
use Rattle.client_core.specs.declared.outcome.ClientOutcome.{ClientOutcome}
use Rattle.client_core.specs.declared.stage.Stage.{Stage}
use Rattle.client_core.specs.declared.stage.Stage.TheVariants.{Due, Await, Granted, Over}
use Rattle.client_core.specs.Scripts.{TaskView, requests_in, lines_in}
use Rattle.client_core.specs.Replies.{AreReplies, All as AllReplies, may_have, told_by, line_reply}
use Rattle.client_core.specs.Outcomes.{first_error, path_in, granted, without_error}
use Rattle.client_core.specs.Clients.{ClientState, KeepsReplies, Keeps, StandsAfter, MeetsFault, requests, lines_before, telling, made_in, outcome_at, stage_after, answer_to}
use Rattle.client_core.specs.Working.{noted, reply_by, GoesOn, EndsBlock, IsFit, IsGoodSource}
use Rattle.client_core.proofs.Lines.{LineRead, line_read, blank_read, some_read}
use Rattle.client_core.proofs.Tellings.{is_more, are_more, told_all, told_fault, some_none}
use Rattle.client_core.proofs.Hearing.{reply_said, noted_came, noted_count, noted_paths, noted_few, first_more, error_in, made_kept, each_path_noted}

pub is_more_by : (rs : List Asked) (k : ℕ) (b : Bool) → ltb (k + 1) (length rs) ≡ b → b ≡ is_more rs k
is_more_by rs k true e = let lt = ltb-true (k + 1) (length rs) e in ap not (sym (ne_eqb (length (drop (suc k) rs)) 0 (λ f. omega (arith, lt, f, length-drop (suc k) rs))))
is_more_by rs k false e = let le = ltb-false (k + 1) (length rs) e in ap not (sym (eq-eqb (length (drop (suc k) rs)) 0 (omega (arith, le, length-drop (suc k) rs))))

drop_short : (n : ℕ) (xs ys : List (List ℕ)) → n ≤ length xs → drop n (xs ++ ys) ≡ drop n xs ++ ys
drop_short zero xs ys le = refl
drop_short (suc n) [] ys le = absurd (omega arith)
drop_short (suc n) (x ∷ xs) ys le = drop_short n xs ys (omega arith)

-- what stands of a client that awaits replies
pub keeps_replies : (s : ClientState) (got : List ℕ) → s.stage ≡ Await → StandsAfter s got → KeepsReplies s got
keeps_replies s got e h = subst (λ t. Keeps t s got) e h.keeps

pub not_over : (stage : Stage) → stage ≡ Await → stage ≢ Over
not_over stage e f = let no_such : ⊥ = cc (e, f) in no_such

-- a line that doesn't count
pub blank_goes_on : (s : ClientState) (got run : List ℕ) (intake : IntakeStanding) (answer : Step) → s.stage ≡ Await → StandsAfter s got → LineRead got run intake answer → answer ≡ step.More
    → GoesOn s got (run ++ newline ∷ []) (record s { intake = intake })
blank_goes_on s got run intake answer e h read blank =
    let keeps = keeps_replies s got e h in
    let same = blank_read got run intake answer read blank in
    record {
      task = refl;
      made = refl;
      stage_is = e;
      stands = record {
        intake = λ _. read.stands;
        fits = λ _. read.fits;
        keeps = subst (λ t. Keeps t (record s { intake = intake }) (got ++ (run ++ newline ∷ []))) (sym e) (record {
          values = keeps.values;
          are = subst (λ ls. AreReplies (requests s) (drop (lines_before s) ls) keeps.values) (sym same) keeps.are;
          lines = ap length same ∙ keeps.lines;
          count = keeps.count;
          some_missing = keeps.some_missing;
          error = keeps.error;
          paths = keeps.paths;
        });
      };
    }

outcome_after : (x : Option ClientOutcome) → outcome_at (stage_after x) x ≡ x
outcome_after None = refl
outcome_after (Some how) = refl

or_none_last : {X : Type 0} (x y : Option X) → option_or x y ≡ None → y ≡ None
or_none_last None y e = e
or_none_last (Some x) y e = absurd (some_none x e)

-- where a client came to nothing by its replies, its source is a unit and it made no interface
pub nothing_without : (reading : SourceReading) (made : Option Cmi) → without_error reading made ≡ None → IsGoodSource reading × (made ≡ None)
nothing_without (Bad line reason) made e = absurd (some_none _ e)
nothing_without (Good unit) None e = (tt, refl)
nothing_without (Good unit) (Some cmi) e = absurd (some_none _ e)

pub nothing_came : (reading : SourceReading) (made : Option Cmi) (x : Option ClientOutcome) → option_or x (without_error reading made) ≡ None → (x ≡ None) × IsGoodSource reading × (made ≡ None)
nothing_came reading made None e = let both = nothing_without reading made e in (refl, both.0, both.1)
nothing_came reading made (Some how) e = absurd (some_none how e)

first_lines : (s : ClientState) → s.made ≡ None → lines_before s + length (requests s) ≡ lines_in true s.task
first_lines s none = let e : lines_before s + length (requests s) ≡ 0 + lines_in true s.task = ap (λ m. lines_in (is_some m) s.task + length (requests_in (is_some m) s.task)) none in omega (arith, e)

ended_keeps : (after : ClientState) (got : List ℕ) (made : Option Cmi) → after.made ≡ made → (x : Option ClientOutcome) → after.heard.came_to ≡ x → (earlier : Option ClientOutcome) (reading : SourceReading) → x ≡ option_or earlier (without_error reading made)
    → (made ≡ None → length (counted_lines got) ≡ lines_in true after.task) → Keeps (stage_after x) after got
ended_keeps after got made same (Some how) came earlier reading e lines = tt
ended_keeps after got made same None came earlier reading e lines = let none = nothing_came reading made earlier (sym e) in record { lines = lines none.2; nothing = came; none_made = same ∙ none.2 }

-- a line that counts, after those that a client read
pub record Next (s : ClientState) (got run : List ℕ) (intake : IntakeStanding) (answer : Step) (r : Asked) (more : Bool) : Type 0 where
  pub awaits : s.stage ≡ Await
  pub stands : StandsAfter s got
  pub read : LineRead got run intake answer
  pub counts : answer ≡ step.More → ⊥
  pub at : slice_get (requests s) s.heard.answered ≡ Some r
  pub more_is : more ≡ is_more (requests s) s.heard.answered

-- the client with one reply more
abbrev pub with_reply : ClientState → IntakeStanding → Asked → ReplyValue → ClientState
with_reply s intake r v = record { task = s.task; stage = s.stage; intake = intake; heard = noted r v s.heard; made = s.made }

module _ (s : ClientState) (got run : List ℕ) (intake : IntakeStanding) (answer : Step) (r : Asked) (more : Bool) (n : Next s got run intake answer r more) where
  keeps : KeepsReplies s got
  keeps = keeps_replies s got n.awaits n.stands

  at : slice_get (requests s) (length keeps.values) ≡ Some r
  at = ap (slice_get (requests s)) (sym keeps.count) ∙ n.at

  counted : counted_lines (got ++ (run ++ newline ∷ [])) ≡ counted_lines got ++ n.read.line ∷ []
  counted = some_read got run intake answer n.read n.counts

  dropped : drop (lines_before s) (counted_lines (got ++ (run ++ newline ∷ []))) ≡ drop (lines_before s) (counted_lines got) ++ n.read.line ∷ []
  dropped = ap (drop (lines_before s)) counted ∙ drop_short (lines_before s) (counted_lines got) (n.read.line ∷ []) (omega (arith, keeps.lines))

  reply_is : (found : Option ReplyValue) → reply_by r more answer (words_of intake) ≡ found → line_reply r (is_more (requests s) (length keeps.values)) n.read.line ≡ found
  reply_is found e =
      let there : more ≡ is_more (requests s) (length keeps.values) = n.more_is ∙ ap (is_more (requests s)) keeps.count in
      ap (λ b. line_reply r b n.read.line) (sym there) ∙ sym (reply_said r more n.read.line answer (words_of intake) n.read.answers n.counts) ∙ e

  module _ (v : ReplyValue) (found : reply_by r more answer (words_of intake) ≡ Some v) where
    are : AreReplies (requests s) (drop (lines_before s) (counted_lines (got ++ (run ++ newline ∷ [])))) (keeps.values ++ v ∷ [])
    are = subst (λ ls. AreReplies (requests s) ls (keeps.values ++ v ∷ [])) (sym dropped) (are_more (requests s) (drop (lines_before s) (counted_lines got)) keeps.values r n.read.line v keeps.are at (reply_is (Some v) found))

    count_is : (noted r v s.heard).answered ≡ length (keeps.values ++ v ∷ [])
    count_is = let c = keeps.count in omega (arith, noted_count r v s.heard, c, length_push keeps.values v)

    lines_are : length (counted_lines (got ++ (run ++ newline ∷ []))) ≡ lines_before s + length (keeps.values ++ v ∷ [])
    lines_are = let l = keeps.lines in omega (arith, ap length counted, length_push (counted_lines got) n.read.line, l, length_push keeps.values v)

    error_is : (noted r v s.heard).came_to ≡ first_error (requests s) (keeps.values ++ v ∷ [])
    error_is = noted_came r v s.heard ∙ ap (λ x. option_or x (error_in r v)) keeps.error ∙ sym (first_more (requests s) keeps.values r v at)

    paths_are : s.made ≡ None → (noted r v s.heard).paths ≡ filter_map path_in (keeps.values ++ v ∷ [])
    paths_are none = noted_paths r v s.heard ∙ ap (λ ps. ps ++ filter_map path_in (v ∷ [])) (keeps.paths none) ∙ sym (filter_map-append path_in keeps.values (v ∷ []))

    -- more replies are awaited
    pub line_goes_on : s.heard.answered + 1 < length (requests s) → GoesOn s got (run ++ newline ∷ []) (with_reply s intake r v)
    line_goes_on lt = record {
      task = refl;
      made = refl;
      stage_is = n.awaits;
      stands = record {
        intake = λ _. n.read.stands;
        fits = λ _. n.read.fits;
        keeps = subst (λ t. Keeps t (with_reply s intake r v) (got ++ (run ++ newline ∷ []))) (sym n.awaits) (record {
          values = keeps.values ++ v ∷ [];
          are = are;
          lines = lines_are;
          count = count_is;
          some_missing = omega (arith, lt, count_is, noted_count r v s.heard);
          error = error_is;
          paths = paths_are;
        });
      };
    }

    all_told : length (requests s) ≤ s.heard.answered + 1 → telling s (got ++ (run ++ newline ∷ [])) ≡ AllReplies (keeps.values ++ v ∷ [])
    all_told le =
        let some = keeps.some_missing in
        let c = keeps.count in
        told_all (requests s) (drop (lines_before s) (counted_lines (got ++ (run ++ newline ∷ [])))) (keeps.values ++ v ∷ []) are (omega (arith, le, some, c, length_push keeps.values v))

    -- all replies are there
    pub line_ends : length (requests s) ≤ s.heard.answered + 1 → (stage : Stage) (heard : Heard) (made : Option Cmi)
        → heard.came_to ≡ option_or (noted r v s.heard).came_to (without_error s.task.reading s.made) → heard.paths ≡ (noted r v s.heard).paths → stage ≡ stage_after heard.came_to → made ≡ s.made
        → EndsBlock s got (run ++ newline ∷ []) (record { task = s.task; stage = stage; intake = intake; heard = heard; made = made })
    line_ends le stage heard made came paths stage_is made_is =
        let after : ClientState = record { task = s.task; stage = stage; intake = intake; heard = heard; made = made } in
        let answer_is : heard.came_to ≡ answer_to s (keeps.values ++ v ∷ []) = came ∙ ap (λ x. option_or x (without_error s.task.reading s.made)) error_is in
        let all = all_told le in
        let some = keeps.some_missing in
        let c = keeps.count in
        record {
          values = keeps.values ++ v ∷ [];
          told_is = all;
          answered = record {
            task = refl;
            made = made_is;
            stage_is = stage_is ∙ ap stage_after answer_is;
            outcome_is = ap (λ t. outcome_at t heard.came_to) stage_is ∙ outcome_after heard.came_to ∙ answer_is;
            paths = λ none. ap (granted s.task.name) (paths ∙ paths_are none);
          };
          stands = record {
            intake = λ _. n.read.stands;
            fits = λ _. n.read.fits;
            keeps = subst (λ t. Keeps t after (got ++ (run ++ newline ∷ []))) (sym stage_is) (ended_keeps after (got ++ (run ++ newline ∷ [])) s.made made_is heard.came_to refl (noted r v s.heard).came_to s.task.reading came
                (λ none. lines_are ∙ omega (arith, le, some, c, length_push keeps.values v, first_lines s none)));
          };
        }

  -- a line that isn't the reply that is due
  pub line_faulty : reply_by r more answer (words_of intake) ≡ None → (line : ℕ) → line ≡ lines_before s + s.heard.answered + 1 → (after : ClientState) → after.task ≡ s.task → after.made ≡ s.made → after.stage ≡ Over → after.heard.came_to ≡ None
      → MeetsFault s got (run ++ newline ∷ []) line after
  line_faulty none line line_is after task made stage came =
      let c = keeps.count in
      record {
        place = suc (length keeps.values);
        told_is = ap (told_by (requests s)) dropped ∙ told_fault (requests s) (drop (lines_before s) (counted_lines got)) keeps.values r n.read.line keeps.are at (reply_is None none);
        line_is = omega (arith, line_is, c);
        task = task;
        made = made;
        stage_is = stage;
        nothing = ap (λ t. outcome_at t after.heard.came_to) stage ∙ came;
      }

-- ---- the code's facts

total_few : (b : Bool) (task : TaskView) → lines_in b task ≤ 1003 → length (requests_in b task) ≤ 1003 → lines_in b task + length (requests_in b task) ≤ 1004
total_few true task l r = omega (arith, l)
total_few false task l r = omega (arith, r)

-- the client of these fields, whose interface is kept apart
abbrev pub of_fields : TaskView → Stage → IntakeStanding → Heard → Option Cmi → ClientState
of_fields task stage intake heard made = record { task = task; stage = stage; intake = intake; heard = heard; made = made }

module _ (s : ClientState) (mid last : IntakeStanding) (run : List ℕ) (answer : Step) (second : Bool) (lines count : ℕ) (awaits : s.stage ≡ Await) (clean : All (λ octet. octet ≢ newline) run)
    (ran : (fed : List ℕ) → IntakeStandsAfter s.intake fed → IntakeStandsAfter mid (fed ++ run))
    (stands : (fed : List ℕ) → IntakeStandsAfter mid fed → IntakeStandsAfter last (fed ++ newline ∷ []))
    (answers : (fed : List ℕ) → IntakeStandsAfter mid fed → Answers fed newline answer last)
    (second_is : second ≡ is_some s.made) (lines_is : lines ≡ lines_in second s.task) (lines_few : lines ≤ 1003) (count_is : count ≡ length (requests_in second s.task)) (count_few : count ≤ 1003) where
  pub read_of : (got : List ℕ) → StandsAfter s got → LineRead got run last answer
  read_of got h =
      let going = not_over s.stage awaits in
      let keeps = keeps_replies s got awaits h in
      let lines_at : lines ≡ lines_before s = lines_is ∙ ap (λ b. lines_in b s.task) second_is in
      let count_at : count ≡ length (requests s) = count_is ∙ ap (λ b. length (requests_in b s.task)) second_is in
      let few = total_few (is_some s.made) s.task (omega (arith, lines_at, lines_few)) (omega (arith, count_at, count_few)) in
      let all = keeps.lines in
      let missing = keeps.some_missing in
      line_read s.intake mid last run answer clean ran stands answers got (h.intake going) (h.fits going) (omega (arith, few, all, missing))

  pub next_of : (r : Asked) → (answer ≡ step.More → ⊥) → slice_get (requests_in second s.task) s.heard.answered ≡ Some r → (got : List ℕ) → StandsAfter s got
      → Next s got run last answer r (ltb (s.heard.answered + 1) count)
  next_of r counts at got h = record {
    awaits = awaits;
    stands = h;
    read = read_of got h;
    counts = counts;
    at = ap (λ b. slice_get (requests_in b s.task) s.heard.answered) (sym second_is) ∙ at;
    more_is = ap (λ n. ltb (s.heard.answered + 1) n) (count_is ∙ ap (λ b. length (requests_in b s.task)) second_is) ∙ is_more_by (requests s) s.heard.answered (ltb (s.heard.answered + 1) (length (requests s))) refl;
  }

pub made_none : (made : Option Cmi) → made_in made None ≡ made
made_none None = refl
made_none (Some cmi) = refl

pub noted_made : (r : Asked) (v : ReplyValue) (heard after : Heard) (made : Option Cmi) → made_in made heard.came_to ≡ made → after ≡ noted r v heard → made_in made after.came_to ≡ made
noted_made r v heard after made going e = ap (λ (x : Heard). made_in made x.came_to) e ∙ ap (made_in made) (noted_came r v heard) ∙ made_kept r v made heard.came_to going

pub after_is : (s : ClientState) (intake : IntakeStanding) (r : Asked) (v : ReplyValue) (heard : Heard) → heard ≡ noted r v s.heard → made_in s.made s.heard.came_to ≡ s.made
    → with_reply s intake r v ≡ of_fields s.task s.stage intake heard (made_in s.made heard.came_to)
after_is s intake r v heard e going =
    ap (λ h. of_fields s.task s.stage intake h s.made) (sym e) ∙ ap (λ m. of_fields s.task s.stage intake heard m) (sym (noted_made r v s.heard heard s.made going e))

-- ---- what a client keeps in its fields agrees

await_due : (stage : Stage) → stage ≡ Await → stage ≡ Due → ⊥
await_due stage e f = let no_such : ⊥ = cc (e, f) in no_such

await_granted : (stage : Stage) → stage ≡ Await → stage ≡ Granted → ⊥
await_granted stage e f = let no_such : ⊥ = cc (e, f) in no_such

over_await : Over ≡ Await → ⊥
over_await e = cc

over_due : Over ≡ Due → ⊥
over_due e = cc

over_granted : Over ≡ Granted → ⊥
over_granted e = cc

granted_await : Granted ≡ Await → ⊥
granted_await e = cc

granted_due : Granted ≡ Due → ⊥
granted_due e = cc

module _ (task : TaskView) (stage : Stage) (heard : Heard) (made : Option Cmi) (r : Asked) (v : ReplyValue) (fit : IsFit task stage heard made) (awaits : stage ≡ Await)
    (at : slice_get (requests_in (is_some made) task) heard.answered ≡ Some r) (may : may_have r v ≡ true) where
  each_noted : made ≡ None → (noted r v heard).came_to ≡ None → length (noted r v heard).paths ≡ heard.answered
  each_noted none came = each_path_noted task.ident task.name task.reading heard.answered r v heard (subst (λ m. slice_get (requests_in (is_some m) task) heard.answered ≡ Some r) none at) may (λ e. fit.each_path awaits e none) came

  few_noted : length (noted r v heard).paths ≤ lines_in (is_some made) task + (noted r v heard).answered
  few_noted = let few = fit.few (not_over stage awaits) in omega (arith, few, noted_few r v heard, noted_count r v heard)

  pub fit_more : (after : Heard) → after ≡ noted r v heard → heard.answered + 1 < length (requests_in (is_some made) task) → IsFit task stage after made
  fit_more after e lt = subst (λ (h : Heard). IsFit task stage h made) (sym e) (record {
    going = λ go. noted_made r v heard (noted r v heard) made (fit.going go) refl;
    few = λ _. few_noted;
    missing = λ _. omega (arith, lt, noted_count r v heard);
    each_path = λ _ came none. let each = each_noted none came in omega (arith, each, noted_count r v heard);
    due = λ no_due. absurd (await_due stage awaits no_due);
    all_granted = λ f. absurd (await_granted stage awaits f);
    none_made = λ f. absurd (await_granted stage awaits f);
    is_good = λ f. absurd (await_granted stage awaits f);
    no_error = λ f. absurd (await_granted stage awaits f);
  })

  fit_ended : (x : Option ClientOutcome) (answered : ℕ) (paths : List (List ℕ)) (new : Option Cmi) → length (requests_in (is_some made) task) ≤ heard.answered + 1
      → x ≡ option_or (noted r v heard).came_to (without_error task.reading made) → (stage_after x ≡ Granted → new ≡ made) → answered ≡ (noted r v heard).answered → paths ≡ (noted r v heard).paths
      → IsFit task (stage_after x) (record { answered = answered; paths = paths; came_to = x }) new
  fit_ended (Some how) answered paths new le came same a p = record {
    going = λ go. absurd (go refl);
    few = λ go. absurd (go refl);
    missing = λ f. absurd (over_await f);
    each_path = λ f. absurd (over_await f);
    due = λ f. absurd (over_due f);
    all_granted = λ f. absurd (over_granted f);
    none_made = λ f. absurd (over_granted f);
    is_good = λ f. absurd (over_granted f);
    no_error = λ f. absurd (over_granted f);
  }
  fit_ended None answered paths new le came same a p =
      let none = nothing_came task.reading made (noted r v heard).came_to (sym came) in
      let kept : new ≡ made = same refl in
      let missing = fit.missing awaits in
      let count : length (requests_in (is_some made) task) ≡ length (requests_in false task) = ap (λ m. length (requests_in (is_some m) task)) none.2 in
      let each = each_noted none.2 none.0 in
      record {
        going = λ _. made_none new;
        few = λ _. subst (λ m. length paths ≤ lines_in (is_some m) task + answered) (sym kept) (let few = few_noted in omega (arith, few, a, ap length p));
        missing = λ f. absurd (granted_await f);
        each_path = λ f. absurd (granted_await f);
        due = λ f. absurd (granted_due f);
        all_granted = λ _. omega (arith, ap length p, each, count, le, missing);
        none_made = λ _. kept ∙ none.2;
        is_good = λ _. none.1;
        no_error = λ _. refl;
      }

  pub fit_block : (next : Stage) (x : Option ClientOutcome) (answered : ℕ) (paths : List (List ℕ)) (new : Option Cmi) → next ≡ stage_after x → length (requests_in (is_some made) task) ≤ heard.answered + 1
      → x ≡ option_or (noted r v heard).came_to (without_error task.reading made) → (next ≡ Granted → new ≡ made) → answered ≡ (noted r v heard).answered → paths ≡ (noted r v heard).paths
      → IsFit task next (record { answered = answered; paths = paths; came_to = x }) new
  fit_block next x answered paths new e le came same a p = subst (λ t. IsFit task t (record { answered = answered; paths = paths; came_to = x }) new) (sym e) (fit_ended x answered paths new le came (λ f. same (e ∙ f)) a p)
