-- The reading of a text is the project at whose end it arrives, or its first fault.
use Rattle.std.proofs.Common.{◌≡◌, ◌≢◌, ℕ, ◌+◌, ◌⊎◌, inl, inr, List, [], ◌∷◌, ◌++◌, length, refl, sym, ap, ◌∙◌, arith}
use Rattle.std.specs.Prelude.{Result, Ok, Err, IfOk, IfErr}
use Rattle.std.proofs.lemmas.List.{append-nil}
use Rattle.unit_registry.specs.declared.draft.Draft.{Draft}
use Rattle.unit_registry.specs.declared.line.Stage.{Stage}
use Rattle.unit_registry.specs.declared.line.Stage.TheVariants.{Head, Repo, Units, Over}
use Rattle.unit_registry.specs.declared.reason.ProjectReason.{ProjectReason}
use Rattle.unit_registry.specs.declared.reason.ProjectReason.TheVariants.{NoEnd}
use Rattle.unit_registry.specs.Projects.{ProjectView}
use Rattle.unit_registry.specs.Lines.{lines_of}
use Rattle.unit_registry.specs.Drafts.{blank_draft, with_line, Leads}
use Rattle.unit_registry.specs.declared.reason.ProjectError.{ProjectError}
use Rattle.unit_registry.specs.declared.reason.ProjectError.TheVariants.{Text, Memory}
use Rattle.unit_registry.specs.Readings.{Answers, TellsFault, Fault, Declares, ReachesEnd, IsFault, ended, goes_on, read_behind, reading}
use Rattle.unit_registry.proofs.Grammars.{reached_declares}

-- Lines lead from a draft to the end, and this is the project.
record Ends (draft : Draft) (lines : List (List ℕ)) (project : ProjectView) : Type 0 where
  last : Draft
  good : Leads draft lines last
  over : last.stage ≡ Over
  declared : project ≡ last.project

-- A line behind a draft is the first at fault. The first line has this number.
record Fails (draft : Draft) (number : ℕ) (lines : List (List ℕ)) (fault : Fault) : Type 0 where
  before : List (List ℕ)
  line : List ℕ
  behind : List (List ℕ)
  last : Draft
  whole : lines ≡ before ++ line ∷ behind
  good : Leads draft before last
  fails : with_line last line ≡ Err fault.reason
  number_is : fault.line ≡ number + length before

-- The lines behind a draft have no end.
record Lacks (draft : Draft) (number : ℕ) (lines : List (List ℕ)) (fault : Fault) : Type 0 where
  last : Draft
  good : Leads draft lines last
  going_on : last.stage ≢ Over
  reason_is : fault.reason ≡ NoEnd
  number_is : fault.line ≡ number + length lines

-- ---- what the reading says is so

ok_ended : (draft : Draft) (stage : Stage) (number : ℕ) (project : ProjectView) → draft.stage ≡ stage → ended stage draft.project number ≡ Ok project → Ends draft [] project
ok_ended draft Head number project s e = let f : ⊥ = cc in absurd f
ok_ended draft Repo number project s e = let f : ⊥ = cc in absurd f
ok_ended draft Units number project s e = let f : ⊥ = cc in absurd f
ok_ended draft Over number project s e = record { last = draft; good = refl; over = s; declared = cc }

lacks : (draft : Draft) (number : ℕ) (fault : Fault) → draft.stage ≢ Over → record { line = number; reason = NoEnd } ≡ fault → Lacks draft number [] fault
lacks draft number fault n e = record { last = draft; good = refl; going_on = n; reason_is = sym (ap (λ (f : Fault). f.reason) e); number_is = sym (ap (λ (f : Fault). f.line) e) ∙ omega arith }

same_fault : (f g : Fault) → (let r : Result ProjectView Fault = Err f in r) ≡ Err g → f ≡ g
same_fault f g e = cc

err_ended : (draft : Draft) (stage : Stage) (number : ℕ) (fault : Fault) → draft.stage ≡ stage → ended stage draft.project number ≡ Err fault → Lacks draft number [] fault
err_ended draft Head number fault s e = lacks draft number fault (λ o. let f : ⊥ = cc in f) (same_fault _ _ e)
err_ended draft Repo number fault s e = lacks draft number fault (λ o. let f : ⊥ = cc in f) (same_fault _ _ e)
err_ended draft Units number fault s e = lacks draft number fault (λ o. let f : ⊥ = cc in f) (same_fault _ _ e)
err_ended draft Over number fault s e = let f : ⊥ = cc in absurd f

ok_read : (draft : Draft) (number : ℕ) (lines : List (List ℕ)) (project : ProjectView) → read_behind draft number lines ≡ Ok project → Ends draft lines project
ok_read draft number [] project e = ok_ended draft draft.stage number project refl e
ok_read draft number (line ∷ lines) project e = by (with_line draft line) refl e (λ next s. ok_read next (number + 1) lines project s)
  where
    by : (r : Result Draft ProjectReason) → with_line draft line ≡ r → goes_on r number (λ next. read_behind next (number + 1) lines) ≡ Ok project
        → ((next : Draft) → read_behind next (number + 1) lines ≡ Ok project → Ends next lines project)
        → Ends draft (line ∷ lines) project
    by (Ok next) t s again =
        let rest = again next s in
        record { last = rest.last; good = (next, t, rest.good); over = rest.over; declared = rest.declared }
    by (Err reason) t s again = let f : ⊥ = cc in absurd f

err_read : (draft : Draft) (number : ℕ) (lines : List (List ℕ)) (fault : Fault) → read_behind draft number lines ≡ Err fault → Fails draft number lines fault ⊎ Lacks draft number lines fault
err_read draft number [] fault e = inr (err_ended draft draft.stage number fault refl e)
err_read draft number (line ∷ lines) fault e = by (with_line draft line) refl e (λ next s. err_read next (number + 1) lines fault s)
  where
    later : (next : Draft) → with_line draft line ≡ Ok next → Fails next (number + 1) lines fault ⊎ Lacks next (number + 1) lines fault → Fails draft number (line ∷ lines) fault ⊎ Lacks draft number (line ∷ lines) fault
    later next t (inl h) = inl (record { before = line ∷ h.before; line = h.line; behind = h.behind; last = h.last; whole = ap (λ ls. line ∷ ls) h.whole; good = (next, t, h.good); fails = h.fails; number_is = h.number_is ∙ omega arith })
    later next t (inr h) = inr (record { last = h.last; good = (next, t, h.good); going_on = h.going_on; reason_is = h.reason_is; number_is = h.number_is ∙ omega arith })

    here : (reason : ProjectReason) → with_line draft line ≡ Err reason → record { line = number; reason = reason } ≡ fault → Fails draft number (line ∷ lines) fault
    here reason t same = record { before = []; line = line; behind = lines; last = draft; whole = refl; good = refl; fails = t ∙ ap (λ (f : Fault). Err f.reason) same; number_is = sym (ap (λ (f : Fault). f.line) same) ∙ omega arith }

    by : (r : Result Draft ProjectReason) → with_line draft line ≡ r → goes_on r number (λ next. read_behind next (number + 1) lines) ≡ Err fault
        → ((next : Draft) → read_behind next (number + 1) lines ≡ Err fault → Fails next (number + 1) lines fault ⊎ Lacks next (number + 1) lines fault)
        → Fails draft number (line ∷ lines) fault ⊎ Lacks draft number (line ∷ lines) fault
    by (Ok next) t s again = later next t (again next s)
    by (Err reason) t s again = inl (here reason t (same_fault _ _ s))

-- a text of which a project is read reaches its end
reaches : (text : List ℕ) (project : ProjectView) → reading text ≡ Ok project → ReachesEnd text project
unfolding reading
reaches text project e =
    let found = ok_read blank_draft 1 (lines_of text) project e in
    record { last = found.last; good = found.good; over = found.over; declared = found.declared }

-- a text of which a fault is read has it
pub is_fault : (text : List ℕ) (line : ℕ) (reason : ProjectReason) → reading text ≡ Err (record { line = line; reason = reason }) → IsFault text line reason
unfolding reading
is_fault text line reason e = by (err_read blank_draft 1 (lines_of text) (record { line = line; reason = reason }) e)
  where
    by : Fails blank_draft 1 (lines_of text) (record { line = line; reason = reason }) ⊎ Lacks blank_draft 1 (lines_of text) (record { line = line; reason = reason }) → IsFault text line reason
    by (inl h) = inl (record { before = h.before; line = h.line; behind = h.behind; draft = h.last; whole = h.whole; good = h.good; fault = h.fails; number_is = h.number_is ∙ omega arith })
    by (inr h) = inr (record { last = h.last; good = h.good; going_on = h.going_on; reason_is = h.reason_is; number_is = h.number_is ∙ omega arith })

-- ---- what is so is what the reading says

-- good lines are gone over
pub read_behind-good : (draft : Draft) (number : ℕ) (before behind : List (List ℕ)) (last : Draft) → Leads draft before last → read_behind draft number (before ++ behind) ≡ read_behind last (number + length before) behind
read_behind-good draft number [] behind last good = ap (λ (d : Draft). read_behind d number behind) (sym good) ∙ ap (λ n. read_behind last n behind) (omega arith)
read_behind-good draft number (line ∷ before) behind last good =
    ap (λ (r : Result Draft ProjectReason). goes_on r number (λ next. read_behind next (number + 1) (before ++ behind))) good.1
    ∙ read_behind-good good.0 (number + 1) before behind last good.2
    ∙ ap (λ n. read_behind last n behind) (omega arith)

ended_over : (draft : Draft) (number : ℕ) → draft.stage ≡ Over → ended draft.stage draft.project number ≡ Ok draft.project
ended_over draft number e = ap (λ (s : Stage). ended s draft.project number) e

ended_going : (draft : Draft) (stage : Stage) (number : ℕ) → stage ≢ Over → ended stage draft.project number ≡ Err (record { line = number; reason = NoEnd })
ended_going draft Head number n = refl
ended_going draft Repo number n = refl
ended_going draft Units number n = refl
ended_going draft Over number n = absurd (n refl)

-- a text that reaches the end of a project is read as that
pub reading_reaches : (text : List ℕ) (project : ProjectView) → ReachesEnd text project → reading text ≡ Ok project
unfolding reading
reading_reaches text project d =
    ap (read_behind blank_draft 1) (sym (append-nil (lines_of text)))
    ∙ read_behind-good blank_draft 1 (lines_of text) [] d.last d.good
    ∙ ended_over d.last (1 + length (lines_of text)) d.over
    ∙ ap Ok (sym d.declared)

-- a text with a fault is read as that
pub reading_fault : (text : List ℕ) (line : ℕ) (reason : ProjectReason) → IsFault text line reason → reading text ≡ Err (record { line = line; reason = reason })
unfolding reading
reading_fault text line reason (inl h) =
    ap (read_behind blank_draft 1) h.whole
    ∙ read_behind-good blank_draft 1 h.before (h.line ∷ h.behind) h.draft h.good
    ∙ ap (λ (r : Result Draft ProjectReason). goes_on r (1 + length h.before) (λ next. read_behind next (1 + length h.before + 1) h.behind)) h.fault
    ∙ ap (λ (n : ℕ). Err (record { line = n; reason = reason })) (let same : 1 + length h.before ≡ line = omega (arith, h.number_is) in same)
reading_fault text line reason (inr h) =
    ap (read_behind blank_draft 1) (sym (append-nil (lines_of text)))
    ∙ read_behind-good blank_draft 1 (lines_of text) [] h.last h.good
    ∙ ended_going h.last h.last.stage (1 + length (lines_of text)) h.going_on
    ∙ ap (λ (n : ℕ). Err (record { line = n; reason = NoEnd })) (let same : 1 + length (lines_of text) ≡ line = omega (arith, h.number_is) in same)
    ∙ ap (λ (r : ProjectReason). Err (record { line = line; reason = r })) (sym h.reason_is)

-- ---- there is one reading

same_project : (project other : ProjectView) → (let r : Result ProjectView Fault = Ok project in r) ≡ Ok other → project ≡ other
same_project project other e = cc

apart : (project : ProjectView) (fault : Fault) → (let r : Result ProjectView Fault = Ok project in r) ≡ Err fault → ⊥
apart project fault e = cc

pub one_project : (text : List ℕ) (project other : ProjectView) → ReachesEnd text project → ReachesEnd text other → project ≡ other
one_project text project other p q = same_project project other (sym (reading_reaches text project p) ∙ reading_reaches text other q)

pub one_fault : (text : List ℕ) (line other : ℕ) (reason why : ProjectReason) → IsFault text line reason → IsFault text other why → (line ≡ other) × (reason ≡ why)
one_fault text line other reason why p q =
    let same = same_fault (record { line = line; reason = reason }) (record { line = other; reason = why }) (sym (reading_fault text line reason p) ∙ reading_fault text other why q) in
    (ap (λ (f : Fault). f.line) same, ap (λ (f : Fault). f.reason) same)

pub never_both : (text : List ℕ) (project : ProjectView) (line : ℕ) (reason : ProjectReason) → ReachesEnd text project → IsFault text line reason → ⊥
never_both text project line reason p q = apart project (record { line = line; reason = reason }) (sym (reading_reaches text project p) ∙ reading_fault text line reason q)

-- ---- what an answer tells

pub answer_declares : (text : List ℕ) (answer : Result ProjectView ProjectError) → Answers (reading text) answer → IfOk answer (λ project. Declares text project)
answer_declares text (Ok project) h = reached_declares text project (reaches text project h)
answer_declares text (Err error) h = tt

pub answer_tells : (text : List ℕ) (answer : Result ProjectView ProjectError) → Answers (reading text) answer → IfErr answer (λ error. TellsFault text error)
answer_tells text (Ok project) h = tt
answer_tells text (Err (Text line reason)) h = is_fault text line reason h
answer_tells text (Err Memory) h = tt
