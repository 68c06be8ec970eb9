-- When replies come.
use Rattle.std.proofs.Common.{◌≡◌, ℕ, ◌≤◌, List, [], ◌∷◌, ◌++◌, length, Contains, Some, None, sym, ap, ap₂, ◌∙◌, arith}
use Rattle.unit_registry.specs.Projects.{ProjectView}
use Rattle.histories.specs.declared.entry.Entry.{Entry}
use Rattle.histories.specs.declared.answered.Wait.{Wait}
use Rattle.histories.specs.declared.standing.Fate.{Fate}
use Rattle.histories.specs.Noted.{fate, pending, reply_in, answer_in, answer_by}
use Rattle.histories.specs.Answers.{at_once}
use Rattle.histories.specs.Histories.{noted_of, reply, IsLegal}
use Rattle.histories.proofs.Members.{In, In-from_Contains}
use Rattle.histories.proofs.Acyclic.{answered_entry}
use Rattle.histories.proofs.Agree.{reply-past}
use Rattle.histories.proofs.Steps.{standing}
use Rattle.histories.proofs.GoingOn.{candidates, in_waits, reply_new, ended_reply}
use Rattle.histories.proofs.Legality.{noted_push, length-noted_of, legal_prefix, legal_last}

pub reply_own : (project : ProjectView) (workers : ℕ) (history : List Entry) (entry : Entry) → reply project workers (history ++ entry ∷ []) (length history) ≡ answer_in (at_once project (noted_of project workers history) entry.conn entry.act)
reply_own project workers history entry =
    ap₂ (λ n k. reply_in project n k) (noted_push project workers history entry) (sym (length-noted_of project workers history))
    ∙ reply_new project workers (noted_of project workers history) entry

pub reply_unasked : (project : ProjectView) (workers : ℕ) (history : List Entry) (place : ℕ) → length history ≤ place → reply project workers history place ≡ None
reply_unasked project workers history place past =
    reply-past project (noted_of project workers history) place (let all = length-noted_of project workers history in omega arith)

pub reply_ended : (project : ProjectView) (workers limit : ℕ) (history : List Entry) (entry : Entry) → IsLegal project workers limit (history ++ entry ∷ []) → (wait : Wait) → Contains (pending project (noted_of project workers history)) wait → (end : Fate) → fate project (noted_of project workers (history ++ entry ∷ [])) wait.unit ≡ Some end → reply project workers (history ++ entry ∷ []) wait.place ≡ Some (answer_by end wait.unit)
reply_ended project workers limit history entry legal wait there end ended =
    ap (λ n. reply_in project n wait.place) (noted_push project workers history entry)
    ∙ ended_reply project workers limit (noted_of project workers history) entry (standing project workers limit history (legal_prefix project workers limit history (entry ∷ []) legal)) (legal_last project workers limit history entry legal) wait candidate end (sym (ap (λ n. fate project n wait.unit) (noted_push project workers history entry)) ∙ ended)
  where
    candidate : In wait (candidates project (noted_of project workers history) entry)
    candidate = in_waits (answered_entry project (noted_of project workers history) entry).said wait (length (noted_of project workers history)) entry.conn (pending project (noted_of project workers history)) (In-from_Contains wait (pending project (noted_of project workers history)) there)
