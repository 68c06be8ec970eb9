-- Which entries pause a connection.
use Rattle.std.proofs.Common.{◌≡◌, ◌≢◌, ℕ, List, [], ◌∷◌, ◌++◌, fold, All, refl, ap, ◌∙◌, eq-eqb, ne_eqb}
use Rattle.std.proofs.lemmas.Bool.{cond-true, cond-false}
use Rattle.std.proofs.lemmas.List.Elements.{All-head, All-tail}
use Rattle.unit_registry.specs.Acts.{is_pause}
use Rattle.unit_registry.specs.Projects.{ProjectView}
use Rattle.histories.specs.declared.entry.Entry.{Entry}
use Rattle.histories.specs.Answered.{is_paused}
use Rattle.histories.specs.Noted.{Noted, answered_of}
use Rattle.histories.specs.Histories.{and_then, noted_of, answered_in}
use Rattle.histories.proofs.Legality.{noted_more, noted_push}

-- the newest entry of a connection pauses it, or goes on
pub paused_own : (project : ProjectView) (workers : ℕ) (history : List Entry) (entry : Entry) → is_paused (answered_in project workers (history ++ entry ∷ [])) entry.conn ≡ is_pause entry.act
paused_own project workers history entry =
    ap (λ noted. is_paused (answered_of noted) entry.conn) (noted_push project workers history entry)
    ∙ cond-true _ _ _ (eq-eqb entry.conn entry.conn refl)

paused_after : (project : ProjectView) (workers conn : ℕ) → (more : List Entry) (noted : List Noted) → All (λ entry. entry.conn ≢ conn) more → is_paused (answered_of (fold (and_then project workers) noted more)) conn ≡ is_paused (answered_of noted) conn
paused_after project workers conn [] noted others = refl
paused_after project workers conn (entry ∷ more) noted others =
    paused_after project workers conn more (and_then project workers noted entry) (All-tail (λ (x : Entry). x.conn ≢ conn) entry more others)
    ∙ cond-false _ _ _ (ne_eqb entry.conn conn (All-head (λ (x : Entry). x.conn ≢ conn) entry more others))

-- those of others don't count
pub paused_since : (project : ProjectView) (workers : ℕ) (history more : List Entry) (conn : ℕ) → All (λ entry. entry.conn ≢ conn) more → is_paused (answered_in project workers (history ++ more)) conn ≡ is_paused (answered_in project workers history) conn
paused_since project workers history more conn others =
    ap (λ noted. is_paused (answered_of noted) conn) (noted_more project workers history more)
    ∙ paused_after project workers conn more (noted_of project workers history) others
