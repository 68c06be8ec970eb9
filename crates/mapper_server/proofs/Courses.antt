-- Blocks that are answered stay so, and one block more.
use Rattle.std.proofs.Common.{◌≡◌, ℕ, zero, suc, ◌-◌, ◌<◌, ◌≤◌, ◌⊎◌, inl, inr, List, [], ◌∷◌, ◌++◌, length, take, Option, Some, refl, sym, ap, subst, ◌∙◌, arith}
use Rattle.std.proofs.lemmas.List.{length-append, take-append-le, take_all, take_at}
use Rattle.unit_registry.specs.Projects.{ProjectView}
use Rattle.histories.specs.declared.entry.Entry.{Entry}
use Rattle.histories.specs.Histories.{reply}
use Rattle.connection_core.specs.Asking.{Block, asked_of}
use Rattle.connection_core.specs.Answers.{all_requests, answers, answers_at, block_answer, joined, request_places}
use Rattle.connection_core.proofs.Answering.{answers-more, answers-push}
use Rattle.connection_core.proofs.Staying.{answers_later}
use Rattle.mapper_server.specs.Steps.{Course}

compared : (n m : ℕ) → (n ≤ m) ⊎ (m < n)
compared zero m = inl (omega arith)
compared (suc n) zero = inr (omega arith)
compared (suc n) (suc m) = by (compared n m)
  where
    by : (n ≤ m) ⊎ (m < n) → (suc n ≤ suc m) ⊎ (suc m < suc n)
    by (inl h) = inl (omega (arith, h))
    by (inr h) = inr (omega (arith, h))

-- all but the last
pub front_is : (entered earlier : List Block) (block : Block) → entered ≡ earlier ++ block ∷ [] → take (length entered - 1) entered ≡ earlier
front_is entered earlier block e =
    ap (λ (bs : List Block). take (length bs - 1) bs) e ∙ take_at earlier (block ∷ []) (length (earlier ++ block ∷ []) - 1) (omega (arith, length-append earlier (block ∷ [])))

pub course_moved : (project : ProjectView) (workers others : ℕ) (history : List Entry) (conn conn' : ℕ) (entered entered' : List Block) (written written' : List ℕ) → workers ≡ others → conn ≡ conn' → entered ≡ entered' → written ≡ written'
    → Course project workers history conn entered written → Course project others history conn' entered' written'
course_moved project workers others history conn conn' entered entered' written written' ew ec ee eo course =
    subst (λ (w : ℕ). Course project w history conn' entered' written') ew
    (subst (λ (c : ℕ). Course project workers history c entered' written') ec
    (subst (λ (bs : List Block). Course project workers history conn bs written') ee
    (subst (λ (text : List ℕ). Course project workers history conn entered text) eo course)))

none_taken : (n : ℕ) (bs : List Block) → bs ≡ [] → take n bs ≡ []
none_taken n bs e = take_all n bs (omega (arith, ap length e)) ∙ e

module _ (project : ProjectView) (workers : ℕ) (conn : ℕ) where
  -- whoever enters more
  pub course_later : (history more : List Entry) (entered : List Block) (written : List ℕ) → Course project workers history conn entered written → Course project workers (history ++ more) conn entered written
  course_later history more entered written course = record {
    answered = answers_later project workers history more conn entered written course.answered;
    fronts = λ n. let front = course.fronts n in (front.0, answers_later project workers history more conn (take n entered) front.0 front.1, front.2);
  }

  -- no blocks are answered by nothing
  pub course_begins : (history : List Entry) → Course project workers history conn [] []
  course_begins history = record { answered = refl; fronts = λ n. ([], ap (λ (bs : List Block). answers project workers history conn bs) (none_taken n [] refl), omega arith) }

  -- one block more, whose requests have these places after those of the blocks before it
  pub course_push : (history : List Entry) (entered : List Block) (block : Block) (before places written more : List ℕ) → request_places 0 conn history ≡ before ++ places → length before ≡ all_requests project entered
      → block_answer project (reply project workers history) (asked_of project block) places ≡ Some more → Course project workers history conn entered written → Course project workers history conn (entered ++ block ∷ []) (written ++ more)
  course_push history entered block before places written more are count due course = record { answered = whole; fronts = λ n. by n (compared n (length entered)) }
    where
      earlier : answers_at project (reply project workers history) entered before ≡ Some written
      earlier =
          sym (answers-more project (reply project workers history) entered before places count)
          ∙ ap (λ (ps : List ℕ). answers_at project (reply project workers history) entered ps) (sym are) ∙ course.answered

      whole : answers project workers history conn (entered ++ block ∷ []) ≡ Some (written ++ more)
      whole =
          ap (λ (ps : List ℕ). answers_at project (reply project workers history) (entered ++ block ∷ []) ps) are
          ∙ answers-push project (reply project workers history) entered block before places count
          ∙ ap (λ (answer : Option (List ℕ)). joined answer (block_answer project (reply project workers history) (asked_of project block) places)) earlier
          ∙ ap (λ (answer : Option (List ℕ)). joined (Some written) answer) due

      by : (n : ℕ) → (n ≤ length entered) ⊎ (length entered < n) → (front : List ℕ) × (answers project workers history conn (take n (entered ++ block ∷ [])) ≡ Some front) × (length front ≤ length (written ++ more))
      by n (inl less) =
          let front = course.fronts n in
          (front.0, ap (λ (bs : List Block). answers project workers history conn bs) (take-append-le n entered (block ∷ []) less) ∙ front.1, omega (arith, front.2, length-append written more))
      by n (inr more_than) = (written ++ more, ap (λ (bs : List Block). answers project workers history conn bs) (take_all n (entered ++ block ∷ []) (omega (arith, more_than, length-append entered (block ∷ [])))) ∙ whole, omega arith)
