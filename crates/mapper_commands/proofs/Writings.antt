-- What holds of generating a project, by its ending.
use Rattle.std.proofs.Common.{◌≡◌, ◌≢◌, ◌⊎◌, inl, inr, ℕ, suc, List, All, Option, sym, ap, subst, ◌∙◌, arith}
use Rattle.std.proofs.lemmas.List.Elements.{All-take}
use Rattle.mm_outside.specs.Causes.{Rose}
use Rattle.mm_outside.specs.Files.{Lookup}
use Rattle.mm_outside.specs.Told.{Told}
use Rattle.mm_outside.proofs.ToldLemmas.{Told-map}
use Rattle.mapper_commands.specs.Endings.{Ended, HasSinkCause, status_of}
use Rattle.mapper_commands.proofs.Statuses.{differ}
use Rattle.mapper_commands.specs.Generating.{NamedText, GeneratesSo, all_written, write_stopped, none_written, generated_files}

module _ (faults_before faults_now : ℕ) (before now : Option Lookup) (folder : List ℕ) (units seed : ℕ) where
  abbrev failed : Type 0
  failed = Rose faults_before faults_now

  abbrev kept : Type 0
  kept = faults_now ≡ faults_before

  -- its statuses are 0, 3 and 5, the last where a write failed
  pub gen_ends : (ended : Ended) (b n : ℕ) → GeneratesSo faults_before faults_now before now folder units seed ended → HasSinkCause ended b n → (status_of ended ≡ 0) ⊎ ((status_of ended ≡ 3) ⊎ ((status_of ended ≡ 5) × (failed ⊎ Rose b n)))
  gen_ends ended b n (all_written told none (inl e)) cause = inl (ap status_of e)
  gen_ends ended b n (all_written told none (inr e)) cause = inr (inr (ap status_of e, inr (subst (λ some. HasSinkCause some b n) e cause)))
  gen_ends ended b n (write_stopped told fault e) cause = inr (inr (ap status_of e, inl fault))
  gen_ends ended b n (none_written told none e) cause = inr (inl (ap status_of e))

  -- it never ends as words of no form do, nor for a read
  pub gen_never : (ended : Ended) (status : ℕ) → GeneratesSo faults_before faults_now before now folder units seed ended → (0 ≡ status → ⊥) → (3 ≡ status → ⊥) → (5 ≡ status → ⊥) → status_of ended ≢ status
  gen_never ended status (all_written told none (inl e)) zero_not three_not five_not is = zero_not (sym (ap status_of e) ∙ is)
  gen_never ended status (all_written told none (inr e)) zero_not three_not five_not is = five_not (sym (ap status_of e) ∙ is)
  gen_never ended status (write_stopped told fault e) zero_not three_not five_not is = five_not (sym (ap status_of e) ∙ is)
  gen_never ended status (none_written told none e) zero_not three_not five_not is = three_not (sym (ap status_of e) ∙ is)

  -- where it ends with another status than 5, no write failed
  pub gen_kept : (ended : Ended) (status : ℕ) → status ≡ status_of ended → GeneratesSo faults_before faults_now before now folder units seed ended → status ≢ 5 → kept
  gen_kept ended status is (all_written told none ends) five = none
  gen_kept ended status is (write_stopped told fault e) five = absurd (five (is ∙ ap status_of e))
  gen_kept ended status is (none_written told none e) five = none

  -- why it ends with 5
  pub gen_five : (ended : Ended) (b n : ℕ) → GeneratesSo faults_before faults_now before now folder units seed ended → HasSinkCause ended b n → status_of ended ≡ 5 → failed ⊎ Rose b n
  gen_five ended b n h cause five = by (gen_ends ended b n h cause)
    where
      by : (status_of ended ≡ 0) ⊎ ((status_of ended ≡ 3) ⊎ ((status_of ended ≡ 5) × (failed ⊎ Rose b n))) → failed ⊎ Rose b n
      by (inl e) = absurd (differ (status_of ended) 0 5 (λ d. omega (arith, d)) e five)
      by (inr (inl e)) = absurd (differ (status_of ended) 3 5 (λ d. omega (arith, d)) e five)
      by (inr (inr both)) = both.1

  -- where no write fails, all is written and said
  pub gen_whole : (ended : Ended) (b n : ℕ) → (failed → ⊥) → (Rose b n → ⊥) → GeneratesSo faults_before faults_now before now folder units seed ended → HasSinkCause ended b n → (status_of ended ≡ 0) ⊎ (status_of ended ≡ 3)
  gen_whole ended b n none stood h cause = by (gen_ends ended b n h cause)
    where
      why : failed ⊎ Rose b n → ⊥
      why (inl fault) = none fault
      why (inr rose) = stood rose

      by : (status_of ended ≡ 0) ⊎ ((status_of ended ≡ 3) ⊎ ((status_of ended ≡ 5) × (failed ⊎ Rose b n))) → (status_of ended ≡ 0) ⊎ (status_of ended ≡ 3)
      by (inl e) = inl e
      by (inr (inl e)) = inr e
      by (inr (inr both)) = absurd (why both.1)

  -- no other file changes
  pub gen_others : (ended : Ended) → GeneratesSo faults_before faults_now before now folder units seed ended → Told (λ (old new : Lookup). (name : List ℕ) → All (λ (file : NamedText). name ≢ file.name) (generated_files folder units seed) → new name ≡ old name) before now
  gen_others ended (all_written told none ends) = Told-map (λ x y h. h.others) told
  gen_others ended (write_stopped told fault e) = Told-map (λ x y h. λ name apart. h.others name (All-take (λ (file : NamedText). name ≢ file.name) (suc h.count) (generated_files folder units seed) apart)) told
  gen_others ended (none_written told none e) = Told-map (λ x y same. λ name apart. ap (λ (content : Lookup). content name) same) told
