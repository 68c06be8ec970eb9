-- What a shelf keeps beside a history.
use Rattle.std.specs.Prelude.{ℕ, Bool, true, false, Option, Some, None, if◌then◌else◌}
use Rattle.histories.specs.declared.answered.Answered.{Answered}
use Rattle.histories.specs.declared.answer.Answer.{Answer}
use Rattle.histories.specs.declared.answer.Answer.TheVariants.{Done as Accepted}
use Rattle.histories.specs.Answered.{stores}

-- a Compiled that is stored comes with an item that fits its unit, every other act with none
abbrev pub ComesWith : {Item : Type 0} → (ℕ → Item → Type 0) → Option ℕ → Option Item → Type 0
ComesWith fits (Some unit) (Some item) = fits unit item
ComesWith fits (Some unit) None = ⊥
ComesWith fits None (Some item) = ⊥
ComesWith fits None None = Unit {0}

-- what is kept for a unit after one more entry: the item of the entry, where this is stored for the unit, and
-- otherwise what was kept before
abbrev pub kept_after : {Item : Type 0} → (ℕ → Option Item) → Answered → Option Item → ℕ → Option Item
kept_after kept newest item unit = if stores unit newest then item else kept unit

-- whether it is the answer to a Compiled that is accepted
abbrev pub is_done_answer : Option Answer → Bool
is_done_answer (Some Accepted) = true
is_done_answer _ = false
