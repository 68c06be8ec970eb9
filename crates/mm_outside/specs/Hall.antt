-- What a hall tells of its links.
use Rattle.std.specs.Prelude.{◌≡◌, ℕ, ◌+◌, List, [], ◌∷◌, ◌++◌, Option, Result, Ok, Err, ⊤}
use Rattle.mm_outside.specs.HallCounts.{HallCounts}
use Rattle.mm_outside.specs.declared.hall.Accepted.{Accepted}
use Rattle.mm_outside.specs.declared.hall.Accepted.TheVariants.{Link, NoMore, Failed}
use Rattle.mm_outside.specs.declared.hall.Back.{Back}

-- the links that it can still give, and those that were given back
pub record Links (L : Type 0) : Type 0 where
  pub to_give : List L
  pub back : List (Back L)

-- a link that is given is the next one; there is no more exactly where none is left
abbrev pub Accepts : {L : Type 0} → Accepted L → Links L → Links L → Type 0
Accepts (Link link) old new = (old.to_give ≡ link ∷ new.to_give) × (new.back ≡ old.back)
Accepts NoMore old new = (old.to_give ≡ []) × (new ≡ old)
Accepts Failed old new = new ≡ old

-- the link is the last one that was given back
abbrev pub GivesBack : {L : Type 0} → L → Option ℕ → ℕ → Links L → Links L → Type 0
GivesBack link conn status old new = new ≡ record old { back = old.back ++ record { link = link; conn = conn; status = status } ∷ [] }

-- a fact on the link that was given
abbrev pub IfLink : {L : Type 0} → Accepted L → (L → Type 0) → Type 0
IfLink (Link link) P = P link
IfLink NoMore P = ⊤
IfLink Failed P = ⊤

-- the call failed
abbrev pub HasFailed : {L : Type 0} → Accepted L → Type 0
HasFailed (Link link) = ⊥
HasFailed NoMore = ⊥
HasFailed Failed = ⊤

-- one link more was given, where one was
abbrev pub count_given : {L : Type 0} → Accepted L → HallCounts → HallCounts
count_given (Link link) counts = record counts { given = counts.given + 1 }
count_given NoMore counts = counts
count_given Failed counts = counts

-- whether the call failed
abbrev pub as_result : {L : Type 0} → Accepted L → Result (Unit {0}) (Unit {0})
as_result (Link link) = Ok tt
as_result NoMore = Ok tt
as_result Failed = Err tt
