-- What the example of two threads uses of desks, seats and the closed book.
use Rattle.std.proofs.Common.{◌≡◌, ℕ, ◌+◌, List, [], ◌∷◌, ◌++◌, length, refl, sym, ap, subst, ◌∙◌, arith, length-append}
use Rattle.std.proofs.lemmas.List.{append_assoc}
use Rattle.unit_registry.specs.declared.act.Act.TheVariants.{Open, Repo, Left}
use Rattle.histories.specs.declared.entry.Entry.{Entry}
use Rattle.registry_core.specs.Ledgers.{LedgerView, entry}
use Rattle.registry_core.specs.Desks.{DeskState, Adds}
use Rattle.registry_core.proofs.Desks.{stays_further}
use Rattle.std.specs.Prelude.{Option, Some, IfSome}
use Rattle.ruled_history.specs.declared.board.View.{View}
use Rattle.ruled_history.specs.Runs.{AreAllPlaces}
use Rattle.ruled_history.specs.Seats.{Shared, Sitting}
use Rattle.ruled_history.specs.Views.{joined, Keeps}
use Rattle.ruled_history.specs.Examples.{Placed, at, Stand, Made, Opened, Entered, Divided, asked_at, round_at, Asked, Rounds, RoundsAt, IsRound, BothServed, AreTwoRounds}
use Rattle.ruled_history.proofs.Worked.{made_more, made_further, made_join}

-- ---- requests of a connection

asked_push : (conn : ℕ) (told : List ℕ) (place : ℕ) → asked_at conn (told ++ place ∷ []) ≡ asked_at conn told ++ at place conn Repo ∷ []
asked_push conn [] place = refl
asked_push conn (first ∷ told) place = ap (λ (all : List Placed). at first conn Repo ∷ all) (asked_push conn told place)

pub asked_more : {Held : Type 0} (first second third : DeskState Held) (conn count place : ℕ) (told : List ℕ) → Asked conn count told first second → Entered conn Repo place second third → Asked conn (count + 1) (told ++ place ∷ []) first third
asked_more first second third conn count place told a e = record {
  made = λ others m. subst (λ (all : List Placed). Made third.seen.entries third.places all)
      (append_assoc others (asked_at conn told) (at place conn Repo ∷ []) ∙ ap (λ (all : List Placed). others ++ all) (sym (asked_push conn told place)))
      (made_more second third (entry conn Repo) place (others ++ asked_at conn told) e.adds (a.made others m));
  count_is = length-append told (place ∷ []) ∙ (let c = a.count_is in omega arith);
  has_open = e.has_open;
  stays = stays_further first second third a.stays e.adds.stays;
}

pub rounds : {Held : Type 0} (first second third fourth : DeskState Held) (conn count place : ℕ) (told : List ℕ) → Opened conn first second → Asked conn count told second third → Adds third (entry conn Left) place fourth → Rounds conn count told first fourth
rounds first second third fourth conn count place told o a adds = record {
  opened_at = o.opened_at;
  left_at = place;
  made = made_more third fourth (entry conn Left) place (at o.opened_at conn Open ∷ asked_at conn told) adds (a.made (at o.opened_at conn Open ∷ []) o.made);
  count_is = a.count_is;
  stays = stays_further first third fourth (stays_further first second third o.stays a.stays) adds.stays;
}

-- what is said of an answer, where it came
pub if_some : {A : Type 0} (P : A → Type 0) (answer : Option A) (came : A) → answer ≡ Some came → IfSome answer P → P came
if_some P answer came is h = subst (λ (a : Option _). IfSome a P) is h

-- ---- seats

round_of : (before after : Sitting) (count conn : ℕ) (told : List ℕ) (r : RoundsAt conn count told before after) → IsRound conn count told (round_at conn r.opened_at told r.left_at)
round_of before after count conn told r = record { opened_at = r.opened_at; left_at = r.left_at; made_is = refl; count_is = r.count_is }

made_both : (v w : View) (first second : List Placed) → Keeps v (joined v w) → Keeps w (joined v w) → Made v.seen v.places first → Made w.seen w.places second → Made (joined v w).seen (joined v w).places (first ++ second)
made_both v w first second left right m n =
    made_join (joined v w).seen v.places w.places first second (made_further v.seen (joined v w).seen v.places first left.seen m) (made_further w.seen (joined v w).seen w.places second right.seen n)

pub both_served : {S : Type 0} (limit : ℕ) (registry : Shared S) (one two one_after two_after both : Sitting) (count first_conn : ℕ) (told : List ℕ) (second_conn : ℕ) (other : List ℕ) → Divided limit registry one two → RoundsAt first_conn count told one one_after → RoundsAt second_conn count other two two_after
    → both ≡ record { registry = one_after.registry; knows = joined one_after.knows two_after.knows } → Keeps one_after.knows both.knows → Keeps two_after.knows both.knows → BothServed registry both count first_conn told second_conn other
both_served limit registry one two one_after two_after both count first_conn told second_conn other d r q is left right =
    let whole : both.knows ≡ joined one_after.knows two_after.knows = ap (λ (s : Sitting). s.knows) is in
    let l : Keeps one_after.knows (joined one_after.knows two_after.knows) = subst (Keeps one_after.knows) whole left in
    let k : Keeps two_after.knows (joined one_after.knows two_after.knows) = subst (Keeps two_after.knows) whole right in
    let workers : registry.opening.ledger.workers ≡ 2 = ap (λ (x : LedgerView). x.workers) d.opening_is in
    let first : List Placed = round_at first_conn r.opened_at told r.left_at in
    let second : List Placed = round_at second_conn q.opened_at other q.left_at in
    record {
      registry_is = ap (λ (s : Sitting). s.registry) is ∙ (r.registry_is ∙ d.one_registry);
      share_is = ap (λ (x : View). x.share) whole ∙ (let a = r.share_is in let b = q.share_is in let c = d.one_fresh.share in let e = d.two_fresh.share in omega (arith, workers));
      first = first;
      second = second;
      first_is = round_of one one_after count first_conn told r;
      second_is = round_of two two_after count second_conn other q;
      made = subst (λ (x : View). Made x.seen x.places (first ++ second)) (sym whole) (made_both one_after.knows two_after.knows first second l k r.made q.made);
    }

-- ---- the closed book

pub closed_rounds : {S : Type 0} (registry : Shared S) (seat : Sitting) (entries : List Entry) (count one : ℕ) (told : List ℕ) (two : ℕ) (other : List ℕ) → BothServed registry seat count one told two other → entries ≡ seat.knows.seen → AreAllPlaces seat.knows.places (length entries) → AreTwoRounds entries count one told two other
closed_rounds registry seat entries count one told two other b seen all = record {
  first = b.first;
  second = b.second;
  first_is = b.first_is;
  second_is = b.second_is;
  stand = subst (λ (es : List Entry). Stand es (b.first ++ b.second)) (sym seen) b.made.stand;
  all = subst (λ (ps : List ℕ). AreAllPlaces ps (length entries)) b.made.places_are all;
}
