-- What the worked examples use of desks, seats and the closed book.
use Rattle.std.proofs.Common.{◌≡◌, inl, inr, ℕ, zero, suc, ◌-◌, ◌<◌, ◌≤◌, false, List, [], ◌∷◌, ◌++◌, map, length, Option, Some, None, IsFalse, refl, sym, ap, subst, ◌∙◌, arith, length-append, append_assoc}
use Rattle.std.proofs.lemmas.Option.{slice_get_within}
use Rattle.unit_registry.specs.declared.act.Act.{Act}
use Rattle.unit_registry.specs.declared.act.Act.TheVariants.{Open, Hello, Repo, Export, Import, Compiled}
use Rattle.histories.specs.declared.entry.Entry.{Entry}
use Rattle.histories.specs.declared.answer.Answer.{Answer}
use Rattle.histories.specs.declared.answer.Answer.TheVariants.{Path, Done as Accepted}
use Rattle.histories.specs.Histories.{reply}
use Rattle.histories.specs.Counts.{Asks, effect_of}
use Rattle.histories.proofs.Stay.{replies_stay}
use Rattle.registry_core.specs.Ledgers.{LedgerView, entry, reply_at}
use Rattle.registry_core.specs.Desks.{DeskState, Looks, Adds, IsSound}
use Rattle.registry_core.proofs.Desks.{slice_get_before, adds_own, opens_own, adds_is_open, adds_at, stays_further, adds_go_on}
use Rattle.ruled_history.specs.declared.board.View.{View}
use Rattle.ruled_history.specs.Runs.{StartsWith, times, once_below, AreAllPlaces}
use Rattle.ruled_history.specs.Seats.{Shared, Sitting}
use Rattle.ruled_history.specs.Views.{with_entries, joined, Knows, Keeps}
use Rattle.ruled_history.specs.Examples.{four_units, blank, Placed, at, placed_from, Stand, Made, reporting, importing, both_seats, IsFresh, HasOpen, IsRoomy, HasOpenIn, Opened, Entered, Greeted, HandsOver, Told, ToldAt, Divided, Finished}
use Rattle.ruled_history.proofs.Counts.{begins_shorter}
use Rattle.ruled_history.proofs.Closing.{none_behind, none_from}

-- ---- entries at their places

pub stand_further : (entries more : List Entry) (made : List Placed) → Stand entries made → Stand (entries ++ more) made
stand_further entries more [] s = tt
stand_further entries more (placed ∷ made) s = (slice_get_before entries more placed.0 placed.1 s.0, stand_further entries more made s.1)

stand_join : (entries : List Entry) (made others : List Placed) → Stand entries made → Stand entries others → Stand entries (made ++ others)
stand_join entries [] others s t = t
stand_join entries (placed ∷ made) others s t = (s.0, stand_join entries made others s.1 t)

places_join : (made others : List Placed) → map (λ (placed : Placed). placed.0) (made ++ others) ≡ map (λ (placed : Placed). placed.0) made ++ map (λ (placed : Placed). placed.0) others
places_join [] others = refl
places_join (placed ∷ made) others = ap (λ (ps : List ℕ). placed.0 ∷ ps) (places_join made others)

-- what was made stays, whatever is seen behind it
pub made_further : (entries whole : List Entry) (places : List ℕ) (made : List Placed) → StartsWith whole entries → Made entries places made → Made whole places made
made_further entries whole places made begins m = record { places_are = m.places_are; stand = subst (λ (es : List Entry). Stand es made) (sym begins.1) (stand_further entries begins.0 made m.stand) }

-- what two seats made
pub made_join : (entries : List Entry) (places others : List ℕ) (made more : List Placed) → Made entries places made → Made entries others more → Made entries (places ++ others) (made ++ more)
made_join entries places others made more m n = record {
  places_are = (λ i. m.places_are i ++ n.places_are i) ∙ sym (places_join made more);
  stand = stand_join entries made more m.stand n.stand;
}

-- ---- calls of a desk

module _ {Held : Type 0} (before after : DeskState Held) where
  -- one entry more
  pub made_more : (newest : Entry) (place : ℕ) (made : List Placed) → Adds before newest place after → Made before.seen.entries before.places made → Made after.seen.entries after.places (made ++ (place, newest) ∷ [])
  made_more newest place made adds m =
      let goes = adds_go_on before after newest place adds in record {
        places_are = adds.places ∙ (ap (λ (ps : List ℕ). ps ++ place ∷ []) m.places_are ∙ sym (places_join made ((place, newest) ∷ [])));
        stand = stand_join after.seen.entries made ((place, newest) ∷ []) (subst (λ (es : List Entry). Stand es made) (sym goes.history) (stand_further before.seen.entries goes.since made m.stand)) (adds_at before after newest place adds, tt);
      }

  -- and none
  pub made_look : (made : List Placed) → Looks before after → Made before.seen.entries before.places made → Made after.seen.entries after.places made
  made_look made looks m = record {
    places_are = looks.places ∙ m.places_are;
    stand = subst (λ (es : List Entry). Stand es made) (sym looks.history) (stand_further before.seen.entries looks.since made m.stand);
  }

  pub has_opened : (conn place : ℕ) → IsFalse before.metered → IsSound after → Adds before (entry conn Open) place after → HasOpen conn after
  has_opened conn place loose sound adds = record {
    own = opens_own before after (entry conn Open) place adds refl;
    there = adds_is_open before after (entry conn Open) place sound adds (inl refl);
    loose = adds.stays.metered ∙ loose;
  }

  pub opened : (conn place : ℕ) → IsFresh before → IsSound after → Adds before (entry conn Open) place after → Opened conn before after
  opened conn place fresh sound adds = record {
    opened_at = place;
    within = slice_get_within after.seen.entries place (entry conn Open) (adds_at before after (entry conn Open) place adds);
    made = made_more (entry conn Open) place [] adds (record { places_are = fresh.bare; stand = tt });
    has_open = has_opened conn place fresh.loose sound adds;
    stays = adds.stays;
  }

  pub entered : (conn : ℕ) (act : Act) (place : ℕ) → effect_of act ≡ Asks → HasOpen conn before → IsSound after → Adds before (entry conn act) place after → Entered conn act place before after
  entered conn act place asks has_open sound adds = record {
    adds = adds;
    has_open = record {
      own = adds_own before after (entry conn act) place adds conn has_open.own;
      there = adds_is_open before after (entry conn act) place sound adds (inr asks);
      loose = adds.stays.metered ∙ has_open.loose;
    };
  }

-- ---- calls in a room

module _ {Held : Type 0} (before after : DeskState Held) (conn place : ℕ) (sound : IsSound after) where
  pub opened_in_room : IsRoomy before → Adds before (entry conn Open) place after → HasOpenIn conn 1 after
  opened_in_room roomy adds = record {
    own = opens_own before after (entry conn Open) place adds refl;
    there = adds_is_open before after (entry conn Open) place sound adds (inl refl);
    room_is = adds.room ∙ ap (λ (n : ℕ). n - 2) roomy.room_is;
  }

  pub asked_in_room : HasOpenIn conn 1 before → Adds before (entry conn Repo) place after → HasOpenIn conn 0 after
  asked_in_room room adds = record {
    own = adds_own before after (entry conn Repo) place adds conn room.own;
    there = adds_is_open before after (entry conn Repo) place sound adds (inr refl);
    room_is = adds.room ∙ ap (λ (n : ℕ). n - 1) room.room_is;
  }

-- ---- calls one after the other

module _ {Held : Type 0} (first second third : DeskState Held) where
  pub hands_over : Entered 0 (Export (Some 0)) 2 first second → Entered 0 (Compiled (Some 0) false) 3 second third → HandsOver first third
  hands_over e c = record {
    made = λ others m. subst (λ (all : List Placed). Made third.seen.entries third.places all) (append_assoc others (at 2 0 (Export (Some 0)) ∷ []) (at 3 0 (Compiled (Some 0) false) ∷ []))
        (made_more second third (entry 0 (Compiled (Some 0) false)) 3 (others ++ at 2 0 (Export (Some 0)) ∷ []) c.adds (made_more first second (entry 0 (Export (Some 0))) 2 others e.adds m));
    stays = stays_further first second third e.adds.stays c.adds.stays;
  }

  pub greeted : (conn : ℕ) (unit : Option ℕ) (place : ℕ) → Opened conn first second → Entered conn (Hello 1 unit) place second third → Greeted conn unit place first third
  greeted conn unit place o e = record {
    opened_at = o.opened_at;
    earlier = let at_place : place ≡ length (second.seen.entries ++ e.adds.since) = e.adds.place_is in let w = o.within in omega (arith, length-append second.seen.entries e.adds.since);
    made = made_more second third (entry conn (Hello 1 unit)) place (at o.opened_at conn Open ∷ []) e.adds o.made;
    has_open = e.has_open;
    stays = stays_further first second third o.stays e.adds.stays;
  }

  -- greeted, handed over and looked at
  pub reported : (answer : Option Answer) (fourth : DeskState Held) → Greeted 0 (Some 0) 1 first second → HandsOver second third → Looks third fourth → answer ≡ reply_at fourth.seen 3 → Told (placed_from 0 reporting) 3 answer first fourth
  reported answer fourth g h looks is =
      let start : g.opened_at ≡ 0 = let e = g.earlier in omega arith in
      let two : Made second.seen.entries second.places (at 0 0 Open ∷ at 1 0 (Hello 1 (Some 0)) ∷ []) = subst (λ (k : ℕ). Made second.seen.entries second.places (at k 0 Open ∷ at 1 0 (Hello 1 (Some 0)) ∷ [])) start g.made in
      record {
        made_are = made_look third fourth (placed_from 0 reporting) looks (h.made (at 0 0 Open ∷ at 1 0 (Hello 1 (Some 0)) ∷ []) two);
        answer_is = is;
        stays = stays_further first third fourth (stays_further first second third g.stays h.stays) looks.stays;
      }

  -- greeted, imported and looked at
  pub imported : (answer : Option Answer) (fourth : DeskState Held) → Greeted 1 None 5 first second → Entered 1 (Import (Some 0) false) 6 second third → Looks third fourth → answer ≡ reply_at fourth.seen 6 → (opened_at : ℕ) × (opened_at < 5) × Told (importing opened_at) 6 answer first fourth
  imported answer fourth g e looks is = (
    g.opened_at,
    g.earlier,
    record {
      made_are = made_look third fourth (importing g.opened_at) looks (made_more second third (entry 1 (Import (Some 0) false)) 6 (at g.opened_at 1 Open ∷ at 5 1 (Hello 1 None) ∷ []) e.adds g.made);
      answer_is = is;
      stays = stays_further first third fourth (stays_further first second third g.stays e.adds.stays) looks.stays;
    },
  )

-- ---- the whole run

-- entries that stand from the first place on are a beginning
moved_back : (x : Entry) (entries : List Entry) (place : ℕ) (made : List Entry) → Stand (x ∷ entries) (placed_from (suc place) made) → Stand entries (placed_from place made)
moved_back x entries place [] s = tt
moved_back x entries place (e ∷ made) s = (s.0, moved_back x entries (suc place) made s.1)

pub begins_with : (entries made : List Entry) → Stand entries (placed_from 0 made) → StartsWith entries made
begins_with entries [] s = (entries, refl)
begins_with [] (e ∷ made) s = let none : None ≡ Some e = s.0 in absurd (cc)
begins_with (x ∷ entries) (e ∷ made) s =
    let here : Some x ≡ Some e = s.0 in
    let rest = begins_with entries made (moved_back x entries 0 made s.1) in
    let same : x ≡ e = cc in
    (rest.0, cc (same, rest.1))

-- where a place stands twice among seven, it is none of the other six
fourth_place : (q : ℕ) → q < 5 → times q (0 ∷ 1 ∷ 2 ∷ 3 ∷ q ∷ 5 ∷ 6 ∷ []) ≤ 1 → q ≡ 4
fourth_place zero lt once = let twice : 2 ≤ 1 = once in absurd (omega arith)
fourth_place (suc zero) lt once = let twice : 2 ≤ 1 = once in absurd (omega arith)
fourth_place (suc (suc zero)) lt once = let twice : 2 ≤ 1 = once in absurd (omega arith)
fourth_place (suc (suc (suc zero))) lt once = let twice : 2 ≤ 1 = once in absurd (omega arith)
fourth_place (suc (suc (suc (suc zero)))) lt once = refl
fourth_place (suc (suc (suc (suc (suc q))))) lt once = absurd (omega arith)

reply_in_beginning : (entries front : List Entry) (place : ℕ) (answer : Answer) → StartsWith entries front → reply four_units 2 front place ≡ Some answer → reply four_units 2 entries place ≡ Some answer
reply_in_beginning entries front place answer begins is =
    ap (λ (es : List Entry). reply four_units 2 es place) begins.1 ∙ replies_stay four_units 2 front begins.0 place answer is

report_accepted : reply four_units 2 reporting 3 ≡ Some Accepted
report_accepted = refl

import_answered : reply four_units 2 both_seats 6 ≡ Some (Path 0)
import_answered = refl

module _ (v w : View) (opening : LedgerView) (left : Keeps v (joined v w)) (right : Keeps w (joined v w)) (knows : Knows opening (joined v w)) (q : ℕ) (low : q < 5) (first : Made v.seen v.places (placed_from 0 reporting)) (second : Made w.seen w.places (importing q)) where
  is_fourth : q ≡ 4
  is_fourth = fourth_place q low (subst (λ (ps : List ℕ). times q ps ≤ 1) (λ i. first.places_are i ++ second.places_are i) (knows.places_once q))

  made_both : Made (joined v w).seen (joined v w).places (placed_from 0 both_seats)
  made_both =
      let m = made_further v.seen (joined v w).seen v.places (placed_from 0 reporting) left.seen first in
      let n = made_further w.seen (joined v w).seen w.places (importing 4) right.seen (subst (λ (k : ℕ). Made w.seen w.places (importing k)) is_fourth second) in
      made_join (joined v w).seen v.places w.places (placed_from 0 reporting) (importing 4) m n

  first_answer : reply four_units 2 v.seen 3 ≡ Some Accepted
  first_answer = reply_in_beginning v.seen reporting 3 Accepted (begins_with v.seen reporting first.stand) report_accepted

  second_answer : reply four_units 2 w.seen 6 ≡ Some (Path 0)
  second_answer =
      let within : 6 < length w.seen = slice_get_within w.seen 6 (entry 1 (Import (Some 0) false)) second.stand.1.1.0 in
      let begins : StartsWith w.seen both_seats = begins_shorter both_seats w.seen (joined v w).seen (begins_with (joined v w).seen both_seats made_both.stand) right.seen (omega arith) in
      reply_in_beginning w.seen both_seats 6 (Path 0) begins import_answered

module _ {S : Type 0} (limit : ℕ) (registry : Shared S) (one two one_after two_after both : Sitting) (reported imported : Option Answer) where
  pub finished : Divided limit registry one two → ToldAt (placed_from 0 reporting) 3 reported one one_after → ((q : ℕ) × (q < 5) × ToldAt (importing q) 6 imported two two_after)
      → both ≡ record { registry = one_after.registry; knows = joined one_after.knows two_after.knows }
      → Keeps one_after.knows both.knows → Keeps two_after.knows both.knows → Knows registry.opening.ledger both.knows → Finished registry one_after two_after both reported imported
  finished d t u is left right knows =
      let whole : both.knows ≡ joined one_after.knows two_after.knows = ap (λ (s : Sitting). s.knows) is in
      let l : Keeps one_after.knows (joined one_after.knows two_after.knows) = subst (Keeps one_after.knows) whole left in
      let r : Keeps two_after.knows (joined one_after.knows two_after.knows) = subst (Keeps two_after.knows) whole right in
      let k : Knows registry.opening.ledger (joined one_after.knows two_after.knows) = subst (Knows registry.opening.ledger) whole knows in
      let workers : registry.opening.ledger.workers ≡ 2 = ap (λ (x : LedgerView). x.workers) d.opening_is in
      let fourth : u.0 ≡ 4 = is_fourth one_after.knows two_after.knows registry.opening.ledger l r k u.0 u.1 t.made_are u.2.made_are in
      record {
        one_share = t.share_is ∙ d.one_fresh.share;
        two_share = u.2.share_is ∙ d.two_fresh.share;
        one_places = t.made_are.places_are;
        two_places = u.2.made_are.places_are ∙ ap (λ (q : ℕ). q ∷ 5 ∷ 6 ∷ []) fourth;
        registry_is = ap (λ (s : Sitting). s.registry) is ∙ (t.registry_is ∙ d.one_registry);
        share_is = ap (λ (x : View). x.share) whole ∙ (let a = t.share_is in let b = u.2.share_is in let c = d.one_fresh.share in let e = d.two_fresh.share in omega (arith, workers));
        made_are = subst (λ (x : View). Made x.seen x.places (placed_from 0 both_seats)) (sym whole) (made_both one_after.knows two_after.knows registry.opening.ledger l r k u.0 u.1 t.made_are u.2.made_are);
        reported_is = t.answer_is ∙ first_answer one_after.knows two_after.knows registry.opening.ledger l r k u.0 u.1 t.made_are u.2.made_are;
        imported_is = u.2.answer_is ∙ second_answer one_after.knows two_after.knows registry.opening.ledger l r k u.0 u.1 t.made_are u.2.made_are;
      }

-- seven entries, of which all places are those from 0 to 6, are these
pub closed_seven : (entries seen : List Entry) (places : List ℕ) → entries ≡ seen → Made seen places (placed_from 0 both_seats) → AreAllPlaces places (length entries) → entries ≡ both_seats
closed_seven entries seen places same m all =
    let front : StartsWith entries both_seats = subst (λ (es : List Entry). StartsWith es both_seats) (sym same) (begins_with seen both_seats m.stand) in
    none_behind entries both_seats front (none_from 7 (length entries) (subst (λ (ps : List ℕ). times 7 ps ≡ once_below 7 (length entries)) m.places_are (all 7)))

-- and the book is that of two workers with a limit after them
pub closed_book : (opening ledger : LedgerView) (limit : ℕ) → opening ≡ blank limit → ledger ≡ with_entries opening ledger.entries → ledger.entries ≡ both_seats → ledger ≡ with_entries (blank limit) both_seats
closed_book opening ledger limit start after entries = after ∙ (λ i. with_entries (start i) (entries i))
