-- A desk that has a whole book, and serves one connection.
use Rattle.std.proofs.Common.{◌≡◌, ℕ, zero, suc, ◌+◌, ◌<◌, ◌≤◌, true, List, [], ◌∷◌, ◌++◌, length, get_or, Contains, Option, Some, None, Ok, refl, sym, ap, ap₂, subst, ◌∙◌, append_assoc, arith}
use Rattle.std.specs.Prelude.{slice_get, Result, IfOk}
use Rattle.std.specs.List.{range_with_len}
use Rattle.std.specs.Option.{option_map_or}
use Rattle.std.proofs.lemmas.List.{append-nil, length-append, nil_from_length}
use Rattle.std.proofs.lemmas.List.FromFn.{get_or-range_with_len, length-range_with_len}
use Rattle.mm_outside.specs.Octets.{Octets}
use Rattle.cody_batches.specs.Blocks.{blocks}
use Rattle.unit_registry.specs.declared.act.Act.{Act as Acts}
use Rattle.unit_registry.specs.declared.act.Act.TheVariants as act
use Rattle.unit_registry.specs.Projects.{ProjectView}
use Rattle.histories.specs.declared.entry.Entry.{Entry}
use Rattle.histories.specs.Histories.{IsLegal}
use Rattle.histories.proofs.LegalCounts.{own_with}
use Rattle.registry_core.specs.declared.full.Full.{Full}
use Rattle.histories.proofs.Members.{In}
use Rattle.registry_core.specs.Ledgers.{LedgerView, IsLedger, entry, leaving, reply_at}
use Rattle.registry_core.specs.declared.leaving.Leaving.{Leaving}
use Rattle.registry_core.specs.Desks.{DeskState, Adds, IsSound, IsEntryOf, GoesOnFor}
use Rattle.connection_core.specs.declared.block_reader.Stage.{Stage}
use Rattle.connection_core.specs.declared.block_reader.Stage.TheVariants as stage
use Rattle.connection_core.specs.declared.conn_end.ConnEnd.{ConnEnd}
use Rattle.connection_core.specs.Asking.{acts}
use Rattle.connection_core.specs.Answers.{acts_of, request_places, IsFirstMissing}
use Rattle.connection_core.specs.Alone.{alone, solo}
use Rattle.connection_core.specs.Ends.{Served, last_of, status_of}
use Rattle.connection_core.specs.Serving.{ServesAlone}
use Rattle.connection_core.specs.Sessions.{SessionState}
use Rattle.connection_core.proofs.Staying.{served_later}
use Rattle.mapper_server.specs.Serving.{HasOpened, ServesIn}
use Rattle.mapper_server.specs.Steps.{Awaits, AwaitsIn, Continues, EndsSo, HasOpenedFirst, IsGoing, TellsFull}
use Rattle.mapper_server.proofs.Alone.{gone, last_done, so_far, alone-append}
use Rattle.mapper_server.proofs.Comes.{never_waits}
use Rattle.mapper_server.proofs.Leaving.{leaves_served}
use Rattle.mapper_server.proofs.Solo.{ServesSolo, solo_is, place_is}

-- all entries of the history are the desk's own
pub record TellsAll {Held : Type 0} (desk : DeskState Held) : Type 0 where
  pub places : desk.places ≡ range_with_len 0 (length desk.seen.entries)

-- entries that are all of connection 0
all_alone : (entries : List Entry) → ((k : ℕ) → k < length entries → IsEntryOf 0 entries k) → entries ≡ alone (acts_of 0 entries)
all_alone [] of = refl
all_alone (first ∷ entries) of =
    let here = of 0 (omega arith) in
    let is : first ≡ entry 0 here.act = ap (λ (o : Option Entry). option_map_or (λ (x : Entry). x) o first) here.there in
    subst (λ (x : Entry). x ∷ entries ≡ alone (acts_of 0 (x ∷ entries))) (sym is)
    (ap (λ (es : List Entry). entry 0 here.act ∷ es) (all_alone entries (λ k below. let own = of (suc k) (omega (arith, below)) in record { act = own.act; there = own.there })))

module _ {Held : Type 0} (project : ProjectView) (first now : DeskState Held) (opened : HasOpenedFirst project first) (all_first : TellsAll first) (all_now : TellsAll now) (goes : GoesOnFor 0 first now) where
  entries_are : now.seen.entries ≡ entry 0 act.Open ∷ goes.since
  entries_are = goes.history ∙ ap (λ (es : List Entry). es ++ goes.since) opened.entries_are

  first_places : first.places ≡ 0 ∷ []
  first_places = all_first.places ∙ ap (λ (es : List Entry). range_with_len 0 (length es)) opened.entries_are

  places_are : 0 ∷ goes.own ≡ range_with_len 0 (length now.seen.entries)
  places_are = ap (λ (ps : List ℕ). ps ++ goes.own) (sym first_places) ∙ sym goes.places ∙ all_now.places

  by_place : (k : ℕ) → k < length now.seen.entries → IsEntryOf 0 now.seen.entries k
  by_place zero below = record { act = act.Open; there = ap (λ (es : List Entry). slice_get es 0) entries_are }
  by_place (suc k) below =
      let size : suc (length goes.own) ≡ length now.seen.entries = ap length places_are ∙ length-range_with_len 0 (length now.seen.entries) in
      let at : get_or goes.own k 0 ≡ suc k = ap (λ (ps : List ℕ). get_or ps (suc k) 0) places_are ∙ get_or-range_with_len 0 (length now.seen.entries) (suc k) 0 below ∙ (let plus : 0 + suc k ≡ suc k = omega arith in plus) in
      subst (IsEntryOf 0 now.seen.entries) at (goes.of_conn k 0 (omega (arith, size, below)))

  -- what the connection asked
  abbrev pub asked_since : List Acts
  asked_since = acts_of 0 goes.since

  pub all_own : now.seen.entries ≡ alone (act.Open ∷ asked_since)
  all_own = all_alone now.seen.entries by_place ∙ ap (λ (es : List Entry). alone (acts_of 0 es)) entries_are

  pub seen_is : now.seen ≡ record { project = project; workers = 1; limit = first.seen.limit; entries = alone (act.Open ∷ asked_since) }
  seen_is = λ j. record {
    project = (goes.stays.project ∙ opened.project_is) j;
    workers = (goes.stays.workers ∙ opened.workers_is) j;
    limit = goes.stays.limit j;
    entries = all_own j;
  }

in_places : (place : ℕ) (front rest : List ℕ) → In place (front ++ place ∷ rest)
in_places place [] rest = Rattle.std.proofs.Common.inl refl
in_places place (x ∷ front) rest = Rattle.std.proofs.Common.inr (in_places place front rest)

in_behind : (place : ℕ) (before places : List ℕ) → In place places → In place (before ++ places)
in_behind place [] places there = there
in_behind place (x ∷ before) places there = Rattle.std.proofs.Common.inr (in_behind place before places there)

-- no block waits for a reply
pub waits_for_none : {Item Held : Type 0} (project : ProjectView) (s : SessionState Item) (first now : DeskState Held) (place : ℕ) → HasOpenedFirst project first → TellsAll first → TellsAll now → Continues 0 first now → IsSound now → s.conn ≡ 0 → s.reader.stage ≡ stage.Waiting → IsGoing project now.seen.entries s
    → IsFirstMissing (reply_at now.seen) s.places place → ⊥
waits_for_none project s first now place opened all_first all_now continues sound zero_is waiting going missing =
    never_waits project first.seen.limit (blocks going.fed) legal place there none
  where
    own : now.seen.entries ≡ alone (act.Open ∷ asked_since project first now opened all_first all_now continues.goes)
    own = all_own project first now opened all_first all_now continues.goes

    acts_are : act.Open ∷ asked_since project first now opened all_first all_now continues.goes ≡ act.Open ∷ acts project (blocks going.fed)
    acts_are = sym (Rattle.mapper_server.proofs.Alone.acts_alone (act.Open ∷ asked_since project first now opened all_first all_now continues.goes)) ∙ ap (acts_of 0) (sym own) ∙ ap (λ (c : ℕ). acts_of c now.seen.entries) (sym zero_is) ∙ going.stands.entries

    seen : now.seen ≡ record { project = project; workers = 1; limit = first.seen.limit; entries = so_far project (blocks going.fed) }
    seen = seen_is project first now opened all_first all_now continues.goes ∙ ap (λ (asked : List Acts). record { project = project; workers = 1; limit = first.seen.limit; entries = alone asked }) acts_are

    legal : IsLegal project 1 first.seen.limit (so_far project (blocks going.fed))
    legal = (subst IsLedger seen sound.ledger).legal

    waits : Awaits project now.seen.entries s going.fed
    waits = subst (λ (at : Stage). AwaitsIn at project now.seen.entries s going.fed) waiting going.stands.waiting

    there : In place (request_places 0 0 (so_far project (blocks going.fed)))
    there = subst (λ (ps : List ℕ). In place ps) (ap (λ (ps : List ℕ). waits.before ++ ps) (sym missing.places_are) ∙ sym waits.places ∙ ap (λ (c : ℕ). request_places 0 c now.seen.entries) zero_is ∙ ap (λ (l : LedgerView). request_places 0 0 l.entries) seen)
        (in_behind place waits.before (missing.front ++ place ∷ missing.rest) (in_places place missing.front missing.rest))

    none : Rattle.histories.specs.Histories.reply project 1 (so_far project (blocks going.fed)) place ≡ None
    none = ap (λ (l : LedgerView). reply_at l place) (sym seen) ∙ missing.missing

-- ---- it goes, and its worker ends

-- one more entry of a desk that tells all
adds_one : {Held : Type 0} (before after : DeskState Held) (newest : Entry) (place : ℕ) → TellsAll before → TellsAll after → Adds before newest place after → after.seen.entries ≡ before.seen.entries ++ newest ∷ []
adds_one before after newest place tells tells_after adds =
    adds.history ∙ ap (λ (xs : List Entry). (before.seen.entries ++ xs) ++ newest ∷ []) (nil_from_length adds.since size) ∙ ap (λ (xs : List Entry). xs ++ newest ∷ []) (append-nil before.seen.entries)
  where
    after_size : length after.places ≡ length after.seen.entries
    after_size = ap length tells_after.places ∙ length-range_with_len 0 (length after.seen.entries)

    before_size : length before.places ≡ length before.seen.entries
    before_size = ap length tells.places ∙ length-range_with_len 0 (length before.seen.entries)

    size : length adds.since ≡ 0
    size = omega (arith, after_size, before_size, ap length adds.places, length-append before.places (place ∷ []), ap length adds.history, length-append (before.seen.entries ++ adds.since) (newest ∷ []), length-append before.seen.entries adds.since)

pub serves_alone : {Held : Type 0} (project : ProjectView) (how : ConnEnd) (first desk left done : DeskState Held) (going : Leaving) (place other : ℕ) (start now : Octets) → HasOpenedFirst project first → TellsAll first → TellsAll desk → TellsAll left → TellsAll done → Continues 0 first desk
    → IsSound desk → IsSound left → IsSound done → leaving going ≡ last_of how → Adds desk (entry 0 (leaving going)) place left → Adds left last_done other done → TellsFull desk.seen how → EndsSo project 0 how desk start now → ServesAlone project first.seen.limit how start now
serves_alone project how first desk left done going place other start now opened all_first all_desk all_left all_done continues sound sound_left sound_done last leaves ends full ended = record {
  read = s.read;
  written = s.written;
  moves = s.moves;
  served = alone_is.served;
  full_at = alone_is.full_at;
}
  where
    desk_is : desk.seen.project ≡ project
    desk_is = continues.goes.stays.project ∙ opened.project_is

    own : Contains desk.connections 0
    own = subst (λ (cs : List ℕ). Contains cs 0) (sym (continues.goes.connections ∙ opened.connections_are)) (0, omega arith, refl)

    s : ServesIn left.seen 0 how start now
    s = leaves_served 0 desk left going place leaves project how start now sound sound_left desk_is own last ended

    octets : Octets
    octets = record { read = s.read; to_come = now.to_come; written = s.written }

    asked : List Acts
    asked = asked_since project first desk opened all_first all_desk continues.goes

    seen : desk.seen ≡ record { project = project; workers = 1; limit = first.seen.limit; entries = alone (act.Open ∷ asked) }
    seen = seen_is project first desk opened all_first all_desk continues.goes

    history : left.seen.entries ++ last_done ∷ [] ≡ gone asked (last_of how)
    history =
        ap (λ (es : List Entry). es ++ last_done ∷ []) (adds_one desk left (entry 0 (leaving going)) place all_desk all_left leaves ∙ ap₂ (λ (es : List Entry) (a : Acts). es ++ entry 0 a ∷ []) (ap (λ (l : LedgerView). l.entries) seen) last)
        ∙ ap (λ (es : List Entry). es ++ last_done ∷ []) (sym (alone-append (act.Open ∷ asked) (last_of how ∷ [])))

    left_is : ◌≡◌ {A = LedgerView} (record { project = left.seen.project; workers = left.seen.workers; limit = left.seen.limit; entries = left.seen.entries ++ last_done ∷ [] }) (record { project = project; workers = 1; limit = first.seen.limit; entries = gone asked (last_of how) })
    left_is = λ j. record {
      project = (leaves.stays.project ∙ desk_is) j;
      workers = (leaves.stays.workers ∙ ap (λ (l : LedgerView). l.workers) seen) j;
      limit = (leaves.stays.limit ∙ ap (λ (l : LedgerView). l.limit) seen) j;
      entries = history j;
    }

    served : Served project 1 first.seen.limit (gone asked (last_of how)) 0 how octets
    served = subst (λ (l : LedgerView). Served l.project l.workers l.limit l.entries 0 how octets) left_is (served_later left.seen.project left.seen.workers left.seen.limit left.seen.entries (last_done ∷ []) 0 refl how octets s.served)

    done_is : done.seen ≡ record { project = project; workers = 1; limit = first.seen.limit; entries = gone asked (last_of how) }
    done_is =
        let more : done.seen ≡ record { project = left.seen.project; workers = left.seen.workers; limit = left.seen.limit; entries = left.seen.entries ++ last_done ∷ [] } =
        λ j. record { project = ends.stays.project j; workers = ends.stays.workers j; limit = ends.stays.limit j; entries = adds_one left done last_done other all_left all_done ends j } in
        more ∙ left_is

    ledger : IsLedger (record { project = project; workers = 1; limit = first.seen.limit; entries = gone asked (last_of how) })
    ledger = subst IsLedger done_is sound_done.ledger

    full_is : TellsFull (record { project = project; workers = 1; limit = first.seen.limit; entries = alone (act.Open ∷ asked) }) how
    full_is = subst (λ (l : LedgerView). TellsFull l how) seen full

    alone_is : ServesSolo project first.seen.limit how (solo project first.seen.limit octets.read octets.written (status_of how)) octets
    alone_is = subst (λ (es : List Entry). ServesSolo project first.seen.limit how es octets) (solo_is project first.seen.limit asked octets ledger.few how ledger.legal full_is served.ends)
        (record { served = served; full_at = place_is project first.seen.limit asked octets ledger.few how full_is served })

-- ---- it opens

-- the one connection of a desk that counts its connections from 0 is connection 0
only_zero : (conn n : ℕ) → range_with_len 0 n ≡ conn ∷ [] → conn ≡ 0
only_zero conn n e =
    let size : n ≡ 1 = sym (length-range_with_len 0 n) ∙ ap length e in
    let one : range_with_len 0 1 ≡ conn ∷ [] = subst (λ (m : ℕ). range_with_len 0 m ≡ conn ∷ []) size e in
    sym (ap (λ (xs : List ℕ). get_or xs 0 0) one)

pub opens_only : {Held : Type 0} (project : ProjectView) (before after : DeskState Held) (result : Result ℕ Full) (conn n : ℕ) → before.seen.project ≡ project → before.seen.workers ≡ 1 → before.seen.entries ≡ [] → before.connections ≡ [] → TellsAll before → TellsAll after → after.connections ≡ range_with_len 0 n → IsSound after → result ≡ Ok conn
    → IfOk result (λ conn. (place : ℕ) × Adds before (entry conn act.Open) place after) → HasOpenedFirst project after × (after.seen.limit ≡ before.seen.limit)
opens_only project before after result conn n project_is workers_is empty none tells tells_after numbered sound is opened =
    let adds = subst (λ (r : Result ℕ Full). IfOk r (λ conn. (place : ℕ) × Adds before (entry conn act.Open) place after)) is opened in
    let connections : after.connections ≡ conn ∷ [] = adds.1.connections ∙ ap (λ (xs : List ℕ). xs ++ conn ∷ []) none in
    let first : conn ≡ 0 = only_zero conn n (sym numbered ∙ connections) in (
      record {
        project_is = adds.1.stays.project ∙ project_is;
        workers_is = adds.1.stays.workers ∙ workers_is;
        entries_are = adds_one before after (entry conn act.Open) adds.0 tells tells_after adds.1 ∙ ap (λ (xs : List Entry). xs ++ entry conn act.Open ∷ []) empty ∙ ap (λ (c : ℕ). entry c act.Open ∷ []) first;
        connections_are = connections ∙ ap (λ (c : ℕ). c ∷ []) first;
        sound = sound;
      },
      adds.1.stays.limit,
    )

-- then it has opened
pub opened_first : {Held : Type 0} (project : ProjectView) (desk : DeskState Held) → HasOpenedFirst project desk → HasOpened 0 desk
opened_first project desk h = record {
  serving = record {
    own = subst (λ (cs : List ℕ). Contains cs 0) (sym h.connections_are) (0, omega arith, refl);
    there = ap (λ (es : List Entry). Rattle.histories.specs.Answered.is_open (Rattle.histories.specs.Histories.answered_in desk.seen.project desk.seen.workers es) 0) h.entries_are ∙ (own_with desk.seen.project desk.seen.workers desk.seen.limit [] (entry 0 act.Open) (subst (IsLegal desk.seen.project desk.seen.workers desk.seen.limit) h.entries_are h.sound.ledger.legal)).1;
    sound = h.sound;
  };
  only = ap (acts_of 0) h.entries_are;
}
