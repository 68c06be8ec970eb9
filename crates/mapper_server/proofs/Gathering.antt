-- What workers served at a part of a seat stays so at the joined seat, and what all of them came to together.
use Rattle.std.proofs.Common.{◌≡◌, ℕ, ◌+◌, ◌-◌, ◌≤◌, List, [], ◌∷◌, ◌++◌, length, Option, Some, None, Contains, inl, inr, refl, sym, ap, subst, ◌∙◌, cond, arith}
use Rattle.std.specs.Prelude.{count_by}
use Rattle.std.proofs.lemmas.List.{length-append}
use Rattle.std.proofs.lemmas.List.Elements.{All-cons, All-contains, All-nil, Contains-append_left, Contains-append_right, Contains-push}
use Rattle.std.proofs.lemmas.List.Sums.{sum_by-append}
use Rattle.mm_outside.specs.Hall.{Links}
use Rattle.mm_outside.specs.HallCounts.{HallCounts}
use Rattle.mm_outside.specs.Octets.{Octets}
use Rattle.mm_outside.specs.Told.{Told}
use Rattle.mm_outside.specs.declared.hall.Back.{Back}
use Rattle.mm_outside.proofs.ToldLemmas.{Told-both, Told-map}
use Rattle.unit_registry.specs.Acts.{is_open_act}
use Rattle.unit_registry.specs.Projects.{ProjectView}
use Rattle.histories.specs.declared.entry.Entry.{Entry}
use Rattle.histories.specs.Histories.{IsLegal}
use Rattle.histories.proofs.LegalCounts.{opened_over, room_is_used_up}
use Rattle.histories.proofs.Members.{In, Contains-from_In, In-filter_map, In-filter_map_from}
use Rattle.registry_core.specs.Ledgers.{LedgerView, IsLedger, opened_in, reserved_in}
use Rattle.ruled_history.specs.declared.board.View.{View}
use Rattle.ruled_history.specs.Seats.{Shared, Sitting}
use Rattle.ruled_history.specs.Views.{IsBare, Keeps, cut_off, rest_of, with_entries}
use Rattle.ruled_history.proofs.Histories.{all_front}
use Rattle.mapper_server.specs.Backs.{AreReturned, IsReturned, IsServed, conns_of, new_back}
use Rattle.mapper_server.specs.Headline.{GivesNoMore, new_backs, ReturnsAll}
use Rattle.mapper_server.specs.Serving.{HasNoRoom}
use Rattle.mapper_server.specs.Statuses.{Grew, less_of}
use Rattle.mapper_server.specs.Workers.{AllWork, EndsLeast, MayWork, ServesAmong, WorksAt}
use Rattle.mapper_server.proofs.Halls.{Told-last, Told-one, conns_last, conns_one, each_last, each_length, each_map, some_either, statuses_last, statuses_one}
use Rattle.mapper_server.proofs.Joined.{joined_serves}
use Rattle.mapper_server.proofs.Leaving.{was_full_later}
use Rattle.mapper_server.proofs.Leasts.{less_serves, less_up_first, less_up_second}
use Rattle.mapper_server.proofs.Working.{new_back_is}

-- ---- the connections of links that came back

module _ {L : Type 0} where
  conn_here : (back : Back L) (backs : List (Back L)) (conn : ℕ) → back.conn ≡ Some conn → In conn (conns_of (back ∷ backs))
  conn_here back backs conn is = In-filter_map_from (λ (b : Back L). b.conn) conn back is (back ∷ backs) (inl refl)

  conn_there : (back : Back L) (backs : List (Back L)) (conn : ℕ) → In conn (conns_of backs) → In conn (conns_of (back ∷ backs))
  conn_there back backs conn there =
      let found = In-filter_map (λ (b : Back L). b.conn) conn backs there in
      In-filter_map_from (λ (b : Back L). b.conn) conn found.0 found.2 (back ∷ backs) (inr found.1)

-- ---- the two parts of a seat

module _ {S H : Type 0} (counts : H → HallCounts) (registry : Shared S) (project : ProjectView) (seat : Sitting) (sessions : ℕ) (halls : List H) (hall : H) (whole : MayWork counts registry project seat (sessions + 1) (halls ++ hall ∷ [])) where
  as_many : seat.knows.share ≡ length halls + 1
  as_many = let each = whole.each in let long = length-append halls (hall ∷ []) in omega (arith, each, long)

  pub rest_may : (rest : Sitting) → rest ≡ record { registry = seat.registry; knows = rest_of 1 0 seat.knows } → IsBare rest.knows → 1 ≤ length halls → MayWork counts registry project rest sessions halls
  rest_may rest is bare some = record {
    registry_is = ap (λ (s : Sitting). s.registry) is ∙ whole.registry_is;
    bare = bare;
    each = (let share : rest.knows.share ≡ seat.knows.share - 1 = ap (λ (s : Sitting). s.knows.share) is in omega (arith, share, as_many));
    sessions_are = (let all = whole.sessions_are in let long = length-append halls (hall ∷ []) in omega (arith, all, long));
    some = some;
    loose = whole.loose;
    project_is = whole.project_is;
    given = all_front (λ (h : H). (counts h).back ≤ (counts h).given) (halls ++ hall ∷ []) halls (hall ∷ [], refl) whole.given;
  }

  pub last_may : (last : Sitting) → last ≡ record { registry = seat.registry; knows = cut_off 1 0 seat.knows } → IsBare last.knows → MayWork counts registry project last 1 (hall ∷ [])
  last_may last is bare = record {
    registry_is = ap (λ (s : Sitting). s.registry) is ∙ whole.registry_is;
    bare = bare;
    each = ap (λ (s : Sitting). s.knows.share) is;
    sessions_are = refl;
    some = omega arith;
    loose = whole.loose;
    project_is = whole.project_is;
    given = All-cons (λ (h : H). (counts h).back ≤ (counts h).given) hall [] (All-contains (λ (h : H). (counts h).back ≤ (counts h).given) (halls ++ hall ∷ []) hall whole.given (Contains-push halls hall)) (All-nil (λ (h : H). (counts h).back ≤ (counts h).given));
  }

-- ---- in the longer history of a joined seat

module _ (opening : LedgerView) (part whole : View) (keeps : Keeps part whole) where
  opened_grows : opened_in (with_entries opening part.seen) ≤ opened_in (with_entries opening whole.seen)
  opened_grows =
      let few = opened_over opening.project opening.workers part.seen in
      let more = opened_over opening.project opening.workers (part.seen ++ keeps.seen.0) in
      let both : count_by (λ (e : Entry). is_open_act e.act) (part.seen ++ keeps.seen.0) ≡ count_by (λ (e : Entry). is_open_act e.act) part.seen + count_by (λ (e : Entry). is_open_act e.act) keeps.seen.0 = sum_by-append (λ (e : Entry). cond (is_open_act e.act) 1 0) part.seen keeps.seen.0 in
      let is : opened_in (with_entries opening whole.seen) ≡ opened_in (with_entries opening (part.seen ++ keeps.seen.0)) = ap (λ (es : List Entry). opened_in (with_entries opening es)) keeps.seen.1 in
      omega (arith, few, more, both, is)

  no_room_stays : IsLedger (with_entries opening whole.seen) → HasNoRoom (with_entries opening part.seen) → HasNoRoom (with_entries opening whole.seen)
  no_room_stays ledger none =
      let grows = room_is_used_up opening.project opening.workers opening.limit part.seen keeps.seen.0 (subst (λ (es : List Entry). IsLegal opening.project opening.workers opening.limit es) keeps.seen.1 ledger.legal) in
      let is : length whole.seen + reserved_in (with_entries opening whole.seen) ≡ length (part.seen ++ keeps.seen.0) + reserved_in (with_entries opening (part.seen ++ keeps.seen.0)) = ap (λ (es : List Entry). length es + reserved_in (with_entries opening es)) keeps.seen.1 in
      omega (arith, grows, is, none)

  module _ {L : Type 0} (octets : L → Option Octets) (read_faults write_faults : L → ℕ) (ledger : IsLedger (with_entries opening whole.seen)) where
    served_stays : (conn : ℕ) (old new : L) (status : ℕ) → Contains part.connections conn
        → IsServed octets read_faults write_faults (with_entries opening part.seen) (HasNoRoom (with_entries opening part.seen)) conn old new status
        → IsServed octets read_faults write_faults (with_entries opening whole.seen) (HasNoRoom (with_entries opening whole.seen)) conn old new status
    served_stays conn old new status own h = record {
      opened = (let below = h.opened in omega (arith, below, opened_grows));
      how = h.how;
      status_is = h.status_is;
      served = Told-map (λ a b served. joined_serves opening (with_entries opening whole.seen) part whole conn h.how a b keeps own refl served) h.served;
      causes = h.causes;
      was_full = was_full_later (with_entries opening part.seen) (with_entries opening whole.seen) keeps.seen.0 h.how (ap (with_entries opening) keeps.seen.1) h.was_full;
    }

    returned_stays : (conn : Option ℕ) (old new : L) (status : ℕ) (later : List (Back L)) → ((c : ℕ) → conn ≡ Some c → Contains part.connections c)
        → IsReturned octets read_faults write_faults (with_entries opening part.seen) (HasNoRoom (with_entries opening part.seen)) old new conn status later
        → IsReturned octets read_faults write_faults (with_entries opening whole.seen) (HasNoRoom (with_entries opening whole.seen)) old new conn status later
    returned_stays (Some conn) old new status later own h = served_stays conn old new status (own conn refl) h
    returned_stays None old new status later own h = record { same = h.same; status_is = h.status_is; others = h.others; full = no_room_stays ledger h.full }

    all_stay : (given : List L) (backs : List (Back L)) → ((c : ℕ) → In c (conns_of backs) → Contains part.connections c)
        → AreReturned octets read_faults write_faults (with_entries opening part.seen) (HasNoRoom (with_entries opening part.seen)) given backs
        → AreReturned octets read_faults write_faults (with_entries opening whole.seen) (HasNoRoom (with_entries opening whole.seen)) given backs
    all_stay [] [] own h = tt
    all_stay [] (back ∷ backs) own h = absurd h
    all_stay (link ∷ given) [] own h = absurd h
    all_stay (link ∷ given) (back ∷ backs) own h = (
      returned_stays back.conn link back.link back.status backs (λ c is. own c (conn_here back backs c is)) h.0,
      all_stay given backs (λ c there. own c (conn_there back backs c there)) h.1,
    )

    -- what was served among the connections of the part was served among those of the whole
    pub among_stays : ((c : ℕ) → Contains part.connections c → Contains whole.connections c) → (old new : Links L)
        → ServesAmong octets read_faults write_faults (with_entries opening part.seen) part.connections old new → ServesAmong octets read_faults write_faults (with_entries opening whole.seen) whole.connections old new
    among_stays wider old new h = record {
      works = record {
        given = h.works.given;
        backs = h.works.backs;
        taken = h.works.taken;
        back = h.works.back;
        returned = all_stay h.works.given h.works.backs
            (λ c there. h.among c (subst (λ (backs : List (Back L)). Contains (conns_of backs) c) (sym (new_back_is old new h.works.backs h.works.back)) (Contains-from_In c (conns_of h.works.backs) there)))
            h.works.returned;
      };
      among = λ c there. wider c (h.among c there);
    }

-- ---- all workers together

module _ {H L : Type 0} (links : H → Option (Links L)) (hall_faults : H → ℕ) (counts : H → HallCounts) (octets : L → Option Octets) (read_faults write_faults : L → ℕ) (opening : LedgerView) where
  hall_among : (seen : LedgerView) (connections : List ℕ) (before now : H) (status : ℕ) → WorksAt links hall_faults counts octets read_faults write_faults seen connections before now status
      → Told (ServesAmong octets read_faults write_faults seen connections) (links before) (links now)
  hall_among seen connections before now status h =
      Told-both (λ old new works own. record { works = works; among = λ conn there. subst (λ (cs : List ℕ). Contains cs conn) (sym own) there }) h.served h.conns

  -- a worker alone
  pub one_works : (at : View) (before now : H) (status : ℕ) → WorksAt links hall_faults counts octets read_faults write_faults (with_entries opening at.seen) at.connections before now status
      → AllWork links hall_faults counts octets read_faults write_faults opening at (before ∷ []) (now ∷ []) status
  one_works at before now status h = record {
    served = (hall_among (with_entries opening at.seen) at.connections before now status h, tt);
    conns = Told-one links (λ old new. at.connections ≡ conns_of (new_back old new)) (λ olds news. at.connections ≡ conns_of (new_backs olds news)) before now (λ old new is. is ∙ sym (conns_one old new)) h.conns;
    used_up = (h.used_up, tt);
    status_is = Told-one links
        (λ old new. EndsLeast hall_faults (before ∷ []) (now ∷ []) (new_back old new) status)
        (λ olds news. EndsLeast hall_faults (before ∷ []) (now ∷ []) (new_backs olds news) status)
        before now (λ old new least. statuses_one hall_faults before now old new status least) h.status_is;
    kind = h.kind;
    hall_fault = λ some. elim some [ inl grew ↦ h.hall_fault grew | inr none ↦ absurd none ];
    returned = (h.returned, tt);
  }

  -- one worker more
  all_work : (rest last whole : View) (befores nows : List H) (before now : H) (all one : ℕ) → Keeps rest whole → Keeps last whole → whole.connections ≡ rest.connections ++ last.connections → IsLedger (with_entries opening whole.seen)
      → AllWork links hall_faults counts octets read_faults write_faults opening rest befores nows all → WorksAt links hall_faults counts octets read_faults write_faults (with_entries opening last.seen) last.connections before now one
      → AllWork links hall_faults counts octets read_faults write_faults opening whole (befores ++ before ∷ []) (nows ++ now ∷ []) (less_of all one)
  all_work rest last whole befores nows before now all one left right conns ledger h k = record {
    served = each_last (λ (old new : H). Told (ServesAmong octets read_faults write_faults (with_entries opening whole.seen) whole.connections) (links old) (links new)) befores nows before now
        (each_map (λ (old new : H). Told (ServesAmong octets read_faults write_faults (with_entries opening rest.seen) rest.connections) (links old) (links new))
        (λ (old new : H). Told (ServesAmong octets read_faults write_faults (with_entries opening whole.seen) whole.connections) (links old) (links new))
        (λ old new told. Told-map (λ a b among. among_stays opening rest whole left octets read_faults write_faults ledger
        (λ c there. subst (λ (cs : List ℕ). Contains cs c) (sym conns) (Contains-append_left rest.connections last.connections c there)) a b among) told) befores nows h.served)
        (Told-map (λ a b among. among_stays opening last whole right octets read_faults write_faults ledger
        (λ c there. subst (λ (cs : List ℕ). Contains cs c) (sym conns) (Contains-append_right rest.connections last.connections c there)) a b among)
        (hall_among (with_entries opening last.seen) last.connections before now one k));
    conns = Told-last links (λ olds news. rest.connections ≡ conns_of (new_backs olds news)) (λ old new. last.connections ≡ conns_of (new_back old new)) (λ olds news. whole.connections ≡ conns_of (new_backs olds news)) befores nows before now as_many
        (λ olds news old new same is more. conns ∙ (λ i. is i ++ more i) ∙ sym (conns_last olds news old new same)) h.conns k.conns;
    used_up = each_last (GivesNoMore links hall_faults) befores nows before now h.used_up k.used_up;
    status_is = Told-last links
        (λ olds news. EndsLeast hall_faults befores nows (new_backs olds news) all)
        (λ old new. EndsLeast hall_faults (before ∷ []) (now ∷ []) (new_back old new) one)
        (λ olds news. EndsLeast hall_faults (befores ++ before ∷ []) (nows ++ now ∷ []) (new_backs olds news) (less_of all one))
        befores nows before now as_many
        (λ olds news old new same first second. statuses_last hall_faults befores nows before now olds news old new all one as_many same first second) h.status_is k.status_is;
    kind = less_serves all one (less_of all one) refl h.kind k.kind;
    hall_fault = λ some. elim (some_either (λ (old new : H). Grew (hall_faults old) (hall_faults new)) befores (before ∷ []) nows (now ∷ []) as_many some) [
      | inl left ↦ less_up_first 4 all one (h.hall_fault left)
      | inr right ↦ elim right [ inl grew ↦ less_up_second 4 all one (k.hall_fault grew) | inr none ↦ absurd none ]
    ];
    returned = each_last (λ (old new : H). ReturnsAll (counts old) (counts new)) befores nows before now h.returned k.returned;
  }
    where
      as_many : length befores ≡ length nows
      as_many = each_length (GivesNoMore links hall_faults) befores nows h.used_up

  -- the same, of the list of halls and the status as they come
  pub more_work : (rest last whole : View) (befores nows : List H) (before now : H) (all one : ℕ) (halls_now : List H) (status : ℕ) → halls_now ≡ nows ++ now ∷ [] → status ≡ less_of all one
      → Keeps rest whole → Keeps last whole → whole.connections ≡ rest.connections ++ last.connections → IsLedger (with_entries opening whole.seen)
      → AllWork links hall_faults counts octets read_faults write_faults opening rest befores nows all → WorksAt links hall_faults counts octets read_faults write_faults (with_entries opening last.seen) last.connections before now one
      → AllWork links hall_faults counts octets read_faults write_faults opening whole (befores ++ before ∷ []) halls_now status
  more_work rest last whole befores nows before now all one halls_now status are is left right conns ledger h k =
      subst (λ (p : List H × ℕ). AllWork links hall_faults counts octets read_faults write_faults opening whole (befores ++ before ∷ []) p.0 p.1) (λ i. (sym are i, sym is i)) (all_work rest last whole befores nows before now all one left right conns ledger h k)
