-- The links that a worker gives back, one after another, and what later entries leave of them.
use Rattle.std.proofs.Common.{◌≡◌, ◌≢◌, inl, inr, ℕ, ◌<◌, List, [], ◌∷◌, ◌++◌, length, drop, Contains, Option, Some, None, refl, sym, ap, subst, ◌∙◌, append_assoc, append-nil, arith}
use Rattle.std.proofs.Math.Seq.{drop-append_seam}
use Rattle.std.proofs.lemmas.List.Elements.{filter_map-append}
use Rattle.std.specs.List.{cons_option}
use Rattle.mm_outside.specs.Causes.{Rose}
use Rattle.mm_outside.specs.Octets.{Octets}
use Rattle.mm_outside.specs.Told.{Told}
use Rattle.mm_outside.specs.Hall.{Accepts, GivesBack, Links}
use Rattle.mm_outside.specs.HallCounts.{HallCounts}
use Rattle.mm_outside.specs.declared.hall.Accepted.TheVariants.{Failed, Link, NoMore}
use Rattle.mm_outside.specs.declared.hall.Back.{Back}
use Rattle.mm_outside.proofs.ToldLemmas.{Told-both, Told-map, Told-then}
use Rattle.unit_registry.specs.declared.act.Act.TheVariants as act
use Rattle.histories.specs.declared.entry.Entry.{Entry}
use Rattle.histories.specs.Entries.{no_connection}
use Rattle.histories.proofs.Members.{In, Contains-from_In}
use Rattle.registry_core.specs.Ledgers.{LedgerView, IsLedger, entry, opened_in}
use Rattle.registry_core.specs.Desks.{DeskState, Adds, IsSound}
use Rattle.connection_core.specs.declared.conn_end.ConnEnd.{ConnEnd}
use Rattle.connection_core.specs.Answers.{acts_of}
use Rattle.connection_core.specs.Ends.{HasCauses, status_of}
use Rattle.mapper_server.specs.Backs.{AreReturned, IsReturned, IsServed, NoneHasConnection, Works, conns_of, new_back}
use Rattle.mapper_server.specs.Headline.{ReturnsAll}
use Rattle.mapper_server.specs.Serving.{HasNoRoom, LeavesOthers, ServesIn, TellsWasFull}
use Rattle.mapper_server.specs.Statuses.{IsLeast, IsServingStatus, less_of, statuses_of}
use Rattle.mapper_server.specs.Workers.{EndsLeast, GivesBackOne, HasWorked, WorksAt}
use Rattle.mapper_server.proofs.Leasts.{failed_serves, least_begins, least_failed, least_second, least_kept, least_push, statuses_push}
use Rattle.mapper_server.proofs.Leaving.{was_full_later}
use Rattle.mapper_server.proofs.Opening.{serves_later}
use Rattle.mapper_server.proofs.Returning.{adds_rest, adds_seen, leaves_seen, no_room_later, opened_later, opened_named}

-- ---- the connections of links

in_front : (c : ℕ) (o : Option ℕ) (rest : List ℕ) → o ≡ Some c → In c (cons_option o rest)
in_front c o rest is = subst (λ (p : Option ℕ). In c (cons_option p rest)) (sym is) (inl refl)

in_rest : (c : ℕ) (o : Option ℕ) (rest : List ℕ) → In c rest → In c (cons_option o rest)
in_rest c None rest there = there
in_rest c (Some first) rest there = inr there

pub new_back_is : {L : Type 0} (before now : Links L) (backs : List (Back L)) → now.back ≡ before.back ++ backs → new_back before now ≡ backs
new_back_is {L} before now backs is = ap (drop (length before.back)) is ∙ drop-append_seam before.back backs

none_push : {L : Type 0} (newest : Back L) → newest.conn ≡ None → (backs : List (Back L)) → NoneHasConnection backs → NoneHasConnection (backs ++ newest ∷ [])
none_push newest none [] h = (none, tt)
none_push newest none (back ∷ backs) h = (h.0, none_push newest none backs h.1)

module _ {L : Type 0} (octets : L → Option Octets) (read_faults write_faults : L → ℕ) where
  -- ---- a longer history

  module _ (before after : LedgerView) (more : List Entry) (same : after ≡ record before { entries = before.entries ++ more }) (ledger : IsLedger after) where
    served_longer : (Was Now : Type 0) (conn : ℕ) (old new : L) (status : ℕ) → acts_of conn more ≡ [] → IsServed octets read_faults write_faults before Was conn old new status → IsServed octets read_faults write_faults after Now conn old new status
    served_longer Was Now conn old new status apart h = record {
      opened = (let grows = opened_later before after more same in let below = h.opened in omega (arith, grows, below));
      how = h.how;
      status_is = h.status_is;
      served = Told-map (λ a b served. serves_later before after more conn h.how a b same apart served) h.served;
      causes = h.causes;
      was_full = was_full_later before after more h.how same h.was_full;
    }

    one_longer : (old new : L) → (o : Option ℕ) → (status : ℕ) (later : List (Back L)) → ((c : ℕ) → o ≡ Some c → c < opened_in before → acts_of c more ≡ [])
        → IsReturned octets read_faults write_faults before (HasNoRoom before) old new o status later → IsReturned octets read_faults write_faults after (HasNoRoom after) old new o status later
    one_longer old new (Some conn) status later apart h = served_longer (HasNoRoom before) (HasNoRoom after) conn old new status (apart conn refl h.opened) h
    one_longer old new None status later apart h = record { same = h.same; status_is = h.status_is; others = h.others; full = no_room_later before after more same ledger h.full }

    -- links that were given back stay so where their connections do nothing more
    pub returned_longer : (links : List L) (backs : List (Back L)) → ((c : ℕ) → In c (conns_of backs) → c < opened_in before → acts_of c more ≡ [])
        → AreReturned octets read_faults write_faults before (HasNoRoom before) links backs → AreReturned octets read_faults write_faults after (HasNoRoom after) links backs
    returned_longer [] [] apart h = tt
    returned_longer [] (back ∷ backs) apart h = h
    returned_longer (link ∷ links) [] apart h = h
    returned_longer (link ∷ links) (back ∷ backs) apart h = (
      one_longer link back.link back.conn back.status backs (λ c is below. apart c (in_front c back.conn (conns_of backs) is) below) h.0,
      returned_longer links backs (λ c there below. apart c (in_rest c back.conn (conns_of backs) there) below) h.1,
    )

    one_push : (newest : Back L) → (newest.conn ≢ None → HasNoRoom before → ⊥) → (old new : L) → (o : Option ℕ) → (status : ℕ) (later : List (Back L)) → ((c : ℕ) → o ≡ Some c → c < opened_in before → acts_of c more ≡ [])
        → IsReturned octets read_faults write_faults before (HasNoRoom before) old new o status later → IsReturned octets read_faults write_faults after (HasNoRoom after) old new o status (later ++ newest ∷ [])
    one_push newest room old new (Some conn) status later apart h = served_longer (HasNoRoom before) (HasNoRoom after) conn old new status (apart conn refl h.opened) h
    one_push newest room old new None status later apart h = record {
      same = h.same;
      status_is = h.status_is;
      others = none_push newest (none newest.conn refl) later h.others;
      full = no_room_later before after more same ledger h.full;
    }
      where
        none : (o : Option ℕ) → newest.conn ≡ o → newest.conn ≡ None
        none None is = is
        none (Some c) is = absurd (room (λ e. some_none c (sym is ∙ e)) h.full)
          where
            some_none : (c : ℕ) → Some c ≢ None
            some_none c e = cc

    -- and one link more is given back, with no connection where the history had no room
    pub returned_push : (link : L) (newest : Back L) → (newest.conn ≢ None → HasNoRoom before → ⊥) → IsReturned octets read_faults write_faults after (HasNoRoom after) link newest.link newest.conn newest.status []
        → (links : List L) (backs : List (Back L)) → ((c : ℕ) → In c (conns_of backs) → c < opened_in before → acts_of c more ≡ [])
        → AreReturned octets read_faults write_faults before (HasNoRoom before) links backs → AreReturned octets read_faults write_faults after (HasNoRoom after) (links ++ link ∷ []) (backs ++ newest ∷ [])
    returned_push link newest room last [] [] apart h = (last, tt)
    returned_push link newest room last [] (back ∷ backs) apart h = absurd h
    returned_push link newest room last (first ∷ links) [] apart h = absurd h
    returned_push link newest room last (first ∷ links) (back ∷ backs) apart h = (
      one_push newest room first back.link back.conn back.status backs (λ c is below. apart c (in_front c back.conn (conns_of backs) is) below) h.0,
      returned_push link newest room last links backs (λ c there below. apart c (in_rest c back.conn (conns_of backs) there) below) h.1,
    )

  -- ---- one link

  module _ {Held : Type 0} (before after : DeskState Held) (link new : L) where
    -- it was served and is given back
    pub gives_served : (conn : ℕ) (how : ConnEnd) (status : ℕ) → status ≡ status_of how → Told (ServesIn after.seen conn how) (octets link) (octets new) → HasCauses (read_faults link) (read_faults new) (write_faults link) (write_faults new) how → TellsWasFull how after.seen → (HasNoRoom before.seen → ⊥) → conn < opened_in after.seen → after.connections ≡ before.connections ++ conn ∷ []
        → (a b : Links L) → GivesBack new (Some conn) status a b → GivesBackOne octets read_faults write_faults before after link status a b
    gives_served conn how status is served causes was_full room opened own a b e = record {
      back = record { link = new; conn = Some conn; status = status };
      to_give = ap (λ (x : Links L). x.to_give) e;
      appended = ap (λ (x : Links L). x.back) e;
      status_is = refl;
      returned = record { opened = opened; how = how; status_is = is; served = served; causes = causes; was_full = was_full };
      room = λ some. room;
      conns = own;
    }

    -- it is given back as it was
    pub gives_away : new ≡ link → HasNoRoom after.seen → after.connections ≡ before.connections
        → (a b : Links L) → GivesBack new None 9 a b → GivesBackOne octets read_faults write_faults before after link 9 a b
    gives_away same full own a b e = record {
      back = record { link = new; conn = None; status = 9 };
      to_give = ap (λ (x : Links L). x.to_give) e;
      appended = ap (λ (x : Links L). x.back) e;
      status_is = refl;
      returned = record { same = same; status_is = refl; others = tt; full = full };
      room = λ some. absurd (some refl);
      conns = own ∙ sym (append-nil before.connections);
    }

  -- ---- from link to link

  -- no link was given yet
  pub worked_none : (seen : LedgerView) (connections : List ℕ) (links : Links L) → connections ≡ [] → HasWorked octets read_faults write_faults seen connections 0 links links
  worked_none seen connections links bare = record {
    works = record { given = []; backs = []; taken = refl; back = sym (append-nil links.back); returned = tt };
    conns = bare;
    least = least_begins;
  }

  module _ {Held : Type 0} (before after : DeskState Held) (leaves : LeavesOthers before after) (sound : IsSound after) where
    -- one link more was given, and was given back
    pub worked_more : (status next : ℕ) (link : L) (a b c d : Links L) → HasWorked octets read_faults write_faults before.seen before.connections status a b → Accepts (Link link) b c → GivesBackOne octets read_faults write_faults before after link next c d
        → HasWorked octets read_faults write_faults after.seen after.connections (less_of status next) a d
    worked_more status next link a b c d h accepts gives = record {
      works = record {
        given = h.works.given ++ link ∷ [];
        backs = h.works.backs ++ gives.back ∷ [];
        taken = h.works.taken ∙ ap (λ (ls : List L). h.works.given ++ ls) (accepts.0 ∙ ap (λ (ls : List L). link ∷ ls) (sym gives.to_give)) ∙ sym (append_assoc h.works.given (link ∷ []) d.to_give);
        back = gives.appended ∙ ap (λ (bs : List (Back L)). bs ++ gives.back ∷ []) (accepts.1 ∙ h.works.back) ∙ append_assoc a.back h.works.backs (gives.back ∷ []);
        returned = returned_push before.seen after.seen leaves.since (leaves_seen before after leaves) sound.ledger link gives.back gives.room gives.returned h.works.given h.works.backs
            (λ conn there below. leaves.rest conn (subst (λ (cs : List ℕ). Contains cs conn) (sym h.conns) (Contains-from_In conn (conns_of h.works.backs) there))) h.works.returned;
      };
      conns = gives.conns ∙ ap (λ (cs : List ℕ). cs ++ conns_of (gives.back ∷ [])) h.conns ∙ sym (filter_map-append (λ (b : Back L). b.conn) h.works.backs (gives.back ∷ []));
      least = subst (λ (ss : List ℕ). IsLeast (Contains ss) (Contains ss) (less_of status next)) (sym (statuses_push h.works.backs gives.back ∙ ap (λ s. statuses_of h.works.backs ++ s ∷ []) gives.status_is)) (least_push (statuses_of h.works.backs) status next h.least);
    }

  -- ---- a worker that has ended

  module _ {H : Type 0} (links : H → Option (Links L)) (hall_faults : H → ℕ) (counts : H → HallCounts) (seen : LedgerView) (connections : List ℕ) (status : ℕ) (before middle now : H) (worked : Told (HasWorked octets read_faults write_faults seen connections status) (links before) (links middle)) (kept : hall_faults middle ≡ hall_faults before) (returned : ReturnsAll (counts before) (counts now)) where
    -- the hall gives no more
    pub works_out : IsServingStatus status → Told (Accepts NoMore) (links middle) (links now) → hall_faults now ≡ hall_faults middle → WorksAt links hall_faults counts octets read_faults write_faults seen connections before now status
    works_out kind accepts same = record {
      served = Told-then (λ a b c h e. subst (λ (x : Links L). Works octets read_faults write_faults seen (HasNoRoom seen) a x) (sym e.1) h.works) worked accepts;
      conns = Told-then (λ a b c h e. h.conns ∙ ap conns_of (sym (new_back_is a c h.works.backs (ap (λ (x : Links L). x.back) e.1 ∙ h.works.back)))) worked accepts;
      used_up = inl (Told-then (λ a b c h e. ap (λ (x : Links L). x.to_give) e.1 ∙ e.0) worked accepts);
      status_is = Told-then (λ a b c h e. subst (λ (bs : List (Back L)). EndsLeast hall_faults (before ∷ []) (now ∷ []) bs status) (sym (new_back_is a c h.works.backs (ap (λ (x : Links L). x.back) e.1 ∙ h.works.back)))
          (least_kept hall_faults before now h.works.backs status (same ∙ kept) h.least)) worked accepts;
      kind = kind;
      hall_fault = λ grew. absurd (omega (arith, same, kept, grew));
      returned = returned;
    }

    -- the hall has failed
    pub works_failed : IsServingStatus status → Told (Accepts Failed) (links middle) (links now) → Rose (hall_faults middle) (hall_faults now) → WorksAt links hall_faults counts octets read_faults write_faults seen connections before now (less_of status 4)
    works_failed kind accepts rose = record {
      served = Told-then (λ a b c h e. subst (λ (x : Links L). Works octets read_faults write_faults seen (HasNoRoom seen) a x) (sym e) h.works) worked accepts;
      conns = Told-then (λ a b c h e. h.conns ∙ ap conns_of (sym (new_back_is a c h.works.backs (ap (λ (x : Links L). x.back) e ∙ h.works.back)))) worked accepts;
      used_up = inr raised;
      status_is = Told-then (λ a b c h e. subst (λ (bs : List (Back L)). EndsLeast hall_faults (before ∷ []) (now ∷ []) bs (less_of status 4)) (sym (new_back_is a c h.works.backs (ap (λ (x : Links L). x.back) e ∙ h.works.back)))
          (least_failed hall_faults before now h.works.backs status raised h.least)) worked accepts;
      kind = failed_serves status (less_of status 4) refl kind;
      hall_fault = λ grew. least_second status 4 (omega arith);
      returned = returned;
    }
      where
        raised : Rose (hall_faults before) (hall_faults now)
        raised = subst (λ n. Rose n (hall_faults now)) kept rose

  -- the end of a worker leaves its links as they were given back
  pub works_done : {H Held : Type 0} (links : H → Option (Links L)) (hall_faults : H → ℕ) (counts : H → HallCounts) (before after : DeskState Held) (place : ℕ) (was now : H) (status : ℕ) → IsSound before → IsSound after → Adds before (entry no_connection act.Done) place after → WorksAt links hall_faults counts octets read_faults write_faults before.seen before.connections was now status
      → WorksAt links hall_faults counts octets read_faults write_faults after.seen after.connections was now status
  works_done {H} {Held} links hall_faults counts before after place was now status sound_before sound_after adds h = record {
    served = Told-both later h.conns h.served;
    conns = Told-map (λ a b conns. adds.connections ∙ conns) h.conns;
    used_up = h.used_up;
    status_is = h.status_is;
    kind = h.kind;
    hall_fault = h.hall_fault;
    returned = h.returned;
  }
    where
      later : (a b : Links L) → before.connections ≡ conns_of (new_back a b) → Works octets read_faults write_faults before.seen (HasNoRoom before.seen) a b → Works octets read_faults write_faults after.seen (HasNoRoom after.seen) a b
      later a b conns works = record {
        given = works.given;
        backs = works.backs;
        taken = works.taken;
        back = works.back;
        returned = returned_longer before.seen after.seen (adds.since ++ entry no_connection act.Done ∷ []) (adds_seen (entry no_connection act.Done) place before after adds) sound_after.ledger works.given works.backs
            (λ conn there below. adds_rest (entry no_connection act.Done) place before after sound_before sound_after adds conn
            (subst (λ (cs : List ℕ). Contains cs conn) (sym (conns ∙ ap conns_of (new_back_is a b works.backs works.back))) (Contains-from_In conn (conns_of works.backs) there))
            (λ e. opened_named before.seen conn sound_before.ledger below (sym e))) works.returned;
      }
