-- A connection that has ended goes.
use Rattle.std.proofs.Common.{◌≡◌, ◌≢◌, inl, inr, ℕ, ◌+◌, false, cond, List, [], ◌∷◌, ◌++◌, Contains, refl, sym, ap, subst, ◌∙◌, append_assoc, arith, ne_eqb}
use Rattle.std.proofs.lemmas.List.{append-nil}
use Rattle.mm_outside.specs.Octets.{Octets}
use Rattle.unit_registry.specs.declared.act.Act.{Act as Acts}
use Rattle.unit_registry.specs.Projects.{ProjectView}
use Rattle.histories.specs.declared.entry.Entry.{Entry}
use Rattle.histories.specs.Counts.{Effect, Goes, effect_of, ChangesOpen, ChangesDone, ChangesOwn}
use Rattle.histories.proofs.Members.{In}
use Rattle.registry_core.specs.Ledgers.{LedgerView, IsLedger, entry, is_open_in, leaving}
use Rattle.registry_core.specs.declared.leaving.Leaving.{Leaving}
use Rattle.registry_core.specs.declared.leaving.Leaving.TheVariants.{Left as AsLeft, Lost as AsLost}
use Rattle.registry_core.specs.Desks.{DeskState, Adds, IsSound, IsEntryOf, GoesOnFor, connections_with}
use Rattle.registry_core.proofs.Desks.{adds_apart, adds_at, adds_own_open, goes_on_for_further, goes_on_for_same}
use Rattle.connection_core.specs.declared.conn_end.ConnEnd.{ConnEnd}
use Rattle.connection_core.specs.declared.conn_end.ConnEnd.TheVariants.{Closed, Truncated, ReadFault, WriteFault, TooLong, BatchTooLong, HistoryFull}
use Rattle.connection_core.specs.declared.conn_end.Took.TheVariants as took
use Rattle.connection_core.specs.Entering.{Enters, IsServing}
use Rattle.connection_core.specs.Sessions.{SessionState, EntersTook}
use Rattle.connection_core.proofs.Beside.{enters_for}
use Rattle.connection_core.specs.Answers.{acts_of}
use Rattle.connection_core.specs.Ends.{Served, last_of}
use Rattle.mapper_server.specs.Serving.{FillsUp, GoesLast, ServesIn, TellsWasFull, WasFull}
use Rattle.mapper_server.specs.Steps.{AtDesk, Continues, EndsSo, TellsFull}
use Rattle.registry_core.proofs.Ready.{fits_in}

pub acts-apart : (conn : ℕ) (since : List Entry) → ((e : Entry) → In e since → e.conn ≢ conn) → acts_of conn since ≡ []
acts-apart conn [] apart = refl
acts-apart conn (e ∷ since) apart =
    ap (λ b. cond b (e.act ∷ acts_of conn since) (acts_of conn since)) (ne_eqb e.conn conn (apart e (inl refl))) ∙ acts-apart conn since (λ x there. apart x (inr there))

leaving_goes : (how : Leaving) → effect_of (leaving how) ≡ Goes
leaving_goes AsLeft = refl
leaving_goes AsLost = refl

-- ---- calls for one connection, one after another

pub continues_further : {Held : Type 0} (conn : ℕ) (first second third : DeskState Held) → Continues conn first second → Continues conn second third → Continues conn first third
continues_further conn first second third s t = record { goes = goes_on_for_further conn first second third s.goes t.goes; opened = t.opened ∙ s.opened; dones = t.dones ∙ s.dones }

-- ---- it goes

module _ {Held : Type 0} (conn : ℕ) (before after : DeskState Held) (how : Leaving) (place : ℕ) (adds : Adds before (entry conn (leaving how)) place after) where
  goes : effect_of (leaving how) ≡ Goes
  goes = leaving_goes how

  pub leaves_for : GoesOnFor conn before after
  leaves_for = record {
    since = adds.since ++ entry conn (leaving how) ∷ [];
    history = adds.history ∙ append_assoc before.seen.entries adds.since (entry conn (leaving how) ∷ []);
    own = place ∷ [];
    places = adds.places;
    of_conn = Rattle.std.proofs.lemmas.List.Elements.All-cons (IsEntryOf conn after.seen.entries) place [] (record { act = leaving how; there = adds_at before after (entry conn (leaving how)) place adds }) (Rattle.std.proofs.lemmas.List.Elements.All-nil (IsEntryOf conn after.seen.entries));
    connections = adds.connections ∙ ap (λ (e : Effect). connections_with e conn before.connections) goes;
    stays = adds.stays;
  }

  pub leaves_opened : after.opened + 1 ≡ before.opened
  leaves_opened = subst (λ (e : Effect). ChangesOpen e before.opened after.opened) goes adds.opened

  pub leaves_dones : after.dones ≡ before.dones
  leaves_dones = subst (λ (e : Effect). ChangesDone e before.dones after.dones) goes adds.dones

  pub leaves_closed : IsSound after → is_open_in after.seen conn ≡ false
  leaves_closed sound = (subst (λ (e : Effect). ChangesOwn e (Rattle.histories.specs.Answered.is_open (Rattle.histories.specs.Histories.answered_in before.seen.project before.seen.workers (before.seen.entries ++ adds.since)) conn) (is_open_in after.seen conn)) goes (adds_own_open before after (entry conn (leaving how)) place sound adds)).1

  -- once it has gone, it was served
  pub leaves_served : (project : ProjectView) (ended : ConnEnd) (start now : Octets) → IsSound before → IsSound after → before.seen.project ≡ project → Contains before.connections conn → leaving how ≡ last_of ended → EndsSo project conn ended before start now → ServesIn after.seen conn ended start now
  leaves_served project ended start now was sound is own last h = record {
    read = h.read;
    written = h.written;
    moves = h.moves;
    served = subst (λ (seen : LedgerView). Served seen.project seen.workers seen.limit seen.entries conn ended (record { read = h.read; to_come = now.to_come; written = h.written })) (sym seen_is)
        (h.closes.served adds.since (acts-apart conn adds.since (adds_apart before after (entry conn (leaving how)) place was sound adds conn own)) (subst IsLedger seen_is sound.ledger).legal);
  }
    where
      seen_is : after.seen ≡ record { project = project; workers = before.seen.workers; limit = before.seen.limit; entries = (before.seen.entries ++ adds.since) ++ entry conn (last_of ended) ∷ [] }
      seen_is = λ j. record {
        project = (adds.stays.project ∙ is) j;
        workers = adds.stays.workers j;
        limit = adds.stays.limit j;
        entries = (adds.history ∙ ap (λ (a : Acts). (before.seen.entries ++ adds.since) ++ entry conn a ∷ []) last) j;
      }

-- ---- what a piece leaves of the desk

pub continues_same : {Held : Type 0} (conn : ℕ) (desk : DeskState Held) → Continues conn desk desk
continues_same conn desk = record { goes = goes_on_for_same conn desk; opened = refl; dones = refl }

pub continues_entered : {Held : Type 0} (conn : ℕ) (asked : List Acts) (requested : List ℕ) (before after : DeskState Held) → Enters conn asked requested before after → Continues conn before after
continues_entered conn asked requested before after enters = record { goes = enters_for conn asked requested before after enters; opened = enters.opened; dones = enters.dones }

same_or_entered : {Held : Type 0} (conn : ℕ) (before after : DeskState Held) → after ≡ before → Continues conn before after
same_or_entered {Held} conn before after e = subst (λ (d : DeskState Held). Continues conn before d) (sym e) (continues_same conn before)

pub continues_took : {Item Held : Type 0} (how : ConnEnd) (old new : SessionState Item) (before after : DeskState Held) → EntersTook (took.Ended how) old new before after → Continues old.conn before after
continues_took Closed old new before after h = same_or_entered old.conn before after h
continues_took (Truncated lines) old new before after h = same_or_entered old.conn before after h
continues_took ReadFault old new before after h = same_or_entered old.conn before after h
continues_took WriteFault old new before after h = same_or_entered old.conn before after h
continues_took TooLong old new before after h = same_or_entered old.conn before after h
continues_took BatchTooLong old new before after h = same_or_entered old.conn before after h
continues_took (HistoryFull entries kept) old new before after h = continues_entered old.conn h.part h.requested before after h.entered

pub at_desk_took : {Item Held : Type 0} (how : ConnEnd) (project : ProjectView) (old new : SessionState Item) (before after : DeskState Held) → AtDesk project old.conn before → IsServing old.conn after → EntersTook (took.Ended how) old new before after → AtDesk project old.conn after
at_desk_took how project old new before after at serving h =
    let goes = (continues_took how old new before after h).goes in
    record { project_is = goes.stays.project ∙ at.project_is; loose = goes.stays.metered ∙ at.loose; serving = serving }

-- the numbers of a full history add up to the limit
pub fills_up : (seen : LedgerView) (limit : ℕ) (how : ConnEnd) → IsLedger seen → limit ≡ seen.limit → TellsFull seen how → FillsUp how limit
fills_up seen limit how ledger same full entries kept e =
    let is = full entries kept e in
    let fits = fits_in seen ledger in
    omega (arith, fits, same, is.length_is, is.reserved_is, is.no_room)

-- what was full before further entries was full
pub was_full_later : (before after : LedgerView) (more : List Entry) (how : ConnEnd) → after ≡ record before { entries = before.entries ++ more } → TellsWasFull how before → TellsWasFull how after
was_full_later before after more how same was entries kept e =
    let h = was entries kept e in
    subst (λ (seen : LedgerView). WasFull seen entries kept) (sym same) (record {
      front = h.front;
      since = h.since ++ more;
      history = ap (λ (es : List Entry). es ++ more) h.history ∙ append_assoc h.front h.since more;
      full = h.full;
    })

seen_after : {Held : Type 0} (before after : DeskState Held) (newest : Entry) (place : ℕ) (adds : Adds before newest place after) → after.seen ≡ record before.seen { entries = before.seen.entries ++ (adds.since ++ newest ∷ []) }
seen_after before after newest place adds = λ j. record {
  project = adds.stays.project j;
  workers = adds.stays.workers j;
  limit = adds.stays.limit j;
  entries = (adds.history ∙ append_assoc before.seen.entries adds.since (newest ∷ [])) j;
}

-- a full history was full once more is entered
pub added_was_full : {Held : Type 0} (before after : DeskState Held) (newest : Entry) (place : ℕ) (how : ConnEnd) → Adds before newest place after → TellsWasFull how before.seen → TellsWasFull how after.seen
added_was_full before after newest place how adds was = was_full_later before.seen after.seen (adds.since ++ newest ∷ []) how (seen_after before after newest place adds) was

is_full_now : (seen : LedgerView) (how : ConnEnd) → TellsFull seen how → TellsWasFull how seen
is_full_now seen how full entries kept e = record { front = seen.entries; since = []; history = sym (append-nil seen.entries); full = full entries kept e }

pub went_full : {Held : Type 0} (before after : DeskState Held) (newest : Entry) (place : ℕ) (how : ConnEnd) → Adds before newest place after → TellsFull before.seen how → TellsWasFull how after.seen
went_full before after newest place how adds full = added_was_full before after newest place how adds (is_full_now before.seen how full)

-- the entry of its going is the newest
pub goes_last : {Held : Type 0} (conn : ℕ) (before after : DeskState Held) (how : Leaving) (place : ℕ) (ended : ConnEnd) → Adds before (entry conn (leaving how)) place after → leaving how ≡ last_of ended → GoesLast conn ended after.seen
goes_last conn before after how place ended adds last = record {
  earlier = before.seen.entries ++ adds.since;
  history = adds.history ∙ ap (λ (a : Acts). (before.seen.entries ++ adds.since) ++ entry conn a ∷ []) last;
}

-- what serving and going leave of the desk
pub served_for : {Held : Type 0} (conn : ℕ) (first before after : DeskState Held) (how : Leaving) (place : ℕ) → Continues conn first before → Adds before (entry conn (leaving how)) place after → GoesOnFor conn first after
served_for conn first before after how place continues adds = goes_on_for_further conn first before after continues.goes (leaves_for conn before after how place adds)

pub served_opened : {Held : Type 0} (conn : ℕ) (first before after : DeskState Held) (how : Leaving) (place : ℕ) → Continues conn first before → Adds before (entry conn (leaving how)) place after → after.opened + 1 ≡ first.opened
served_opened conn first before after how place continues adds = leaves_opened conn before after how place adds ∙ continues.opened

pub served_dones : {Held : Type 0} (conn : ℕ) (first before after : DeskState Held) (how : Leaving) (place : ℕ) → Continues conn first before → Adds before (entry conn (leaving how)) place after → after.dones ≡ first.dones
served_dones conn first before after how place continues adds = leaves_dones conn before after how place adds ∙ continues.dones
