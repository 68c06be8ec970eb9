-- A connection that was served at a seat stays so after the seat is joined to another.
use Rattle.std.proofs.Common.{◌≡◌, ◌≢◌, ℕ, ◌+◌, ◌<◌, List, [], ◌∷◌, ◌++◌, length, Contains, Some, refl, sym, ap, subst, ◌∙◌, arith}
use Rattle.std.specs.Prelude.{slice_get}
use Rattle.std.proofs.lemmas.List.Elements.{Contains-push}
use Rattle.mm_outside.specs.Octets.{Octets}
use Rattle.unit_registry.specs.declared.act.Act.TheVariants as act
use Rattle.histories.specs.declared.entry.Entry.{Entry}
use Rattle.histories.specs.Entries.{no_connection}
use Rattle.histories.proofs.Members.{In}
use Rattle.registry_core.specs.Desks.{DeskState, Adds, IsSound}
use Rattle.registry_core.specs.Ledgers.{LedgerView, entry, opened_in}
use Rattle.registry_core.proofs.Desks.{slice_get_behind}
use Rattle.connection_core.specs.declared.conn_end.ConnEnd.{ConnEnd}
use Rattle.ruled_history.specs.declared.board.View.{View}
use Rattle.ruled_history.specs.Runs.{Has}
use Rattle.ruled_history.specs.Views.{Keeps, with_entries}
use Rattle.ruled_history.proofs.Counts.{has_contained}
use Rattle.mapper_server.specs.Serving.{LeavesOthers, ServesIn}
use Rattle.mapper_server.proofs.Leaving.{acts-apart}
use Rattle.mapper_server.proofs.Opening.{position_of, serves_later}
use Rattle.mapper_server.proofs.Returning.{done_keeps}

pub joined_serves : (opening ledger : LedgerView) (part whole : View) (conn : ℕ) (how : ConnEnd) (a b : Octets) → Keeps part whole → Contains part.connections conn → ledger ≡ with_entries opening whole.seen → ServesIn (with_entries opening part.seen) conn how a b → ServesIn ledger conn how a b
joined_serves opening ledger part whole conn how a b keeps own is h =
    serves_later (with_entries opening part.seen) ledger keeps.seen.0 conn how a b (is ∙ ap (with_entries opening) keeps.seen.1) (acts-apart conn keeps.seen.0 apart) h
  where
    apart : (e : Entry) → In e keeps.seen.0 → e.conn ≢ conn
    apart e there same =
        let p = position_of e keeps.seen.0 there in
        let at : slice_get whole.seen (length part.seen + p.0) ≡ Some e = ap (λ (es : List Entry). slice_get es (length part.seen + p.0)) keeps.seen.1 ∙ slice_get_behind part.seen keeps.seen.0 p.0 (length part.seen + p.0) refl ∙ p.2 in
        let mine = keeps.own (length part.seen + p.0) e at (subst (λ (c : ℕ). Has c part.connections) (sym same) (has_contained conn part.connections own)) in
        let below = keeps.within (length part.seen + p.0) mine in
        omega (arith, below)

-- a connection that was served at a seat stays so when the seat's worker is done
pub seat_serves : {Held : Type 0} (opening : LedgerView) (entries : List Entry) (first before after : DeskState Held) (conn place : ℕ) (how : ConnEnd) (a b : Octets) → first.seen.project ≡ opening.project → first.seen.workers ≡ opening.workers → first.seen.limit ≡ opening.limit → after.seen.entries ≡ entries
    → LeavesOthers first before → before.connections ≡ first.connections ++ conn ∷ [] → conn < opened_in before.seen → IsSound before → IsSound after → Adds before (entry no_connection act.Done) place after → ServesIn before.seen conn how a b → ServesIn (with_entries opening entries) conn how a b
seat_serves opening entries first before after conn place how a b project workers limit same others own below was now adds served =
    subst (λ (seen : LedgerView). ServesIn seen conn how a b) is
    (done_keeps conn place how a b before after was now adds (subst (λ (cs : List ℕ). Contains cs conn) (sym own) (Contains-push first.connections conn)) below served)
  where
    is : after.seen ≡ with_entries opening entries
    is = λ j. record {
      project = (adds.stays.project ∙ others.stays.project ∙ project) j;
      workers = (adds.stays.workers ∙ others.stays.workers ∙ workers) j;
      limit = (adds.stays.limit ∙ others.stays.limit ∙ limit) j;
      entries = same j;
    }
