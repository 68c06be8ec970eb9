-- A connection that has just opened, and one that was served and after which more is entered.
use Rattle.std.proofs.Common.{◌≡◌, ◌≢◌, inl, inr, ℕ, suc, ◌<◌, ◌==◌, Bool, None, List, [], ◌∷◌, ◌++◌, length, Some, true, false, cond, eq-eqb, eqb-true, refl, sym, ap, subst, ◌∙◌, arith}
use Rattle.std.specs.Prelude.{slice_get}
use Rattle.mm_outside.specs.Octets.{Octets}
use Rattle.unit_registry.specs.declared.act.Act.TheVariants as act
use Rattle.histories.specs.declared.entry.Entry.{Entry}
use Rattle.histories.specs.Entries.{no_connection}
use Rattle.histories.proofs.Members.{In, Contains-from_In}
use Rattle.registry_core.specs.Ledgers.{LedgerView, entry}
use Rattle.registry_core.specs.Desks.{DeskState, Adds, IsSound}
use Rattle.registry_core.proofs.Ready.{number_below}
use Rattle.std.proofs.lemmas.Bool.{and_parts}
use Rattle.std.proofs.lemmas.List.Elements.{All-contains}
use Rattle.std.specs.Prelude.{nat_lt, IsFalse}
use Rattle.unit_registry.specs.Acts.{is_done}
use Rattle.histories.specs.Answered.{opened_count}
use Rattle.histories.specs.Entries.{IsTraceEntry, has_its_connection, has_its_unit}
use Rattle.histories.specs.Histories.{answered_in, fault, noted_of, IsLegal}
use Rattle.histories.proofs.Coming.{may_come}
use Rattle.histories.proofs.Legality.{legal_one_more}
use Rattle.histories.proofs.LegalCounts.{numbers_below}
use Rattle.connection_core.specs.Entering.{IsServing}
use Rattle.connection_core.specs.declared.conn_end.ConnEnd.{ConnEnd}
use Rattle.connection_core.specs.Answers.{acts_of}
use Rattle.connection_core.proofs.Beside.{opens_serving}
use Rattle.connection_core.proofs.Enterings.{acts-append}
use Rattle.connection_core.proofs.Staying.{served_later}
use Rattle.mapper_server.specs.Serving.{HasOpened, ServesIn}
use Rattle.mapper_server.proofs.Leaving.{acts-apart}

-- a connection that does nothing more stays served
pub serves_later : (before after : LedgerView) (more : List Entry) (conn : ℕ) (how : ConnEnd) (a b : Octets) → after ≡ record before { entries = before.entries ++ more } → acts_of conn more ≡ [] → ServesIn before conn how a b → ServesIn after conn how a b
serves_later before after more conn how a b same apart h = subst (λ (seen : LedgerView). ServesIn seen conn how a b) (sym same) (record {
  read = h.read;
  written = h.written;
  moves = h.moves;
  served = served_later before.project before.workers before.limit before.entries more conn apart how (record { read = h.read; to_come = b.to_come; written = h.written }) h.served;
})

pub position_of : (e : Entry) → (es : List Entry) → In e es → (k : ℕ) × (k < length es) × (slice_get es k ≡ Some e)
position_of e [] there = absurd there
position_of e (x ∷ es) (inl same) = (0, omega arith, ap (λ (y : Entry). Some y) same)
position_of e (x ∷ es) (inr there) = let p = position_of e es there in (suc p.0, omega (arith, p.1), p.2)

pub in_left : (e : Entry) (first second : List Entry) → In e first → In e (first ++ second)
in_left e [] second there = absurd there
in_left e (x ∷ first) second (inl same) = inl same
in_left e (x ∷ first) second (inr there) = inr (in_left e first second there)

-- a connection that a desk has just opened
pub opens_anew : {Held : Type 0} (conn place : ℕ) (before after : DeskState Held) → IsSound after → Adds before (entry conn act.Open) place after → HasOpened conn after
opens_anew conn place before after sound adds = record {
  serving = serving;
  only = ap (acts_of conn) adds.history ∙ acts-append conn past (entry conn act.Open ∷ [])
      ∙ ap (λ xs. xs ++ acts_of conn (entry conn act.Open ∷ [])) (acts-apart conn past apart)
      ∙ ap (λ b. cond b (act.Open ∷ []) []) (eq-eqb conn conn refl);
}
  where
    serving : IsServing conn after
    serving = opens_serving conn place before after sound adds

    past : List Entry
    past = before.seen.entries ++ adds.since

    parts : IsLegal after.seen.project after.seen.workers after.seen.limit past × (fault after.seen.project after.seen.workers after.seen.limit (noted_of after.seen.project after.seen.workers past) (entry conn act.Open) ≡ None)
    parts = (legal_one_more after.seen.project after.seen.workers after.seen.limit past (entry conn act.Open)).0 (subst (IsLegal after.seen.project after.seen.workers after.seen.limit) adds.history sound.ledger.legal)

    next : conn ≡ opened_count (answered_in after.seen.project after.seen.workers past)
    next = ((may_come after.seen.project after.seen.workers after.seen.limit past (entry conn act.Open) sound.ledger.few parts.0).0 parts.1).next

    apart : (e : Entry) → In e past → e.conn ≢ conn
    apart e there same = by (is_done e.act) refl
      where
        traced : IsTraceEntry e
        traced = All-contains IsTraceEntry after.seen.entries e sound.ledger.each (Contains-from_In e after.seen.entries (subst (λ (es : List Entry). In e es) (sym adds.history) (in_left e past (entry conn act.Open ∷ []) there)))

        numbered : IsFalse (is_done e.act) → e.conn < opened_count (answered_in after.seen.project after.seen.workers past)
        numbered = All-contains (λ (x : Entry). IsFalse (is_done x.act) → x.conn < opened_count (answered_in after.seen.project after.seen.workers past)) past e (numbers_below after.seen.project after.seen.workers after.seen.limit past parts.0) (Contains-from_In e past there)

        by : (b : Bool) → is_done e.act ≡ b → ⊥
        by true done =
            let own = (and_parts (has_its_connection e) (has_its_unit e.act) traced.is_entry).0 in
            let nobody : e.conn ≡ no_connection = eqb-true e.conn no_connection (sym (ap (λ b. cond b (e.conn == no_connection) (nat_lt e.conn no_connection)) done) ∙ own) in
            let below = number_below after.seen conn sound.ledger serving.there in
            let small = sound.ledger.small in
            omega (arith, below, small, nobody, same)
        by false running = let below = numbered running in omega (arith, below, next, same)
