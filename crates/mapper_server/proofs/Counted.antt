-- How many entries a history has, counted by its connections.
use Rattle.std.proofs.Common.{◌≡◌, ℕ, ◌+◌, ◌<◌, ◌≤◌, ◌==◌, Bool, true, false, cond, List, [], ◌∷◌, length, All, IsFalse, refl, sym, ap, ◌∙◌, arith, eq-eqb, ne_eqb}
use Rattle.std.proofs.lemmas.Bool.Decides.{nat_tests}
use Rattle.std.proofs.lemmas.List.Elements.{All-head, All-tail, All-weaker}
use Rattle.std.proofs.lemmas.List.Sums.{sum_by-cons}
use Rattle.std.specs.Prelude.{sum_by, count_by}
use mathlib.Core.Logic.{dite}
use native.Mathlib.Decide.{ℕ_discrete}
use Rattle.unit_registry.specs.declared.act.Act.{Act as Acts}
use Rattle.unit_registry.specs.Acts.{is_done}
use Rattle.histories.specs.declared.entry.Entry.{Entry}
use Rattle.histories.specs.Histories.{IsLegal}
use Rattle.histories.proofs.LegalCounts.{done_over, numbers_below}
use Rattle.registry_core.specs.Ledgers.{LedgerView, done_in, opened_in}
use Rattle.connection_core.specs.Answers.{acts_of}
use Rattle.ruled_history.specs.Runs.{times, Has, once_below, AreAllPlaces}
use Rattle.ruled_history.proofs.Counts.{one_if, sum_both}

-- how many entries these connections made
abbrev pub made_by : List Entry → List ℕ → ℕ
made_by entries conns = sum_by (λ conn. length (acts_of conn entries)) conns

put_first : (b : Bool) (act : Acts) (acts : List Acts) → length (cond b (act ∷ acts) acts) ≡ cond b 1 0 + length acts
put_first true act acts = omega arith
put_first false act acts = omega arith

turned : (m n : ℕ) → (m == n) ≡ (n == m)
turned m n = dite (ℕ_discrete m n) (λ e. eq-eqb m n e ∙ sym (eq-eqb n m (sym e))) (λ ne. ne_eqb m n ne ∙ sym (ne_eqb n m (λ e. ne (sym e))))

of_one : (entry : Entry) (entries : List Entry) (conn : ℕ) → length (acts_of conn (entry ∷ entries)) ≡ cond (conn == entry.conn) 1 0 + length (acts_of conn entries)
of_one entry entries conn =
    put_first (entry.conn == conn) entry.act (acts_of conn entries) ∙ ap (λ b. cond b 1 0 + length (acts_of conn entries)) (turned entry.conn conn)

-- one entry more was made by its connection, as often as that is listed
made-more : (entry : Entry) (entries : List Entry) (conns : List ℕ) → made_by (entry ∷ entries) conns ≡ times entry.conn conns + made_by entries conns
made-more entry entries conns =
    sum_both (λ conn. cond (conn == entry.conn) 1 0) (λ conn. length (acts_of conn entries)) (λ conn. length (acts_of conn (entry ∷ entries))) conns (of_one entry entries)

-- the entry is the end of a worker, or of one of these connections
abbrev IsCounted : List ℕ → Entry → Type 0
IsCounted conns entry = IsFalse (is_done entry.act) → Has entry.conn conns

-- entries are no more than the ends of workers and what their connections made
pub counted : (conns : List ℕ) (entries : List Entry) → All (IsCounted conns) entries → length entries ≤ count_by (λ entry. is_done entry.act) entries + made_by entries conns
counted conns [] each = omega arith
counted conns (entry ∷ entries) each = by (is_done entry.act) refl (counted conns entries (All-tail (IsCounted conns) entry entries each))
  where
    split : count_by (λ (other : Entry). is_done other.act) (entry ∷ entries) ≡ cond (is_done entry.act) 1 0 + count_by (λ (other : Entry). is_done other.act) entries
    split = sum_by-cons (λ (other : Entry). cond (is_done other.act) 1 0) entry entries

    by : (b : Bool) → is_done entry.act ≡ b → length entries ≤ count_by (λ (other : Entry). is_done other.act) entries + made_by entries conns
        → length (entry ∷ entries) ≤ count_by (λ (other : Entry). is_done other.act) (entry ∷ entries) + made_by (entry ∷ entries) conns
    by true done rest =
        let one : one_if (is_done entry.act) ≡ 1 = ap one_if done in
        omega (arith, split, made-more entry entries conns)
    by false of_conn rest =
        let here : 0 < times entry.conn conns = All-head (IsCounted conns) entry entries each of_conn in
        omega (arith, split, made-more entry entries conns)

has_place : (count : ℕ) (places : List ℕ) (place : ℕ) → AreAllPlaces places count → place < count → Has place places
has_place count places place all below =
    let once : once_below place count ≡ 1 = grind (arith, nat_tests) in
    omega (arith, all place)

-- a legal history has no more entries than its workers have ended and its connections made
pub legal_counted : (history : LedgerView) (conns : List ℕ) → IsLegal history.project history.workers history.limit history.entries → AreAllPlaces conns (opened_in history) → length history.entries ≤ done_in history + made_by history.entries conns
legal_counted history conns legal all =
    let each = All-weaker (λ (entry : Entry). IsFalse (is_done entry.act) → entry.conn < opened_in history) (IsCounted conns) (λ entry below no_end. has_place (opened_in history) conns entry.conn all (below no_end)) history.entries (numbers_below history.project history.workers history.limit history.entries legal) in
    omega (arith, counted conns history.entries each, done_over history.project history.workers history.entries)
