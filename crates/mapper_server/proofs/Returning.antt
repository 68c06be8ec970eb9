-- What calls of a desk leave of the connections that it had before.
use Rattle.std.proofs.Common.{◌≡◌, ◌≢◌, ◌⊎◌, inl, inr, ℕ, ◌+◌, ◌<◌, ◌≤◌, ◌==◌, Bool, true, false, cond, not, ◌&&◌, List, [], ◌∷◌, ◌++◌, count_by, All, Contains, None, IsFalse, true≢false, refl, sym, ap, ap₂, subst, ◌∙◌, append_assoc, eq-eqb, eqb-true, ne_eqb, arith}
use Rattle.std.proofs.lemmas.Bool.{cases_Bool}
use Rattle.std.proofs.lemmas.List.Elements.{All-nil, All-cons, All-contains}
use Rattle.std.proofs.lemmas.List.Sums.{count_by-le-length, sum_by-append, sum_by-cons}
use Rattle.unit_registry.specs.declared.act.Act.{Act as Acts}
use Rattle.unit_registry.specs.declared.act.Act.TheVariants as act
use Rattle.unit_registry.specs.Acts.{is_done, is_open_act}
use Rattle.histories.specs.declared.entry.Entry.{Entry}
use Rattle.histories.specs.Entries.{no_connection}
use Rattle.histories.specs.Answered.{has_gone}
use Rattle.histories.specs.Histories.{answered_in, fault, noted_of, IsLegal}
use Rattle.histories.specs.Counts.{MayOpen}
use Rattle.histories.proofs.Coming.{may_come}
use Rattle.histories.proofs.Legality.{legal_one_more}
use Rattle.histories.proofs.LegalCounts.{ends_fit, next_is_fresh, numbers_below, open_since, opened_over, room_is_used_up}
use Rattle.histories.proofs.Legality.{length-noted_of}
use Rattle.histories.proofs.Members.{In, Contains-from_In, In-from_Contains}
use Rattle.registry_core.specs.Ledgers.{LedgerView, IsFull, IsLedger, entry, is_open_in, opened_in}
use Rattle.registry_core.specs.declared.full.Full.{Full}
use Rattle.registry_core.specs.Desks.{DeskState, Adds, GoesOn, GoesOnFor, IsSound, Looks}
use Rattle.registry_core.proofs.Desks.{adds_apart, adds_is_open, adds_own, looks_apart, stays_further, stays_same}
use Rattle.mm_outside.specs.Octets.{Octets}
use Rattle.connection_core.specs.declared.conn_end.ConnEnd.{ConnEnd}
use Rattle.connection_core.specs.Answers.{acts_of}
use Rattle.connection_core.proofs.Beside.{beside_apart}
use Rattle.connection_core.proofs.Enterings.{acts-append}
use Rattle.std.proofs.lemmas.List.{append-nil}
use Rattle.mapper_server.specs.Serving.{HasNoRoom, LeavesOthers, ServesIn}
use Rattle.mapper_server.proofs.Leaving.{acts-apart}
use Rattle.mapper_server.proofs.Opening.{in_left, serves_later}

-- ---- a longer history of the same project, workers and limit

pub legal_longer : (before after : LedgerView) (more : List Entry) → after ≡ record before { entries = before.entries ++ more } → IsLedger after → IsLegal before.project before.workers before.limit (before.entries ++ more)
legal_longer before after more same ledger = subst (λ (seen : LedgerView). IsLegal seen.project seen.workers seen.limit seen.entries) same ledger.legal

-- what had no room has none
pub no_room_later : (before after : LedgerView) (more : List Entry) → after ≡ record before { entries = before.entries ++ more } → IsLedger after → HasNoRoom before → HasNoRoom after
no_room_later before after more same ledger full =
    let grows = room_is_used_up before.project before.workers before.limit before.entries more (legal_longer before after more same ledger) in
    subst (λ (seen : LedgerView). HasNoRoom seen) (sym same) (omega (arith, grows, full))

-- no fewer connections were opened
pub opened_later : (before after : LedgerView) (more : List Entry) → after ≡ record before { entries = before.entries ++ more } → opened_in before ≤ opened_in after
opened_later before after more same =
    let was = opened_over before.project before.workers before.entries in
    let now = opened_over before.project before.workers (before.entries ++ more) in
    let both : count_by (λ (e : Entry). is_open_act e.act) (before.entries ++ more) ≡ count_by (λ (e : Entry). is_open_act e.act) before.entries + count_by (λ (e : Entry). is_open_act e.act) more = sum_by-append (λ (e : Entry). cond (is_open_act e.act) 1 0) before.entries more in
    subst (λ (seen : LedgerView). opened_in before ≤ opened_in seen) (sym same) (omega (arith, was, now, both))

-- a connection that was opened isn't the number that stands for none
pub opened_named : (seen : LedgerView) (conn : ℕ) → IsLedger seen → conn < opened_in seen → conn ≢ no_connection
opened_named seen conn ledger below same =
    let count = opened_over seen.project seen.workers seen.entries in
    let most = count_by-le-length (λ (e : Entry). is_open_act e.act) seen.entries in
    let fits = ends_fit seen.project seen.workers seen.limit seen.entries ledger.few ledger.legal in
    let small = ledger.small in
    omega (arith, count, most, fits, small, below, same)

-- ---- counts over a list

all_from : {A : Type 0} (P : A → Type 0) → (xs : List A) → ((x : A) → In x xs → P x) → All P xs
all_from P [] each = All-nil P
all_from P (x ∷ xs) each = All-cons P x xs (each x (inl refl)) (all_from P xs (λ y there. each y (inr there)))

counts_up : (was now : Bool) → (was ≡ true → now ≡ true) → cond was 1 0 ≤ cond now 1 0
counts_up false now kept = omega arith
counts_up true now kept = let e : ◌≡◌ {A = ℕ} (cond now 1 0) 1 = ap (λ b. cond b 1 0) (kept refl) in omega (arith, e)

count_kept : (p q : ℕ → Bool) → (xs : List ℕ) → ((x : ℕ) → In x xs → p x ≡ true → q x ≡ true) → count_by p xs ≤ count_by q xs
count_kept p q [] kept = omega arith
count_kept p q (x ∷ xs) kept =
    let one = counts_up (p x) (q x) (kept x (inl refl)) in
    let rest = count_kept p q xs (λ y there. kept y (inr there)) in
    let first : count_by p (x ∷ xs) ≡ cond (p x) 1 0 + count_by p xs = sum_by-cons (λ (y : ℕ). cond (p y) 1 0) x xs in
    let second : count_by q (x ∷ xs) ≡ cond (q x) 1 0 + count_by q xs = sum_by-cons (λ (y : ℕ). cond (q y) 1 0) x xs in
    omega (arith, one, rest, first, second)

count_more : (p q : ℕ → Bool) (c : ℕ) → p c ≡ false → q c ≡ true → (xs : List ℕ) → In c xs → ((x : ℕ) → In x xs → p x ≡ true → q x ≡ true) → count_by p xs < count_by q xs
count_more p q c was now [] there kept = absurd there
count_more p q c was now (x ∷ xs) (inl same) kept =
    let rest = count_kept p q xs (λ y there. kept y (inr there)) in
    let none : ◌≡◌ {A = ℕ} (cond (p x) 1 0) 0 = ap (λ b. cond b 1 0) (ap p same ∙ was) in
    let some : ◌≡◌ {A = ℕ} (cond (q x) 1 0) 1 = ap (λ b. cond b 1 0) (ap q same ∙ now) in
    let first : count_by p (x ∷ xs) ≡ cond (p x) 1 0 + count_by p xs = sum_by-cons (λ (y : ℕ). cond (p y) 1 0) x xs in
    let second : count_by q (x ∷ xs) ≡ cond (q x) 1 0 + count_by q xs = sum_by-cons (λ (y : ℕ). cond (q y) 1 0) x xs in
    omega (arith, rest, none, some, first, second)
count_more p q c was now (x ∷ xs) (inr there) kept =
    let one = counts_up (p x) (q x) (kept x (inl refl)) in
    let rest = count_more p q c was now xs there (λ y further. kept y (inr further)) in
    let first : count_by p (x ∷ xs) ≡ cond (p x) 1 0 + count_by p xs = sum_by-cons (λ (y : ℕ). cond (p y) 1 0) x xs in
    let second : count_by q (x ∷ xs) ≡ cond (q x) 1 0 + count_by q xs = sum_by-cons (λ (y : ℕ). cond (q y) 1 0) x xs in
    omega (arith, one, rest, first, second)

pub in_either : {A : Type 0} (e : A) → (first second : List A) → In e (first ++ second) → In e first ⊎ In e second
in_either e [] second there = inr there
in_either e (x ∷ first) second (inl same) = inl (inl same)
in_either e (x ∷ first) second (inr there) = elim (in_either e first second there) [
  | inl earlier ↦ inl (inr earlier)
  | inr later ↦ inr later
]

-- ---- a connection that opens

module _ {Held : Type 0} (conn place : ℕ) (before after : DeskState Held) (was : IsSound before) (now : IsSound after) (adds : Adds before (entry conn act.Open) place after) where
  past : List Entry
  past = before.seen.entries ++ adds.since

  added : after.seen ≡ record before.seen { entries = (before.seen.entries ++ adds.since) ++ entry conn act.Open ∷ [] }
  added = λ j. record { project = adds.stays.project j; workers = adds.stays.workers j; limit = adds.stays.limit j; entries = adds.history j }

  pub opened_seen : after.seen ≡ record before.seen { entries = before.seen.entries ++ (adds.since ++ entry conn act.Open ∷ []) }
  opened_seen = λ j. record { project = adds.stays.project j; workers = adds.stays.workers j; limit = adds.stays.limit j; entries = (adds.history ∙ append_assoc before.seen.entries adds.since (entry conn act.Open ∷ [])) j }

  legal_now : IsLegal before.seen.project before.seen.workers before.seen.limit ((before.seen.entries ++ adds.since) ++ entry conn act.Open ∷ [])
  legal_now = subst (λ (seen : LedgerView). IsLegal seen.project seen.workers seen.limit seen.entries) added now.ledger.legal

  parts : IsLegal before.seen.project before.seen.workers before.seen.limit (before.seen.entries ++ adds.since) × (fault before.seen.project before.seen.workers before.seen.limit (noted_of before.seen.project before.seen.workers (before.seen.entries ++ adds.since)) (entry conn act.Open) ≡ None)
  parts = (legal_one_more before.seen.project before.seen.workers before.seen.limit (before.seen.entries ++ adds.since) (entry conn act.Open)).0 legal_now

  could_open : MayOpen before.seen.workers before.seen.limit (noted_of before.seen.project before.seen.workers (before.seen.entries ++ adds.since)) (entry conn act.Open)
  could_open = (may_come before.seen.project before.seen.workers before.seen.limit (before.seen.entries ++ adds.since) (entry conn act.Open) was.ledger.few parts.0).0 parts.1

  -- there was room for it
  pub open_had_room : HasNoRoom before.seen → ⊥
  open_had_room full =
      let grows = room_is_used_up before.seen.project before.seen.workers before.seen.limit before.seen.entries adds.since parts.0 in
      let room = could_open.room in
      let size = length-noted_of before.seen.project before.seen.workers (before.seen.entries ++ adds.since) in
      omega (arith, grows, room, size, full)

  -- its number is none of those before
  pub opens_further : opened_in before.seen ≤ conn
  opens_further =
      let grows = opened_later before.seen (record before.seen { entries = before.seen.entries ++ adds.since }) adds.since refl in
      let next = could_open.next in
      omega (arith, grows, next)

  was_closed : is_open_in before.seen conn ≡ false
  was_closed = ap (λ b. b && not (has_gone (answered_in before.seen.project before.seen.workers before.seen.entries) conn)) (next_is_fresh before.seen.project before.seen.workers before.seen.limit before.seen.entries was.ledger.legal conn opens_further).0

  others_open : (other : ℕ) → Contains before.connections other → other ≢ conn → is_open_in after.seen other ≡ is_open_in before.seen other
  others_open other own different =
      ap (λ (seen : LedgerView). is_open_in seen other) opened_seen
      ∙ open_since before.seen.project before.seen.workers before.seen.entries (adds.since ++ entry conn act.Open ∷ []) other (all_from (λ (e : Entry). e.conn ≢ other) (adds.since ++ entry conn act.Open ∷ []) apart)
    where
      apart : (e : Entry) → In e (adds.since ++ entry conn act.Open ∷ []) → e.conn ≢ other
      apart e there same = elim (in_either e adds.since (entry conn act.Open ∷ []) there) [
        | inl earlier ↦ adds_apart before after (entry conn act.Open) place was now adds other own e earlier same
        | inr newest ↦ newer newest
      ]
        where
          newer : In e (entry conn act.Open ∷ []) → ⊥
          newer (inl is) = different (sym same ∙ ap (λ (x : Entry). x.conn) (sym is))
          newer (inr further) = further

  stays_so : (other : ℕ) → In other before.connections → is_open_in before.seen other ≡ true → is_open_in after.seen other ≡ true
  stays_so other there is_there = elim (cases_Bool (other == conn)) [
    | inl same ↦ absurd (true≢false (sym is_there ∙ ap (is_open_in before.seen) (eqb-true other conn same) ∙ was_closed))
    | inr differ ↦ others_open other (Contains-from_In other before.connections there) (λ e. true≢false (sym (eq-eqb other conn e) ∙ differ)) ∙ is_there
  ]

  -- and none of those of the desk
  pub opens_new : (other : ℕ) → Contains before.connections other → other ≢ conn
  opens_new other own same =
      let here : In conn before.connections = subst (λ c. In c before.connections) same (In-from_Contains other before.connections own) in
      let opens : is_open_in after.seen conn ≡ true = adds_is_open before after (entry conn act.Open) place now adds (inl refl) in
      let more = count_more (is_open_in before.seen) (is_open_in after.seen) conn was_closed opens before.connections here stays_so in
      let was_count = was.opened_is in
      let now_count = now.opened_is in
      let grown : count_by (is_open_in after.seen) after.connections ≡ count_by (is_open_in after.seen) before.connections + count_by (is_open_in after.seen) (conn ∷ []) =
      ap (λ (cs : List ℕ). count_by (is_open_in after.seen) cs) adds.connections ∙ sum_by-append (λ (c : ℕ). cond (is_open_in after.seen c) 1 0) before.connections (conn ∷ []) in
      let last : count_by (is_open_in after.seen) (conn ∷ []) ≡ 1 = ap (λ b. 0 + cond b 1 0) opens in
      let one : after.opened ≡ before.opened + 1 = adds.opened in
      omega (arith, more, was_count, now_count, grown, last, one)

-- its number is below the count of those that were opened
pub opens_counted : {Held : Type 0} (conn place : ℕ) (before opened served : DeskState Held) → Adds before (entry conn act.Open) place opened → GoesOnFor conn opened served → IsSound served → conn < opened_in served.seen
opens_counted conn place before opened served adds goes sound =
    All-contains (λ (e : Entry). IsFalse (is_done e.act) → e.conn < opened_in served.seen) served.seen.entries (entry conn act.Open)
    (numbers_below served.seen.project served.seen.workers served.seen.limit served.seen.entries sound.ledger.legal)
    (Contains-from_In (entry conn act.Open) served.seen.entries there) refl
  where
    last : (xs : List Entry) → In (entry conn act.Open) (xs ++ entry conn act.Open ∷ [])
    last [] = inl refl
    last (x ∷ xs) = inr (last xs)

    there : In (entry conn act.Open) served.seen.entries
    there = subst (λ (es : List Entry). In (entry conn act.Open) es) (sym (goes.history ∙ ap (λ (es : List Entry). es ++ goes.since) adds.history))
        (in_left (entry conn act.Open) ((before.seen.entries ++ adds.since) ++ entry conn act.Open ∷ []) goes.since (last (before.seen.entries ++ adds.since)))

-- ---- what calls leave of the others

pub leaves_same : {Held : Type 0} (desk : DeskState Held) → LeavesOthers desk desk
leaves_same desk = record { since = []; history = sym (append-nil desk.seen.entries); rest = λ conn own. refl; stays = stays_same desk }

pub leaves_further : {Held : Type 0} (first second third : DeskState Held) → ((conn : ℕ) → Contains first.connections conn → Contains second.connections conn) → LeavesOthers first second → LeavesOthers second third → LeavesOthers first third
leaves_further first second third kept s t = record {
  since = s.since ++ t.since;
  history = t.history ∙ ap (λ (es : List Entry). es ++ t.since) s.history ∙ append_assoc first.seen.entries s.since t.since;
  rest = λ conn own. acts-append conn s.since t.since ∙ ap₂ (λ (xs ys : List Acts). xs ++ ys) (s.rest conn own) (t.rest conn (kept conn own));
  stays = stays_further first second third s.stays t.stays;
}

pub leaves_seen : {Held : Type 0} (before after : DeskState Held) → (leaves : LeavesOthers before after) → after.seen ≡ record before.seen { entries = before.seen.entries ++ leaves.since }
leaves_seen before after leaves = λ j. record { project = leaves.stays.project j; workers = leaves.stays.workers j; limit = leaves.stays.limit j; entries = leaves.history j }

pub none_own : (connections : List ℕ) (conn : ℕ) → connections ≡ [] → Contains connections conn → ⊥
none_own connections conn bare own = let there = subst (λ (cs : List ℕ). Contains cs conn) bare own in omega (arith, there.1)

-- any call more, where the desk had no connection
pub leaves_then : {Held : Type 0} (first second third : DeskState Held) → first.connections ≡ [] → LeavesOthers first second → GoesOn second third → LeavesOthers first third
leaves_then first second third bare s t = record {
  since = s.since ++ t.since;
  history = t.history ∙ ap (λ (es : List Entry). es ++ t.since) s.history ∙ append_assoc first.seen.entries s.since t.since;
  rest = λ conn own. absurd (none_own first.connections conn bare own);
  stays = stays_further first second third s.stays t.stays;
}

-- a look
pub looks_leave : {Held : Type 0} (before after : DeskState Held) → IsSound before → IsSound after → Looks before after → LeavesOthers before after
looks_leave before after was now looks = record {
  since = looks.since;
  history = looks.history;
  rest = λ conn own. acts-apart conn looks.since (looks_apart before after was now looks conn own);
  stays = looks.stays;
}

ends_apart : (other conn : ℕ) (asked : Acts) → conn ≢ other → acts_of other (entry conn asked ∷ []) ≡ []
ends_apart other conn asked differ = ap (λ b. cond b (asked ∷ []) []) (ne_eqb conn other differ)

pub adds_seen : {Held : Type 0} (newest : Entry) (place : ℕ) (before after : DeskState Held) → (adds : Adds before newest place after) → after.seen ≡ record before.seen { entries = before.seen.entries ++ (adds.since ++ newest ∷ []) }
adds_seen newest place before after adds = λ j. record { project = adds.stays.project j; workers = adds.stays.workers j; limit = adds.stays.limit j; entries = (adds.history ∙ append_assoc before.seen.entries adds.since (newest ∷ [])) j }

-- an entry of another connection
pub adds_rest : {Held : Type 0} (newest : Entry) (place : ℕ) (before after : DeskState Held) → IsSound before → IsSound after → (adds : Adds before newest place after) → (other : ℕ) → Contains before.connections other → newest.conn ≢ other → acts_of other (adds.since ++ newest ∷ []) ≡ []
adds_rest newest place before after was now adds other own differ =
    acts-append other adds.since (newest ∷ [])
    ∙ ap₂ (λ (xs ys : List Acts). xs ++ ys) (acts-apart other adds.since (adds_apart before after newest place was now adds other own)) (ends_apart other newest.conn newest.act differ)

-- a connection opened and was served
pub served_leave : {Held : Type 0} (conn place : ℕ) (before opened served : DeskState Held) → IsSound before → IsSound opened → IsSound served → Adds before (entry conn act.Open) place opened → GoesOnFor conn opened served → LeavesOthers before served
served_leave conn place before opened served was between now adds goes = record {
  since = (adds.since ++ entry conn act.Open ∷ []) ++ goes.since;
  history = goes.history ∙ ap (λ (es : List Entry). es ++ goes.since) (adds.history ∙ append_assoc before.seen.entries adds.since (entry conn act.Open ∷ [])) ∙ append_assoc before.seen.entries (adds.since ++ entry conn act.Open ∷ []) goes.since;
  rest = rest;
  stays = stays_further before opened served adds.stays goes.stays;
}
  where
    rest : (other : ℕ) → Contains before.connections other → acts_of other ((adds.since ++ entry conn act.Open ∷ []) ++ goes.since) ≡ []
    rest other own =
        let differ = opens_new conn place before opened was between adds other own in
        acts-append other (adds.since ++ entry conn act.Open ∷ []) goes.since
        ∙ ap₂ (λ (xs ys : List Acts). xs ++ ys) (adds_rest (entry conn act.Open) place before opened was between adds other own (λ e. differ (sym e)))
        (acts-apart other goes.since (beside_apart conn opened served goes between now other (adds_own before opened (entry conn act.Open) place adds other own) differ))

-- the refusal of a further connection
pub refused_full : (seen : LedgerView) (full : Full) → IsFull seen 1 full → HasNoRoom seen
refused_full seen full is = is.no_room

-- the end of a worker leaves a connection of the desk served
pub done_keeps : {Held : Type 0} (conn place : ℕ) (how : ConnEnd) (a b : Octets) (before after : DeskState Held) → IsSound before → IsSound after → Adds before (entry no_connection act.Done) place after → Contains before.connections conn → conn < opened_in before.seen → ServesIn before.seen conn how a b → ServesIn after.seen conn how a b
done_keeps conn place how a b before after was now adds own below served =
    serves_later before.seen after.seen (adds.since ++ entry no_connection act.Done ∷ []) conn how a b (adds_seen (entry no_connection act.Done) place before after adds)
    (adds_rest (entry no_connection act.Done) place before after was now adds conn own (λ e. opened_named before.seen conn was.ledger below (sym e))) served
