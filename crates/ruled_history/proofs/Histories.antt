-- What the steps use of histories.
use Rattle.std.proofs.Common.{◌≡◌, ◌≢◌, ℕ, suc, ◌+◌, ◌<◌, ◌≤◌, Bool, true, false, List, [], ◌∷◌, ◌++◌, length, All, Some, IsTrue, IsFalse, is_none, refl, sym, ap, subst, ◌∙◌, arith, append-nil, append_assoc, length-append, get_or}
use Rattle.std.specs.Prelude.{slice_get}
use Rattle.std.proofs.lemmas.List.{get_or_append_left}
use Rattle.std.proofs.lemmas.List.Elements.{All-push}
use Rattle.std.proofs.lemmas.Option.{slice_get_within, get_or_from_slice_get}
use Rattle.unit_registry.specs.Acts.{is_open_act, is_done}
use Rattle.histories.specs.declared.entry.Entry.{Entry}
use Rattle.histories.specs.declared.answered.Answered.{Answered}
use Rattle.histories.specs.Entries.{no_connection, IsTraceEntry}
use Rattle.histories.specs.Answered.{is_open, opened_count}
use Rattle.histories.specs.Noted.{Noted, answered_of}
use Rattle.histories.specs.Histories.{noted_of, answered_in, IsLegal}
use Rattle.histories.specs.Counts.{Effect, Opens, Asks, Goes, Ends, effect_of, ChangesOpened, ChangesOpen, ChangesDone, ChangesReserved, ChangesOwn, MayCome}
use Rattle.histories.proofs.Acyclic.{answered_entry}
use Rattle.histories.proofs.Legality.{noted_push, legal_prefix, legal_push, length-noted_of}
use Rattle.histories.proofs.LegalCounts.{ends_fit, opened_with, open_with, done_with, reserved_with, own_with, numbers_below}
use Rattle.histories.proofs.Passing.{other_open}
use Rattle.histories.proofs.Coming.{may_come}
use Rattle.registry_core.specs.Ledgers.{LedgerView, IsLedger, Passes, is_open_in, opened_in, open_in, done_in, reserved_in}
use Rattle.ruled_history.specs.Runs.{StartsWith}
use Rattle.ruled_history.specs.Views.{with_entries}

-- ---- kinds of acts

-- how many connections an act opens
abbrev pub opens : Effect → ℕ
opens Opens = 1
opens _ = 0

-- how many go with it
abbrev pub goes : Effect → ℕ
goes Goes = 1
goes _ = 0

-- how many workers it ends
abbrev pub ends : Effect → ℕ
ends Ends = 1
ends _ = 0

-- ---- each entry

pub all_got : {A : Type 0} (P : A → Type 0) (xs : List A) (k : ℕ) (x : A) → All P xs → slice_get xs k ≡ Some x → P x
all_got P xs k x all at = subst P (get_or_from_slice_get xs k x x at) (all k x (slice_get_within xs k x at))

-- what holds of each member of a list holds of those of a beginning
pub all_front : {A : Type 0} (P : A → Type 0) (whole front : List A) → StartsWith whole front → All P whole → All P front
all_front {A} P whole front up all k d lt =
    let at : get_or whole k d ≡ get_or front k d = ap (λ (xs : List A). get_or xs k d) up.1 ∙ get_or_append_left front up.0 d k lt in
    subst P at (all k d (let long = ap length up.1 in omega (arith, length-append front up.0)))

-- ---- a longer and a shorter history

module _ (opening : LedgerView) where
  pub ledger_push : (entries : List Entry) (newest : Entry) → IsLedger (with_entries opening entries) → Passes (with_entries opening entries) newest → IsTraceEntry newest → IsLedger (with_entries opening (entries ++ newest ∷ []))
  ledger_push entries newest was passes written = record { legal = legal_push opening.project opening.workers opening.limit entries newest was.legal (ap (λ o. is_none o) passes); each = All-push IsTraceEntry entries newest was.each written; some = was.some; few = was.few; small = was.small }

  pub ledger_front : (whole front : List Entry) → StartsWith whole front → IsLedger (with_entries opening whole) → IsLedger (with_entries opening front)
  ledger_front whole front up all = record {
    legal = legal_prefix opening.project opening.workers opening.limit front up.0 (subst (λ (es : List Entry). IsLegal opening.project opening.workers opening.limit es) up.1 all.legal);
    each = all_front IsTraceEntry whole front up all.each;
    some = all.some;
    few = all.few;
    small = all.small;
  }

  -- ---- counts

  pub fits_in : (entries : List Entry) → IsLedger (with_entries opening entries) → length entries + reserved_in (with_entries opening entries) ≤ opening.limit
  fits_in entries was = ends_fit opening.project opening.workers opening.limit entries was.few was.legal

  module _ (entries : List Entry) (newest : Entry) (now : IsLedger (with_entries opening (entries ++ newest ∷ []))) where
    opened_by : (effect : Effect) (before after : ℕ) → ChangesOpened effect before after → after ≡ before + opens effect
    opened_by Opens before after h = h
    opened_by Asks before after h = omega arith
    opened_by Goes before after h = omega arith
    opened_by Ends before after h = omega arith

    pub opened_more : opened_in (with_entries opening (entries ++ newest ∷ [])) ≡ opened_in (with_entries opening entries) + opens (effect_of newest.act)
    opened_more = opened_by (effect_of newest.act) _ _ (opened_with opening.project opening.workers opening.limit entries newest now.legal)

    open_by : (effect : Effect) (before after : ℕ) → ChangesOpen effect before after → after + goes effect ≡ before + opens effect
    open_by Opens before after h = omega arith
    open_by Asks before after h = omega arith
    open_by Goes before after h = omega arith
    open_by Ends before after h = omega arith

    pub open_more : open_in (with_entries opening (entries ++ newest ∷ [])) + goes (effect_of newest.act) ≡ open_in (with_entries opening entries) + opens (effect_of newest.act)
    open_more = open_by (effect_of newest.act) _ _ (open_with opening.project opening.workers opening.limit entries newest now.legal)

    done_by : (effect : Effect) (before after : ℕ) → ChangesDone effect before after → after ≡ before + ends effect
    done_by Opens before after h = omega arith
    done_by Asks before after h = omega arith
    done_by Goes before after h = omega arith
    done_by Ends before after h = omega arith

    pub done_more : done_in (with_entries opening (entries ++ newest ∷ [])) ≡ done_in (with_entries opening entries) + ends (effect_of newest.act)
    done_more = done_by (effect_of newest.act) _ _ (done_with opening.project opening.workers opening.limit entries newest now.legal)

    reserved_by : (effect : Effect) (before after : ℕ) → ChangesReserved effect before after → after + goes effect + ends effect ≡ before + opens effect
    reserved_by Opens before after h = omega arith
    reserved_by Asks before after h = omega arith
    reserved_by Goes before after h = omega arith
    reserved_by Ends before after h = omega arith

    pub reserved_more : reserved_in (with_entries opening (entries ++ newest ∷ [])) + goes (effect_of newest.act) + ends (effect_of newest.act) ≡ reserved_in (with_entries opening entries) + opens (effect_of newest.act)
    reserved_more = reserved_by (effect_of newest.act) _ _ (reserved_with opening.project opening.workers opening.limit entries newest now.legal)

    pub own_more : ChangesOwn (effect_of newest.act) (is_open_in (with_entries opening entries) newest.conn) (is_open_in (with_entries opening (entries ++ newest ∷ [])) newest.conn)
    own_more = own_with opening.project opening.workers opening.limit entries newest now.legal

  pub may_enter : (entries : List Entry) (newest : Entry) → IsLedger (with_entries opening entries) → Passes (with_entries opening entries) newest → MayCome opening.project opening.workers opening.limit (noted_of opening.project opening.workers entries) newest (effect_of newest.act)
  may_enter entries newest was passes = (may_come opening.project opening.workers opening.limit entries newest was.few was.legal).0 passes

  -- ---- entries of other connections

  pub open_other : (entries : List Entry) (newest : Entry) (conn : ℕ) → newest.conn ≢ conn → is_open_in (with_entries opening (entries ++ newest ∷ [])) conn ≡ is_open_in (with_entries opening entries) conn
  open_other entries newest conn other =
      ap (λ (noted : List Noted). is_open (answered_of noted) conn) (noted_push opening.project opening.workers entries newest)
      ∙ other_open (answered_entry opening.project (noted_of opening.project opening.workers entries) newest) (answered_in opening.project opening.workers entries) conn other

  pub open_since : (since entries : List Entry) (conn : ℕ) → ((place : ℕ) (newest : Entry) → slice_get since place ≡ Some newest → newest.conn ≢ conn) → is_open_in (with_entries opening (entries ++ since)) conn ≡ is_open_in (with_entries opening entries) conn
  open_since [] entries conn other = ap (λ (es : List Entry). is_open_in (with_entries opening es) conn) (append-nil entries)
  open_since (newest ∷ since) entries conn other =
      ap (λ (es : List Entry). is_open_in (with_entries opening es) conn) (sym (append_assoc entries (newest ∷ []) since))
      ∙ (open_since since (entries ++ newest ∷ []) conn (λ place x at. other (suc place) x at)
      ∙ open_other entries newest conn (other 0 newest refl))

  -- ---- numbers of connections

  opened_le : (answered : List Answered) → opened_count answered ≤ length answered
  opened_le [] = omega arith
  opened_le (newest ∷ answered) = by (is_open_act newest.act) refl (opened_le answered)
    where
      by : (b : Bool) → is_open_act newest.act ≡ b → opened_count answered ≤ length answered → opened_count (newest ∷ answered) ≤ suc (length answered)
      by true e rest = rw e (omega arith)
      by false e rest = rw e (omega arith)

  length-answered : (noted : List Noted) → length (answered_of noted) ≡ length noted
  length-answered [] = refl
  length-answered (newest ∷ noted) = ap suc (length-answered noted)

  -- fewer connections open than there are numbers
  pub few_opened : (entries : List Entry) → IsLedger (with_entries opening entries) → opened_in (with_entries opening entries) < no_connection
  few_opened entries was =
      omega (arith, fits_in entries was, was.small, opened_le (answered_in opening.project opening.workers entries), length-answered (noted_of opening.project opening.workers entries), length-noted_of opening.project opening.workers entries)

  pub numbered : (entries : List Entry) → IsLedger (with_entries opening entries) → All (λ newest. IsTrue (is_done newest.act) → newest.conn ≡ no_connection) entries
      → (place : ℕ) (newest : Entry) → slice_get entries place ≡ Some newest → opened_in (with_entries opening entries) ≤ newest.conn → newest.conn ≡ no_connection
  numbered entries was nobody place newest at late =
      by (is_done newest.act) refl
    where
      by : (b : Bool) → is_done newest.act ≡ b → newest.conn ≡ no_connection
      by true e = all_got (λ (x : Entry). IsTrue (is_done x.act) → x.conn ≡ no_connection) entries place newest nobody at e
      by false e =
          let below = all_got (λ (x : Entry). IsFalse (is_done x.act) → x.conn < opened_in (with_entries opening entries)) entries place newest (numbers_below opening.project opening.workers opening.limit entries was.legal) at e in
          absurd (omega arith)
