-- Entries that may be read, all at once and one by one.
use Rattle.std.proofs.Common.{◌≡◌, suc, ◌+◌, ◌<◌, ◌≤◌, Bool, true, false, not, ◌&&◌, List, [], ◌∷◌, ◌++◌, length, if◌then◌else◌, sym, ap, ◌∙◌, refl, arith, append_assoc, length-append}
use Rattle.std.specs.Prelude.{nat_lt}
use Rattle.std.specs.List.{list_all, list_any}
use Rattle.std.proofs.lemmas.Bool.{ltb-true, lt-ltb, and_parts, not-true}
use Rattle.std.proofs.lemmas.List.{append-nil}
use Rattle.export_lists.specs.Entries.{Listed, is_same, with_entry, with_entries}
use Rattle.export_lists.specs.Lists.{Cmi}
use Rattle.export_lists.specs.Compiling.{most_names}
use Rattle.export_lists.specs.CmiTexts.{is_good_entry, AreGood, IsGoodCmi}
use Rattle.export_lists.specs.Drafts.{may_follow}
use Rattle.export_lists.proofs.Readings.{may_all_follow, MayBeRead}

no_longer : (before : List Listed) (entry : Listed) (b : Bool) → length (if b then before else before ++ entry ∷ []) ≤ length before + 1
no_longer before entry true = omega arith
no_longer before entry false = omega (arith, length-append before (entry ∷ []))

-- entries that are put behind others add no more than they are
with_short : (before entries : List Listed) → length (with_entries before entries) ≤ length before + length entries
with_short before [] = omega arith
with_short before (entry ∷ entries) =
    let rest : length (with_entries (with_entry before entry) entries) ≤ length (with_entry before entry) + length entries = with_short (with_entry before entry) entries in
    let here : length (with_entry before entry) ≤ length before + 1 = no_longer before entry (list_any (is_same entry) before) in
    omega (arith, rest, here)

-- What an entry that may follow others is.
record Follows (before : List Listed) (entry : Listed) : Type 0 where
  good : is_good_entry entry.name entry.owner ≡ true
  room : length before < most_names
  new : list_any (is_same entry) before ≡ false

follows : (before : List Listed) (entry : Listed) → may_follow before entry ≡ true → Follows before entry
follows before entry h =
    let outer = and_parts (is_good_entry entry.name entry.owner) (nat_lt (length before) most_names && not (list_any (is_same entry) before)) h in
    let inner = and_parts (nat_lt (length before) most_names) (not (list_any (is_same entry) before)) outer.1 in
    record { good = outer.0; room = ltb-true (length before) most_names inner.0; new = not-true (list_any (is_same entry) before) inner.1 }

may_each : (before entries : List Listed) → may_all_follow before entries ≡ true → list_all (λ entry. is_good_entry entry.name entry.owner) entries ≡ true
may_each before [] h = refl
may_each before (entry ∷ entries) h =
    let parts = and_parts (may_follow before entry) (may_all_follow (before ++ entry ∷ []) entries) h in
    let good = (follows before entry parts.0).good in
    let rest = may_each (before ++ entry ∷ []) entries parts.1 in
    (λ k. good k && rest k)

may_few : (before entries : List Listed) → length before ≤ most_names → may_all_follow before entries ≡ true → length before + length entries ≤ most_names
may_few before [] le h = omega (arith, le)
may_few before (entry ∷ entries) le h =
    let parts = and_parts (may_follow before entry) (may_all_follow (before ++ entry ∷ []) entries) h in
    let room = (follows before entry parts.0).room in
    let more : length (before ++ entry ∷ []) ≡ length before + 1 = length-append before (entry ∷ []) in
    let rest = may_few (before ++ entry ∷ []) entries (omega (arith, room, more)) parts.1 in
    omega (arith, rest, more)

may_differ : (before entries : List Listed) → may_all_follow before entries ≡ true → with_entries before entries ≡ before ++ entries
may_differ before [] h = sym (append-nil before)
may_differ before (entry ∷ entries) h =
    let parts = and_parts (may_follow before entry) (may_all_follow (before ++ entry ∷ []) entries) h in
    ap (λ (b : Bool). with_entries (if b then before else before ++ entry ∷ []) entries) (follows before entry parts.0).new
    ∙ may_differ (before ++ entry ∷ []) entries parts.1
    ∙ append_assoc before (entry ∷ []) entries

all_may : (before entries : List Listed) → list_all (λ entry. is_good_entry entry.name entry.owner) entries ≡ true → length before + length entries ≤ most_names
    → with_entries before entries ≡ before ++ entries → may_all_follow before entries ≡ true
all_may before [] each few e = refl
all_may before (entry ∷ entries) each few e =
    let parts = and_parts (is_good_entry entry.name entry.owner) (list_all (λ other. is_good_entry other.name other.owner) entries) each in
    let more : length (before ++ entry ∷ []) ≡ length before + 1 = length-append before (entry ∷ []) in
    by_there (list_any (is_same entry) before) refl parts.0 (all_may (before ++ entry ∷ []) entries parts.1 (omega (arith, few, more)))
  where
    by_there : (b : Bool) → list_any (is_same entry) before ≡ b → is_good_entry entry.name entry.owner ≡ true
        → (with_entries (before ++ entry ∷ []) entries ≡ (before ++ entry ∷ []) ++ entries → may_all_follow (before ++ entry ∷ []) entries ≡ true)
        → may_follow before entry && may_all_follow (before ++ entry ∷ []) entries ≡ true
    by_there true is good rest =
        let same : with_entries before entries ≡ before ++ entry ∷ entries = ap (λ (b : Bool). with_entries (if b then before else before ++ entry ∷ []) entries) (sym is) ∙ e in
        let short = with_short before entries in
        let long : length (with_entries before entries) ≡ length before + suc (length entries) = ap length same ∙ length-append before (entry ∷ entries) in
        absurd (omega (arith, short, long))
    by_there false is good rest =
        let same : with_entries (before ++ entry ∷ []) entries ≡ before ++ entry ∷ entries = ap (λ (b : Bool). with_entries (if b then before else before ++ entry ∷ []) entries) (sym is) ∙ e in
        let tail = rest (same ∙ sym (append_assoc before (entry ∷ []) entries)) in
        let room : nat_lt (length before) most_names ≡ true = lt-ltb (length before) most_names (omega (arith, few)) in
        (λ k. (good k && (room k && not (is k))) && tail k)

-- entries that may be read may be read one by one
all_follow : (entries : List Listed) → AreGood entries → may_all_follow [] entries ≡ true
all_follow entries good = all_may [] entries good.each (omega (arith, good.few)) good.differ

are_good : (entries : List Listed) → may_all_follow [] entries ≡ true → AreGood entries
are_good entries h = record { each = may_each [] entries h; few = let few = may_few [] entries (omega arith) h in omega (arith, few); differ = may_differ [] entries h }

-- an interface that may be read may be read line by line
pub may_be_read : (cmi : Cmi) → IsGoodCmi cmi → MayBeRead cmi
may_be_read cmi good = record { named = good.named; exports = all_follow cmi.exports good.exports; view = all_follow cmi.view good.view }

pub is_good : (cmi : Cmi) → MayBeRead cmi → IsGoodCmi cmi
is_good cmi may = record { named = may.named; exports = are_good cmi.exports may.exports; view = are_good cmi.view may.view }
