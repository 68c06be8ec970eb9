-- Where nothing hinders, serving ends with 0.
use Rattle.std.proofs.Common.{◌≡◌, ◌≢◌, ◌⊎◌, inl, inr, ℕ, ◌+◌, ◌≤◌, ◌<◌, List, [], ◌∷◌, ◌++◌, length, drop, All, Option, Some, None, Result, Ok, Err, IfOk, refl, sym, ap, subst, ◌∙◌, arith}
use Rattle.std.proofs.lemmas.List.{append-nil, length-append, get_or_append_left, get_or-append-add}
use Rattle.std.proofs.lemmas.List.Elements.{All-nil, All-cons, All-head, All-tail, All-append, All-map, All-contains, filter_map-append}
use Rattle.std.proofs.lemmas.List.Sums.{sum_by-cons, sum_by-append}
use Rattle.std.proofs.Math.Seq.{drop-append_seam}
use Rattle.std.specs.Prelude.{IsSomeAnd}
use Rattle.std.specs.List.{cons_option}
use Rattle.std.specs.Option.{option_map_or}
use Rattle.mm_outside.specs.Causes.{Rose}
use Rattle.mm_outside.specs.Hall.{Links}
use Rattle.mm_outside.specs.Octets.{Octets}
use Rattle.mm_outside.specs.Told.{Told}
use Rattle.mm_outside.specs.declared.hall.Back.{Back}
use Rattle.cody_batches.specs.Blocks.{blocks, held, taken, PassesLimits}
use Rattle.cody_batches.proofs.Cuts.{blocks_grow}
use Rattle.cody_batches.proofs.LimitLaws.{limits_stay, taken_whole, within_limits-octets, within_limits-lines}
use Rattle.unit_registry.specs.declared.act.Act.{Act as Acts}
use Rattle.unit_registry.specs.declared.act.Act.TheVariants.{Left, Lost}
use Rattle.unit_registry.specs.Projects.{ProjectView}
use Rattle.histories.specs.Answered.{reserved}
use Rattle.histories.specs.Histories.{answered_in, IsLegal}
use Rattle.histories.specs.declared.entry.Entry.{Entry}
use Rattle.histories.proofs.LegalCounts.{room_is_used_up}
use Rattle.registry_core.specs.Ledgers.{LedgerView, opened_in, reserved_in}
use Rattle.connection_core.specs.declared.conn_end.ConnEnd.{ConnEnd}
use Rattle.connection_core.specs.declared.conn_end.ConnEnd.TheVariants.{Closed, Truncated, ReadFault, WriteFault, TooLong, BatchTooLong, HistoryFull}
use Rattle.connection_core.specs.Answers.{acts_of}
use Rattle.connection_core.specs.Asking.{Block, acts}
use Rattle.connection_core.specs.Ends.{Filled, Whole, status_of, whole_course}
use Rattle.ruled_history.specs.Runs.{AreAllPlaces}
use Rattle.mapper_server.specs.Backs.{AreReturned, IsReturned, Works, conns_of, new_back}
use Rattle.mapper_server.specs.Complete.{HasFailed, IsWhole, NothingHinders, all_to_give, asked_by, entries_asked}
use Rattle.mapper_server.specs.Headline.{EachPair, EndsServing, IsOf, IsOver, IsUsedUp, Serves, SomePair, new_backs, told_all, told_with}
use Rattle.mapper_server.specs.Serving.{ServesIn, TellsWasFull, WasFull}
use Rattle.mapper_server.specs.Statuses.{statuses_of}
use Rattle.mapper_server.proofs.Alone.{acts_behind}
use Rattle.mapper_server.proofs.Counted.{legal_counted, made_by}

-- ---- one input

-- what is read of an input that passes no limit passes none
pub read_within : (to_come read behind : List ℕ) → (PassesLimits to_come → ⊥) → to_come ≡ read ++ behind → PassesLimits read → ⊥
read_within to_come read behind within e passes = within (subst PassesLimits (sym e) (limits_stay read behind passes))

-- and enters no more than the whole
pub enters_less : (project : ProjectView) (to_come read behind : List ℕ) → (PassesLimits to_come → ⊥) → to_come ≡ read ++ behind → length (acts project (taken read)) ≤ length (acts project (blocks to_come))
enters_less project to_come read behind within e =
    let none = read_within to_come read behind within e in
    let whole : taken read ≡ blocks read = taken_whole read (within_limits-octets read none) (within_limits-lines read none) in
    let more = blocks_grow read behind in
    let all : acts project (blocks to_come) ≡ acts project (taken read) ++ acts project more.0 =
    ap (λ (octets : List ℕ). acts project (blocks octets)) e ∙ ap (acts project) more.1 ∙ ap (λ (some : List Block). acts project (some ++ more.0)) (sym whole) ∙ acts_behind project (taken read) more.0 in
    omega (arith, ap length all, length-append (acts project (taken read)) (acts project more.0))

-- ---- how links fare

-- Links fare so: all is well with them, and they made no more entries than they asked for; or so many of those that they
-- asked for are missing that a history with so many entries would pass the limit with them.
pub data Fares (limit count : ℕ) (Well : Type 0) (made asked : ℕ) : Type 0 where
  fared : Well → made ≤ asked → Fares limit count Well made asked
  lacked : (missing : ℕ) → made + missing ≤ asked → limit < count + missing → Fares limit count Well made asked

-- the same over a history
abbrev pub FaresIn : LedgerView → Type 0 → ℕ → ℕ → Type 0
FaresIn history Well made asked = Fares history.limit (length history.entries) Well made asked

-- how two groups of links fare together
both : {limit count : ℕ} {P Q : Type 0} {a b c d : ℕ} → Fares limit count P a b → Fares limit count Q c d → Fares limit count (P × Q) (a + c) (b + d)
both (fared p m) (fared q n) = fared (p, q) (omega arith)
both (fared p m) (lacked missing n past) = lacked missing (omega arith) past
both (lacked missing m past) (fared q n) = lacked missing (omega arith) past
both (lacked missing m past) (lacked others n also) = lacked missing (omega arith) past

restated : {limit count : ℕ} {P Q : Type 0} {a b c d : ℕ} → (P → Q) → a ≡ c → b ≤ d → Fares limit count P a b → Fares limit count Q c d
restated f same less (fared p m) = fared (f p) (omega arith)
restated f same less (lacked missing m past) = lacked missing (omega arith) past

-- ---- one link

course_length : (asked : List Acts) (last : Acts) → length (whole_course asked last) ≡ length asked + 2
course_length asked last = omega (arith, length-append asked (last ∷ []))

pub some_missing : (missing : List Acts) → missing ≢ [] → 0 < length missing
some_missing [] proper = absurd (proper refl)
some_missing (one ∷ rest) proper = omega arith

-- how many entries a link made that had this connection, or none
abbrev pub made_by_one : List Entry → Option ℕ → ℕ
made_by_one entries None = 0
made_by_one entries (Some conn) = length (acts_of conn entries)

-- how many entries a link asks for that tells this
abbrev pub asked_by_one : ProjectView → Option Octets → ℕ
asked_by_one project told = option_map_or (λ (octets : Octets). entries_asked project octets.to_come) told 0

module _ (history : LedgerView) (over : IsOver history) where
  none_reserved : reserved_in history ≡ 0
  none_reserved = omega (arith, over.done, over.closed)

  -- a history that was full once has as many entries at its end as its limit allows
  full_once : (entries kept : ℕ) → WasFull history entries kept → history.limit ≤ length history.entries
  full_once entries kept was =
      let used = room_is_used_up history.project history.workers history.limit was.front was.since (subst (IsLegal history.project history.workers history.limit) was.history over.legal.legal) in
      let none_left : reserved history.workers (answered_in history.project history.workers (was.front ++ was.since)) ≡ 0 = ap (λ (es : List Entry). reserved history.workers (answered_in history.project history.workers es)) (sym was.history) ∙ none_reserved in
      omega (arith, used, none_left, was.full.no_room, ap length was.history)

  whole_made : (conn : ℕ) (last : Acts) (before : Octets) (read behind written : List ℕ) → IsWhole before → before.to_come ≡ read ++ behind → Whole history.project history.workers history.limit history.entries conn (taken read) last written
      → length (acts_of conn history.entries) ≤ entries_asked history.project before.to_come
  whole_made conn last before read behind written whole e stands =
      omega (arith, ap length stands.entries, course_length (acts history.project (taken read)) last, enters_less history.project before.to_come read behind whole.within e)

  -- where the history was full, at least one entry is missing
  part_made : (conn : ℕ) (before : Octets) (read behind written : List ℕ) → IsWhole before → before.to_come ≡ read ++ behind → Filled history.project history.workers history.limit history.entries conn (taken read) written
      → length (acts_of conn history.entries) + 1 ≤ entries_asked history.project before.to_come
  part_made conn before read behind written whole e filled =
      let front : List Acts = acts history.project filled.before ++ filled.part in
      let all : acts history.project (taken read) ≡ acts history.project filled.before ++ ((filled.part ++ filled.missing) ++ acts history.project filled.behind) =
      ap (acts history.project) filled.are ∙ acts_behind history.project filled.before (filled.block ∷ filled.behind)
      ∙ ap (λ (own : List Acts). acts history.project filled.before ++ (own ++ acts history.project filled.behind)) filled.block_enters in
      omega (
        arith,
        ap length filled.entries,
        course_length front Lost,
        ap length all,
        some_missing filled.missing filled.proper,
        length-append (acts history.project filled.before) filled.part,
        length-append (acts history.project filled.before) ((filled.part ++ filled.missing) ++ acts history.project filled.behind),
        length-append (filled.part ++ filled.missing) (acts history.project filled.behind),
        length-append filled.part filled.missing,
        enters_less history.project before.to_come read behind whole.within e,
      )

  -- how a link fares that was served to this end
  end_fares : (how : ConnEnd) (conn : ℕ) (before now : Octets) → IsWhole before → how ≢ ReadFault → how ≢ WriteFault → TellsWasFull how history → ServesIn history conn how before now
      → FaresIn history (status_of how ≡ 0) (length (acts_of conn history.entries)) (entries_asked history.project before.to_come)
  end_fares Closed conn before now whole read write was s =
      fared refl (whole_made conn Left before s.read now.to_come s.written whole s.moves.to_come_was s.served.ends.0)
  end_fares (Truncated lines) conn before now whole read write was s =
      let text : before.to_come ≡ s.read = s.moves.to_come_was ∙ ap (λ xs. s.read ++ xs) s.served.ends.1.over ∙ append-nil s.read in
      absurd (omega (arith, s.served.ends.3, s.served.ends.2, ap held text, whole.none_held))
  end_fares ReadFault conn before now whole read write was s = absurd (read refl)
  end_fares WriteFault conn before now whole read write was s = absurd (write refl)
  end_fares TooLong conn before now whole read write was s = absurd (read_within before.to_come s.read now.to_come whole.within s.moves.to_come_was (inl s.served.ends.1))
  end_fares BatchTooLong conn before now whole read write was s = absurd (read_within before.to_come s.read now.to_come whole.within s.moves.to_come_was (inr s.served.ends.1))
  end_fares (HistoryFull entries kept) conn before now whole read write was s =
      let full = full_once entries kept (was entries kept refl) in
      lacked 1 (part_made conn before s.read now.to_come s.written whole s.moves.to_come_was s.served.ends.0) (omega (arith, full))

  told_fares : (how : ConnEnd) (conn : ℕ) (before now : Option Octets) → IsSomeAnd before IsWhole → how ≢ ReadFault → how ≢ WriteFault → TellsWasFull how history → Told (ServesIn history conn how) before now
      → FaresIn history (status_of how ≡ 0) (length (acts_of conn history.entries)) (asked_by_one history.project before)
  told_fares how conn None now whole read write was told = absurd whole
  told_fares how conn (Some before) None whole read write was told = absurd told.so
  told_fares how conn (Some before) (Some now) whole read write was told = end_fares how conn before now whole read write was told.so

two_asked : (project : ProjectView) (told : Option Octets) → IsSomeAnd told IsWhole → 2 ≤ asked_by_one project told
two_asked project None whole = absurd whole
two_asked project (Some octets) whole = omega arith

-- ---- the links of a hall

made_first : (entries : List Entry) (conn : Option ℕ) (conns : List ℕ) → made_by_one entries conn + made_by entries conns ≡ made_by entries (cons_option conn conns)
made_first entries None conns = omega arith
made_first entries (Some conn) conns = sym (sum_by-cons (λ (c : ℕ). length (acts_of c entries)) conn conns)

-- all links were given back with status 0
abbrev AreWell : {L : Type 0} → List (Back L) → Type 0
AreWell backs = All (λ back. back.status ≡ 0) backs

front_all : {X : Type 0} (P : X → Type 0) (xs ys : List X) → All P (xs ++ ys) → All P xs
front_all P xs ys all k d below = subst P (get_or_append_left xs ys d k below) (all k d (omega (arith, length-append xs ys)))

rest_all : {X : Type 0} (P : X → Type 0) (xs ys : List X) → All P (xs ++ ys) → All P ys
rest_all P xs ys all k d below = subst P (get_or-append-add xs ys k d) (all (length xs + k) d (omega (arith, length-append xs ys)))

module _ {L : Type 0} (octets : L → Option Octets) (read_faults write_faults : L → ℕ) (history : LedgerView) (over : IsOver history) where
  -- the link tells its octets, which are whole
  abbrev IsKnown : L → Type 0
  IsKnown link = IsSomeAnd (octets link) IsWhole

  one_fares : (link new : L) (conn : Option ℕ) (status : ℕ) (later : List (Back L)) → IsSomeAnd (octets link) IsWhole → (Rose (read_faults link) (read_faults new) ⊎ Rose (write_faults link) (write_faults new) → ⊥)
      → IsReturned octets read_faults write_faults history (IsUsedUp history) link new conn status later → FaresIn history (status ≡ 0) (made_by_one history.entries conn) (asked_by_one history.project (octets link))
  one_fares link new (Some conn) status later known stood r =
      restated (λ zero_status. r.status_is ∙ zero_status) refl (omega arith)
      (told_fares history over r.how conn (octets link) (octets new) known (λ e. stood (inl (r.causes.read e))) (λ e. stood (inr (r.causes.write e))) r.was_full r.served)
  one_fares link new None status later known stood r =
      lacked 2 (omega (arith, two_asked history.project (octets link) known)) (omega (arith, r.full))

  links_fare : (given later : List L) (backs : List (Back L)) → AreReturned octets read_faults write_faults history (IsUsedUp history) given backs → All IsKnown (given ++ later) → (SomePair (HasFailed read_faults write_faults) (given ++ later) backs → ⊥)
      → FaresIn history (AreWell backs) (made_by history.entries (conns_of backs)) (asked_by octets history.project given)
  links_fare [] later [] r known stood = fared (All-nil _) (omega arith)
  links_fare [] later (back ∷ backs) r known stood = absurd r
  links_fare (link ∷ links) later [] r known stood = absurd r
  links_fare (link ∷ links) later (back ∷ backs) r known stood =
      let first = one_fares link back.link back.conn back.status backs (All-head IsKnown link (links ++ later) known) (λ failed. stood (inl failed)) r.0 in
      let rest = links_fare links later backs r.1 (All-tail IsKnown link (links ++ later) known) (λ some. stood (inr some)) in
      let split = sum_by-cons (λ (one : L). asked_by_one history.project (octets one)) link links in
      restated (λ well. All-cons (λ (b : Back L). b.status ≡ 0) back backs well.0 well.1) (made_first history.entries back.conn (conns_of backs)) (omega (arith, split)) (both first rest)

  hall_fares : (was is : Links L) → Works octets read_faults write_faults history (IsUsedUp history) was is → All IsKnown was.to_give → (SomePair (HasFailed read_faults write_faults) was.to_give (new_back was is) → ⊥)
      → FaresIn history (AreWell (new_back was is)) (made_by history.entries (conns_of (new_back was is))) (asked_by octets history.project was.to_give)
  hall_fares was is w known stood =
      let same : new_back was is ≡ w.backs = ap (λ (bs : List (Back L)). drop (length was.back) bs) w.back ∙ drop-append_seam was.back w.backs in
      let split = sum_by-append (λ (one : L). asked_by_one history.project (octets one)) w.given is.to_give in
      let all : asked_by octets history.project was.to_give ≡ asked_by octets history.project (w.given ++ is.to_give) = ap (asked_by octets history.project) w.taken in
      subst (λ (bs : List (Back L)). FaresIn history (AreWell bs) (made_by history.entries (conns_of bs)) (asked_by octets history.project was.to_give)) (sym same)
      (restated (λ well. well) refl (omega (arith, split, all))
      (links_fare w.given is.to_give w.backs w.returned (subst (All IsKnown) w.taken known)
      (λ some. stood (subst (λ (bs : List (Back L)). SomePair (HasFailed read_faults write_faults) was.to_give bs) (sym same) (subst (λ (ls : List L). SomePair (HasFailed read_faults write_faults) ls w.backs) (sym w.taken) some)))))

  -- ---- all halls

  halls_fare : (were are : List (Links L)) → EachPair (Works octets read_faults write_faults history (IsUsedUp history)) were are → All IsKnown (all_to_give were) → (SomePair (λ (old new : Links L). SomePair (HasFailed read_faults write_faults) old.to_give (new_back old new)) were are → ⊥)
      → FaresIn history (AreWell (new_backs were are)) (made_by history.entries (conns_of (new_backs were are))) (asked_by octets history.project (all_to_give were))
  halls_fare [] [] works known stood = fared (All-nil _) (omega arith)
  halls_fare [] (is ∷ are) works known stood = absurd works
  halls_fare (was ∷ were) [] works known stood = absurd works
  halls_fare (was ∷ were) (is ∷ are) works known stood =
      let first = hall_fares was is works.0 (front_all IsKnown was.to_give (all_to_give were) known) (λ some. stood (inl some)) in
      let rest = halls_fare were are works.1 (rest_all IsKnown was.to_give (all_to_give were) known) (λ some. stood (inr some)) in
      let asked = sum_by-append (λ (one : L). asked_by_one history.project (octets one)) was.to_give (all_to_give were) in
      let conns : conns_of (new_back was is ++ new_backs were are) ≡ conns_of (new_back was is) ++ conns_of (new_backs were are) = filter_map-append (λ (back : Back L). back.conn) (new_back was is) (new_backs were are) in
      let made : made_by history.entries (conns_of (new_back was is)) + made_by history.entries (conns_of (new_backs were are)) ≡ made_by history.entries (conns_of (new_back was is ++ new_backs were are)) =
      sym (sum_by-append (λ (c : ℕ). length (acts_of c history.entries)) (conns_of (new_back was is)) (conns_of (new_backs were are))) ∙ ap (made_by history.entries) (sym conns) in
      restated (λ well. All-append (λ (b : Back L). b.status ≡ 0) (new_back was is) (new_backs were are) well.0 well.1) made (omega (arith, asked)) (both first rest)

-- nothing is missing where the limit has room for all that was asked for, since a history has no more entries than its
-- workers have ended and its connections made
none_lacks : (history : LedgerView) (conns : List ℕ) (asked : ℕ) {Well : Type 0} → IsOver history → AreAllPlaces conns (opened_in history) → history.workers + asked ≤ history.limit → FaresIn history Well (made_by history.entries conns) asked → Well
none_lacks history conns asked over one_each fits (fared well few) = well
none_lacks history conns asked over one_each fits (lacked missing more past) =
    let all = legal_counted history conns over.legal.legal one_each in
    absurd (omega (arith, over.done))

-- ---- what all halls tell

-- where all tell, the first tells, and the others do
pub told_parts : {A : Type 0} (first : Option A) (rest : Option (List A)) (all : List A) → told_with first rest ≡ Some all → (one : A) × (others : List A) × (first ≡ Some one) × (rest ≡ Some others) × (one ∷ others ≡ all)
told_parts (Some one) (Some others) all e = (one, others, refl, refl, cc)
told_parts (Some one) None all e = absurd (cc)
told_parts None rest all e = absurd (cc)

-- what is told before and now is related so
pub told_there : {A : Type 0} {R : A → A → Type 0} {old new : Option A} {a b : A} → old ≡ Some a → new ≡ Some b → Told R old new → R a b
told_there {A} {R} {old} {new} {a} {b} e d told = (subst (λ (o : Option A). Told R o (Some b)) e (subst (λ (o : Option A). Told R old o) d told)).so

-- the same of all, pair by pair
pub told_each : {H A : Type 0} (tell : H → Option A) (R : A → A → Type 0) (before now : List H) (were are : List A) → told_all tell before ≡ Some were → told_all tell now ≡ Some are → EachPair (λ (old new : H). Told R (tell old) (tell new)) before now → EachPair R were are
told_each {H} {A} tell R [] [] were are e d pairs =
    let none_were : [] ≡ were = cc in
    let none_are : [] ≡ are = cc in
    subst (λ (xs : List A). EachPair R xs are) none_were (subst (λ (xs : List A). EachPair R [] xs) none_are tt)
told_each tell R [] (new ∷ now) were are e d pairs = absurd pairs
told_each tell R (old ∷ before) [] were are e d pairs = absurd pairs
told_each {H} {A} tell R (old ∷ before) (new ∷ now) were are e d pairs =
    let a = told_parts (tell old) (told_all tell before) were e in
    let b = told_parts (tell new) (told_all tell now) are d in
    let both_tell : EachPair R (a.0 ∷ a.1) (b.0 ∷ b.1) = (told_there a.2 b.2 pairs.0, told_each tell R before now a.1 b.1 a.3 b.3 pairs.1) in
    subst (λ (xs : List A). EachPair R xs are) a.4 (subst (λ (xs : List A). EachPair R (a.0 ∷ a.1) xs) b.4 both_tell)

-- ---- the status

module _ {H L : Type 0} (links : H → Option (Links L)) (hall_faults : H → ℕ) (octets : L → Option Octets) (read_faults write_faults : L → ℕ) where
  -- no hall and no printing failed, and no link ended with a status of its own
  no_cause : (before now : List H) (backs : List (Back L)) (status sink_before sink_now : ℕ) → AreWell backs → (SomePair (λ (old new : H). Rose (hall_faults old) (hall_faults new)) before now → ⊥) → (Rose sink_before sink_now → ⊥)
      → (status ≡ 0) ⊎ EndsServing hall_faults Rose before now backs sink_before sink_now status → status ≡ 0
  no_cause before now backs status sink_before sink_now well halls_stood sink_stood (inl none) = none
  no_cause before now backs status sink_before sink_now well halls_stood sink_stood (inr (inl (inl of_link))) =
      All-contains (λ (s : ℕ). s ≡ 0) (statuses_of backs) status (All-map (λ (s : ℕ). s ≡ 0) (λ (back : Back L). back.status) backs well) of_link
  no_cause before now backs status sink_before sink_now well halls_stood sink_stood (inr (inl (inr of_hall))) = absurd (halls_stood of_hall.1)
  no_cause before now backs status sink_before sink_now well halls_stood sink_stood (inr (inr of_sink)) = absurd (sink_stood of_sink.1)

  -- where nothing hinders, serving ends with 0
  pub serves_whole : (project : ProjectView) (workers limit count : ℕ) (history : LedgerView) (before now : List H) (status sink_before sink_now : ℕ) (out_before out_now : Option (List ℕ))
      → IsOf project workers limit count history
      → Serves links hall_faults octets read_faults write_faults history before now status sink_before sink_now out_before out_now
      → NothingHinders links hall_faults octets read_faults write_faults project workers limit before now sink_before sink_now
      → status ≡ 0
  serves_whole project workers limit count history before now status sink_before sink_now out_before out_now is_of serves nothing =
      let works = told_each links (Works octets read_faults write_faults history (IsUsedUp history)) before now nothing.were nothing.are nothing.told_before nothing.told_now serves.served in
      let fare = halls_fare octets read_faults write_faults history serves.over nothing.were nothing.are works nothing.whole nothing.links_stood in
      let same : asked_by octets history.project (all_to_give nothing.were) ≡ asked_by octets project (all_to_give nothing.were) = ap (λ (p : ProjectView). asked_by octets p (all_to_give nothing.were)) is_of.project_is in
      let fits : history.workers + asked_by octets history.project (all_to_give nothing.were) ≤ history.limit = omega (arith, nothing.fits, is_of.workers_is, is_of.limit_is) in
      let one_each = told_there nothing.told_before nothing.told_now serves.one_each in
      let least = told_there nothing.told_before nothing.told_now serves.status_is in
      let well = none_lacks history (conns_of (new_backs nothing.were nothing.are)) (asked_by octets history.project (all_to_give nothing.were)) serves.over one_each fits fare in
      no_cause before now (new_backs nothing.were nothing.are) status sink_before sink_now well nothing.halls_stood nothing.sink_stood least.cause

  -- the same of a result, whose halls, status and number of entries are these
  pub result_whole : {T E : Type 0} (halls_in : T → List H) (status_in count_in : T → ℕ) (project : ProjectView) (workers limit : ℕ) (before : List H) (sink_before sink_now : ℕ) (out_before out_now : Option (List ℕ)) (result : Result T E)
      → IfOk result (λ served. (history : LedgerView) × IsOf project workers limit (count_in served) history × Serves links hall_faults octets read_faults write_faults history before (halls_in served) (status_in served) sink_before sink_now out_before out_now)
      → IfOk result (λ served. NothingHinders links hall_faults octets read_faults write_faults project workers limit before (halls_in served) sink_before sink_now → status_in served ≡ 0)
  result_whole halls_in status_in count_in project workers limit before sink_before sink_now out_before out_now (Ok served) headline =
      serves_whole project workers limit (count_in served) headline.0 before (halls_in served) (status_in served) sink_before sink_now out_before out_now headline.1 headline.2
  result_whole halls_in status_in count_in project workers limit before sink_before sink_now out_before out_now (Err stop) headline = tt
