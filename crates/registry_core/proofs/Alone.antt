-- A desk that has a whole book, after a call.
use Rattle.std.proofs.Common.{◌≡◌, ℕ, ◌+◌, ◌-◌, ◌<◌, ◌≤◌, Bool, true, false, cond, ◌||◌, List, [], ◌∷◌, ◌++◌, length, All, Contains, get_or, Option, Some, None, is_some, IsFalse, refl, sym, ap, ap₂, subst, ◌∙◌, arith, append-nil, append_assoc, length-append, true≢false}
use Rattle.std.proofs.lemmas.Bool.{and_parts, and_right, or_right}
use Rattle.std.proofs.lemmas.List.{map-id}
use Rattle.std.proofs.lemmas.List.FromFn.{length-range_with_len, get_or-range_with_len, map-range_with_len_more}
use Rattle.std.proofs.lemmas.Option.{slice_get_within, get_or_from_slice_get}
use Rattle.std.proofs.lemmas.List.Sums.{sum_by-cons}
use Rattle.std.specs.List.{range_with_len}
use Rattle.std.specs.Option.{option_map_or}
use Rattle.std.specs.Prelude.{if◌then◌else◌, count_by, slice_get, Result, Ok, Err, IfOk, IfErr, IsOk}
use Rattle.unit_registry.specs.declared.act.Act.{Act}
use Rattle.unit_registry.specs.declared.act.Act.TheVariants.{Open}
use Rattle.unit_registry.specs.Acts.{is_done, names}
use Rattle.registry_core.specs.Books.{BookView}
use Rattle.histories.specs.declared.entry.Entry.{Entry}
use Rattle.histories.specs.declared.answered.Answered.{Answered}
use Rattle.histories.specs.Answered.{is_accepted, is_stored, stored_unit, stores}
use Rattle.histories.specs.Counts.{Effect, Opens, Asks, Goes, Ends, effect_of, ChangesOpened, ChangesReserved}
use Rattle.histories.specs.Histories.{with_said, IsLegal}
use Rattle.histories.proofs.Counting.{open_act, does_open}
use Rattle.histories.proofs.LegalCounts.{numbers_below, counted_over, done_over, opened_with, open_with, done_with, reserved_with}
use Rattle.histories.proofs.Legality.{legal_one_more}
use Rattle.histories.proofs.Steps.{opens_next}
use Rattle.registry_core.specs.declared.full.Full.{Full}
use Rattle.registry_core.specs.Ledgers.{LedgerView, IsLedger, Passes, Appends, IsFull, noted_in, said_in, said_to, with_entry, opened_in, reserved_in, entry}
use Rattle.registry_core.specs.Shelves.{ComesWith, kept_after}
use Rattle.registry_core.specs.Desks.{DeskState, Looks, Adds, IsSound, connections_with, uses}
use Rattle.registry_core.specs.Alone.{Alone, solo, told_alone, KeepsOn}
use Rattle.registry_core.proofs.Keeping.{said_after}
use Rattle.registry_core.proofs.Desks.{slice_get_behind}
use Rattle.registry_core.proofs.Ready.{workers_in}

-- ---- numbers in a row

range_more : (n m : ℕ) → m ≡ n + 1 → range_with_len 0 m ≡ range_with_len 0 n ++ n ∷ []
range_more n m e =
    ap (range_with_len 0) e
    ∙ sym (map-id (range_with_len 0 (n + 1)))
    ∙ map-range_with_len_more (λ (k : ℕ). k) 0 n n (omega arith)
    ∙ ap (λ (ks : List ℕ). ks ++ n ∷ []) (map-id (range_with_len 0 n))

in_range : (n k : ℕ) → k < n → Contains (range_with_len 0 n) k
in_range n k below = (k, (let l = length-range_with_len 0 n in omega arith), (let e : 0 + k ≡ k = omega arith in get_or-range_with_len 0 n k k below ∙ e))

range_within : (n : ℕ) → All (λ k. k < n) (range_with_len 0 n)
range_within n k d below =
    let l = length-range_with_len 0 n in
    let g : get_or (range_with_len 0 n) k d ≡ 0 + k = get_or-range_with_len 0 n k d (omega arith) in
    omega arith

-- as many places have such an item as there are such items
counted_places : {A : Type 0} (p : A → Bool) → (xs front : List A) → count_by (λ (place : ℕ). option_map_or p (slice_get (front ++ xs) place) false) (range_with_len (length front) (length xs)) ≡ count_by p xs
counted_places p [] front = refl
counted_places {A} p (x ∷ xs) front =
    let one_more : length front + 1 ≡ length (front ++ x ∷ []) = sym (length-append front (x ∷ [])) in
    let behind : count_by (λ (place : ℕ). option_map_or p (slice_get (front ++ x ∷ xs) place) false) (range_with_len (length front + 1) (length xs)) ≡ count_by p xs =
    ap₂ (λ (ys : List A) (n : ℕ). count_by (λ (place : ℕ). option_map_or p (slice_get ys place) false) (range_with_len n (length xs))) (sym (append_assoc front (x ∷ []) xs)) one_more
    ∙ counted_places p xs (front ++ x ∷ []) in
    let here : cond (option_map_or p (slice_get (front ++ x ∷ xs) (length front)) false) 1 0 ≡ cond (p x) 1 0 = ap (λ (o : Option A). cond (option_map_or p o false) 1 0) (slice_get_behind front (x ∷ xs) 0 (length front) (omega arith)) in
    sum_by-cons (λ (place : ℕ). cond (option_map_or p (slice_get (front ++ x ∷ xs) place) false) 1 0) (length front) (range_with_len (length front + 1) (length xs))
    ∙ (ap₂ (λ (one rest : ℕ). one + rest) here behind ∙ sym (sum_by-cons (λ (y : A). cond (p y) 1 0) x xs))

-- ---- what it tells of a legal history

number_of : (entries : List Entry) (count place : ℕ) (newest : Entry) → All (λ e. IsFalse (is_done e.act) → e.conn < count) entries → slice_get entries place ≡ Some newest → IsFalse (is_done newest.act) → newest.conn < count
number_of entries count place newest all there no_end =
    subst (λ (e : Entry). IsFalse (is_done e.act) → e.conn < count) (get_or_from_slice_get entries place newest newest there) (all place newest (slice_get_within entries place newest there)) no_end

solo_sound : {Held : Type 0} (kept : ℕ → Bool) (held : Held) (ledger : LedgerView) → IsLedger ledger → IsSound (solo kept held ledger)
solo_sound kept held ledger l = record {
  ledger = l;
  places_within = range_within (length ledger.entries);
  own_places = λ place newest there own. in_range (length ledger.entries) place (slice_get_within ledger.entries place newest there);
  own_connections = λ place newest there own no_end. in_range (opened_in ledger) newest.conn (number_of ledger.entries (opened_in ledger) place newest (numbers_below ledger.project ledger.workers ledger.limit ledger.entries l.legal) there no_end);
  opened_is = counted_over ledger.project ledger.workers ledger.limit ledger.entries l.legal;
  dones_is = done_over ledger.project ledger.workers ledger.entries ∙ sym (counted_places (λ (newest : Entry). is_done newest.act) ledger.entries []);
  enough = workers_in ledger l;
}

-- ---- one more entry

connections_by : (effect : Effect) (conn opened opened_then : ℕ) → ChangesOpened effect opened opened_then → (effect ≡ Opens → conn ≡ opened) → range_with_len 0 opened_then ≡ connections_with effect conn (range_with_len 0 opened)
connections_by Opens conn opened opened_then more next = range_more opened opened_then more ∙ ap (λ (n : ℕ). range_with_len 0 opened ++ n ∷ []) (sym (next refl))
connections_by Asks conn opened opened_then more next = ap (range_with_len 0) more
connections_by Goes conn opened opened_then more next = ap (range_with_len 0) more
connections_by Ends conn opened opened_then more next = ap (range_with_len 0) more

room_by : (effect : Effect) (limit size taken taken_then : ℕ) → ChangesReserved effect taken taken_then → limit - (size + 1 + taken_then) ≡ limit - (size + taken) - uses effect
room_by Opens limit size taken taken_then more = omega arith
room_by Asks limit size taken taken_then more = omega arith
room_by Goes limit size taken taken_then more = omega arith
room_by Ends limit size taken taken_then more = omega arith

solo_adds : {Held : Type 0} (kept : ℕ → Bool) (held : Held) (ledger : LedgerView) (newest : Entry) → IsLedger ledger → Passes ledger newest → Adds (solo kept held ledger) newest (length ledger.entries) (solo kept held (with_entry ledger newest))
solo_adds kept held ledger newest l passes = record {
  since = [];
  history = ap (λ (es : List Entry). es ++ newest ∷ []) (sym (append-nil ledger.entries));
  place_is = ap length (sym (append-nil ledger.entries));
  places = range_more (length ledger.entries) (length (ledger.entries ++ newest ∷ [])) (length-append ledger.entries (newest ∷ []));
  connections = connections_by (effect_of newest.act) newest.conn (opened_in ledger) (opened_in (with_entry ledger newest)) (opened_with ledger.project ledger.workers ledger.limit ledger.entries newest legal) next;
  opened = open_with ledger.project ledger.workers ledger.limit ledger.entries newest legal;
  dones = done_with ledger.project ledger.workers ledger.limit ledger.entries newest legal;
  room = ap (λ (n : ℕ). ledger.limit - (n + reserved_in (with_entry ledger newest))) (length-append ledger.entries (newest ∷ [])) ∙ room_by (effect_of newest.act) ledger.limit (length ledger.entries) (reserved_in ledger) (reserved_in (with_entry ledger newest)) (reserved_with ledger.project ledger.workers ledger.limit ledger.entries newest legal);
  stays = record { project = refl; workers = refl; limit = refl; name = refl; metered = refl; first = refl; share = refl; kept = λ unit. refl; held = refl };
}
  where
    legal : IsLegal ledger.project ledger.workers ledger.limit (ledger.entries ++ newest ∷ [])
    legal = (legal_one_more ledger.project ledger.workers ledger.limit ledger.entries newest).1 (l.legal, passes)

    next : effect_of newest.act ≡ Opens → newest.conn ≡ opened_in ledger
    next opens = opens_next ledger.project ledger.workers ledger.limit (noted_in ledger) newest (ap (λ o. Rattle.std.specs.Prelude.is_none o) passes) (open_act newest.act ∙ ap does_open opens)

solo_looks : {Held : Type 0} (kept : ℕ → Bool) (held : Held) (ledger : LedgerView) → Looks (solo kept held ledger) (solo kept held ledger)
solo_looks kept held ledger = record {
  since = [];
  history = sym (append-nil ledger.entries);
  places = refl;
  connections = refl;
  opened = refl;
  dones = refl;
  room = refl;
  stays = record { project = refl; workers = refl; limit = refl; name = refl; metered = refl; first = refl; share = refl; kept = λ unit. refl; held = refl };
}

-- ---- the same, by what the calls of a book tell

told_adds : {S Item Held : Type 0} (kept : S → ℕ → Option Item) (held : S → Held) (before after : Alone S) (newest : Entry) → after.opening ≡ before.opening → held after.book.shelf ≡ held before.book.shelf → Appends before.book.ledger newest after.book.ledger → Adds (told_alone kept held before) newest (length before.book.ledger.entries) (told_alone kept held after)
told_adds kept held before after newest opening shelf appends =
    subst (λ (told : DeskState _). Adds (told_alone kept held before) newest (length before.book.ledger.entries) told) (sym (λ j. solo (λ unit. is_some (kept ((opening j).shelf) unit)) (shelf j) (appends.appended j)))
    (solo_adds (λ unit. is_some (kept before.opening.shelf unit)) (held before.book.shelf) before.book.ledger newest appends.legal appends.passes)

-- a desk with room for more is never refused
pub roomy : (result : Result ℕ Full) (ledger : LedgerView) (more : ℕ) → IfErr result (λ full. IsFull ledger more full) → more + 1 ≤ ledger.limit - (length ledger.entries + reserved_in ledger) → IsOk result
roomy (Ok value) ledger more full room = refl
roomy (Err value) ledger more full room = let none = full.no_room in absurd (omega arith)

-- ---- the items

or_flip : (first stored : Bool) → (stored ≡ true) → true ≡ (first || stored)
or_flip first stored h = sym (or_right first stored h)

item_there : {Item : Type 0} (fits : ℕ → Item → Type 0) (o : Option ℕ) (item : Option Item) (unit : ℕ) → ComesWith fits o item → names o unit ≡ true → is_some item ≡ true
item_there fits (Some named) (Some item) unit comes h = refl
item_there fits (Some named) None unit comes h = absurd comes
item_there fits None item unit comes h = absurd (true≢false (sym h))

on_more : {Item : Type 0} (fits : ℕ → Item → Type 0) (ledger : LedgerView) (newest : Entry) (first : ℕ → Bool) (kept kept_then : ℕ → Option Item) (item : Option Item) → KeepsOn ledger first (λ unit. is_some (kept unit)) → ComesWith fits (stored_unit newest.act) item → ((unit : ℕ) → kept_then unit ≡ kept_after kept (with_said newest (said_to ledger newest.conn newest.act)) item unit) → KeepsOn (with_entry ledger newest) first (λ unit. is_some (kept_then unit))
on_more fits ledger newest first kept kept_then item keeps comes is = record {
  kept = λ unit. ap (λ o. is_some o) (is unit) ∙ by unit (stores unit new) refl ∙ sym (ap (λ (said : List Answered). first unit || is_stored said unit) (said_after ledger newest));
}
  where
    new : Answered
    new = with_said newest (said_to ledger newest.conn newest.act)

    by : (unit : ℕ) (b : Bool) → stores unit new ≡ b → is_some (if b then item else kept unit) ≡ (first unit || (b || is_stored (said_in ledger) unit))
    by unit true s = item_there fits (stored_unit newest.act) item unit comes (and_parts (is_accepted new.said) (names (stored_unit newest.act) unit) s).1 ∙ or_flip (first unit) true refl
    by unit false s = keeps.kept unit

on_same : (before after : LedgerView) (newest : Entry) (first now : ℕ → Bool) → stored_unit newest.act ≡ None → KeepsOn before first now → Appends before newest after → KeepsOn after first now
on_same before after newest first now none keeps appends = subst (λ (ledger : LedgerView). KeepsOn ledger first now) (sym appends.appended) (record {
  kept = λ unit. keeps.kept unit ∙ ap (λ b. first unit || (b || is_stored (said_in before) unit)) (sym (and_right (is_accepted new.said) (names (stored_unit newest.act) unit) (ap (λ o. names o unit) none))) ∙ sym (ap (λ (said : List Answered). first unit || is_stored said unit) (said_after before newest));
})
  where
    new : Answered
    new = with_said newest (said_to before newest.conn newest.act)

-- ---- what the calls of the book leave of the desk

module _ {S Item Held : Type 0} (kept : S → ℕ → Option Item) (held : S → Held) (opening : BookView S) where
  abbrev pub desk : BookView S → Alone S
  desk book = record { opening = opening; book = book }

  abbrev pub told : BookView S → DeskState Held
  told book = told_alone kept held (desk book)

  abbrev pub Keeps : BookView S → Type 0
  Keeps book = KeepsOn book.ledger (λ unit. is_some (kept opening.shelf unit)) (λ unit. is_some (kept book.shelf unit))

  pub keeps_entry : (before after : BookView S) (newest : Entry) → stored_unit newest.act ≡ None → Keeps before → Appends before.ledger newest after.ledger → after.shelf ≡ before.shelf → Keeps after
  keeps_entry before after newest none keeps appends shelf =
      subst (λ (s : S). KeepsOn after.ledger (λ unit. is_some (kept opening.shelf unit)) (λ unit. is_some (kept s unit))) (sym shelf) (on_same before.ledger after.ledger newest (λ unit. is_some (kept opening.shelf unit)) (λ unit. is_some (kept before.shelf unit)) none keeps appends)

  pub keeps_opened : (result : Result ℕ Full) (before after : BookView S) → Keeps before → IfOk result (λ conn. Appends before.ledger (entry conn Open) after.ledger) → IfErr result (λ full. after ≡ before) → after.shelf ≡ before.shelf → Keeps after
  keeps_opened (Ok conn) before after keeps appends same shelf = keeps_entry before after (entry conn Open) refl keeps appends shelf
  keeps_opened (Err full) before after keeps appends same shelf = subst Keeps (sym same) keeps

  pub keeps_asked : (fits : ℕ → Item → Type 0) (result : Result ℕ Full) (before after : BookView S) (conn : ℕ) (act : Act) (item : Option Item) → Keeps before → ComesWith fits (stored_unit act) item → IfOk result (λ place. Appends before.ledger (entry conn act) after.ledger) → IfOk result (λ place. (unit : ℕ) → kept after.shelf unit ≡ kept_after (kept before.shelf) (with_said (entry conn act) (said_to before.ledger conn act)) item unit) → IfErr result (λ full. after ≡ before) → Keeps after
  keeps_asked fits (Ok place) before after conn act item keeps comes appends is same =
      subst (λ (ledger : LedgerView). KeepsOn ledger (λ unit. is_some (kept opening.shelf unit)) (λ unit. is_some (kept after.shelf unit))) (sym appends.appended) (on_more fits before.ledger (entry conn act) (λ unit. is_some (kept opening.shelf unit)) (kept before.shelf) (kept after.shelf) item keeps comes is)
  keeps_asked fits (Err full) before after conn act item keeps comes appends is same = subst Keeps (sym same) keeps

  pub adds : (before after : BookView S) (newest : Entry) → held after.shelf ≡ held before.shelf → Appends before.ledger newest after.ledger → (place : ℕ) × Adds (told before) newest place (told after)
  adds before after newest same appends = (length before.ledger.entries, told_adds kept held (desk before) (desk after) newest refl same appends)

  pub opened_adds : (result : Result ℕ Full) (before after : BookView S) → held after.shelf ≡ held before.shelf → IfOk result (λ conn. Appends before.ledger (entry conn Open) after.ledger) → IfOk result (λ conn. (place : ℕ) × Adds (told before) (entry conn Open) place (told after))
  opened_adds (Ok conn) before after same appends = adds before after (entry conn Open) same appends
  opened_adds (Err full) before after same appends = tt

  pub asked_adds : (result : Result ℕ Full) (before after : BookView S) (conn : ℕ) (act : Act) → held after.shelf ≡ held before.shelf → IfOk result (λ place. place ≡ length before.ledger.entries) → IfOk result (λ place. Appends before.ledger (entry conn act) after.ledger) → IfOk result (λ place. Adds (told before) (entry conn act) place (told after))
  asked_adds (Ok place) before after conn act same is appends = subst (λ (p : ℕ). Adds (told before) (entry conn act) p (told after)) (sym is) (told_adds kept held (desk before) (desk after) (entry conn act) refl same appends)
  asked_adds (Err full) before after conn act same is appends = tt

  pub refused_looks : (result : Result ℕ Full) (before after : BookView S) → IfErr result (λ full. after ≡ before) → IfErr result (λ full. Looks (told before) (told after))
  refused_looks (Ok value) before after same = tt
  refused_looks (Err full) before after same = subst (λ (book : BookView S). Looks (told before) (told book)) (sym same) (solo_looks (λ unit. is_some (kept opening.shelf unit)) (held before.shelf) before.ledger)

  pub refused_full : (result : Result ℕ Full) (before after : BookView S) (more : ℕ) → IfErr result (λ full. after ≡ before) → IfErr result (λ full. IsFull before.ledger more full) → IfErr result (λ full. IsFull after.ledger more full)
  refused_full (Ok value) before after more same full = tt
  refused_full (Err value) before after more same full = subst (λ (book : BookView S). IsFull book.ledger more value) (sym same) full

  pub looks : (book : BookView S) → Looks (told book) (told book)
  looks book = solo_looks (λ unit. is_some (kept opening.shelf unit)) (held book.shelf) book.ledger

  pub is_sound : (book : BookView S) → IsLedger book.ledger → IsSound (told book)
  is_sound book l = solo_sound (λ unit. is_some (kept opening.shelf unit)) (held book.shelf) book.ledger l

pub fetched : {Item Error : Type 0} (result : Result (Option Item) Error) (kept : Option Item) (b : Bool) → IfOk result (λ item. item ≡ kept) → is_some kept ≡ b → IfOk result (λ item. is_some item ≡ b)
fetched (Ok item) kept b is some = ap (λ o. is_some o) is ∙ some
fetched (Err error) kept b is some = tt
