-- The history of a connection that was served alone is the one that its octets determine.
use Rattle.std.proofs.Common.{◌≡◌, ℕ, zero, suc, ◌+◌, ◌<◌, ◌≤◌, List, [], ◌∷◌, ◌++◌, length, take, drop, Some, refl, sym, ap, subst, ◌∙◌, append_assoc, arith}
use Rattle.std.proofs.lemmas.List.{append-nil, length-append, length-map, length-take, length-take-le, take-append-drop, append_cancel_right}
use Rattle.mm_outside.specs.Octets.{Octets}
use Rattle.cody_batches.specs.Blocks.{taken}
use Rattle.unit_registry.specs.declared.act.Act.{Act as Acts}
use Rattle.unit_registry.specs.declared.act.Act.TheVariants as act
use Rattle.unit_registry.specs.Projects.{ProjectView}
use Rattle.histories.specs.declared.entry.Entry.{Entry}
use Rattle.histories.specs.Answered.{reserved}
use Rattle.histories.specs.Counts.{Effect, Asks, Goes, effect_of}
use Rattle.histories.specs.Histories.{answered_in, IsLegal}
use Rattle.histories.proofs.Legality.{legal_prefix}
use Rattle.histories.proofs.LegalCounts.{ends_fit}
use Rattle.registry_core.specs.Ledgers.{IsFull, entry}
use Rattle.connection_core.specs.declared.conn_end.ConnEnd.{ConnEnd}
use Rattle.connection_core.specs.declared.conn_end.ConnEnd.TheVariants.{Closed, Truncated, ReadFault, WriteFault, TooLong, BatchTooLong, HistoryFull}
use Rattle.connection_core.specs.Asking.{Block, acts}
use Rattle.connection_core.specs.Answers.{acts_of, answers}
use Rattle.connection_core.specs.Alone.{alone, own_answers, solo, stopped_behind}
use Rattle.connection_core.specs.Ends.{Ends, Served, Stopped, status_of, last_of, whole_course}
use Rattle.connection_core.specs.Serving.{TellsPlace}
use Rattle.connection_core.proofs.Staying.{answers_later}
use Rattle.mapper_server.specs.Steps.{TellsFull}
use Rattle.mapper_server.proofs.Alone.{so_far, last_done, gone, gone_course, acts_behind, alone-append, stops_behind, not_longer, is_more, solo_closed, solo_lost, solo_stopped, solo_filled}
use Rattle.mapper_server.proofs.Comes.{AllAsk, ask-front, ask-append, blocks_ask, block_asks, only_open, own_come}

abbrev head_or : {A : Type 0} → A → List A → A
head_or d [] = d
head_or d (x ∷ xs) = x

-- no act lets the connection go
abbrev NoneGo : List Acts → Type 0
NoneGo [] = Unit {0}
NoneGo (asked ∷ rest) = (effect_of asked ≡ Goes → ⊥) × NoneGo rest

none_go : (asked : List Acts) → AllAsk asked → NoneGo asked
none_go [] all = tt
none_go (asked ∷ rest) all = (asks (effect_of asked) all.0, none_go rest all.1)
  where
    asks : (e : Effect) → e ≡ Asks → e ≡ Goes → ⊥
    asks e f g = cc

-- where the connection went, in its history
lost_at : (asked : List Acts) → NoneGo asked → (front behind : List Entry) → alone (asked ++ act.Lost ∷ []) ++ last_done ∷ [] ≡ front ++ entry 0 act.Lost ∷ behind → length front ≡ length asked
lost_at [] all [] behind e = refl
lost_at [] all (x ∷ []) behind e = absurd (goes_not_ends (ap (λ (es : List Entry). effect_of (head_or last_done (drop 1 es)).act) e))
  where
    goes_not_ends : effect_of act.Done ≡ effect_of act.Lost → ⊥
    goes_not_ends same = cc
lost_at [] all (x ∷ y ∷ front) behind e = absurd (omega (arith, ap length e, length-append front (entry 0 act.Lost ∷ behind)))
lost_at (asked ∷ rest) all [] behind e = absurd (all.0 (ap (λ (es : List Entry). effect_of (head_or last_done es).act) e))
lost_at (asked ∷ rest) all (x ∷ front) behind e = ap suc (lost_at rest all.1 front behind (ap (λ (es : List Entry). drop 1 es) e))

same_course : (first second : List Acts) (last : Acts) → whole_course first last ≡ whole_course second last → first ≡ second
same_course first second last e = append_cancel_right first second (last ∷ []) (ap (λ (xs : List Acts). drop 1 xs) e)

-- the history begins with what was asked
gone_begins : (asked : List Acts) (last : Acts) → gone asked last ≡ alone (act.Open ∷ asked) ++ (alone (last ∷ []) ++ last_done ∷ [])
gone_begins asked last = ap (λ (es : List Entry). es ++ last_done ∷ []) (alone-append (act.Open ∷ asked) (last ∷ [])) ∙ append_assoc (alone (act.Open ∷ asked)) (alone (last ∷ [])) (last_done ∷ [])

-- and with what its first blocks entered
so_far_begins : (project : ProjectView) (first rest : List Block) (last : Acts) → gone (acts project (first ++ rest)) last ≡ so_far project first ++ (alone (acts project rest ++ last ∷ []) ++ last_done ∷ [])
so_far_begins project first rest last =
    ap (λ (asked : List Acts). gone asked last) (acts_behind project first rest)
    ∙ ap (λ (asked : List Acts). alone (act.Open ∷ asked) ++ last_done ∷ []) (append_assoc (acts project first) (acts project rest) (last ∷ []))
    ∙ ap (λ (es : List Entry). es ++ last_done ∷ []) (alone-append (act.Open ∷ acts project first) (acts project rest ++ last ∷ []))
    ∙ append_assoc (so_far project first) (alone (acts project rest ++ last ∷ [])) (last_done ∷ [])

-- there was room for what was asked, for the going and the end
fits : (project : ProjectView) (limit : ℕ) (asked : List Acts) (last : Acts) → 1 ≤ limit → AllAsk asked → IsLegal project 1 limit (gone asked last) → length asked + 3 ≤ limit
fits project limit asked last few all legal =
    let front : IsLegal project 1 limit (alone (act.Open ∷ asked)) = legal_prefix project 1 limit (alone (act.Open ∷ asked)) (alone (last ∷ []) ++ last_done ∷ []) (subst (IsLegal project 1 limit) (gone_begins asked last) legal) in
    let only = only_open project limit asked all front in
    let fit : length (alone (act.Open ∷ asked)) + reserved 1 (answered_in project 1 (alone (act.Open ∷ asked))) ≤ limit = ends_fit project 1 limit (alone (act.Open ∷ asked)) few front in
    let size : length (alone (act.Open ∷ asked)) ≡ length (act.Open ∷ asked) = length-map (act.Open ∷ asked) (λ own. record { conn = 0; act = own }) in
    let one = only.one in
    let none = only.none in
    omega (arith, fit, one, none, size)

-- the answers to the first of the blocks that were entered are those that the connection has
own_front : (project : ProjectView) (limit : ℕ) (first rest : List Block) (last : Acts) (text : List ℕ) → IsLegal project 1 limit (gone (acts project (first ++ rest)) last) → answers project 1 (gone (acts project (first ++ rest)) last) 0 first ≡ Some text → own_answers project first ≡ Some text
own_front project limit first rest last text legal come =
    let more : List Entry = alone (acts project rest ++ last ∷ []) ++ last_done ∷ [] in
    let front : IsLegal project 1 limit (so_far project first) = legal_prefix project 1 limit (so_far project first) more (subst (IsLegal project 1 limit) (so_far_begins project first rest last) legal) in
    let own = own_come project limit first front in
    own.1 ∙ sym (answers_later project 1 (so_far project first) more 0 first own.0 own.1) ∙ ap (λ (h : List Entry). answers project 1 h 0 first) (sym (so_far_begins project first rest last)) ∙ come

-- where a write stopped, the output determines how many blocks were entered
stopped_is : (project : ProjectView) (limit : ℕ) (octets : Octets) (entered rest : List Block) (text : List ℕ) (n : ℕ) → IsLegal project 1 limit (gone (acts project entered) act.Lost) → taken octets.read ≡ entered ++ rest → answers project 1 (gone (acts project entered) act.Lost) 0 entered ≡ Some text
    → n < length text → octets.written ≡ take n text → ((fewer : ℕ) → fewer < length entered → (front : List ℕ) × (answers project 1 (gone (acts project entered) act.Lost) 0 (take fewer entered) ≡ Some front) × (length front ≤ length octets.written))
    → stopped_behind project octets.written [] (taken octets.read) ≡ entered
stopped_is project limit octets entered rest text n legal all come part written least =
    ap (stopped_behind project octets.written []) all
    ∙ stops_behind project octets.written [] entered rest
    (λ fewer few.
    let front = least fewer few in
    let parts : entered ≡ take fewer entered ++ drop fewer entered = sym (take-append-drop fewer entered) in
    not_longer (own_answers project (take fewer entered)) front.0 octets.written
    (own_front project limit (take fewer entered) (drop fewer entered) act.Lost front.0 (subst (λ (bs : List Block). IsLegal project 1 limit (gone (acts project bs) act.Lost)) parts legal) (ap (λ (bs : List Block). answers project 1 (gone (acts project bs) act.Lost) 0 (take fewer entered)) (sym parts) ∙ front.1))
    front.2)
    (is_more (own_answers project entered) text octets.written
    (own_front project limit entered [] act.Lost text (subst (λ (bs : List Block). IsLegal project 1 limit (gone (acts project bs) act.Lost)) (sym (append-nil entered)) legal) (ap (λ (bs : List Block). answers project 1 (gone (acts project bs) act.Lost) 0 entered) (append-nil entered) ∙ come))
    (omega (arith, part, ap length written, length-take-le n text (omega (arith, part)))))

-- how it was served, and where it went if the history was full
pub record ServesSolo (project : ProjectView) (limit : ℕ) (how : ConnEnd) (history : List Entry) (octets : Octets) : Type 0 where
  pub served : Served project 1 limit history 0 how octets
  pub full_at : TellsPlace how served

module _ (project : ProjectView) (limit : ℕ) (asked : List Acts) (octets : Octets) (few : 1 ≤ limit) where
  -- what it did is what these acts say
  did : (mid : List Acts) (last : Acts) → acts_of 0 (gone asked last) ≡ whole_course mid last → asked ≡ mid
  did mid last e = same_course asked mid last (sym (gone_course asked last) ∙ e)

  whole : (last : Acts) → IsLegal project 1 limit (gone asked last) → acts_of 0 (gone asked last) ≡ whole_course (acts project (taken octets.read)) last → (asked ≡ acts project (taken octets.read)) × (length (acts project (taken octets.read)) + 3 ≤ limit)
  whole last legal e =
      let is = did (acts project (taken octets.read)) last e in
      (is, fits project limit (acts project (taken octets.read)) last few (blocks_ask project (taken octets.read)) (subst (λ (xs : List Acts). IsLegal project 1 limit (gone xs last)) is legal))

  lost : (status : ℕ) → (solo_is : length (acts project (taken octets.read)) + 3 ≤ limit → gone (acts project (taken octets.read)) act.Lost ≡ solo project limit octets.read octets.written status) → IsLegal project 1 limit (gone asked act.Lost) → acts_of 0 (gone asked act.Lost) ≡ whole_course (acts project (taken octets.read)) act.Lost → gone asked act.Lost ≡ solo project limit octets.read octets.written status
  lost status solo_is legal e = let is = whole act.Lost legal e in ap (λ (xs : List Acts). gone xs act.Lost) is.0 ∙ solo_is is.1

  stopped : IsLegal project 1 limit (gone asked act.Lost) → Stopped project 1 limit (gone asked act.Lost) 0 (taken octets.read) octets.written → gone asked act.Lost ≡ solo project limit octets.read octets.written 5
  stopped legal s =
      let entered : List Block = take s.count (taken octets.read) in
      let is : asked ≡ acts project entered = did (acts project entered) act.Lost s.entries in
      let legal_is : IsLegal project 1 limit (gone (acts project entered) act.Lost) = subst (λ (xs : List Acts). IsLegal project 1 limit (gone xs act.Lost)) is legal in
      let size : length entered ≡ s.count = length-take-le s.count (taken octets.read) s.within in
      let moved : (bs : List Block) (text : List ℕ) → answers project 1 (gone asked act.Lost) 0 bs ≡ Some text → answers project 1 (gone (acts project entered) act.Lost) 0 bs ≡ Some text = λ bs text come. ap (λ (xs : List Acts). answers project 1 (gone xs act.Lost) 0 bs) (sym is) ∙ come in
      ap (λ (xs : List Acts). gone xs act.Lost) is
      ∙ solo_stopped project limit octets.read octets.written entered
      (stopped_is project limit octets entered (drop s.count (taken octets.read)) s.text s.part.0 legal_is (sym (take-append-drop s.count (taken octets.read))) (moved entered s.text s.answered) s.part.1 s.part.2
      (λ fewer less.
      let below : fewer < s.count = omega (arith, less, size) in
      let front = s.least fewer below in
      (front.0, moved (take fewer entered) front.0 (ap (λ (bs : List Block). answers project 1 (gone asked act.Lost) 0 bs) (take_fewer fewer s.count (taken octets.read) (omega (arith, below))) ∙ front.1), front.2)))
      (fits project limit (acts project entered) act.Lost few (blocks_ask project entered) legal_is)
    where
      take_fewer : (n m : ℕ) (bs : List Block) → n ≤ m → take n (take m bs) ≡ take n bs
      take_fewer zero m bs le = refl
      take_fewer (suc n) zero bs le = absurd (omega (arith, le))
      take_fewer (suc n) (suc m) [] le = refl
      take_fewer (suc n) (suc m) (b ∷ bs) le = ap (λ (xs : List Block). b ∷ xs) (take_fewer n m bs (omega (arith, le)))

  -- the history that the octets determine
  pub solo_is : (how : ConnEnd) → IsLegal project 1 limit (gone asked (last_of how)) → TellsFull (record { project = project; workers = 1; limit = limit; entries = alone (act.Open ∷ asked) }) how → Ends project 1 limit (gone asked (last_of how)) 0 how octets → gone asked (last_of how) ≡ solo project limit octets.read octets.written (status_of how)
  solo_is Closed legal full ends = let is = whole act.Left legal ends.0.entries in ap (λ (xs : List Acts). gone xs act.Left) is.0 ∙ solo_closed project limit octets.read octets.written is.1
  solo_is (Truncated lines) legal full ends = lost 7 (solo_lost project limit octets.read octets.written 7 refl refl) legal ends.0.entries
  solo_is ReadFault legal full ends = lost 4 (solo_lost project limit octets.read octets.written 4 refl refl) legal ends.entries
  solo_is WriteFault legal full ends = stopped legal ends
  solo_is TooLong legal full ends = lost 8 (solo_lost project limit octets.read octets.written 8 refl refl) legal ends.0.entries
  solo_is BatchTooLong legal full ends = lost 8 (solo_lost project limit octets.read octets.written 8 refl refl) legal ends.0.entries
  solo_is (HistoryFull entries kept) legal full ends =
      let filled = ends.0 in
      let mid : List Acts = acts project filled.before ++ filled.part in
      let is : asked ≡ mid = did mid act.Lost filled.entries in
      let legal_is : IsLegal project 1 limit (gone mid act.Lost) = subst (λ (xs : List Acts). IsLegal project 1 limit (gone xs act.Lost)) is legal in
      let all : AllAsk mid = ask-append (acts project filled.before) filled.part (blocks_ask project filled.before) (ask-front filled.part filled.missing (subst AllAsk filled.block_enters (block_asks project filled.block))) in
      let room = fits project limit mid act.Lost few all legal_is in
      let front : IsLegal project 1 limit (alone (act.Open ∷ mid)) = legal_prefix project 1 limit (alone (act.Open ∷ mid)) (alone (act.Lost ∷ []) ++ last_done ∷ []) (subst (IsLegal project 1 limit) (gone_begins mid act.Lost) legal_is) in
      let only = only_open project limit mid all front in
      let one = only.one in
      let none = only.none in
      let is_full : IsFull (record { project = project; workers = 1; limit = limit; entries = alone (act.Open ∷ mid) }) 0 (record { entries = entries; reserved = kept }) =
      subst (λ (xs : List Acts). IsFull (record { project = project; workers = 1; limit = limit; entries = alone (act.Open ∷ xs) }) 0 (record { entries = entries; reserved = kept })) is (full entries kept refl) in
      let size : length (alone (act.Open ∷ mid)) ≡ length (act.Open ∷ mid) = length-map (act.Open ∷ mid) (λ own. record { conn = 0; act = own }) in
      ap (λ (xs : List Acts). gone xs act.Lost) is
      ∙ solo_filled project limit octets.read octets.written filled.before filled.block filled.behind filled.part filled.missing filled.are filled.block_enters (omega (arith, room, is_full.no_room, one, none, size))

  -- where it went, if the history was full
  pub place_is : (how : ConnEnd) → TellsFull (record { project = project; workers = 1; limit = limit; entries = alone (act.Open ∷ asked) }) how → (served : Served project 1 limit (gone asked (last_of how)) 0 how octets) → TellsPlace how served
  place_is Closed full served = tt
  place_is (Truncated lines) full served = tt
  place_is ReadFault full served = tt
  place_is WriteFault full served = tt
  place_is TooLong full served = tt
  place_is BatchTooLong full served = tt
  place_is (HistoryFull entries kept) full served =
      let filled = served.ends.0 in
      let mid : List Acts = acts project filled.before ++ filled.part in
      let is : asked ≡ mid = did mid act.Lost filled.entries in
      let all : AllAsk asked = subst AllAsk (sym is) (ask-append (acts project filled.before) filled.part (blocks_ask project filled.before) (ask-front filled.part filled.missing (subst AllAsk filled.block_enters (block_asks project filled.block)))) in
      let is_full = full entries kept refl in
      let size : length (alone (act.Open ∷ asked)) ≡ length (act.Open ∷ asked) = length-map (act.Open ∷ asked) (λ own. record { conn = 0; act = own }) in
      let front : List Entry = take filled.place (gone asked act.Lost) in
      let there : length front ≡ length (act.Open ∷ asked) = lost_at (act.Open ∷ asked) (opens_stays, none_go asked all) front filled.others filled.lost_there in
      omega (arith, there, size, is_full.length_is, length-take filled.place (gone asked act.Lost), ap length filled.lost_there, length-append front (entry 0 act.Lost ∷ filled.others))
    where
      opens_stays : effect_of act.Open ≡ Goes → ⊥
      opens_stays e = cc
