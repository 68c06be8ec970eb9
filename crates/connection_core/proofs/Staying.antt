-- What stays of a connection's answers and of how it was served, whatever is entered after them.
use Rattle.std.proofs.Common.{◌≡◌, ℕ, suc, ◌+◌, ◌≤◌, ◌==◌, ◌&&◌, Bool, true, false, cond, List, [], ◌∷◌, ◌++◌, length, take, Option, Some, refl, sym, ap, subst, ◌∙◌, append_assoc, arith}
use Rattle.std.proofs.lemmas.Bool.{or_parts}
use Rattle.std.proofs.lemmas.Grind.{flat_map-append}
use Rattle.std.proofs.lemmas.List.{append-nil, length-append, length-map, length-take, take-append-le}
use Rattle.std.specs.List.{list_any}
use Rattle.cody_words.specs.Lines.{Meaning, Blank, Words, Malformed as MalformedLine}
use Rattle.cody_words.specs.Meanings.{meaning}
use Rattle.mm_outside.specs.Octets.{Octets}
use Rattle.mapper_requests.specs.declared.request.Bad.TheVariants.{UnknownVerb}
use Rattle.mapper_requests.specs.Asked as line_asked
use Rattle.mapper_requests.specs.Requests.{request}
use Rattle.unit_registry.specs.declared.act.Act.{Act as Acts}
use Rattle.unit_registry.specs.declared.act.Act.TheVariants as act
use Rattle.unit_registry.specs.Acts.{act as act_by}
use Rattle.unit_registry.specs.Projects.{ProjectView}
use Rattle.histories.specs.declared.entry.Entry.{Entry}
use Rattle.cody_batches.specs.Blocks.{taken}
use Rattle.histories.specs.Answered.{reserved}
use Rattle.histories.specs.Histories.{reply, answered_in}
use Rattle.histories.proofs.Stay.{replies_stay}
use Rattle.connection_core.specs.declared.asked.Asked.{Asked}
use Rattle.connection_core.specs.declared.asked.Asked.TheVariants.{Act}
use Rattle.connection_core.specs.declared.conn_end.ConnEnd.{ConnEnd}
use Rattle.connection_core.specs.declared.conn_end.ConnEnd.TheVariants.{Closed, Truncated, ReadFault, WriteFault, TooLong, BatchTooLong, HistoryFull}
use Rattle.connection_core.specs.Asking.{Block, asked_in, asked_by, asked_of, is_malformed, is_refused, requests_of, block_acts, acts}
use Rattle.connection_core.specs.Answers.{acts_of, is_request, request_places, block_answer, request_count, all_requests, joined, answers_at, answers}
use Rattle.connection_core.specs.Ends.{Whole, Stopped, Filled, AllRead, Ends, Served}
use Rattle.connection_core.proofs.Answering.{answers-spare, answers_enough, answers-push, answers-stay}
use Rattle.connection_core.proofs.Enterings.{acts-append, places-append}

-- ---- answers

places_behind : (conn : ℕ) (first second : List Entry) → request_places 0 conn (first ++ second) ≡ request_places 0 conn first ++ request_places (length first) conn second
places_behind conn first second = places-append conn 0 first second ∙ ap (λ n. request_places 0 conn first ++ request_places n conn second) (omega arith)

-- answers to blocks that are all there stay, whoever enters more
pub answers_later : (project : ProjectView) (workers : ℕ) (history more : List Entry) (conn : ℕ) (blocks : List Block) (text : List ℕ) → answers project workers history conn blocks ≡ Some text → answers project workers (history ++ more) conn blocks ≡ Some text
answers_later project workers history more conn blocks text come =
    ap (answers_at project (reply project workers (history ++ more)) blocks) (places_behind conn history more)
    ∙ answers-spare project (reply project workers (history ++ more)) blocks (request_places 0 conn history) (request_places (length history) conn more) (answers_enough project (reply project workers history) blocks (request_places 0 conn history) text come)
    ∙ answers-stay (reply project workers history) (reply project workers (history ++ more)) (replies_stay project workers history more) project blocks (request_places 0 conn history) text come

-- ---- how many requests a connection has made

-- how many of the acts are requests
abbrev requests_among : List Acts → ℕ
requests_among [] = 0
requests_among (asked ∷ rest) = cond (is_request asked) (suc (requests_among rest)) (requests_among rest)

among-append : (first second : List Acts) → requests_among (first ++ second) ≡ requests_among first + requests_among second
among-append [] second = omega arith
among-append (asked ∷ first) second = by (is_request asked) (among-append first second)
  where
    by : (b : Bool) → requests_among (first ++ second) ≡ requests_among first + requests_among second
        → cond b (suc (requests_among (first ++ second))) (requests_among (first ++ second)) ≡ cond b (suc (requests_among first)) (requests_among first) + requests_among second
    by true h = omega (arith, h)
    by false h = h

-- as many places as requests
pub places_among : (conn at : ℕ) (history : List Entry) → length (request_places at conn history) ≡ requests_among (acts_of conn history)
places_among conn at [] = refl
places_among conn at (e ∷ history) = by (e.conn == conn) (is_request e.act) (places_among conn (at + 1) history) ∙ sym (first_one (e.conn == conn))
  where
    by : (own asks : Bool) → length (request_places (at + 1) conn history) ≡ requests_among (acts_of conn history)
        → length (cond (own && asks) (at ∷ request_places (at + 1) conn history) (request_places (at + 1) conn history))
        ≡ cond own (cond asks (suc (requests_among (acts_of conn history))) (requests_among (acts_of conn history))) (requests_among (acts_of conn history))
    by false asks h = h
    by true true h = ap suc h
    by true false h = h

    first_one : (own : Bool) → requests_among (cond own (e.act ∷ acts_of conn history) (acts_of conn history))
        ≡ cond own (cond (is_request e.act) (suc (requests_among (acts_of conn history))) (requests_among (acts_of conn history))) (requests_among (acts_of conn history))
    first_one true = refl
    first_one false = refl

-- each line that isn't malformed asks a request
request_asked : (project : ProjectView) (asked : line_asked.Asked) (stored : Bool) → is_request (act_by project asked stored) ≡ true
request_asked project (line_asked.Hello version compiler ident) stored = refl
request_asked project line_asked.Repo stored = refl
request_asked project (line_asked.Export name flags) stored = refl
request_asked project (line_asked.Import name flags) stored = refl
request_asked project (line_asked.Compiled name flags) stored = refl
request_asked project (line_asked.Translate name flags) stored = refl
request_asked project (line_asked.Bad why) stored = refl

requests_in : (project : ProjectView) (said : Meaning) → is_malformed (asked_in project said) ≡ false → (asked : Acts) × (asked_in project said ≡ Act asked) × (is_request asked ≡ true)
requests_in project Blank good = (act.Bad UnknownVerb, refl, refl)
requests_in project (Words words) good = (act_by project (request words) false, refl, request_asked project (request words) false)
requests_in project (MalformedLine place reason) good = absurd cc

requests_from : (project : ProjectView) (block : Block) → list_any is_malformed (asked_of project block) ≡ false → requests_among (requests_of (asked_of project block)) ≡ length block
requests_from project [] good = refl
requests_from project (text ∷ block) good =
    let parts = or_parts (is_malformed (asked_by project text)) (list_any is_malformed (asked_of project block)) good in
    let found = requests_in project (meaning text) parts.0 in
    ap (λ (asked : Asked). requests_among (requests_of (asked ∷ asked_of project block))) found.1
    ∙ ap (λ b. cond b (suc (requests_among (requests_of (asked_of project block)))) (requests_among (requests_of (asked_of project block)))) found.2
    ∙ ap suc (requests_from project block parts.1)

-- a block enters as many requests as it has lines, and none where it is refused
block_requests : (project : ProjectView) (block : Block) → requests_among (block_acts project block) ≡ request_count (asked_of project block)
block_requests project block = by (is_refused (asked_of project block)) refl
  where
    good : is_refused (asked_of project block) ≡ false → requests_among (requests_of (asked_of project block) ++ act.Pause ∷ []) ≡ length (asked_of project block)
    good is =
        among-append (requests_of (asked_of project block)) (act.Pause ∷ []) ∙ omega (arith, requests_from project block is, length-map block (asked_by project))

    by : (b : Bool) → is_refused (asked_of project block) ≡ b → requests_among (block_acts project block) ≡ request_count (asked_of project block)
    by true is = ap (λ b. requests_among (cond b [] (requests_of (asked_of project block) ++ act.Pause ∷ []))) is ∙ sym (ap (λ b. cond b 0 (length (asked_of project block))) is)
    by false is = ap (λ b. requests_among (cond b [] (requests_of (asked_of project block) ++ act.Pause ∷ []))) is ∙ good is ∙ sym (ap (λ b. cond b 0 (length (asked_of project block))) is)

course_requests : (project : ProjectView) (entered : List Block) → requests_among (acts project entered) ≡ all_requests project entered
course_requests project [] = refl
course_requests project (block ∷ entered) =
    among-append (block_acts project block) (acts project entered)
    ∙ ap (λ n. n + requests_among (acts project entered)) (block_requests project block)
    ∙ ap (λ n. request_count (asked_of project block) + n) (course_requests project entered)

-- a connection that opened and entered these blocks has made their requests
pub course_places : (project : ProjectView) (history : List Entry) (conn : ℕ) (entered : List Block) → acts_of conn history ≡ act.Open ∷ acts project entered → length (request_places 0 conn history) ≡ all_requests project entered
course_places project history conn entered did = places_among conn 0 history ∙ ap requests_among did ∙ course_requests project entered

-- ---- one block more

-- what it did with one block more
pub course_goes_on : (project : ProjectView) (history since : List Entry) (conn : ℕ) (entered : List Block) (block : Block) → acts_of conn history ≡ act.Open ∷ acts project entered → acts_of conn since ≡ block_acts project block
    → acts_of conn (history ++ since) ≡ act.Open ∷ acts project (entered ++ block ∷ [])
course_goes_on project history since conn entered block did more =
    acts-append conn history since ∙ ap (λ (xs : List Acts). xs ++ acts_of conn since) did
    ∙ ap (λ (xs : List Acts). act.Open ∷ (acts project entered ++ xs)) (more ∙ sym (append-nil (block_acts project block)))
    ∙ ap (λ (xs : List Acts). act.Open ∷ xs) (sym (flat_map-append (block_acts project) entered (block ∷ [])))

-- the answers with one block more, whose requests stand at these places
pub answers_go_on : (project : ProjectView) (workers : ℕ) (history since : List Entry) (conn : ℕ) (entered : List Block) (block : Block) (requested text next : List ℕ) → acts_of conn history ≡ act.Open ∷ acts project entered
    → answers project workers history conn entered ≡ Some text → request_places (length history) conn since ≡ requested
    → block_answer project (reply project workers (history ++ since)) (asked_of project block) requested ≡ Some next
    → answers project workers (history ++ since) conn (entered ++ block ∷ []) ≡ Some (text ++ next)
answers_go_on project workers history since conn entered block requested text next did come requests due =
    ap (answers_at project (reply project workers (history ++ since)) (entered ++ block ∷ [])) (places_behind conn history since)
    ∙ ap (λ (places : List ℕ). answers_at project (reply project workers (history ++ since)) (entered ++ block ∷ []) (request_places 0 conn history ++ places)) requests
    ∙ answers-push project (reply project workers (history ++ since)) entered block (request_places 0 conn history) requested (course_places project history conn entered did)
    ∙ ap (λ (answer : Option (List ℕ)). joined answer (block_answer project (reply project workers (history ++ since)) (asked_of project block) requested))
    (answers-stay (reply project workers history) (reply project workers (history ++ since)) (replies_stay project workers history since) project entered (request_places 0 conn history) text come)
    ∙ ap (joined (Some text)) due

-- ---- how a connection was served

module _ (project : ProjectView) (workers limit : ℕ) (history more : List Entry) (conn : ℕ) (apart : acts_of conn more ≡ []) where
  entries_stay : acts_of conn (history ++ more) ≡ acts_of conn history
  entries_stay = acts-append conn history more ∙ ap (λ (xs : List Acts). acts_of conn history ++ xs) apart ∙ append-nil (acts_of conn history)

  whole_stays : (entered : List Block) (last : Acts) (written : List ℕ) → Whole project workers limit history conn entered last written → Whole project workers limit (history ++ more) conn entered last written
  whole_stays entered going written h = record {
    entries = entries_stay ∙ h.entries;
    answered = answers_later project workers history more conn entered written h.answered;
  }

  stopped_stays : (all : List Block) (written : List ℕ) → Stopped project workers limit history conn all written → Stopped project workers limit (history ++ more) conn all written
  stopped_stays all written h = record {
    count = h.count;
    within = h.within;
    entries = entries_stay ∙ h.entries;
    text = h.text;
    answered = answers_later project workers history more conn (take h.count all) h.text h.answered;
    part = h.part;
    least = λ fewer below. let front = h.least fewer below in (front.0, answers_later project workers history more conn (take fewer all) front.0 front.1, front.2);
  }

  filled_stays : (all : List Block) (written : List ℕ) → Filled project workers limit history conn all written → Filled project workers limit (history ++ more) conn all written
  filled_stays all written h =
      let lost : Entry = record { conn = conn; act = act.Lost } in
      let within : h.place ≤ length history = omega (arith, ap length h.lost_there, length-append (take h.place history) (lost ∷ h.others), length-take h.place history) in
      let front : take h.place (history ++ more) ≡ take h.place history = take-append-le h.place history more within in
      record {
        before = h.before;
        block = h.block;
        behind = h.behind;
        are = h.are;
        part = h.part;
        missing = h.missing;
        block_enters = h.block_enters;
        proper = h.proper;
        entries = entries_stay ∙ h.entries;
        answered = answers_later project workers history more conn h.before written h.answered;
        place = h.place;
        others = h.others ++ more;
        lost_there = ap (λ (es : List Entry). es ++ more) h.lost_there ∙ append_assoc (take h.place history) (lost ∷ h.others) more ∙ ap (λ (es : List Entry). es ++ lost ∷ (h.others ++ more)) (sym front);
        full = subst (λ (es : List Entry). h.place + reserved workers (answered_in project workers es) ≡ limit) (sym front) h.full;
      }

  read_stays : (link : Octets) → AllRead project workers limit history conn link → AllRead project workers limit (history ++ more) conn link
  read_stays link h = record { over = h.over; within = h.within }

  ends_stay : (how : ConnEnd) (link : Octets) → Ends project workers limit history conn how link → Ends project workers limit (history ++ more) conn how link
  ends_stay Closed link h = (whole_stays (taken link.read) act.Left link.written h.0, read_stays link h.1, h.2)
  ends_stay (Truncated lines) link h = (whole_stays (taken link.read) act.Lost link.written h.0, read_stays link h.1, h.2, h.3)
  ends_stay ReadFault link h = whole_stays (taken link.read) act.Lost link.written h
  ends_stay WriteFault link h = stopped_stays (taken link.read) link.written h
  ends_stay TooLong link h = (whole_stays (taken link.read) act.Lost link.written h.0, h.1, h.2)
  ends_stay BatchTooLong link h = (whole_stays (taken link.read) act.Lost link.written h.0, h.1)
  ends_stay (HistoryFull entries kept) link h = (filled_stays (taken link.read) link.written h.0, h.1)

  -- a connection that does nothing more stays served as it was
  pub served_later : (how : ConnEnd) (link : Octets) → Served project workers limit history conn how link → Served project workers limit (history ++ more) conn how link
  served_later how link h = record { ends = ends_stay how link h.ends; limits = h.limits }
