-- The history of a connection that is served alone.
use Rattle.std.proofs.Common.{◌≡◌, ℕ, suc, ◌+◌, ◌-◌, ◌<◌, ◌≤◌, ◌==◌, ◌&&◌, true, false, cond, List, [], ◌∷◌, ◌++◌, length, take, Option, Some, refl, sym, ap, ◌∙◌, append_assoc, arith}
use Rattle.std.specs.Prelude.{nat_le}
use Rattle.std.proofs.lemmas.Bool.{le-leb}
use Rattle.std.proofs.lemmas.Bool.Decides.{nat_tests}
use Rattle.std.proofs.lemmas.Grind.{flat_map-append}
use Rattle.std.proofs.lemmas.List.{append-nil, map-append, take_all, take_at}
use Rattle.unit_registry.specs.declared.act.Act.{Act as Acts}
use Rattle.unit_registry.specs.declared.act.Act.TheVariants as act
use Rattle.unit_registry.specs.Projects.{ProjectView}
use Rattle.cody_batches.specs.Blocks.{taken}
use Rattle.histories.specs.declared.entry.Entry.{Entry}
use Rattle.histories.specs.Entries.{no_connection}
use Rattle.connection_core.specs.Asking.{Block, block_acts, acts}
use Rattle.connection_core.specs.Answers.{acts_of}
use Rattle.connection_core.specs.Alone.{alone, is_longer, own_answers, stopped_behind, entered_blocks, goes_by, solo}
use Rattle.connection_core.specs.Ends.{whole_course}
use Rattle.connection_core.proofs.Enterings.{acts-append}

-- what connection 0 has entered with these blocks
abbrev pub so_far : ProjectView → List Block → List Entry
so_far project entered = alone (act.Open ∷ acts project entered)

-- the end of the only worker
abbrev pub last_done : Entry
last_done = record { conn = no_connection; act = act.Done }

-- what connection 0 did, of those that are all its own
pub acts_alone : (course : List Acts) → acts_of 0 (alone course) ≡ course
acts_alone [] = refl
acts_alone (asked ∷ course) = ap (λ (xs : List Acts). asked ∷ xs) (acts_alone course)

pub alone-append : (first second : List Acts) → alone (first ++ second) ≡ alone first ++ alone second
alone-append first second = map-append (λ asked. record { conn = 0; act = asked }) first second

pub acts_behind : (project : ProjectView) (first second : List Block) → acts project (first ++ second) ≡ acts project first ++ acts project second
acts_behind project first second = flat_map-append (block_acts project) first second

-- Blocks behind others, of which none before the last one has answers longer than what was written, stop the list
-- there.
pub stops_behind : (project : ProjectView) (written : List ℕ) (before next rest : List Block) → ((n : ℕ) → n < length next → is_longer (own_answers project (before ++ take n next)) written ≡ false) → is_longer (own_answers project (before ++ next)) written ≡ true
    → stopped_behind project written before (next ++ rest) ≡ before ++ next
stops_behind project written before [] [] fronts longer = sym (append-nil before)
stops_behind project written before [] (block ∷ rest) fronts longer =
    ap (λ b. cond b before (stopped_behind project written (before ++ block ∷ []) rest)) (ap (λ (blocks : List Block). is_longer (own_answers project blocks) written) (sym (append-nil before)) ∙ longer) ∙ sym (append-nil before)
stops_behind project written before (block ∷ next) rest fronts longer =
    let whole : (before ++ block ∷ []) ++ next ≡ before ++ block ∷ next = append_assoc before (block ∷ []) next in
    ap (λ b. cond b before (stopped_behind project written (before ++ block ∷ []) (next ++ rest))) (ap (λ (blocks : List Block). is_longer (own_answers project blocks) written) (sym (append-nil before)) ∙ fronts 0 (omega arith))
    ∙ stops_behind project written (before ++ block ∷ []) next rest
    (λ n less. ap (λ (blocks : List Block). is_longer (own_answers project blocks) written) (append_assoc before (block ∷ []) (take n next)) ∙ fronts (suc n) (omega (arith, less)))
    (ap (λ (blocks : List Block). is_longer (own_answers project blocks) written) whole ∙ longer)
    ∙ whole

pub not_longer : (answer : Option (List ℕ)) (front written : List ℕ) → answer ≡ Some front → length front ≤ length written → is_longer answer written ≡ false
not_longer answer front written is few = ap (λ text. is_longer text written) is ∙ grind (arith, nat_tests)

pub is_more : (answer : Option (List ℕ)) (whole written : List ℕ) → answer ≡ Some whole → length written < length whole → is_longer answer written ≡ true
is_more answer whole written is more = ap (λ text. is_longer text written) is ∙ grind (arith, nat_tests)

-- the history of a connection that did this and went so, and of its worker
abbrev pub gone : List Acts → Acts → List Entry
gone asked last = alone (act.Open ∷ asked ++ last ∷ []) ++ last_done ∷ []

pub gone_course : (asked : List Acts) (last : Acts) → acts_of 0 (gone asked last) ≡ whole_course asked last
gone_course asked last = acts-append 0 (alone (act.Open ∷ asked ++ last ∷ [])) (last_done ∷ []) ∙ append-nil (acts_of 0 (alone (act.Open ∷ asked ++ last ∷ []))) ∙ acts_alone (act.Open ∷ asked ++ last ∷ [])

fits_all : (asked : List Acts) (limit : ℕ) → length asked + 3 ≤ limit → take (limit - 3) asked ≡ asked
fits_all asked limit fits = take_all (limit - 3) asked (omega (arith, fits))

pub solo_closed : (project : ProjectView) (limit : ℕ) (read written : List ℕ) → length (acts project (taken read)) + 3 ≤ limit → gone (acts project (taken read)) act.Left ≡ solo project limit read written 0
solo_closed project limit read written fits =
    let asked : List Acts = acts project (taken read) in
    let all : nat_le (length asked) (limit - 3) ≡ true = le-leb (length asked) (limit - 3) (omega (arith, fits)) in
    sym (ap (λ (front : List Acts). alone (act.Open ∷ front ++ goes_by 0 (nat_le (length asked) (limit - 3)) ∷ []) ++ last_done ∷ []) (fits_all asked limit fits)
    ∙ ap (λ b. alone (act.Open ∷ asked ++ goes_by 0 b ∷ []) ++ last_done ∷ []) all)

pub solo_lost : (project : ProjectView) (limit : ℕ) (read written : List ℕ) (status : ℕ) → (status == 5) ≡ false → (status == 0) ≡ false → length (acts project (taken read)) + 3 ≤ limit → gone (acts project (taken read)) act.Lost ≡ solo project limit read written status
solo_lost project limit read written status no_fault not_closed fits =
    let asked : List Acts = acts project (taken read) in
    let entered : entered_blocks project read written status ≡ taken read = ap (λ b. cond b (stopped_behind project written [] (taken read)) (taken read)) no_fault in
    sym (ap (λ (blocks : List Block). alone (act.Open ∷ take (limit - 3) (acts project blocks) ++ goes_by status (nat_le (length (acts project blocks)) (limit - 3)) ∷ []) ++ last_done ∷ []) entered
    ∙ ap (λ (front : List Acts). alone (act.Open ∷ front ++ goes_by status (nat_le (length asked) (limit - 3)) ∷ []) ++ last_done ∷ []) (fits_all asked limit fits)
    ∙ ap (λ b. alone (act.Open ∷ asked ++ cond (b && nat_le (length asked) (limit - 3)) act.Left act.Lost ∷ []) ++ last_done ∷ []) not_closed)

pub solo_stopped : (project : ProjectView) (limit : ℕ) (read written : List ℕ) (entered : List Block) → stopped_behind project written [] (taken read) ≡ entered → length (acts project entered) + 3 ≤ limit → gone (acts project entered) act.Lost ≡ solo project limit read written 5
solo_stopped project limit read written entered stopped fits =
    sym (ap (λ (blocks : List Block). alone (act.Open ∷ take (limit - 3) (acts project blocks) ++ act.Lost ∷ []) ++ last_done ∷ []) stopped
    ∙ ap (λ (front : List Acts). alone (act.Open ∷ front ++ act.Lost ∷ []) ++ last_done ∷ []) (fits_all (acts project entered) limit fits))

pub solo_filled : (project : ProjectView) (limit : ℕ) (read written : List ℕ) (before : List Block) (block : Block) (behind : List Block) (part missing : List Acts) → taken read ≡ before ++ block ∷ behind → block_acts project block ≡ part ++ missing → length (acts project before ++ part) + 3 ≡ limit
    → gone (acts project before ++ part) act.Lost ≡ solo project limit read written 9
solo_filled project limit read written before block behind part missing are parts full =
    let front : List Acts = acts project before ++ part in
    let asked : acts project (taken read) ≡ front ++ (missing ++ acts project behind) =
    ap (acts project) are ∙ acts_behind project before (block ∷ behind)
    ∙ ap (λ (own : List Acts). acts project before ++ (own ++ acts project behind)) parts
    ∙ ap (λ (own : List Acts). acts project before ++ own) (append_assoc part missing (acts project behind))
    ∙ sym (append_assoc (acts project before) part (missing ++ acts project behind)) in
    sym (ap (λ (all : List Acts). alone (act.Open ∷ take (limit - 3) all ++ act.Lost ∷ []) ++ last_done ∷ []) asked
    ∙ ap (λ (some : List Acts). alone (act.Open ∷ some ++ act.Lost ∷ []) ++ last_done ∷ []) (take_at front (missing ++ acts project behind) (limit - 3) (omega (arith, full))))
