-- What the end of a line does to what a reader of blocks keeps.
use Rattle.std.proofs.Common.{◌≡◌, ◌≢◌, ℕ, ◌+◌, ◌<◌, ◌≤◌, Bool, true, false, not, List, [], ◌∷◌, ◌++◌, length, refl, sym, ap, subst, ◌∙◌, append_assoc, arith, All}
use Rattle.std.specs.Prelude.{nat_lt}
use Rattle.std.specs.Bool.{MatchBool}
use Rattle.std.proofs.lemmas.List.{length-append, length_push, length-map, map-append}
use Rattle.cody_words.specs.Octets.{newline}
use Rattle.cody_words.specs.declared.reason.Reason.TheVariants.{LineTooLong}
use Rattle.cody_words.specs.Lines.{Meaning, Blank, Words, Malformed as MalformedLine, Says, BodySays, longest_line}
use Rattle.cody_words.specs.Meanings.{meaning, is_marked}
use Rattle.cody_words.proofs.Means.{says_meaning}
use Rattle.cody_batches.specs.declared.intake.Step.{Step}
use Rattle.cody_batches.specs.declared.intake.Step.TheVariants as step
use Rattle.cody_batches.specs.Blocks.{blocks, begun_block, begun_line, has_long_block, is_blank, says_nothing}
use Rattle.cody_batches.specs.Feeding.{Standing as IntakeStanding, StandsAfter as IntakeStandsAfter, Answers, AnswersLine, words_of}
use Rattle.cody_batches.proofs.BlockLaws.{run_within, blank_line_ends, line_ends-marked, line_ends-unmarked, few_lines, long_begins-always}
use Rattle.unit_registry.specs.Projects.{ProjectView}
use Rattle.connection_core.specs.declared.asked.Asked.{Asked}
use Rattle.connection_core.specs.declared.asked.Note.{Note}
use Rattle.connection_core.specs.declared.asked.Note.TheVariants as note
use Rattle.connection_core.specs.declared.block_reader.Stage.{Stage}
use Rattle.connection_core.specs.declared.block_reader.Stage.TheVariants as stage
use Rattle.connection_core.specs.Asking.{Block, asked_by, asked_in, asked_of}
use Rattle.connection_core.specs.Standing.{ReaderState, ReaderStands, Keeps, Reads}
use Rattle.connection_core.specs.Working.{note_of, HasWords}

-- ---- a line of words has words

some_length : (words : List (List ℕ)) → words ≢ [] → 0 < length words
some_length [] ne = absurd (ne refl)
some_length (word ∷ words) ne = omega arith

no_words : (words : List (List ℕ)) → Words words ≡ MalformedLine longest_line LineTooLong → ⊥
no_words words e = let f : ⊥ = cc in f

words_said : (words : List (List ℕ)) (body : List ℕ) (b : Bool) → MatchBool b (Words words ≡ MalformedLine longest_line LineTooLong) (BodySays body (Words words)) → 0 < length words
words_said words body true h = absurd (no_words words h)
words_said words body false h = some_length words h.0

words_some : (line : List ℕ) (words : List (List ℕ)) → meaning line ≡ Words words → 0 < length words
words_some line words e =
    let says : Says line (Words words) (is_marked line) = subst (λ m. Says line m (is_marked line)) e (says_meaning line) in
    words_said words says.body (nat_lt longest_line (length line)) says.says

has_words_said : (whole : List ℕ) (answer : Step) (words : List (List ℕ)) (m : Meaning) → meaning (begun_line whole) ≡ m → AnswersLine m (is_marked (begun_line whole)) answer words → HasWords answer words
has_words_said whole answer words Blank e a = subst (λ t. HasWords t words) (sym a) tt
has_words_said whole answer words (Words w) e a = subst (λ t. HasWords t words) (sym a.0) (subst (λ (ws : List (List ℕ)). 0 < length ws) (sym a.1) (words_some (begun_line whole) w e))
has_words_said whole answer words (MalformedLine at reason) e a = subst (λ t. HasWords t words) (sym a) tt

has_words_by : (whole : List ℕ) (answer : Step) (words : List (List ℕ)) (b : Bool)
    → MatchBool b (answer ≡ step.BatchTooLong) (AnswersLine (meaning (begun_line whole)) (is_marked (begun_line whole)) answer words) → HasWords answer words
has_words_by whole answer words true a = subst (λ t. HasWords t words) (sym a) tt
has_words_by whole answer words false a = has_words_said whole answer words (meaning (begun_line whole)) refl a

pub has_words : (whole : List ℕ) (answer : Step) (now : IntakeStanding) (words : List (List ℕ)) → words ≡ words_of now → Answers whole newline answer now → HasWords answer words
has_words whole answer now words e a = subst (λ (ws : List (List ℕ)). HasWords answer ws) (sym e) (has_words_by whole answer (words_of now) (has_long_block (whole ++ newline ∷ [])) a)

-- ---- the end of a line

-- a line ended, behind octets after which a reader stood that reads
pub record LineEnds (s : ReaderState) (project : ProjectView) (fed run : List ℕ) (intake : IntakeStanding) (answer : Step) : Type 0 where
  pub before : ReaderStands s project fed
  pub reading : s.stage ≡ stage.Reading
  pub clean : All (λ octet. octet ≢ newline) run
  pub intake_stands : IntakeStandsAfter intake ((fed ++ run) ++ newline ∷ [])
  pub answers : Answers (fed ++ run) newline answer intake

-- what the intake answered, by what the line is
pub data Ended (project : ProjectView) (whole : List ℕ) (answer : Step) (words : List (List ℕ)) : Type 0 where
  over : has_long_block (whole ++ newline ∷ []) ≡ true → note_of project answer words ≡ note.TooMany → Ended project whole answer words
  blank : has_long_block (whole ++ newline ∷ []) ≡ false → is_blank (begun_line whole) ≡ true → note_of project answer words ≡ note.Nothing → Ended project whole answer words
  one : has_long_block (whole ++ newline ∷ []) ≡ false → is_blank (begun_line whole) ≡ false
      → note_of project answer words ≡ note.Line (asked_by project (begun_line whole)) (not (is_marked (begun_line whole))) → Ended project whole answer words

note_at : ProjectView → Meaning → Bool → Note
note_at project m b = note.Line (asked_in project m) (not b)

said : (project : ProjectView) (whole : List ℕ) (answer : Step) (words : List (List ℕ)) (m : Meaning) → meaning (begun_line whole) ≡ m → has_long_block (whole ++ newline ∷ []) ≡ false
    → AnswersLine m (is_marked (begun_line whole)) answer words → Ended project whole answer words
unfolding note_at
said project whole answer words Blank e long a = blank long (ap says_nothing e) (ap (λ t. note_of project t words) a)
said project whole answer words (Words w) e long a =
    one long (ap says_nothing e) (ap (λ t. note_of project t words) a.0 ∙ ap (λ (w : List (List ℕ)). note_of project (step.Message (not (is_marked (begun_line whole)))) w) a.1 ∙ ap (λ m. note_at project m (is_marked (begun_line whole))) (sym e))
said project whole answer words (MalformedLine at reason) e long a =
    one long (ap says_nothing e) (ap (λ t. note_of project t words) a ∙ ap (λ m. note_at project m (is_marked (begun_line whole))) (sym e))

ended_by : (project : ProjectView) (whole : List ℕ) (answer : Step) (words : List (List ℕ)) (b : Bool) → has_long_block (whole ++ newline ∷ []) ≡ b
    → MatchBool b (answer ≡ step.BatchTooLong) (AnswersLine (meaning (begun_line whole)) (is_marked (begun_line whole)) answer words) → Ended project whole answer words
ended_by project whole answer words true e a = over e (ap (λ t. note_of project t words) a)
ended_by project whole answer words false e a = said project whole answer words (meaning (begun_line whole)) refl e a

ended_so : (project : ProjectView) (whole : List ℕ) (answer : Step) (now : IntakeStanding) → Answers whole newline answer now → Ended project whole answer (words_of now)
ended_so project whole answer now a = ended_by project whole answer (words_of now) (has_long_block (whole ++ newline ∷ [])) refl a

-- what reading keeps, where the stage is known
pub reads_of : (s : ReaderState) (project : ProjectView) (fed : List ℕ) → s.stage ≡ stage.Reading → ReaderStands s project fed → Reads s project fed
reads_of s project fed e h = subst (λ t. Keeps t s project fed) e h.keeps

-- the reader behind a line
abbrev pub with_line : ReaderState → IntakeStanding → List ℕ → List Asked → Stage → ReaderState
with_line s intake run asked at = record { intake = intake; taken = s.taken + (length run + 1); asked = asked; stage = at }

not_marked : (b last : Bool) → not b ≡ last → b ≡ not last
not_marked true last e = ap not e
not_marked false last e = ap not e

module _ (s : ReaderState) (project : ProjectView) (fed run : List ℕ) (intake : IntakeStanding) (answer : Step) (h : LineEnds s project fed run intake answer) where
  ended : Ended project (fed ++ run) answer (words_of intake)
  ended = ended_so project (fed ++ run) answer intake h.answers

  count_is : s.taken + (length run + 1) ≡ length ((fed ++ run) ++ newline ∷ [])
  count_is = omega (arith, h.before.count, length-append fed run, length_push (fed ++ run) newline)

  reads : Reads s project fed
  reads = reads_of s project fed h.reading h.before

  blocks_within : blocks (fed ++ run) ≡ blocks fed
  blocks_within = (run_within fed run h.clean).0

  block_within : begun_block (fed ++ run) ≡ begun_block fed
  block_within = (run_within fed run h.clean).1

  fits_within : has_long_block (fed ++ run) ≡ false
  fits_within = (run_within fed run h.clean).3 ∙ h.before.fits

  stands_reading : (asked : List Asked) (at : Stage) → at ≡ stage.Reading → has_long_block ((fed ++ run) ++ newline ∷ []) ≡ false
      → asked ≡ asked_of project (begun_block ((fed ++ run) ++ newline ∷ []))
      → ReaderStands (with_line s intake run asked at) project ((fed ++ run) ++ newline ∷ [])
  stands_reading asked at e long kept = record {
    intake = h.intake_stands;
    fits = long;
    count = count_is;
    keeps = subst (λ t. Keeps t (with_line s intake run asked at) project ((fed ++ run) ++ newline ∷ [])) (sym e) (record { kept = kept });
  }

  -- a blank line
  pub nothing_stands : note_of project answer (words_of intake) ≡ note.Nothing
      → ReaderStands (with_line s intake run s.asked s.stage) project ((fed ++ run) ++ newline ∷ []) × (blocks ((fed ++ run) ++ newline ∷ []) ≡ blocks fed)
  nothing_stands e = elim ended [
    | Ended.over long n ↦ absurd (cc (n, e))
    | Ended.blank long empty n ↦
        let law = blank_line_ends (fed ++ run) empty in
        let same : blocks ((fed ++ run) ++ newline ∷ []) ≡ blocks fed = law.0 ∙ blocks_within in
        (stands_reading s.asked s.stage h.reading long (reads.kept ∙ ap (asked_of project) (sym (law.1 ∙ block_within))), same)
    | Ended.one long some n ↦ absurd (cc (n, e))
  ]

  -- what is kept of the block with its newest line
  kept_with : (asked : Asked) → asked_by project (begun_line (fed ++ run)) ≡ asked
      → s.asked ++ asked ∷ [] ≡ asked_of project (begun_block (fed ++ run) ++ begun_line (fed ++ run) ∷ [])
  kept_with asked said_so =
      ap (λ (xs : List Asked). xs ++ asked ∷ []) (reads.kept ∙ ap (asked_of project) (sym block_within))
      ∙ ap (λ (x : Asked). asked_of project (begun_block (fed ++ run)) ++ x ∷ []) (sym said_so)
      ∙ sym (map-append (asked_by project) (begun_block (fed ++ run)) (begun_line (fed ++ run) ∷ []))

  -- a line whose block goes on
  pub line_stands : (asked : Asked) (after : List Asked) → after ≡ s.asked ++ asked ∷ [] → note_of project answer (words_of intake) ≡ note.Line asked false
      → ReaderStands (with_line s intake run after s.stage) project ((fed ++ run) ++ newline ∷ []) × (blocks ((fed ++ run) ++ newline ∷ []) ≡ blocks fed)
  line_stands asked after pushed e = elim ended [
    | Ended.over long n ↦ absurd (cc (n, e))
    | Ended.blank long empty n ↦ absurd (cc (n, e))
    | Ended.one long some n ↦
        let said_so : asked_by project (begun_line (fed ++ run)) ≡ asked = cc (n, e) in
        let last : not (is_marked (begun_line (fed ++ run))) ≡ false = cc (n, e) in
        let law = line_ends-marked (fed ++ run) some (not_marked (is_marked (begun_line (fed ++ run))) false last) in
        let same : blocks ((fed ++ run) ++ newline ∷ []) ≡ blocks fed = law.0 ∙ blocks_within in
        (stands_reading after s.stage h.reading long (pushed ∙ kept_with asked said_so ∙ ap (asked_of project) (sym law.1)), same)
  ]

  -- the last line of a block
  pub block_stands : (asked : Asked) (after : List Asked) → after ≡ s.asked ++ asked ∷ [] → note_of project answer (words_of intake) ≡ note.Line asked true
      → ReaderStands (with_line s intake run after stage.Waiting) project ((fed ++ run) ++ newline ∷ [])
      × ((block : Block) × (blocks ((fed ++ run) ++ newline ∷ []) ≡ blocks fed ++ block ∷ []) × (after ≡ asked_of project block))
  block_stands asked after pushed e = elim ended [
    | Ended.over long n ↦ absurd (cc (n, e))
    | Ended.blank long empty n ↦ absurd (cc (n, e))
    | Ended.one long some n ↦
        let said_so : asked_by project (begun_line (fed ++ run)) ≡ asked = cc (n, e) in
        let last : not (is_marked (begun_line (fed ++ run))) ≡ true = cc (n, e) in
        let law = line_ends-unmarked (fed ++ run) some (not_marked (is_marked (begun_line (fed ++ run))) true last) in
        let block : Block = begun_block (fed ++ run) ++ begun_line (fed ++ run) ∷ [] in
        let one_more : blocks ((fed ++ run) ++ newline ∷ []) ≡ blocks fed ++ block ∷ [] = law.0 ∙ ap (λ (bs : List Block). bs ++ block ∷ []) blocks_within in
        let kept : after ≡ asked_of project block = pushed ∙ kept_with asked said_so in (
          record {
            intake = h.intake_stands;
            fits = long;
            count = count_is;
            keeps = record { earlier = blocks fed; block = block; whole = one_more; nothing_begun = law.1; kept = kept };
          },
          (block, one_more, kept),
        )
  ]

  -- a line too many
  pub over_stands : note_of project answer (words_of intake) ≡ note.TooMany → has_long_block ((fed ++ run) ++ newline ∷ []) ≡ true
  over_stands e = elim ended [
    | Ended.over long n ↦ long
    | Ended.blank long empty n ↦ absurd (cc (n, e))
    | Ended.one long some n ↦ absurd (cc (n, e))
  ]

  -- there is room for one line more, since the block has not too many
  pub line_has_room : (asked : Asked) (last : Bool) → note_of project answer (words_of intake) ≡ note.Line asked last → length s.asked < 1024
  line_has_room asked last e = elim ended [
    | Ended.over long n ↦ absurd (cc (n, e))
    | Ended.blank long empty n ↦ absurd (cc (n, e))
    | Ended.one long some n ↦ below (length s.asked) (length (begun_block (fed ++ run))) (ap length reads.kept ∙ length-map (begun_block fed) (asked_by project) ∙ ap length (sym block_within)) (few_lines (fed ++ run) fits_within).1 (λ full. absurd (cc (long_begins-always (fed ++ run) some full, long)))
  ]
    where
      below : (a b : ℕ) → a ≡ b → b ≤ 1024 → (b ≡ 1024 → ⊥) → a < 1024
      below a b e le ne = omega arith

-- what a reader keeps and what the intake promised make the premises above
pub line_ended : (s : ReaderState) (run : List ℕ) (first last : IntakeStanding) (answer : Step) → s.stage ≡ stage.Reading → All (λ octet. octet ≢ newline) run
    → ((fed : List ℕ) → IntakeStandsAfter s.intake fed → IntakeStandsAfter first (fed ++ run))
    → ((fed : List ℕ) → IntakeStandsAfter first fed → IntakeStandsAfter last (fed ++ newline ∷ []))
    → ((fed : List ℕ) → IntakeStandsAfter first fed → Answers fed newline answer last)
    → (project : ProjectView) (fed : List ℕ) → ReaderStands s project fed → LineEnds s project fed run last answer
line_ended s run first last answer reading clean ran stands answers project fed h =
    let there : IntakeStandsAfter first (fed ++ run) = ran fed h.intake in
    record { before = h; reading = reading; clean = clean; intake_stands = stands (fed ++ run) there; answers = answers (fed ++ run) there }

-- the octets of a line, one behind the other
pub joined : (fed run : List ℕ) → (fed ++ run) ++ newline ∷ [] ≡ fed ++ (run ++ newline ∷ [])
joined fed run = append_assoc fed run (newline ∷ [])

-- the note of a line
pub noted : (project : ProjectView) (answer : Step) (words words' : List (List ℕ)) (found found' : Note) → words' ≡ words → found ≡ note_of project answer words' → found ≡ found' → note_of project answer words ≡ found'
noted project answer words words' found found' w n e = ap (note_of project answer) (sym w) ∙ sym n ∙ e

pub moved : {s : ReaderState} {project : ProjectView} {octets other : List ℕ} → octets ≡ other → ReaderStands s project octets → ReaderStands s project other
moved {s} {project} {octets} {other} e h = subst (λ o. ReaderStands s project o) e h
