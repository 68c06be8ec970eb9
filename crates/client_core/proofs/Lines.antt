-- The lines that count of octets that grow by a line.
use Rattle.std.proofs.Common.{◌≡◌, ◌≢◌, ℕ, ◌<◌, ◌≤◌, Bool, true, false, cond, List, [], ◌∷◌, ◌++◌, length, refl, sym, ap, subst, ◌∙◌, append_assoc, arith, All}
use Rattle.std.specs.Prelude.{filter}
use Rattle.std.specs.Bool.{MatchBool}
use Rattle.std.specs.List.{flat_map}
use Rattle.std.proofs.lemmas.List.{length-append, append-nil}
use Rattle.cody_words.specs.Octets.{newline}
use Rattle.cody_words.specs.Lines.{Meaning, Blank, Words, Malformed}
use Rattle.cody_words.specs.Meanings.{meaning, is_marked}
use Rattle.cody_batches.specs.declared.intake.Step.{Step}
use Rattle.cody_batches.specs.declared.intake.Step.TheVariants as step
use Rattle.cody_batches.specs.Blocks.{lines, counted_lines, blocks, begun_block, begun_line, has_long_block, is_blank, says_nothing}
use Rattle.cody_batches.specs.Feeding.{Standing as IntakeStanding, StandsAfter as IntakeStandsAfter, Answers, AnswersLine, words_of}
use Rattle.cody_batches.proofs.Cuts.{filter-append, lines-append, more_lines, not_blank}
use Rattle.cody_batches.proofs.Grows.{lines-push}
use Rattle.cody_batches.proofs.BlockLaws.{run_within, line_by_line, long_begins}

-- the line alone, where it counts
abbrev pub if_counted : List ℕ → List (List ℕ)
if_counted line = cond (is_blank line) [] (line ∷ [])

filter_one : (line : List ℕ) (b : Bool) → is_blank line ≡ b → filter not_blank (line ∷ []) ≡ cond b [] (line ∷ [])
filter_one line true e = rw e refl
filter_one line false e = rw e refl

pub counted_ended : (fed : List ℕ) → counted_lines (fed ++ newline ∷ []) ≡ counted_lines fed ++ if_counted (begun_line fed)
counted_ended fed =
    let more : lines (fed ++ newline ∷ []) ≡ lines fed ++ begun_line fed ∷ [] = lines-push fed 10 in
    ap (filter not_blank) more ∙ filter-append not_blank (lines fed) (begun_line fed ∷ []) ∙ ap (λ ls. counted_lines fed ++ ls) (filter_one (begun_line fed) (is_blank (begun_line fed)) refl)

pub counted_run : (fed run : List ℕ) → All (λ octet. octet ≢ newline) run → counted_lines (fed ++ run) ≡ counted_lines fed
counted_run fed run clean =
    let within = run_within fed run clean in
    (line_by_line (fed ++ run)).0 ∙ ap (λ (bs : List (List (List ℕ))). flat_map (λ (block : List (List ℕ)). block) bs ++ begun_block (fed ++ run)) within.0
    ∙ ap (λ (ls : List (List ℕ)). flat_map (λ (block : List (List ℕ)). block) (blocks fed) ++ ls) within.1 ∙ sym (line_by_line fed).0

-- more octets take no line back
pub counted_grow : (got more : List ℕ) → (others : List (List ℕ)) × (counted_lines (got ++ more) ≡ counted_lines got ++ others)
counted_grow got more = (filter not_blank (more_lines got more), ap (filter not_blank) (lines-append got more) ∙ filter-append not_blank (lines got) (more_lines got more))

begun_few : (octets : List ℕ) → length (begun_block octets) ≤ length (counted_lines octets)
begun_few octets = let both = (line_by_line octets).0 in omega (arith, ap length both, length-append (flat_map (λ (block : List (List ℕ)). block) (blocks octets)) (begun_block octets))

-- What an intake told of a line that ended.
pub record LineRead (got run : List ℕ) (intake : IntakeStanding) (answer : Step) : Type 0 where
  pub stands : IntakeStandsAfter intake (got ++ (run ++ newline ∷ []))
  pub fits : has_long_block (got ++ (run ++ newline ∷ [])) ≡ false
  pub line : List ℕ
  pub answers : AnswersLine (meaning line) (is_marked line) answer (words_of intake)
  pub counted : counted_lines (got ++ (run ++ newline ∷ [])) ≡ counted_lines got ++ if_counted line

stays_short : (got run : List ℕ) (b : Bool) → All (λ octet. octet ≢ newline) run → has_long_block got ≡ false → length (counted_lines got) < 1024 → has_long_block ((got ++ run) ++ newline ∷ []) ≡ b → b ≡ false
stays_short got run true clean fits few e =
    let within = run_within got run clean in
    let long = long_begins (got ++ run) newline (within.3 ∙ fits) e in
    absurd (omega (arith, ap length within.1, long.2, begun_few got, few))
stays_short got run false clean fits few e = refl

answered_by : (whole : List ℕ) (answer : Step) (words : List (List ℕ)) (b : Bool) → b ≡ false
    → MatchBool b (answer ≡ step.BatchTooLong) (AnswersLine (meaning (begun_line whole)) (is_marked (begun_line whole)) answer words) → AnswersLine (meaning (begun_line whole)) (is_marked (begun_line whole)) answer words
answered_by whole answer words true e h = absurd (let f : ⊥ = cc in f)
answered_by whole answer words false e h = h

-- what is told of a line that was fed, where the lines before it are few
pub line_read : (first mid last : IntakeStanding) (run : List ℕ) (answer : Step) → All (λ octet. octet ≢ newline) run
    → ((fed : List ℕ) → IntakeStandsAfter first fed → IntakeStandsAfter mid (fed ++ run))
    → ((fed : List ℕ) → IntakeStandsAfter mid fed → IntakeStandsAfter last (fed ++ newline ∷ []))
    → ((fed : List ℕ) → IntakeStandsAfter mid fed → Answers fed newline answer last)
    → (got : List ℕ) → IntakeStandsAfter first got → has_long_block got ≡ false → length (counted_lines got) < 1024 → LineRead got run last answer
line_read first mid last run answer clean ran stands answers got h fits few =
    let there : IntakeStandsAfter mid (got ++ run) = ran got h in
    let joined : (got ++ run) ++ newline ∷ [] ≡ got ++ (run ++ newline ∷ []) = append_assoc got run (newline ∷ []) in
    let short = stays_short got run _ clean fits few refl in
    record {
      stands = subst (λ o. IntakeStandsAfter last o) joined (stands (got ++ run) there);
      fits = ap has_long_block (sym joined) ∙ short;
      line = begun_line (got ++ run);
      answers = answered_by (got ++ run) answer (words_of last) (has_long_block ((got ++ run) ++ newline ∷ [])) short (answers (got ++ run) there);
      counted = ap counted_lines (sym joined) ∙ counted_ended (got ++ run) ∙ ap (λ ls. ls ++ if_counted (begun_line (got ++ run))) (counted_run got run clean);
    }

blank_by : (m : Meaning) (more : Bool) (answer : Step) (words : List (List ℕ)) → AnswersLine m more answer words → answer ≡ step.More → says_nothing m ≡ true
blank_by Blank more answer words a e = refl
blank_by (Words w) more answer words a e = let f : ⊥ = cc (a.0, e) in absurd f
blank_by (Malformed at reason) more answer words a e = let f : ⊥ = cc (a, e) in absurd f

some_by : (m : Meaning) (more : Bool) (answer : Step) (words : List (List ℕ)) → AnswersLine m more answer words → (answer ≡ step.More → ⊥) → says_nothing m ≡ false
some_by Blank more answer words a some = absurd (some a)
some_by (Words w) more answer words a some = refl
some_by (Malformed at reason) more answer words a some = refl

module _ (got run : List ℕ) (intake : IntakeStanding) (answer : Step) (read : LineRead got run intake answer) where
  -- a blank line doesn't count
  pub blank_read : answer ≡ step.More → counted_lines (got ++ (run ++ newline ∷ [])) ≡ counted_lines got
  blank_read e =
      let blank : is_blank read.line ≡ true = blank_by (meaning read.line) (is_marked read.line) answer (words_of intake) read.answers e in
      read.counted ∙ ap (λ b. counted_lines got ++ cond b [] (read.line ∷ [])) blank ∙ append-nil (counted_lines got)

  -- and another one does
  pub some_read : (answer ≡ step.More → ⊥) → counted_lines (got ++ (run ++ newline ∷ [])) ≡ counted_lines got ++ read.line ∷ []
  some_read counts =
      let some : is_blank read.line ≡ false = some_by (meaning read.line) (is_marked read.line) answer (words_of intake) read.answers counts in
      read.counted ∙ ap (λ b. counted_lines got ++ cond b [] (read.line ∷ [])) some
