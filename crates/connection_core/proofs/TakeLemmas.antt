-- What a reader of blocks takes of a piece.
use Rattle.std.proofs.Common.{◌≡◌, ◌≢◌, ℕ, ◌+◌, ◌-◌, ◌<◌, ◌≤◌, true, List, [], ◌∷◌, ◌++◌, length, take, drop, refl, sym, ap, subst, ◌∙◌, append_assoc, arith, All}
use Rattle.std.proofs.lemmas.List.{length-append, length_push, append-nil, length-take, take-append-drop, take-append-le}
use Rattle.std.proofs.Math.Seq.{take-add}
use Rattle.cody_words.specs.Octets.{newline}
use Rattle.cody_batches.specs.Blocks.{blocks, has_long_block, most_octets, taken}
use Rattle.cody_batches.specs.Feeding.{Standing as IntakeStanding, StandsAfter as IntakeStandsAfter}
use Rattle.cody_batches.proofs.BlockLaws.{run_within}
use Rattle.cody_batches.proofs.Cuts.{blocks_grow}
use Rattle.cody_batches.proofs.LimitLaws.{taken_at_octets_limit, taken_at_lines_limit}
use Rattle.connection_core.specs.declared.block_reader.Stage.{Stage}
use Rattle.connection_core.specs.declared.block_reader.Stage.TheVariants as stage
use Rattle.unit_registry.specs.Projects.{ProjectView}
use Rattle.connection_core.specs.Asking.{Block, asked_of}
use Rattle.connection_core.specs.Standing.{ReaderState, ReaderStands, Keeps}
use Rattle.connection_core.specs.declared.conn_end.ConnEnd.TheVariants.{Closed, Truncated, ReadFault, WriteFault, TooLong, BatchTooLong, HistoryFull}
use Rattle.connection_core.specs.declared.conn_end.Took.{Took}
use Rattle.connection_core.specs.declared.conn_end.Took.TheVariants as took
use Rattle.connection_core.specs.Taking.{Takes, TakesAll, TakesBlock, EndsBlock, CountsTaken, PassesLines, PassesOctets}
use Rattle.connection_core.specs.Working.{GoesOn, TakesLines}
use Rattle.connection_core.proofs.LineLemmas.{reads_of, moved}

-- the reader behind octets within a line
abbrev pub with_run : ReaderState → IntakeStanding → List ℕ → Stage → ReaderState
with_run s intake run at = record { intake = intake; taken = s.taken + length run; asked = s.asked; stage = at }

pub run_goes_on : (s : ReaderState) (intake : IntakeStanding) (run : List ℕ) (project : ProjectView) (fed : List ℕ) → s.stage ≡ stage.Reading → All (λ octet. octet ≢ newline) run
    → ((fed : List ℕ) → IntakeStandsAfter s.intake fed → IntakeStandsAfter intake (fed ++ run)) → ReaderStands s project fed → GoesOn project fed run (with_run s intake run s.stage)
run_goes_on s intake run project fed reading clean ran h =
    let law = run_within fed run clean in
    let kept = reads_of s project fed reading h in
    record {
      stands = record {
        intake = ran fed h.intake;
        fits = law.3 ∙ h.fits;
        count = omega (arith, h.count, length-append fed run);
        keeps = subst (λ t. Keeps t (with_run s intake run s.stage) project (fed ++ run)) (sym reading) (record { kept = kept.kept ∙ ap (asked_of project) (sym law.1) });
      };
      none_ended = law.0;
    }

-- octets go on behind others
pub then_goes_on : (s new : ReaderState) (project : ProjectView) (fed first second : List ℕ) → GoesOn project fed first s
    → (ReaderStands s project (fed ++ first) → GoesOn project (fed ++ first) second new) → GoesOn project fed (first ++ second) new
then_goes_on s new project fed first second h go =
    let after = go h.stands in
    record {
      stands = moved (append_assoc fed first second) after.stands;
      none_ended = ap blocks (sym (append_assoc fed first second)) ∙ after.none_ended ∙ h.none_ended;
    }

-- ---- a line within a piece

nothing_more : {X : Type 0} (xs ys zs : List X) → (xs ++ ys) ++ zs ≡ xs → ys ≡ []
nothing_more xs [] zs e = refl
nothing_more xs (y ∷ ys) zs e = absurd (omega (arith, ap length e, length-append (xs ++ y ∷ ys) zs, length-append xs (y ∷ ys)))

-- where no block ended in octets, none ended in their front
pub front_goes_on : (fed front back : List ℕ) → blocks (fed ++ (front ++ back)) ≡ blocks fed → blocks (fed ++ front) ≡ blocks fed
front_goes_on fed front back same =
    let first = blocks_grow fed front in
    let second = blocks_grow (fed ++ front) back in
    let whole : (blocks fed ++ first.0) ++ second.0 ≡ blocks fed =
    ap (λ bs. bs ++ second.0) (sym first.1) ∙ sym second.1 ∙ ap blocks (append_assoc fed front back) ∙ same in
    first.1 ∙ ap (λ bs. blocks fed ++ bs) (nothing_more (blocks fed) first.0 second.0 whole) ∙ append-nil (blocks fed)

-- a line stands in a piece behind its first octets
pub record LineAt (piece : List ℕ) (used : ℕ) (run : List ℕ) : Type 0 where
  pub tail : List ℕ
  pub within : used + (length run + 1) ≤ length piece
  pub next : take (used + (length run + 1)) piece ≡ take used piece ++ (run ++ newline ∷ [])
  pub text : take (used + length run) piece ≡ take used piece ++ run
  pub whole : piece ≡ take used piece ++ (run ++ newline ∷ tail)

take_run : (run tail : List ℕ) → take (length run) (run ++ newline ∷ tail) ≡ run
take_run [] tail = refl
take_run (x ∷ run) tail = ap (λ xs. x ∷ xs) (take_run run tail)

take_ended : (run tail : List ℕ) → take (length run + 1) (run ++ newline ∷ tail) ≡ run ++ newline ∷ []
take_ended run tail = ap (λ n. take n (run ++ newline ∷ tail)) (sym (length_push run newline)) ∙ ap (take (length (run ++ newline ∷ []))) (sym (append_assoc run (newline ∷ []) tail)) ∙ take_front (run ++ newline ∷ []) tail
  where
    take_front : (xs ys : List ℕ) → take (length xs) (xs ++ ys) ≡ xs
    take_front [] ys = refl
    take_front (x ∷ xs) ys = ap (λ zs. x ∷ zs) (take_front xs ys)

pub line_at : (piece rest run : List ℕ) (used : ℕ) (tail : List ℕ) → rest ≡ drop used piece → used ≤ length piece → rest ≡ run ++ newline ∷ tail → LineAt piece used run
line_at piece rest run used tail back le text =
    let behind : drop used piece ≡ run ++ newline ∷ tail = sym back ∙ text in
    let whole : piece ≡ take used piece ++ (run ++ newline ∷ tail) = sym (take-append-drop used piece) ∙ ap (λ xs. take used piece ++ xs) behind in
    record {
      tail = tail;
      within = omega (arith, ap length whole, length-append (take used piece) (run ++ newline ∷ tail), length-append run (newline ∷ tail), length-take used piece);
      next = take-add used (length run + 1) piece ∙ ap (λ xs. take used piece ++ take (length run + 1) xs) behind ∙ ap (λ xs. take used piece ++ xs) (take_ended run tail);
      text = take-add used (length run) piece ∙ ap (λ xs. take used piece ++ take (length run) xs) behind ∙ ap (λ xs. take used piece ++ xs) (take_run run tail);
      whole = whole;
    }

module _ (s new : ReaderState) (project : ProjectView) (fed piece run : List ℕ) (used : ℕ) (at : LineAt piece used run) (clean : All (λ octet. octet ≢ newline) run)
    (before : GoesOn project fed (take used piece) s) where
  -- the octets up to the line
  text_goes_on : blocks (fed ++ (take used piece ++ run)) ≡ blocks fed
  text_goes_on = ap blocks (sym (append_assoc fed (take used piece) run)) ∙ (run_within (fed ++ take used piece) run clean).0 ∙ before.none_ended

  pub line_goes_on : ReaderStands new project ((fed ++ take used piece) ++ (run ++ newline ∷ [])) → blocks ((fed ++ take used piece) ++ (run ++ newline ∷ [])) ≡ blocks (fed ++ take used piece)
      → GoesOn project fed (take (used + (length run + 1)) piece) new
  line_goes_on stands same =
      subst (λ o. GoesOn project fed o new) (sym at.next) (then_goes_on s new project fed (take used piece) (run ++ newline ∷ []) before (λ _. record { stands = stands; none_ended = same }))

  pub line_ends_block : ReaderStands new project ((fed ++ take used piece) ++ (run ++ newline ∷ []))
      → (block : Block) → blocks ((fed ++ take used piece) ++ (run ++ newline ∷ [])) ≡ blocks (fed ++ take used piece) ++ block ∷ [] → new.asked ≡ asked_of project block
      → TakesBlock project fed piece (used + (length run + 1)) new
  line_ends_block stands block one kept =
      let there : (fed ++ take used piece) ++ (run ++ newline ∷ []) ≡ fed ++ take (used + (length run + 1)) piece =
      append_assoc fed (take used piece) (run ++ newline ∷ []) ∙ ap (λ xs. fed ++ xs) (sym at.next) in
      record {
        block = block;
        ends = record {
          some = omega arith;
          within = at.within;
          one_ended = ap blocks (sym there) ∙ one ∙ ap (λ (bs : List Block). bs ++ block ∷ []) before.none_ended;
          none_before = λ n lt. none n lt;
        };
        stands = moved there stands;
        kept = kept;
      }
    where
      none : (n : ℕ) → n < used + (length run + 1) → blocks (fed ++ take n piece) ≡ blocks fed
      none n lt =
          let d = (used + length run) - n in
          let split : take (used + length run) piece ≡ take n piece ++ take d (drop n piece) = ap (λ m. take m piece) (omega arith) ∙ take-add n d piece in
          front_goes_on fed (take n piece) (take d (drop n piece)) (ap (λ xs. blocks (fed ++ xs)) (sym split ∙ at.text) ∙ text_goes_on)

  pub line_passes : (more : List ℕ) → has_long_block ((fed ++ take used piece) ++ (run ++ newline ∷ [])) ≡ true → length ((fed ++ take used piece) ++ run) < most_octets
      → PassesLines fed (piece ++ more)
  line_passes more long lt =
      let octets = (fed ++ take used piece) ++ run in
      let within = run_within (fed ++ take used piece) run clean in
      let law = taken_at_lines_limit octets (at.tail ++ more) lt (within.3 ∙ before.stands.fits) (ap has_long_block (append_assoc (fed ++ take used piece) run (newline ∷ [])) ∙ long) in
      let there : octets ++ newline ∷ (at.tail ++ more) ≡ fed ++ (piece ++ more) =
      regroup fed (take used piece) run at.tail more ∙ ap (λ xs. fed ++ (xs ++ more)) (sym at.whole) in
      record {
        taken_are = ap taken (sym there) ∙ law.0 ∙ within.0 ∙ before.none_ended;
        long = ap (λ xs. has_long_block (take most_octets xs)) (sym there) ∙ law.1;
      }
    where
      regroup : (a b c d e : List ℕ) → ((a ++ b) ++ c) ++ newline ∷ (d ++ e) ≡ a ++ ((b ++ (c ++ newline ∷ d)) ++ e)
      regroup a b c d e = simp append_assoc

-- ---- the whole piece

-- a piece that passes no limit of octets
pub takes_lines : (project : ProjectView) (fed piece : List ℕ) (answer : Took) (new : ReaderState) → TakesLines project fed piece answer new → Takes project fed piece answer new
takes_lines project fed piece took.All new h = h
takes_lines project fed piece (took.Block used) new h = h
takes_lines project fed piece (took.Ended TooLong) new h = absurd h
takes_lines project fed piece (took.Ended BatchTooLong) new h = subst (PassesLines fed) (append-nil piece) (h [])
takes_lines project fed piece (took.Ended Closed) new h = absurd h
takes_lines project fed piece (took.Ended (Truncated lines)) new h = absurd h
takes_lines project fed piece (took.Ended ReadFault) new h = absurd h
takes_lines project fed piece (took.Ended WriteFault) new h = absurd h
takes_lines project fed piece (took.Ended (HistoryFull entries kept)) new h = absurd h

-- as many octets as may come, and one more
pub passes_octets : (s new : ReaderState) (project : ProjectView) (fed piece front back : List ℕ) → piece ≡ front ++ back → ReaderStands s project fed
    → s.taken + length front ≡ most_octets → length front < length piece → TakesAll project fed front new → PassesOctets fed piece
passes_octets s new project fed piece front back e h full lt all =
    let there : (fed ++ front) ++ back ≡ fed ++ piece = append_assoc fed front back ∙ ap (λ xs. fed ++ xs) (sym e) in
    let law = taken_at_octets_limit (fed ++ front) back (length-append fed front ∙ omega (arith, h.count, full)) all.stands.fits in
    record {
      taken_are = ap taken (sym there) ∙ law.0 ∙ all.none_ended;
      many = omega (arith, length-append fed piece, h.count, full);
      fits = ap (λ xs. has_long_block (take most_octets xs)) (sym there) ∙ law.1;
    }

front_ends : (fed piece front back : List ℕ) (used : ℕ) (block : Block) → piece ≡ front ++ back → EndsBlock fed front used block → EndsBlock fed piece used block
front_ends fed piece front back used block e h =
    let at : (n : ℕ) → n ≤ length front → take n front ≡ take n piece = λ n le. sym (take-append-le n front back le) ∙ ap (take n) (sym e) in
    record {
      some = h.some;
      within = omega (arith, h.within, ap length e, length-append front back);
      one_ended = ap (λ xs. blocks (fed ++ xs)) (sym (at used h.within)) ∙ h.one_ended;
      none_before = λ n lt. ap (λ xs. blocks (fed ++ xs)) (sym (at n (omega (arith, h.within, lt)))) ∙ h.none_before n lt;
    }

-- what comes within the octets that may come, where not all of them are taken
pub front_takes : (project : ProjectView) (fed piece front back : List ℕ) (answer : Took) (new : ReaderState) → piece ≡ front ++ back → (answer ≡ took.All → ⊥) → TakesLines project fed front answer new → Takes project fed piece answer new
front_takes project fed piece front back took.All new e some h = absurd (some refl)
front_takes project fed piece front back (took.Block used) new e some h =
    let at : take used front ≡ take used piece = sym (take-append-le used front back h.ends.within) ∙ ap (take used) (sym e) in
    record { block = h.block; ends = front_ends fed piece front back used h.block e h.ends; stands = moved (ap (λ xs. fed ++ xs) at) h.stands; kept = h.kept }
front_takes project fed piece front back (took.Ended TooLong) new e some h = absurd h
front_takes project fed piece front back (took.Ended BatchTooLong) new e some h = subst (PassesLines fed) (sym e) (h back)
front_takes project fed piece front back (took.Ended Closed) new e some h = absurd h
front_takes project fed piece front back (took.Ended (Truncated lines)) new e some h = absurd h
front_takes project fed piece front back (took.Ended ReadFault) new e some h = absurd h
front_takes project fed piece front back (took.Ended WriteFault) new e some h = absurd h
front_takes project fed piece front back (took.Ended (HistoryFull entries kept)) new e some h = absurd h

pub front_counts : (less more : ℕ) (answer : Took) (old new : ℕ) → less ≤ more → (answer ≡ took.All → ⊥) → CountsTaken less answer old new → CountsTaken more answer old new
front_counts less more took.All old new le some h = absurd (some refl)
front_counts less more (took.Block used) old new le some h = (h.0, h.1, omega (arith, h.2, le))
front_counts less more (took.Ended how) old new le some h = tt
