-- What each step makes of what was served before.
use Rattle.std.proofs.Common.{◌≡◌, ◌⊎◌, inl, inr, ℕ, ◌+◌, ◌≤◌, false, List, [], ◌∷◌, ◌++◌, length, take, drop, Option, Some, None, Ok, Err, refl, sym, ap, ap₂, subst, ◌∙◌, append_assoc, arith}
use Rattle.std.proofs.lemmas.List.{append-nil, take-append-drop}
use Rattle.mm_outside.specs.declared.errors.Failed.{Failed}
use Rattle.mm_outside.specs.Octets.{Octets, Takes as TakesOctets}
use Rattle.mm_outside.specs.Sending.{Sends}
use Rattle.cody_batches.specs.Blocks.{blocks, held, taken, has_long_block, most_octets, PassesLimits}
use Rattle.cody_batches.proofs.LimitLaws.{taken_whole, taken_grows, within_limits}
use Rattle.unit_registry.specs.declared.act.Act.TheVariants as act
use Rattle.unit_registry.specs.declared.act.Act.{Act as Acts}
use Rattle.unit_registry.specs.Projects.{ProjectView}
use Rattle.histories.specs.declared.entry.Entry.{Entry}
use Rattle.registry_core.specs.Ledgers.{LedgerView, IsFull, IsLedger}
use Rattle.registry_core.specs.Desks.{DeskState, IsSound}
use Rattle.registry_core.proofs.Ready.{fits_in}
use Rattle.connection_core.specs.declared.block_reader.Stage.{Stage}
use Rattle.connection_core.specs.declared.block_reader.Stage.TheVariants as stage
use Rattle.connection_core.specs.declared.conn_end.ConnEnd.{ConnEnd}
use Rattle.connection_core.specs.declared.conn_end.ConnEnd.TheVariants.{Closed, Truncated, ReadFault, WriteFault, TooLong, BatchTooLong, HistoryFull}
use Rattle.connection_core.specs.declared.conn_end.Took.TheVariants as took
use Rattle.connection_core.specs.Asking.{Block, acts}
use Rattle.connection_core.specs.Answers.{acts_of}
use Rattle.connection_core.specs.Entering.{Enters}
use Rattle.connection_core.specs.Serving.{Moves}
use Rattle.connection_core.specs.Sessions.{SessionState, StandsAfter, EntersTook, acts_due, due, octets_taken}
use Rattle.connection_core.specs.Taking.{Takes, TakesAll, TakesBlock, IsLimit}
use Rattle.connection_core.proofs.Enterings.{acts-append}
use Rattle.mapper_server.specs.Steps.{Course, AwaitsIn, Stands, IsGoing, Serving, Closes, EndsSo, EndsInput, Fills, answered_in}
use Rattle.mapper_server.proofs.Courses.{course_later, course_moved, front_is}
use Rattle.mapper_server.proofs.Standings.{stands_later, stands_replied, stands_all, stands_block, course_fed, due_acts}
use Rattle.mapper_server.proofs.Endings.{closes_at, closes_read_fault, closes_too_long, closes_block_too_long, closes_write_fault, closes_full}

-- what is taken of octets after some that pass no limit
grown : (octets more : List ℕ) → length octets ≤ most_octets → has_long_block octets ≡ false → (others : List Block) × (taken (octets ++ more) ≡ blocks octets ++ others)
grown octets more few short = let grows = taken_grows octets more in (grows.0, grows.1 ∙ ap (λ (bs : List Block). bs ++ grows.0) (taken_whole octets few short))

closes_moved : (project : ProjectView) (workers limit : ℕ) (conn conn' : ℕ) (how : ConnEnd) (history : List Entry) (octets : Octets) → conn' ≡ conn → Closes project workers limit conn how history octets → Closes project workers limit conn' how history octets
closes_moved project workers limit conn conn' how history octets e h = subst (λ (c : ℕ). Closes project workers limit c how history octets) (sym e) h

moves_sent : (fed written text : List ℕ) (start a b : Octets) → b.read ≡ a.read → b.to_come ≡ a.to_come → b.written ≡ a.written ++ text → Moves fed written start a → Moves fed (written ++ text) start b
moves_sent fed written text start a b read to_come sent m = record {
  read_are = read ∙ m.read_are;
  to_come_was = m.to_come_was ∙ ap (λ (xs : List ℕ). fed ++ xs) (sym to_come);
  written_are = sent ∙ ap (λ (xs : List ℕ). xs ++ text) m.written_are ∙ append_assoc start.written written text;
}

moves_same : (all fed rest written : List ℕ) (start now : Octets) → all ≡ fed ++ rest → Moves all written start now → Moves (fed ++ rest) written start now
moves_same all fed rest written start now e m = subst (λ (xs : List ℕ). Moves xs written start now) e m

module _ {Item : Type 0} (project : ProjectView) where
  pub going_fed : (history : List Entry) (s new : SessionState Item) → ((fed : List ℕ) → StandsAfter s project fed → StandsAfter new project fed) → new.reader.stage ≡ stage.Reading → new.conn ≡ s.conn → new.stash ≡ s.stash → octets_taken new ≡ octets_taken s
      → IsGoing project history s → IsGoing project history new
  going_fed history s new replied reading same stash count h = record {
    going = ap Rattle.connection_core.specs.Standing.end_in reading;
    few = omega (arith, count, h.few);
    no_item = stash ∙ h.no_item;
    fed = h.fed;
    stands = stands_replied project history s new h.fed (replied h.fed h.stands.stands) reading same h.stands;
  }

module _ {Held : Type 0} (project : ProjectView) where
  -- ---- others entered more

  course_at : (before after : DeskState Held) (since : List Entry) (conn : ℕ) (entered : List Block) (written : List ℕ) → after.seen.entries ≡ before.seen.entries ++ since → after.seen.workers ≡ before.seen.workers
      → Course project before.seen.workers before.seen.entries conn entered written → Course project after.seen.workers after.seen.entries conn entered written
  course_at before after since conn entered written history workers course =
      subst (λ (es : List Entry). Course project after.seen.workers es conn entered written) (sym history)
      (course_moved project before.seen.workers after.seen.workers (before.seen.entries ++ since) conn conn entered entered written written (sym workers) refl refl refl
      (course_later project before.seen.workers conn before.seen.entries since entered written course))

module _ {Item Held : Type 0} (project : ProjectView) where
  pub serving_later : (s : SessionState Item) (before after : DeskState Held) (rest : List ℕ) (start now : Octets) → Enters s.conn [] [] before after → Serving project s before rest start now → Serving project s after rest start now
  serving_later s before after rest start now looks h = record {
    fed = h.fed;
    written = h.written;
    moves = h.moves;
    stands = stands_later project before.seen.entries looks.since after.seen.entries s h.fed looks.history looks.own_acts looks.requests h.stands;
    course = course_at project before after looks.since s.conn (answered_in s.reader.stage (blocks h.fed)) h.written looks.history looks.stays.workers h.course;
  }

  pub going_later : (s : SessionState Item) (before after : DeskState Held) → Enters s.conn [] [] before after → IsGoing project before.seen.entries s → IsGoing project after.seen.entries s
  going_later s before after looks h = record {
    going = h.going;
    few = h.few;
    no_item = h.no_item;
    fed = h.fed;
    stands = stands_later project before.seen.entries looks.since after.seen.entries s h.fed looks.history looks.own_acts looks.requests h.stands;
  }

  -- ---- replies

  -- what waited was answered
  pub serving_fed : (s new : SessionState Item) (before after : DeskState Held) (rest text : List ℕ) (start a b : Octets) → after.seen.project ≡ project → Enters s.conn [] [] before after → ((fed : List ℕ) → StandsAfter s project fed → StandsAfter new project fed) → new.reader.stage ≡ stage.Reading → new.conn ≡ s.conn
      → due after.seen s ≡ Some text → Sends {T = Unit {0}} {E = Failed} (Ok tt) text a b → Serving project s before rest start a → Serving project new after rest start b
  serving_fed s new before after rest text start a b is looks replied reading same due_is sends was =
      let h = serving_later s before after rest start a looks was in
      record {
        fed = h.fed;
        written = h.written ++ text;
        moves = moves_sent (h.fed ++ rest) h.written text start a b sends.input.read sends.input.to_come sends.written h.moves;
        stands = stands_replied project after.seen.entries s new h.fed (replied h.fed h.stands.stands) reading same h.stands;
        course = subst (λ (at : Stage). Course project after.seen.workers after.seen.entries new.conn (answered_in at (blocks h.fed)) (h.written ++ text)) (sym reading)
            (course_moved project after.seen.workers after.seen.workers after.seen.entries s.conn new.conn (blocks h.fed) (blocks h.fed) (h.written ++ text) (h.written ++ text) refl (sym same) refl refl
            (course_fed project after.seen s h.fed h.written text is h.stands h.course due_is));
      }

  -- a write failed inside the replies of a block
  pub serving_fault : (s : SessionState Item) (conn : ℕ) (before after : DeskState Held) (rest text : List ℕ) (failed : Failed) (start a b : Octets) → after.seen.project ≡ project → Enters s.conn [] [] before after → conn ≡ s.conn → octets_taken s ≤ most_octets
      → due after.seen s ≡ Some text → Sends {T = Unit {0}} {E = Failed} (Err failed) text a b → Serving project s before rest start a → EndsSo project conn WriteFault after start b
  serving_fault s conn before after rest text failed start a b is looks same few due_is sends was = by s.reader.stage refl h.stands.waiting
    where
      h : Serving project s after rest start a
      h = serving_later s before after rest start a looks was

      n : ℕ
      n = sends.written.0

      by : (at : Stage) → s.reader.stage ≡ at → AwaitsIn at project after.seen.entries s h.fed → EndsSo project conn WriteFault after start b
      by stage.Reading e w =
          let none : Some [] ≡ Some text = sym (ap (λ (at : Stage). Rattle.connection_core.specs.Sessions.due_in at after.seen s) e) ∙ due_is in
          let nothing : 0 ≡ length text = ap (λ (o : Option (List ℕ)). Rattle.std.specs.Option.option_map_or length o 0) none in
          absurd (omega (arith, nothing, sends.written.1))
      by stage.Waiting e w =
          let others = grown h.fed rest (omega (arith, few, h.stands.stands.count)) h.stands.stands.fits in
          record {
            read = h.fed ++ rest;
            written = h.written ++ take n text;
            moves = moves_sent (h.fed ++ rest) h.written (take n text) start a b sends.input.read sends.input.to_come sends.written.2 h.moves;
            closes = closes_moved project after.seen.workers after.seen.limit s.conn conn WriteFault after.seen.entries (record { read = h.fed ++ rest; to_come = b.to_come; written = h.written ++ take n text }) same
                (closes_write_fault project after.seen.workers after.seen.limit s.conn after.seen.entries (blocks h.fed) w.earlier others.0 w.block h.written text n (record { read = h.fed ++ rest; to_come = b.to_come; written = h.written ++ take n text })
                w.blocks_are h.stands.entries others.1 refl
                (course_moved project after.seen.workers after.seen.workers after.seen.entries s.conn s.conn (answered_in s.reader.stage (blocks h.fed)) w.earlier h.written h.written refl refl (ap (λ (at : Stage). answered_in at (blocks h.fed)) e ∙ front_is (blocks h.fed) w.earlier w.block w.blocks_are) refl h.course)
                (course_fed project after.seen s h.fed h.written text is h.stands h.course due_is).answered
                sends.written.1);
          }
      by (stage.Ended how) e w = absurd w

  -- ---- reading

  pub serving_fills : (s : SessionState Item) (desk : DeskState Held) (rest more rest_new : List ℕ) (start a b : Octets) → rest_new ≡ rest ++ more → TakesOctets more a b → Serving project s desk rest start a → Serving project s desk rest_new start b
  serving_fills s desk rest more rest_new start a b e reads h = record {
    fed = h.fed;
    written = h.written;
    moves = record {
      read_are = reads.read ∙ ap (λ (xs : List ℕ). xs ++ more) h.moves.read_are ∙ append_assoc start.read (h.fed ++ rest) more ∙ ap (λ (xs : List ℕ). start.read ++ xs) (append_assoc h.fed rest more ∙ ap (λ (xs : List ℕ). h.fed ++ xs) (sym e));
      to_come_was = h.moves.to_come_was ∙ ap (λ (xs : List ℕ). (h.fed ++ rest) ++ xs) reads.to_come ∙ sym (append_assoc (h.fed ++ rest) more b.to_come) ∙ ap (λ (xs : List ℕ). xs ++ b.to_come) (append_assoc h.fed rest more ∙ ap (λ (xs : List ℕ). h.fed ++ xs) (sym e));
      written_are = reads.written ∙ h.moves.written_are;
    };
    stands = h.stands;
    course = h.course;
  }

  pub serving_input_ends : (how : ConnEnd) (s : SessionState Item) (conn : ℕ) (desk : DeskState Held) (rest : List ℕ) (start a b : Octets) → conn ≡ s.conn → octets_taken s ≤ most_octets → s.reader.stage ≡ stage.Reading → EndsInput how s → Fills (Some how) rest [] a b
      → Serving project s desk rest start a → EndsSo project conn how desk start b
  serving_input_ends how s conn desk rest start a b same few reading ends fills was = record {
    read = h.fed;
    written = h.written;
    moves = subst (λ (xs : List ℕ). Moves xs h.written start b) (append-nil h.fed) h.moves;
    closes = closes_moved project desk.seen.workers desk.seen.limit s.conn conn how desk.seen.entries octets same (by ends fills.2);
  }
    where
      h : Serving project s desk [] start b
      h = serving_fills s desk rest [] [] start a b (ap (λ (xs : List ℕ). xs) (sym (append-nil rest ∙ fills.0))) fills.1 was

      octets : Octets
      octets = record { read = h.fed; to_come = b.to_come; written = h.written }

      few_fed : length h.fed ≤ most_octets
      few_fed = omega (arith, few, h.stands.stands.count)

      all : taken h.fed ≡ blocks h.fed
      all = taken_whole h.fed few_fed h.stands.stands.fits

      within : PassesLimits h.fed → ⊥
      within = within_limits h.fed few_fed h.stands.stands.fits

      did : acts_of s.conn desk.seen.entries ≡ act.Open ∷ acts project (taken h.fed)
      did = h.stands.entries ∙ ap (λ (bs : List Block). act.Open ∷ acts project bs) (sym all)

      course : Course project desk.seen.workers desk.seen.entries s.conn (taken h.fed) h.written
      course = course_moved project desk.seen.workers desk.seen.workers desk.seen.entries s.conn s.conn (answered_in s.reader.stage (blocks h.fed)) (taken h.fed) h.written h.written refl refl (ap (λ (at : Stage). answered_in at (blocks h.fed)) reading ∙ sym all) refl h.course

      fault : how ≡ ReadFault → Closes project desk.seen.workers desk.seen.limit s.conn how desk.seen.entries octets
      fault e = subst (λ (end : ConnEnd). Closes project desk.seen.workers desk.seen.limit s.conn end desk.seen.entries octets) (sym e) (closes_read_fault project desk.seen.workers desk.seen.limit s.conn desk.seen.entries octets did course within)

      by : EndsInput how s → (how ≡ ReadFault) ⊎ (b.to_come ≡ []) → Closes project desk.seen.workers desk.seen.limit s.conn how desk.seen.entries octets
      by (inl e) over = fault e
      by (inr end) (inl e) = fault e
      by (inr end) (inr over) = subst (λ (end : ConnEnd). Closes project desk.seen.workers desk.seen.limit s.conn end desk.seen.entries octets) (sym (end project h.fed h.stands.stands))
          (closes_at project desk.seen.workers desk.seen.limit s.conn desk.seen.entries octets did course (held h.fed) over all refl within)

  -- ---- taking

  pub going_all : (s new : SessionState Item) (before after : DeskState Held) (piece : List ℕ) → ((fed : List ℕ) → StandsAfter s project fed → TakesAll project fed piece new.reader) → after ≡ before → new.reader.stage ≡ stage.Reading → new.conn ≡ s.conn → new.stash ≡ s.stash → octets_taken new ≤ most_octets
      → IsGoing project before.seen.entries s → IsGoing project after.seen.entries new
  going_all s new before after piece takes e reading same stash few h = record {
    going = ap Rattle.connection_core.specs.Standing.end_in reading;
    few = few;
    no_item = stash ∙ h.no_item;
    fed = h.fed ++ piece;
    stands = subst (λ (d : DeskState Held). Stands project d.seen.entries new (h.fed ++ piece)) (sym e) (stands_all project before.seen.entries s new h.fed piece (takes h.fed h.stands.stands) same h.stands);
  }

  pub serving_all : (s new : SessionState Item) (before after : DeskState Held) (piece rest : List ℕ) (start now : Octets) → ((fed : List ℕ) → StandsAfter s project fed → TakesAll project fed piece new.reader) → after ≡ before → rest ≡ [] → s.reader.stage ≡ stage.Reading → new.reader.stage ≡ stage.Reading → new.conn ≡ s.conn
      → Serving project s before piece start now → Serving project new after rest start now
  serving_all s new before after piece rest start now takes e none was reading same h = subst (λ (d : DeskState Held). Serving project new d rest start now) (sym e) (record {
    fed = h.fed ++ piece;
    written = h.written;
    moves = moves_same (h.fed ++ piece) (h.fed ++ piece) rest h.written start now (sym (ap (λ (xs : List ℕ). (h.fed ++ piece) ++ xs) none ∙ append-nil (h.fed ++ piece))) h.moves;
    stands = stands_all project before.seen.entries s new h.fed piece (takes h.fed h.stands.stands) same h.stands;
    course = course_moved project before.seen.workers before.seen.workers before.seen.entries s.conn new.conn (answered_in s.reader.stage (blocks h.fed)) (answered_in new.reader.stage (blocks (h.fed ++ piece))) h.written h.written refl (sym same)
        (ap (λ (at : Stage). answered_in at (blocks h.fed)) was ∙ sym (takes h.fed h.stands.stands).none_ended ∙ ap (λ (at : Stage). answered_in at (blocks (h.fed ++ piece))) (sym reading)) refl h.course;
  })

  pub going_block : (s new : SessionState Item) (before after : DeskState Held) (piece : List ℕ) (used : ℕ) → ((fed : List ℕ) → StandsAfter s project fed → TakesBlock project fed piece used new.reader) → Enters s.conn (acts_due s new) new.places before after → new.reader.stage ≡ stage.Waiting → new.conn ≡ s.conn
      → new.stash ≡ None → octets_taken new ≤ most_octets → IsGoing project before.seen.entries s → IsGoing project after.seen.entries new
  going_block s new before after piece used takes enters at same none few h = record {
    going = ap Rattle.connection_core.specs.Standing.end_in at;
    few = few;
    no_item = none;
    fed = h.fed ++ take used piece;
    stands = stands_block project s new before after h.fed piece used (takes h.fed h.stands.stands) enters h.no_item at same h.stands;
  }

  pub serving_block : (s new : SessionState Item) (before after : DeskState Held) (piece rest : List ℕ) (used : ℕ) (start now : Octets) → ((fed : List ℕ) → StandsAfter s project fed → TakesBlock project fed piece used new.reader) → Enters s.conn (acts_due s new) new.places before after → s.stash ≡ None → rest ≡ drop used piece
      → s.reader.stage ≡ stage.Reading → new.reader.stage ≡ stage.Waiting → new.conn ≡ s.conn → Serving project s before piece start now → Serving project new after rest start now
  serving_block s new before after piece rest used start now takes enters none e reading at same h =
      let there : h.fed ++ piece ≡ (h.fed ++ take used piece) ++ rest = ap (λ (xs : List ℕ). h.fed ++ xs) (sym (take-append-drop used piece)) ∙ sym (append_assoc h.fed (take used piece) (drop used piece)) ∙ ap (λ (xs : List ℕ). (h.fed ++ take used piece) ++ xs) (sym e) in
      let ended = takes h.fed h.stands.stands in
      record {
        fed = h.fed ++ take used piece;
        written = h.written;
        moves = moves_same (h.fed ++ piece) (h.fed ++ take used piece) rest h.written start now there h.moves;
        stands = stands_block project s new before after h.fed piece used ended enters none at same h.stands;
        course = course_at project before after enters.since new.conn (answered_in new.reader.stage (blocks (h.fed ++ take used piece))) h.written enters.history enters.stays.workers
            (course_moved project before.seen.workers before.seen.workers before.seen.entries s.conn new.conn (answered_in s.reader.stage (blocks h.fed)) (answered_in new.reader.stage (blocks (h.fed ++ take used piece))) h.written h.written refl (sym same)
            (ap (λ (at' : Stage). answered_in at' (blocks h.fed)) reading ∙ sym (front_is (blocks (h.fed ++ take used piece)) (blocks h.fed) ended.block ended.ends.one_ended) ∙ ap (λ (at' : Stage). answered_in at' (blocks (h.fed ++ take used piece))) (sym at)) refl h.course);
      }

  -- a limit was passed, or the history was full
  closes_took : (how : ConnEnd) (s new : SessionState Item) (before after : DeskState Held) (fed rest written to_come : List ℕ) → IsLimit how → after.seen.project ≡ project → IsSound after → s.stash ≡ None → Stands project before.seen.entries s fed → Course project before.seen.workers before.seen.entries s.conn (blocks fed) written
      → Takes project fed rest (took.Ended how) new.reader → EntersTook (took.Ended how) s new before after → Closes project after.seen.workers after.seen.limit s.conn how after.seen.entries (record { read = fed ++ rest; to_come = to_come; written = written })
  closes_took TooLong s new before after fed rest written to_come limit_is is sound none stands course takes enters =
      subst (λ (d : DeskState Held). Closes project d.seen.workers d.seen.limit s.conn TooLong d.seen.entries (record { read = fed ++ rest; to_come = to_come; written = written })) (sym enters)
      (closes_too_long project before.seen.workers before.seen.limit s.conn before.seen.entries (record { read = fed ++ rest; to_come = to_come; written = written })
      (stands.entries ∙ ap (λ (bs : List Block). act.Open ∷ acts project bs) (sym takes.taken_are))
      (course_moved project before.seen.workers before.seen.workers before.seen.entries s.conn s.conn (blocks fed) (taken (fed ++ rest)) written written refl refl (sym takes.taken_are) refl course) takes.many takes.fits)
  closes_took BatchTooLong s new before after fed rest written to_come limit_is is sound none stands course takes enters =
      subst (λ (d : DeskState Held). Closes project d.seen.workers d.seen.limit s.conn BatchTooLong d.seen.entries (record { read = fed ++ rest; to_come = to_come; written = written })) (sym enters)
      (closes_block_too_long project before.seen.workers before.seen.limit s.conn before.seen.entries (record { read = fed ++ rest; to_come = to_come; written = written })
      (stands.entries ∙ ap (λ (bs : List Block). act.Open ∷ acts project bs) (sym takes.taken_are))
      (course_moved project before.seen.workers before.seen.workers before.seen.entries s.conn s.conn (blocks fed) (taken (fed ++ rest)) written written refl refl (sym takes.taken_are) refl course) takes.long)
  closes_took (HistoryFull entries kept) s new before after fed rest written to_come limit_is is sound none stands course takes enters =
      let others = grown (fed ++ take takes.used rest) (drop takes.used rest) takes.few takes.fits in
      let there : fed ++ rest ≡ (fed ++ take takes.used rest) ++ drop takes.used rest = ap (λ (xs : List ℕ). fed ++ xs) (sym (take-append-drop takes.used rest)) ∙ sym (append_assoc fed (take takes.used rest) (drop takes.used rest)) in
      closes_full project after.seen.workers after.seen.limit s.conn after.seen.entries (blocks fed) others.0 takes.block enters.part enters.missing entries kept (record { read = fed ++ rest; to_come = to_come; written = written })
      sound.ledger.few
      (ap (λ (es : List Entry). acts_of s.conn es) enters.entered.history ∙ acts-append s.conn before.seen.entries enters.entered.since ∙ ap₂ (λ (xs ys : List Acts). xs ++ ys) stands.entries enters.entered.own_acts)
      (ap taken there ∙ others.1 ∙ ap (λ (bs : List Block). bs ++ others.0) takes.ends.one_ended ∙ append_assoc (blocks fed) (takes.block ∷ []) others.0)
      (sym (due_acts project s new takes.block none takes.kept) ∙ enters.parts)
      enters.some_missing
      (course_at project before after enters.entered.since s.conn (blocks fed) written enters.entered.history enters.entered.stays.workers course)
      (room after.seen.limit (length after.seen.entries) (Rattle.registry_core.specs.Ledgers.reserved_in after.seen) (Rattle.histories.specs.Answered.reserved after.seen.workers (Rattle.histories.specs.Histories.answered_in project after.seen.workers after.seen.entries)) (answered after.seen is) enters.is_full.no_room)
      (fills_up after.seen entries kept sound.ledger enters.is_full)
    where
      answered : (seen : LedgerView) → seen.project ≡ project → Rattle.registry_core.specs.Ledgers.reserved_in seen ≡ Rattle.histories.specs.Answered.reserved seen.workers (Rattle.histories.specs.Histories.answered_in project seen.workers seen.entries)
      answered seen e = ap (λ (p : ProjectView). Rattle.histories.specs.Answered.reserved seen.workers (Rattle.histories.specs.Histories.answered_in p seen.workers seen.entries)) e

      room : (limit size kept free : ℕ) → kept ≡ free → limit ≤ size + kept + 0 → limit ≤ size + free
      room limit size kept free same le = omega (arith, same, le)

      fills_up : (seen : LedgerView) (entries kept : ℕ) → IsLedger seen → IsFull seen 0 (record { entries = entries; reserved = kept }) → entries + kept ≡ seen.limit
      fills_up seen entries kept ledger full = let fits = fits_in seen ledger in omega (arith, fits, full.length_is, full.reserved_is, full.no_room)
  closes_took Closed s new before after fed rest written to_come limit_is is sound none stands course takes enters = absurd limit_is
  closes_took (Truncated lines) s new before after fed rest written to_come limit_is is sound none stands course takes enters = absurd limit_is
  closes_took ReadFault s new before after fed rest written to_come limit_is is sound none stands course takes enters = absurd limit_is
  closes_took WriteFault s new before after fed rest written to_come limit_is is sound none stands course takes enters = absurd limit_is

  pub serving_ended : (how : ConnEnd) (s new : SessionState Item) (conn : ℕ) (before after : DeskState Held) (rest : List ℕ) (start now : Octets) → IsLimit how → after.seen.project ≡ project → IsSound after → s.stash ≡ None → s.reader.stage ≡ stage.Reading → conn ≡ s.conn
      → ((fed : List ℕ) → StandsAfter s project fed → Takes project fed rest (took.Ended how) new.reader) → EntersTook (took.Ended how) s new before after → Serving project s before rest start now → EndsSo project conn how after start now
  serving_ended how s new conn before after rest start now limit_is is sound none reading same takes enters h = record {
    read = h.fed ++ rest;
    written = h.written;
    moves = h.moves;
    closes = closes_moved project after.seen.workers after.seen.limit s.conn conn how after.seen.entries (record { read = h.fed ++ rest; to_come = now.to_come; written = h.written }) same
        (closes_took how s new before after h.fed rest h.written now.to_come limit_is is sound none h.stands
        (course_moved project before.seen.workers before.seen.workers before.seen.entries s.conn s.conn (answered_in s.reader.stage (blocks h.fed)) (blocks h.fed) h.written h.written refl refl (ap (λ (at : Stage). answered_in at (blocks h.fed)) reading) refl h.course)
        (takes h.fed h.stands.stands) enters);
  }
