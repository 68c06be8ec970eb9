-- The session stands as it should after each call.
use Rattle.std.proofs.Common.{◌≡◌, ℕ, ◌-◌, List, [], ◌∷◌, ◌++◌, length, take, Some, None, refl, sym, ap, subst, ◌∙◌, arith}
use Rattle.std.proofs.lemmas.List.{append-nil}
use Rattle.cody_batches.specs.Blocks.{blocks}
use Rattle.unit_registry.specs.declared.act.Act.{Act as Acts}
use Rattle.unit_registry.specs.declared.act.Act.TheVariants.{Open}
use Rattle.unit_registry.specs.Projects.{ProjectView}
use Rattle.histories.specs.declared.entry.Entry.{Entry}
use Rattle.registry_core.specs.Ledgers.{LedgerView, reply_at}
use Rattle.registry_core.specs.Desks.{DeskState, Looks, IsSound}
use Rattle.connection_core.specs.declared.asked.Asked.{Asked}
use Rattle.connection_core.specs.declared.block_reader.Stage.{Stage}
use Rattle.connection_core.specs.declared.block_reader.Stage.TheVariants as stage
use Rattle.connection_core.specs.Asking.{Block, acts, asked_of, block_acts, entered_by, stored_for}
use Rattle.connection_core.specs.Answers.{acts_of, block_answer, request_places}
use Rattle.connection_core.specs.Entering.{Enters, IsServing, unit_kept}
use Rattle.connection_core.specs.Sessions.{SessionState, StandsAfter, acts_due, due, lines_of}
use Rattle.connection_core.specs.Taking.{TakesAll, TakesBlock}
use Rattle.connection_core.proofs.Enterings.{acts-append, places-append, enters_nothing, enters_looks}
use Rattle.connection_core.proofs.Staying.{course_places, course_goes_on}
use Rattle.mapper_server.specs.Steps.{Course, Awaits, AwaitsIn, Stands, answered_in}
use Rattle.mapper_server.proofs.Courses.{front_is, course_moved, course_push}

-- what a look comes to: others entered more
pub looks_enter : {Held : Type 0} (conn : ℕ) (before after : DeskState Held) → IsServing conn before → IsSound after → Looks before after → Enters conn [] [] before after
looks_enter conn before after serving sound looks = enters_looks conn [] [] before before after (enters_nothing conn before) serving sound looks

places_since : (conn : ℕ) (first second : List Entry) → request_places 0 conn (first ++ second) ≡ request_places 0 conn first ++ request_places (length first) conn second
places_since conn first second = places-append conn 0 first second ∙ ap (λ n. request_places 0 conn first ++ request_places n conn second) (omega arith)

module _ {Item : Type 0} (project : ProjectView) where
  -- others entered more
  pub stands_later : (history since now : List Entry) (s : SessionState Item) (fed : List ℕ) → now ≡ history ++ since → acts_of s.conn since ≡ [] → request_places (length history) s.conn since ≡ [] → Stands project history s fed → Stands project now s fed
  stands_later history since now s fed e none bare h = subst (λ (es : List Entry). Stands project es s fed) (sym e) (record {
    stands = h.stands;
    entries = acts-append s.conn history since ∙ ap (λ (xs : List Acts). acts_of s.conn history ++ xs) none ∙ append-nil (acts_of s.conn history) ∙ h.entries;
    waiting = by s.reader.stage h.waiting;
  })
    where
      by : (at : Stage) → AwaitsIn at project history s fed → AwaitsIn at project (history ++ since) s fed
      by stage.Reading w = w
      by stage.Waiting w = record {
        earlier = w.earlier;
        block = w.block;
        blocks_are = w.blocks_are;
        kept = w.kept;
        before = w.before;
        places = places_since s.conn history since ∙ ap (λ (xs : List ℕ). request_places 0 s.conn history ++ xs) bare ∙ append-nil (request_places 0 s.conn history) ∙ w.places;
        as_many = w.as_many;
      }
      by (stage.Ended how) w = w

  -- the replies of what waited were written
  pub stands_replied : (history : List Entry) (s new : SessionState Item) (fed : List ℕ) → StandsAfter new project fed → new.reader.stage ≡ stage.Reading → new.conn ≡ s.conn → Stands project history s fed → Stands project history new fed
  stands_replied history s new fed stands reading same h = record {
    stands = stands;
    entries = ap (λ c. acts_of c history) same ∙ h.entries;
    waiting = subst (λ (at : Stage). AwaitsIn at project history new fed) (sym reading) tt;
  }

  -- octets were taken, and no block ended in them
  pub stands_all : (history : List Entry) (s new : SessionState Item) (fed piece : List ℕ) → TakesAll project fed piece new.reader → new.conn ≡ s.conn → Stands project history s fed → Stands project history new (fed ++ piece)
  stands_all history s new fed piece takes same h = record {
    stands = takes.stands;
    entries = ap (λ c. acts_of c history) same ∙ h.entries ∙ ap (λ (bs : List Block). Open ∷ acts project bs) (sym takes.none_ended);
    waiting = subst (λ (at : Stage). AwaitsIn at project history new (fed ++ piece)) (sym takes.reading) tt;
  }

  pub due_acts : (old new : SessionState Item) (block : Block) → old.stash ≡ None → lines_of new ≡ asked_of project block → acts_due old new ≡ block_acts project block
  due_acts old new block none kept = ap (λ s. stored_for (unit_kept s) (entered_by (lines_of new))) none ∙ ap entered_by kept

  -- a block was entered, and waits
  pub stands_block : {Held : Type 0} (s new : SessionState Item) (before after : DeskState Held) (fed piece : List ℕ) (used : ℕ) → TakesBlock project fed piece used new.reader → Enters s.conn (acts_due s new) new.places before after → s.stash ≡ None
      → new.reader.stage ≡ stage.Waiting → new.conn ≡ s.conn → Stands project before.seen.entries s fed → Stands project after.seen.entries new (fed ++ take used piece)
  stands_block s new before after fed piece used takes enters none at same h =
      let own : acts_of s.conn enters.since ≡ block_acts project takes.block = enters.own_acts ∙ due_acts s new takes.block none takes.kept in
      let waits : Awaits project after.seen.entries new (fed ++ take used piece) = record {
        earlier = blocks fed;
        block = takes.block;
        blocks_are = takes.ends.one_ended;
        kept = takes.kept;
        before = request_places 0 s.conn before.seen.entries;
        places = ap (λ c. request_places 0 c after.seen.entries) same ∙ ap (λ (es : List Entry). request_places 0 s.conn es) enters.history ∙ places_since s.conn before.seen.entries enters.since ∙ ap (λ (xs : List ℕ). request_places 0 s.conn before.seen.entries ++ xs) enters.requests;
        as_many = course_places project before.seen.entries s.conn (blocks fed) h.entries;
      } in
      record {
        stands = takes.stands;
        entries = ap (λ c. acts_of c after.seen.entries) same ∙ ap (λ (es : List Entry). acts_of s.conn es) enters.history ∙ course_goes_on project before.seen.entries enters.since s.conn (blocks fed) takes.block h.entries own
            ∙ ap (λ (bs : List Block). Open ∷ acts project bs) (sym takes.ends.one_ended);
        waiting = subst (λ (at' : Stage). AwaitsIn at' project after.seen.entries new (fed ++ take used piece)) (sym at) waits;
      }

  -- what was answered, with the replies that were due
  pub course_fed : (seen : LedgerView) (s : SessionState Item) (fed written text : List ℕ) → seen.project ≡ project → Stands project seen.entries s fed → Course project seen.workers seen.entries s.conn (answered_in s.reader.stage (blocks fed)) written → due seen s ≡ Some text
      → Course project seen.workers seen.entries s.conn (blocks fed) (written ++ text)
  course_fed seen s fed written text is h course due_is = by s.reader.stage refl h.waiting course due_is
    where
      replies : (places : List ℕ) (lines : List Asked) → block_answer seen.project (reply_at seen) lines places ≡ block_answer project (Rattle.histories.specs.Histories.reply project seen.workers seen.entries) lines places
      replies places lines = ap (λ (p : ProjectView). block_answer p (Rattle.histories.specs.Histories.reply p seen.workers seen.entries) lines places) is

      by : (at : Stage) → s.reader.stage ≡ at → AwaitsIn at project seen.entries s fed → Course project seen.workers seen.entries s.conn (answered_in at (blocks fed)) written → Rattle.connection_core.specs.Sessions.due_in at seen s ≡ Some text → Course project seen.workers seen.entries s.conn (blocks fed) (written ++ text)
      by stage.Reading e w c d =
          let none : [] ≡ text = same_text [] text d in
          course_moved project seen.workers seen.workers seen.entries s.conn s.conn (blocks fed) (blocks fed) written (written ++ text) refl refl refl (sym (append-nil written) ∙ ap (λ (xs : List ℕ). written ++ xs) none) c
        where
          same_text : (a b : List ℕ) → Some a ≡ Some b → a ≡ b
          same_text a b f = cc
      by stage.Waiting e w c d =
          course_moved project seen.workers seen.workers seen.entries s.conn s.conn (w.earlier ++ w.block ∷ []) (blocks fed) (written ++ text) (written ++ text) refl refl (sym w.blocks_are) refl
          (course_push project seen.workers s.conn seen.entries w.earlier w.block w.before s.places written text w.places w.as_many
          (sym (replies s.places (asked_of project w.block)) ∙ ap (λ (lines : List Asked). block_answer seen.project (reply_at seen) lines s.places) (sym w.kept) ∙ d)
          (course_moved project seen.workers seen.workers seen.entries s.conn s.conn (take (length (blocks fed) - 1) (blocks fed)) w.earlier written written refl refl (front_is (blocks fed) w.earlier w.block w.blocks_are) refl c))
      by (stage.Ended how) e w c d = absurd w
