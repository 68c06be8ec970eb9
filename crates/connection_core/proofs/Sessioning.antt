-- How a session goes on behind a piece and its replies.
use Rattle.std.proofs.Common.{◌≡◌, ℕ, Bool, true, false, IsFalse, ◌+◌, ◌≤◌, List, [], ◌++◌, length, Option, Some, None, Result, refl, sym, ap, subst, ◌∙◌, arith}
use Rattle.std.specs.Option.{option_map}
use Rattle.mm_outside.specs.declared.errors.Failed.{Failed}
use Rattle.mm_outside.specs.Octets.{Octets}
use Rattle.mm_outside.specs.Sending.{Sends}
use Rattle.mm_outside.specs.Told.{Told}
use Rattle.unit_registry.specs.Projects.{ProjectView}
use Rattle.registry_core.specs.Ledgers.{LedgerView, reply_at}
use Rattle.registry_core.specs.Desks.{DeskState}
use Rattle.connection_replies.specs.declared.line_reply.LineReply.{LineReply}
use Rattle.connection_replies.specs.ReplyLines.{reply_lines}
use Rattle.connection_core.specs.Asking.{is_refused}
use Rattle.connection_core.specs.Answers.{replies_to}
use Rattle.connection_core.specs.declared.asked.Asked.{Asked}
use Rattle.connection_core.specs.declared.block_reader.Stage.{Stage}
use Rattle.connection_core.specs.declared.block_reader.Stage.TheVariants as stage
use Rattle.connection_core.specs.declared.conn_end.ConnEnd.{ConnEnd}
use Rattle.connection_core.specs.declared.conn_end.ConnEnd.TheVariants.{Closed, Truncated, ReadFault, WriteFault, TooLong, BatchTooLong, HistoryFull}
use Rattle.connection_core.specs.declared.conn_end.Took.{Took}
use Rattle.connection_core.specs.declared.conn_end.Took.TheVariants as took
use Rattle.connection_core.specs.Standing.{ReaderState, ReaderStands, end_in}
use Rattle.connection_core.specs.Taking.{TakesBlock, IsLimit}
use Rattle.connection_core.specs.Sessions.{SessionState, HasRoomFor, EntersTook, KeepsStash, EndsTaking, HoldsForBlock, TurnTaken, due, due_in}
use Rattle.connection_core.specs.Working.{StageAfter, IsReadLimit}
use Rattle.connection_core.proofs.Askable.{kept_length}

pub not_ended : (at now : Stage) → at ≡ now → ((how : ConnEnd) → at ≡ stage.Ended how → ⊥) → end_in now ≡ None
not_ended at stage.Reading e none = refl
not_ended at stage.Waiting e none = refl
not_ended at (stage.Ended how) e none = absurd (none how e)

limit_of : (how : ConnEnd) → IsReadLimit how → IsLimit how
limit_of TooLong h = tt
limit_of BatchTooLong h = tt
limit_of (HistoryFull entries kept) h = absurd h
limit_of Closed h = absurd h
limit_of (Truncated lines) h = absurd h
limit_of ReadFault h = absurd h
limit_of WriteFault h = absurd h

pub reads_end : {Item : Type 0} (result : Took) (old new : SessionState Item) → StageAfter result new.reader.stage → EndsTaking result old new
reads_end took.All old new h = h
reads_end (took.Block used) old new h = h
reads_end (took.Ended how) old new h = (ap end_in h.0, λ _. limit_of how h.1)

pub reads_nothing : {Item Held : Type 0} (result : Took) (at : Stage) (old new : SessionState Item) (desk : DeskState Held) → ((used : ℕ) → result ≡ took.Block used → ⊥) → StageAfter result at → EntersTook result old new desk desk
reads_nothing took.All at old new desk none h = refl
reads_nothing (took.Block used) at old new desk none h = absurd (none used refl)
reads_nothing (took.Ended TooLong) at old new desk none h = refl
reads_nothing (took.Ended BatchTooLong) at old new desk none h = refl
reads_nothing (took.Ended (HistoryFull entries kept)) at old new desk none h = absurd h.1
reads_nothing (took.Ended Closed) at old new desk none h = absurd h.1
reads_nothing (took.Ended (Truncated lines)) at old new desk none h = absurd h.1
reads_nothing (took.Ended ReadFault) at old new desk none h = absurd h.1
reads_nothing (took.Ended WriteFault) at old new desk none h = absurd h.1

-- where no block ended, the desk is as it was
pub reads_no_turn : {Item : Type 0} (result : Took) (new : SessionState Item) (holds : Bool) → ((used : ℕ) → result ≡ took.Block used → ⊥) → TurnTaken result new holds holds
reads_no_turn took.All new holds none = λ free. free
reads_no_turn (took.Block used) new holds none = absurd (none used refl)
reads_no_turn (took.Ended how) new holds none = λ free. free

-- a refused block enters nothing, and so takes no turn
pub refused_no_turn : {Item : Type 0} (used : ℕ) (new : SessionState Item) (before after : Bool) → (is_refused new.reader.asked ≡ true → after ≡ before) → TurnTaken (took.Block used) new before after
refused_no_turn used new before after same = λ free refused. same refused ∙ free

-- a refused block has no turn to give back, and any other one gave it back
pub no_turn_left : {Item : Type 0} (s : SessionState Item) (lines : List Asked) (before after : Bool) → lines ≡ s.reader.asked → (is_refused lines ≡ true → after ≡ before) → (is_refused lines ≡ false → IsFalse after)
    → HoldsForBlock s before → IsFalse after
no_turn_left s lines before after same refused good holds = by (is_refused lines) refl
  where
    by : (b : Bool) → is_refused lines ≡ b → IsFalse after
    by true is = refused is ∙ holds (sym (ap is_refused same) ∙ is)
    by false is = good is

-- a piece that leaves the item as it is, whatever it brought
pub stash_kept : {Item : Type 0} (result : Took) (old new : SessionState Item) → new.stash ≡ old.stash → KeepsStash result old new
stash_kept took.All old new h = h
stash_kept (took.Block used) old new h = tt
stash_kept (took.Ended (HistoryFull entries kept)) old new h = tt
stash_kept (took.Ended Closed) old new h = h
stash_kept (took.Ended (Truncated lines)) old new h = h
stash_kept (took.Ended ReadFault) old new h = h
stash_kept (took.Ended WriteFault) old new h = h
stash_kept (took.Ended TooLong) old new h = h
stash_kept (took.Ended BatchTooLong) old new h = h

-- a reader knows of no history
pub reads_not_full : (result : Took) (at : Stage) → StageAfter result at → (entries reserved : ℕ) → result ≡ took.Ended (HistoryFull entries reserved) → ⊥
reads_not_full result at h entries reserved e = (subst (λ (r : Took). StageAfter r at) e h).1

-- the lines of a block that ended have room
pub block_room : {Item : Type 0} (s : SessionState Item) (reader new : ReaderState) (project : ProjectView) (piece : List ℕ) (room used : ℕ) (lines : List Asked) → reader ≡ s.reader → (h : HasRoomFor s project piece room)
    → ((fed : List ℕ) → ReaderStands reader project fed → TakesBlock project fed piece used new) → lines ≡ new.asked → length lines + 1 ≤ room
block_room s reader new project piece room used lines same h takes kept =
    let block = takes h.fed (subst (λ (r : ReaderState). ReaderStands r project h.fed) (sym same) h.stands) in
    omega (arith, h.enough used block.block block.ends, kept_length project block.block lines (kept ∙ block.kept))

-- ---- replies

pub none_of : (r : Option ℕ) → ((place : ℕ) → r ≡ Some place → ⊥) → r ≡ None
none_of None h = refl
none_of (Some place) h = absurd (h place refl)

-- what is due, where all replies of the waiting block were gathered
pub waiting_due : {Item : Type 0} (s : SessionState Item) (seen : LedgerView) (lines : List Asked) (places : List ℕ) (given : List LineReply) → s.reader.stage ≡ stage.Waiting → lines ≡ s.reader.asked → places ≡ s.places
    → replies_to (reply_at seen) lines places ≡ Some given → due seen s ≡ Some (reply_lines seen.project given)
waiting_due s seen lines places given at same_lines same_places e =
    ap (λ (x : Stage). due_in x seen s) at
    ∙ ap (option_map (reply_lines seen.project))
    (ap (λ (xs : List Asked). replies_to (reply_at seen) xs s.places) (sym same_lines) ∙ ap (λ (ps : List ℕ). replies_to (reply_at seen) lines ps) (sym same_places) ∙ e)

-- the text that was sent is what was due
pub sent_same : (result : Result (Unit {0}) Failed) (project seen : ProjectView) (lines none all given : List LineReply) (old new : Option Octets) → project ≡ seen → lines ≡ all → all ≡ none ++ given → none ≡ []
    → Told (Sends result (reply_lines project lines)) old new → Told (Sends result (reply_lines seen given)) old new
sent_same result project seen lines none all given old new p l a n told =
    subst (λ (t : List ℕ). Told (Sends result t) old new)
    (ap (λ (q : ProjectView). reply_lines q lines) p ∙ ap (reply_lines seen) (l ∙ a ∙ ap (λ (xs : List LineReply). xs ++ given) n)) told
