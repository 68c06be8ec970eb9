use Rattle.std.proofs.Common.{sym, ap, subst, ◌∙◌, arith}
use Rattle.connection_core.specs.Standing.{ReaderStands}
use Rattle.connection_core.proofs.Askable.{block_can}
use Rattle.connection_core.proofs.Sessioning.{not_ended, reads_end, reads_nothing, reads_not_full, stash_kept, block_room}
use Rattle.connection_core.proofs.session.Session.take.Goals as goal

pub enter_block-requires : goal.enter_block-requires
enter_block-requires g c =
    let reader_is = ap (λ s. s.reader) c.self.view_is in
    let going = not_ended c.stage.result c.args.self.now.reader.stage (c.stage.ensures ∙ ap (λ r. r.stage) reader_is) c.in_default.not-Ended in
    let stands = c.requires.stands going in
    let block = c.in-Block.ensures.took stands.0 (subst (λ r. ReaderStands r c.args.project.now stands.0) (sym reader_is) stands.1) in
    record {
      serving = rw (ap (λ s. s.conn) c.self.view_is) (c.requires.serving going);
      acts = block_can c.args.project.now c.units_differ.ensures.kinds _ block.block _ c.requires.project (c.asked-asked.ensures.asked ∙ block.kept);
      fits = rw (ap (λ s. s.stash) c.self.view_is) c.requires.fits;
      room = λ metered. block_room c.args.self.now _ _ c.args.project.now c.args.piece.now _ c.in-Block.used _ reader_is (c.requires.room going metered) c.in-Block.ensures.took c.asked-asked.ensures.asked;
      places = omega (arith, c.clear.ensures.len, c.clear.ensures.capacity, c.asked-asked.ensures.few, c.self.invariant.place_room_is);
    }

pub returns-in_default-read-clause-took : goal.returns-in_default-read-clause-took
returns-in_default-read-clause-took g c = λ fed h. c.read.ensures.took fed (subst (λ r. ReaderStands r c.args.project.now fed) (sym (ap (λ s. s.reader) c.self.view_is)) h)

pub returns-in_default-read-clause-entered : goal.returns-in_default-read-clause-entered
returns-in_default-read-clause-entered g c = λ going. reads_nothing c.read.result c.read.new.self.stage _ _ _ c.in_default-read.not-Block c.read.ensures.stage

pub returns-in_default-read-clause-end : goal.returns-in_default-read-clause-end
returns-in_default-read-clause-end g c = reads_end c.read.result _ _ c.read.ensures.stage

pub returns-in_default-read-clause-stash : goal.returns-in_default-read-clause-stash
returns-in_default-read-clause-stash g c = stash_kept c.read.result _ _ (ap (λ s. s.stash) c.self.view_is)

pub returns-in-Err-clause-roomy : goal.returns-in-Err-clause-roomy
returns-in-Err-clause-roomy g c = λ going room entries reserved same.
    let reader_is = ap (λ s. s.reader) c.self.view_is in
    let no = c.in-Err.ensures.roomy (block_room c.args.self.now _ _ c.args.project.now c.args.piece.now _ c.in-Block.used _ reader_is room c.in-Block.ensures.took c.asked-asked.ensures.asked) in
    cc no

pub returns-in_default-read-clause-roomy : goal.returns-in_default-read-clause-roomy
returns-in_default-read-clause-roomy g c = λ going room. reads_not_full c.read.result c.read.new.self.stage c.read.ensures.stage
