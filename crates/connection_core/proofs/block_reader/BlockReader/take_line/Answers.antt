use Rattle.std.proofs.Common.{Bool, refl, sym, ap, subst, ◌∙◌, ◌++◌, length, arith}
use Rattle.std.proofs.lemmas.List.{length_push}
use Rattle.cody_batches.specs.Blocks.{blocks, has_long_block}
use Rattle.connection_core.specs.declared.asked.Asked.{Asked}
use Rattle.connection_core.specs.declared.asked.Note.{Note}
use Rattle.connection_core.specs.declared.asked.Note.TheVariants as note
use Rattle.connection_core.specs.Standing.{ReaderStands}
use Rattle.connection_core.specs.Working.{StandsSomewhere}
use Rattle.connection_core.proofs.LineLemmas.{nothing_stands, line_stands, block_stands, over_stands, line_has_room, line_ended, joined, moved, noted, has_words}
use Rattle.connection_core.proofs.block_reader.BlockReader.take_line.Goals as goal

abbrev line_note : Asked → Bool → Note
line_note asked last = note.Line asked last

pub note_line-requires : goal.note_line-requires
note_line-requires c =
    let at = subst (λ s. StandsSomewhere s c.args.project.now) (sym c.self.view_is) c.requires.stands in
    has_words (at.fed ++ c.args.line.now) c.feed-step.result c.feed-step.new.self _ c.words.ensures (c.feed-step.ensures.answers (at.fed ++ c.args.line.now) (c.feed_run.ensures at.fed at.stands.intake))

pub push_reserved-requires : goal.push_reserved-requires
push_reserved-requires c =
    let reading = ap (λ s. s.stage) c.self.view_is ∙ c.requires.reading in
    let at = subst (λ s. StandsSomewhere s c.args.project.now) (sym c.self.view_is) c.requires.stands in
    let ends = line_ended _ c.args.line.now c.feed_run.new.self c.feed-step.new.self c.feed-step.result reading c.requires.clean c.feed_run.ensures c.feed-step.ensures.stands c.feed-step.ensures.answers c.args.project.now at.fed at.stands in
    let room = line_has_room _ _ _ _ _ _ ends _ _ (noted c.args.project.now _ _ _ _ _ c.words.ensures c.note_line.ensures c.in-Line-default-true.is) in
    omega (arith, room, c.self.invariant.line_room, c.self.inside.asked.ok.0)

pub push_reserved-requires-in-Line-default-false : goal.push_reserved-requires-in-Line-default-false
push_reserved-requires-in-Line-default-false c =
    let reading = ap (λ s. s.stage) c.self.view_is ∙ c.requires.reading in
    let at = subst (λ s. StandsSomewhere s c.args.project.now) (sym c.self.view_is) c.requires.stands in
    let ends = line_ended _ c.args.line.now c.feed_run.new.self c.feed-step.new.self c.feed-step.result reading c.requires.clean c.feed_run.ensures c.feed-step.ensures.stands c.feed-step.ensures.answers c.args.project.now at.fed at.stands in
    let room = line_has_room _ _ _ _ _ _ ends _ _ (noted c.args.project.now _ _ _ _ _ c.words.ensures c.note_line.ensures c.in-Line-default-false.is) in
    omega (arith, room, c.self.invariant.line_room, c.self.inside.asked.ok.0)

pub returns-in-Nothing-clause-line : goal.returns-in-Nothing-clause-line
returns-in-Nothing-clause-line c = λ fed h.
    let reading = ap (λ s. s.stage) c.self.view_is ∙ c.requires.reading in
    let ends = line_ended _ c.args.line.now c.feed_run.new.self c.feed-step.new.self c.feed-step.result reading c.requires.clean c.feed_run.ensures c.feed-step.ensures.stands c.feed-step.ensures.answers c.args.project.now fed (subst (λ s. ReaderStands s c.args.project.now fed) (sym c.self.view_is) h) in
    let done = nothing_stands _ _ _ _ _ _ ends (noted c.args.project.now _ _ _ _ _ c.words.ensures c.note_line.ensures c.in-Nothing.is) in
    (moved (joined fed c.args.line.now) done.0, reading, ap blocks (sym (joined fed c.args.line.now)) ∙ done.1)

pub returns-in-Line-default-true-clause-line : goal.returns-in-Line-default-true-clause-line
returns-in-Line-default-true-clause-line c = λ fed h.
    let reading = ap (λ s. s.stage) c.self.view_is ∙ c.requires.reading in
    let ends = line_ended _ c.args.line.now c.feed_run.new.self c.feed-step.new.self c.feed-step.result reading c.requires.clean c.feed_run.ensures c.feed-step.ensures.stands c.feed-step.ensures.answers c.args.project.now fed (subst (λ s. ReaderStands s c.args.project.now fed) (sym c.self.view_is) h) in
    let done = block_stands _ _ _ _ _ _ ends c.in-Line-default-true.asked _ c.push_reserved.ensures.items (noted c.args.project.now _ _ _ _ _ c.words.ensures c.note_line.ensures (c.in-Line-default-true.is ∙ ap (line_note c.in-Line-default-true.asked) c.in-Line-default-true.last-test)) in
    (moved (joined fed c.args.line.now) done.0, refl, (done.1.0, ap blocks (sym (joined fed c.args.line.now)) ∙ done.1.1, done.1.2))

pub returns-in-Line-default-false-clause-line : goal.returns-in-Line-default-false-clause-line
returns-in-Line-default-false-clause-line c = λ fed h.
    let reading = ap (λ s. s.stage) c.self.view_is ∙ c.requires.reading in
    let ends = line_ended _ c.args.line.now c.feed_run.new.self c.feed-step.new.self c.feed-step.result reading c.requires.clean c.feed_run.ensures c.feed-step.ensures.stands c.feed-step.ensures.answers c.args.project.now fed (subst (λ s. ReaderStands s c.args.project.now fed) (sym c.self.view_is) h) in
    let done = line_stands _ _ _ _ _ _ ends c.in-Line-default-false.asked _ c.push_reserved-in-Line-default-false.ensures.items (noted c.args.project.now _ _ _ _ _ c.words.ensures c.note_line.ensures (c.in-Line-default-false.is ∙ ap (line_note c.in-Line-default-false.asked) c.in-Line-default-false.last-test)) in
    (moved (joined fed c.args.line.now) done.0, reading, ap blocks (sym (joined fed c.args.line.now)) ∙ done.1)

pub returns-in-TooMany-clause-line : goal.returns-in-TooMany-clause-line
returns-in-TooMany-clause-line c = λ fed h.
    let reading = ap (λ s. s.stage) c.self.view_is ∙ c.requires.reading in
    let ends = line_ended _ c.args.line.now c.feed_run.new.self c.feed-step.new.self c.feed-step.result reading c.requires.clean c.feed_run.ensures c.feed-step.ensures.stands c.feed-step.ensures.answers c.args.project.now fed (subst (λ s. ReaderStands s c.args.project.now fed) (sym c.self.view_is) h) in
    (refl, ap has_long_block (sym (joined fed c.args.line.now)) ∙ over_stands _ _ _ _ _ _ ends (noted c.args.project.now _ _ _ _ _ c.words.ensures c.note_line.ensures c.in-TooMany.is))

pub invariant_of-self-in-Line-default-true : goal.invariant_of-self-in-Line-default-true
invariant_of-self-in-Line-default-true c =
    let reading = ap (λ s. s.stage) c.self.view_is ∙ c.requires.reading in
    let at = subst (λ s. StandsSomewhere s c.args.project.now) (sym c.self.view_is) c.requires.stands in
    let ends = line_ended _ c.args.line.now c.feed_run.new.self c.feed-step.new.self c.feed-step.result reading c.requires.clean c.feed_run.ensures c.feed-step.ensures.stands c.feed-step.ensures.answers c.args.project.now at.fed at.stands in
    let room = line_has_room _ _ _ _ _ _ ends _ _ (noted c.args.project.now _ _ _ _ _ c.words.ensures c.note_line.ensures c.in-Line-default-true.is) in
    record {
      few_octets = omega (arith, ap (λ s. s.taken) c.self.view_is);
      few_lines = omega (arith, room, ap length c.push_reserved.ensures.items, length_push c.self.inside.asked.items c.in-Line-default-true.asked);
      line_room = omega (arith, c.push_reserved.ensures.capacity, c.self.invariant.line_room);
    }

pub invariant_of-self-in-Line-default-false : goal.invariant_of-self-in-Line-default-false
invariant_of-self-in-Line-default-false c =
    let reading = ap (λ s. s.stage) c.self.view_is ∙ c.requires.reading in
    let at = subst (λ s. StandsSomewhere s c.args.project.now) (sym c.self.view_is) c.requires.stands in
    let ends = line_ended _ c.args.line.now c.feed_run.new.self c.feed-step.new.self c.feed-step.result reading c.requires.clean c.feed_run.ensures c.feed-step.ensures.stands c.feed-step.ensures.answers c.args.project.now at.fed at.stands in
    let room = line_has_room _ _ _ _ _ _ ends _ _ (noted c.args.project.now _ _ _ _ _ c.words.ensures c.note_line.ensures c.in-Line-default-false.is) in
    record {
      few_octets = omega (arith, ap (λ s. s.taken) c.self.view_is);
      few_lines = omega (arith, room, ap length c.push_reserved-in-Line-default-false.ensures.items, length_push c.self.inside.asked.items c.in-Line-default-false.asked);
      line_room = omega (arith, c.push_reserved-in-Line-default-false.ensures.capacity, c.self.invariant.line_room);
    }
