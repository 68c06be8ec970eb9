use Rattle.registry_core.proofs.Alone.{is_sound}
use Rattle.registry_core.proofs.solo.SoloDesk.new.Goals as goal

pub returns-clause-sound : goal.returns-clause-sound
returns-clause-sound g c =
    is_sound g.S.Shelf.kept g.S.Shelf.held c.of-opening.result.value c.args.book c.is_legal.ensures.legal
