use Rattle.cody_words.specs.Room.{HasRoom}
use Rattle.std.proofs.Common.{sym, subst, List, ℕ}
use Rattle.cody_words.proofs.Rooms.{HasRoom-push}
use Rattle.cody_words.proofs.mode.digit.Goals as goal

pub inside-requires : goal.inside-requires
inside-requires c = subst (λ (w : List (List ℕ)). HasRoom w 1) (sym c.push-in-None.ensures) (HasRoom-push c.args.words.now c.args.first 1 c.requires.room)
