-- What may go to another thread, and what threads may share.
use denote.RattleType.{RattleType}
use denote.Struct.Declared.{row}
use denote.Struct.Field.{unit-field}
use denote.Param.Send.{IsSend, IsSync, sendable}
use denote.Param.SendFields.{declared_sync}
use Rattle.std.proofs.Crossing.{crosses, frees, send, sync}
use Rattle.std.specs.contracts.alloc.Global as global
use Rattle.std.specs.contracts.impls.GlobalAllocator.TheImpl as heap
use Rattle.std.specs.contracts.option.Option as option
use Rattle.atomic_table.proofs.owned.Table.TheSendSync as table
use Rattle.registry_core.specs.declared.shelf.Shelf.{Ghosts}
use Rattle.registry_core.specs.contracts.book.Book as book
use Rattle.registry_core.specs.contracts.no_shelf.NoShelf as marks
use Rattle.registry_core.specs.contracts.no_shelf.NoShelfShelf.TheImpl as shelf
use Rattle.ruled_history.specs.contracts.board.About as about
use Rattle.ruled_history.specs.contracts.board.Board as board
use Rattle.ruled_history.specs.contracts.board.Law as law
use Rattle.ruled_history.specs.contracts.board.LawTableRuleOptionBookViewAbout.TheImpl as rule
use Rattle.ruled_history.specs.contracts.board.View as view
use Rattle.ruled_history.specs.contracts.registry.Registry as registry

global_send : IsSend global.the_row
global_send = search (sendable, crosses, send) depth 20

global_sync : IsSync global.the_row
global_sync = search (sendable, crosses, sync) depth 20

option_send : (R : RattleType) → IsSend R → IsSend (option.the_row R)
option_send R s = search (sendable, crosses) depth 20

module _ (S I H : RattleType) (g : Ghosts S.Denot I.Denot H.Denot) where
  -- a book may go to another thread where its shelf may
  pub book_send : IsSend S → IsSend (book.the_row S I H g)
  book_send s = search (sendable, crosses) depth 60 fits 5000

  -- threads may share the table where the shelf may go to another thread
  pub board_sync : IsSend S → IsSync (board.the_row S I H g)
  board_sync s =
      let slot = option_send (book.the_row S I H g) (book_send s) in
      declared_sync (board.the_type S I H g) (global_sync, (table.the_sync (option.the_row (book.the_row S I H g)) view.the_row (about.the_row S I H g) law.the_row global.the_row (rule.ghosts S I H g rule.no_dict) heap.ghosts slot global_send global_sync frees, tt))

  -- and so a registry
  pub registry_sync : IsSend S → IsSync (registry.the_row S I H g)
  registry_sync s =
      let inside : IsSync (row (registry.TheInside.the_type S I H g)) = declared_sync (registry.TheInside.the_type S I H g) (board_sync s, tt) in
      record { shared = λ d b o κ x. (inside.shared x.0 b o κ, tt) }

-- a shelf of marks may go to another thread
pub marks_send : IsSend marks.the_row
marks_send = search sendable depth 20

-- threads may share a registry with no shelf
pub marks_registry_sync : IsSync (registry.the_row marks.the_row (unit-field).row (unit-field).row shelf.ghosts)
marks_registry_sync = registry_sync marks.the_row (unit-field).row (unit-field).row shelf.ghosts marks_send
