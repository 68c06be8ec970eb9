use Rattle.std.proofs.Common.{◌+◌, ◌*◌, ◌≤◌, take}
use Rattle.cody_words.specs.Canonical.{line_room, words_of}
use Rattle.export_lists.proofs.lines.room_for.Given as goal

abbrev pub invariant-loop-word : goal.invariant-loop-word
invariant-loop-word l = record { enough : line_room (words_of (take l.word-index l.words)) ≤ l.room; small : l.room ≤ 3 + 805306371 * l.word-index }
