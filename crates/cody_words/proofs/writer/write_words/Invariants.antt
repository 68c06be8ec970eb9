use Rattle.std.proofs.Common.{take}
use Rattle.cody_words.specs.Buffers.{Appends}
use Rattle.cody_words.specs.Canonical.{spaced, words_of}
use Rattle.cody_words.proofs.writer.write_words.Given as goal

abbrev pub invariant-loop-k : goal.invariant-loop-k
invariant-loop-k l = Appends l.fn.out l.out (spaced (take l.k (words_of l.words)))
