use Rattle.std.proofs.Common.{◌≡◌, List, ℕ, length, take, ap, subst, sym, arith}
use Rattle.std.proofs.lemmas.List.{take_all}
use Rattle.cody_words.specs.Buffers.{Appends}
use Rattle.cody_words.specs.Canonical.{spaced, canonical_line, words_of}
use Rattle.cody_words.proofs.Written.{lent_word, lent_word_at, length-words_of, room_at, room_end, spaced_next, Appends-then, length-line_end}
use Rattle.cody_words.proofs.writer.write_words.Goals as goal

pub write_next_word-requires : goal.write_next_word-requires
write_next_word-requires c =
    let lent = c.args.words.now in
    omega (arith, room_at (words_of lent) c.loop-k.k (lent_word lent c.loop-k.k) (lent_word_at lent c.loop-k.k c.loop-k-test.true), c.loop-k.invariant.spare, c.requires)

pub loop-k-preserved : goal.loop-k-preserved
loop-k-preserved c =
    let lent = c.args.words.now in
    let more = spaced_next (words_of lent) c.loop-k.k (lent_word lent c.loop-k.k) (lent_word_at lent c.loop-k.k c.loop-k-test.true) in
    subst (λ (text : List ℕ). Appends c.args.out.now c.write_next_word.new.out text) (sym more) (Appends-then _ _ _ _ _ c.loop-k.invariant c.write_next_word.ensures)

pub write_end-requires : goal.write_end-requires
write_end-requires c =
    let words = words_of c.args.words.now in
    let all : take c.loop-k.k words ≡ words = take_all c.loop-k.k words (omega (arith, length-words_of c.args.words.now, c.loop-k-test.false)) in
    omega (arith, ap (λ (w : List (List ℕ)). length (spaced w)) all, room_end words, c.loop-k.invariant.spare, c.requires)

pub returns-clause-text : goal.returns-clause-text
returns-clause-text c =
    let words = words_of c.args.words.now in
    let all : take c.loop-k.k words ≡ words = take_all c.loop-k.k words (omega (arith, length-words_of c.args.words.now, c.loop-k-test.false)) in
    subst (λ (w : List (List ℕ)). Appends c.args.out.now c.write_end.new.out (canonical_line w c.args.more)) all (Appends-then _ _ _ _ _ c.loop-k.invariant c.write_end.ensures)

pub returns-clause-room : goal.returns-clause-room
returns-clause-room c =
    let words = words_of c.args.words.now in
    let all : take c.loop-k.k words ≡ words = take_all c.loop-k.k words (omega (arith, length-words_of c.args.words.now, c.loop-k-test.false)) in
    omega (arith, ap (λ (w : List (List ℕ)). length (spaced w)) all, room_end words, c.loop-k.invariant.spare, c.write_end.ensures.spare, length-line_end c.args.more)
