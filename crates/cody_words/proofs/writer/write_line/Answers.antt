use Rattle.std.proofs.Common.{◌≡◌, List, ℕ, length, take, ap, subst, sym, arith}
use Rattle.std.proofs.lemmas.List.{take_all}
use Rattle.cody_words.specs.Buffers.{Appends}
use Rattle.cody_words.specs.Canonical.{spaced, canonical_line}
use Rattle.cody_words.proofs.Written.{room_at, room_end, spaced_next, Appends-then, length-line_end}
use Rattle.cody_words.proofs.writer.write_line.Goals as goal

pub write_next_word-requires : goal.write_next_word-requires
write_next_word-requires c = omega (arith, room_at c.args.words.now c.loop-k.k c.word.result.now c.word.ensures.word, c.loop-k.invariant.spare, c.requires)

pub loop-k-preserved : goal.loop-k-preserved
loop-k-preserved c =
    let more = spaced_next c.args.words.now c.loop-k.k c.word.result.now c.word.ensures.word in
    subst (λ (text : List ℕ). Appends c.args.out.now c.write_next_word.new.out text) (sym more) (Appends-then _ _ _ _ _ c.loop-k.invariant c.write_next_word.ensures)

pub write_end-requires : goal.write_end-requires
write_end-requires c =
    let all : take c.loop-k.k c.args.words.now ≡ c.args.words.now = take_all c.loop-k.k c.args.words.now (omega (arith, c.len-k-end.ensures.len, c.loop-k-test.false)) in
    omega (arith, ap (λ (w : List (List ℕ)). length (spaced w)) all, room_end c.args.words.now, c.loop-k.invariant.spare, c.requires)

pub returns-clause-text : goal.returns-clause-text
returns-clause-text c =
    let all : take c.loop-k.k c.args.words.now ≡ c.args.words.now = take_all c.loop-k.k c.args.words.now (omega (arith, c.len-k-end.ensures.len, c.loop-k-test.false)) in
    subst (λ (w : List (List ℕ)). Appends c.args.out.now c.write_end.new.out (canonical_line w c.args.more)) all (Appends-then _ _ _ _ _ c.loop-k.invariant c.write_end.ensures)

pub returns-clause-room : goal.returns-clause-room
returns-clause-room c =
    let all : take c.loop-k.k c.args.words.now ≡ c.args.words.now = take_all c.loop-k.k c.args.words.now (omega (arith, c.len-k-end.ensures.len, c.loop-k-test.false)) in
    omega (arith, ap (λ (w : List (List ℕ)). length (spaced w)) all, room_end c.args.words.now, c.loop-k.invariant.spare, c.write_end.ensures.spare, length-line_end c.args.more)
