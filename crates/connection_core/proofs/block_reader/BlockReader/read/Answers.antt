use Rattle.std.proofs.Common.{◌≡◌, ◌++◌, ◌-◌, sym, ap, arith}
use Rattle.std.proofs.lemmas.List.{take-append-drop}
use Rattle.connection_core.proofs.TakeLemmas.{takes_lines, passes_octets, front_takes, front_counts}
use Rattle.connection_core.proofs.block_reader.BlockReader.read.Goals as goal

pub returns-then-piece-room-clause-took : goal.returns-then-piece-room-clause-took
returns-then-piece-room-clause-took c = λ fed h. takes_lines c.args.project.now fed c.args.piece.now _ _ (c.take_lines.ensures.took fed h)

pub returns-in-All-clause-took : goal.returns-in-All-clause-took
returns-in-All-clause-took c = λ fed h.
    let parts : c.args.piece.now ≡ c.split_at.result.0.now ++ c.split_at.result.1.now = rw (c.split_at.ensures.front, c.split_at.ensures.back) (sym (take-append-drop (67108864 - c.self.inside.taken) c.args.piece.now)) in
    let before = ap (λ s. s.taken) c.self.view_is in
    passes_octets c.args.self.now c.take_lines-2.new.self c.args.project.now fed c.args.piece.now _ _ parts h (omega (arith, before, c.split_at.ensures.front_len, c.self.invariant.few_octets, c.if-piece-room.false)) (omega (arith, c.split_at.ensures.front_len, c.if-piece-room.false)) (c.in-All.ensures.took fed h)

pub returns-in_default : goal.returns-in_default
returns-in_default c =
    let parts : c.args.piece.now ≡ c.split_at.result.0.now ++ c.split_at.result.1.now = rw (c.split_at.ensures.front, c.split_at.ensures.back) (sym (take-append-drop (67108864 - c.self.inside.taken) c.args.piece.now)) in
    record {
      took = λ fed h. front_takes c.args.project.now fed c.args.piece.now _ _ _ _ parts c.in_default.not-All (c.take_lines-2.ensures.took fed h);
      count = front_counts _ _ _ _ _ (omega (arith, c.split_at.ensures.front_len, c.if-piece-room.false)) c.in_default.not-All c.take_lines-2.ensures.count;
      bound = c.take_lines-2.ensures.bound;
      stage = c.take_lines-2.ensures.stage;
    }
