use Rattle.std.proofs.Common.{◌++◌, take, refl, arith}
use Rattle.std.proofs.lemmas.List.{length-append}
use Rattle.connection_core.proofs.TakeLemmas.{line_at, line_goes_on, line_ends_block, line_passes}
use Rattle.connection_core.proofs.block_reader.BlockReader.take_lines.Goals as goal

pub take_line-requires-clause-stands : goal.take_line-requires-clause-stands
take_line-requires-clause-stands c = record { fed = _; stands = (c.loop-line.invariant.goes c.requires.stands.fed c.requires.stands.stands).stands }

pub loop-line-preserved : goal.loop-line-preserved
loop-line-preserved c =
    let text = c.in-Some.ensures in
    let at = line_at c.args.piece.now _ c.in-Some.line.now c.loop-line.used text.1.0 c.split_at.ensures.back c.loop-line.invariant.within text.1.1 in
    record {
      within = at.within;
      reading = c.in-More.ensures.more refl;
      count = omega (arith, c.take_line.ensures.count, c.loop-line.invariant.count);
      goes = λ fed h.
          let before = c.loop-line.invariant.goes fed h in
          let line = c.in-More.ensures.line (fed ++ _) before.stands in
          line_goes_on _ _ c.args.project.now fed c.args.piece.now c.in-Some.line.now c.loop-line.used at text.0 before line.0 line.2;
    }

pub returns-in-Block-clause-took : goal.returns-in-Block-clause-took
returns-in-Block-clause-took c = λ fed h.
    let text = c.in-Some.ensures in
    let at = line_at c.args.piece.now _ c.in-Some.line.now c.loop-line.used text.1.0 c.split_at.ensures.back c.loop-line.invariant.within text.1.1 in
    let before = c.loop-line.invariant.goes fed h in
    let line = c.in-Block.ensures.line (fed ++ _) before.stands in
    line_ends_block _ _ c.args.project.now fed c.args.piece.now c.in-Some.line.now c.loop-line.used at text.0 before line.0 line.2.0 line.2.1 line.2.2

pub returns-in-TooMany-clause-took : goal.returns-in-TooMany-clause-took
returns-in-TooMany-clause-took c = λ fed h more.
    let text = c.in-Some.ensures in
    let at = line_at c.args.piece.now _ c.in-Some.line.now c.loop-line.used text.1.0 c.split_at.ensures.back c.loop-line.invariant.within text.1.1 in
    let before = c.loop-line.invariant.goes fed h in
    let line = c.in-TooMany.ensures.line (fed ++ _) before.stands in
    line_passes _ c.take_line.new.self c.args.project.now fed c.args.piece.now c.in-Some.line.now c.loop-line.used at text.0 before more line.1
    (omega (arith, before.stands.count, c.loop-line.invariant.count, c.requires.room, at.within, length-append (fed ++ take c.loop-line.used c.args.piece.now) c.in-Some.line.now))
