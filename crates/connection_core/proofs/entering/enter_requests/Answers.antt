use Rattle.std.proofs.Common.{◌∙◌, rules, arith}
use Rattle.std.proofs.lemmas.List.{drop_more}
use Rattle.connection_core.proofs.Enterings.{lines_begin, line_more, line_stops, places_end}
use Rattle.connection_core.proofs.entering.enter_requests.Goals as goal

pub loop-line-init : goal.loop-line-init
loop-line-init g c = record {
  so_far = lines_begin c.args.conn c.args.asked.now _ _ _ c.requires.acts c.requires.serving;
  fits = c.requires.fits;
  capacity = search rules;
}

pub loop-line-preserved : goal.loop-line-preserved
loop-line-preserved g c =
    let next = drop_more c.args.asked.now c.loop-line.line-index _ c.loop-line-test.true in
    record {
      so_far = line_more c.args.conn c.args.asked.now c.loop-line.line-index _ _ _ _ _ _ c.loop-line.invariant.so_far _ _ _ _ next c.in-Ok.ensures.entered c.in-Ok.ensures.sound;
      fits = search rules;
      capacity = c.in-Ok.ensures.capacity ∙ c.loop-line.invariant.capacity;
    }

pub returns-in-Err-clause-entered : goal.returns-in-Err-clause-entered
returns-in-Err-clause-entered g c =
    let next = drop_more c.args.asked.now c.loop-line.line-index _ c.loop-line-test.true in
    (line_stops c.args.conn c.args.asked.now c.loop-line.line-index _ _ _ _ _ _ c.loop-line.invariant.so_far _ _ _ _ _ next c.in-Err.ensures.entered c.in-Err.ensures.sound).0

pub returns-in-Err-clause-serving : goal.returns-in-Err-clause-serving
returns-in-Err-clause-serving g c =
    let next = drop_more c.args.asked.now c.loop-line.line-index _ c.loop-line-test.true in
    (line_stops c.args.conn c.args.asked.now c.loop-line.line-index _ _ _ _ _ _ c.loop-line.invariant.so_far _ _ _ _ _ next c.in-Err.ensures.entered c.in-Err.ensures.sound).1

pub returns-clause-count : goal.returns-clause-count
returns-clause-count g c = places_end c.args.conn c.args.asked.now c.loop-line.line-index _ _ _ _ _ _ c.loop-line.invariant.so_far (omega (arith, c.loop-line-test.false))
