use Rattle.std.proofs.Common.{◌≡◌, ◌∙◌, true, false, get_or, sym, ap, rules, arith}
use Rattle.std.proofs.lemmas.List.{take_all}
use Rattle.std.proofs.lemmas.List.Folds.{list_all_at}
use Rattle.std.specs.List.{list_all}
use Rattle.histories.specs.Answered.{is_paused}
use Rattle.registry_tables.proofs.Scanning.{all_reversed}
use Rattle.registry_tables.proofs.stalls.all_paused.Goals as goal

pub returns-then-not-is_paused : goal.returns-then-not-is_paused
returns-then-not-is_paused c =
    let fails : is_paused c.args.tables.now.answered (get_or c.open-conn-items.result.now c.loop-conn.conn-index 0) ≡ false = search rules in
    sym (ap (list_all (is_paused c.args.tables.now.answered)) (sym c.open-conn-items.ensures.open)
    ∙ all_reversed (is_paused c.args.tables.now.answered) c.open-conn-items.result.now
    ∙ list_all_at (is_paused c.args.tables.now.answered) c.open-conn-items.result.now c.loop-conn.conn-index 0 c.loop-conn-test.true fails)

pub returns : goal.returns
returns c =
    let each : list_all (is_paused c.args.tables.now.answered) c.open-conn-items.result.now ≡ true = sym (ap (list_all (is_paused c.args.tables.now.answered)) (take_all c.loop-conn.conn-index c.open-conn-items.result.now (let past = c.loop-conn-test.false in omega (arith, past)))) ∙ c.loop-conn.invariant in
    sym (ap (list_all (is_paused c.args.tables.now.answered)) (sym c.open-conn-items.ensures.open)
    ∙ all_reversed (is_paused c.args.tables.now.answered) c.open-conn-items.result.now ∙ each)
