use Rattle.std.proofs.Common.{◌≡◌, ◌∙◌, ◌&&◌, true, false, get_or, sym, ap, rules, arith}
use Rattle.std.proofs.lemmas.Bool.{and_right}
use Rattle.std.proofs.lemmas.List.{take_all}
use Rattle.std.proofs.lemmas.List.Folds.{list_all_at}
use Rattle.std.specs.List.{list_all}
use Rattle.histories.specs.Answered.{is_paused, open_connections}
use Rattle.registry_tables.specs.Stalled.{is_waiting_in}
use Rattle.registry_tables.proofs.Scanning.{all_reversed, all_of_both}
use Rattle.registry_tables.proofs.stalls.all_wait.Goals as goal

pub returns-then-not-all_paused : goal.returns-then-not-all_paused
returns-then-not-all_paused c =
    let fails : list_all (is_paused c.args.tables.now.answered) (open_connections c.args.tables.now.answered) ≡ false = search rules in
    sym (all_of_both (is_paused c.args.tables.now.answered) (is_waiting_in c.args.tables.now c.args.imports.now.waiting) (open_connections c.args.tables.now.answered)
    ∙ ap (λ b. b && list_all (is_waiting_in c.args.tables.now c.args.imports.now.waiting) (open_connections c.args.tables.now.answered)) fails)

pub returns-then-not-is_waiting : goal.returns-then-not-is_waiting
returns-then-not-is_waiting c =
    let fails : is_waiting_in c.args.tables.now c.args.imports.now.waiting (get_or c.open-conn-items.result.now c.loop-conn.conn-index 0) ≡ false = search rules in
    sym (all_of_both (is_paused c.args.tables.now.answered) (is_waiting_in c.args.tables.now c.args.imports.now.waiting) (open_connections c.args.tables.now.answered)
    ∙ and_right (list_all (is_paused c.args.tables.now.answered) (open_connections c.args.tables.now.answered)) _
    (ap (list_all (is_waiting_in c.args.tables.now c.args.imports.now.waiting)) (sym c.open-conn-items.ensures.open)
    ∙ all_reversed (is_waiting_in c.args.tables.now c.args.imports.now.waiting) c.open-conn-items.result.now
    ∙ list_all_at (is_waiting_in c.args.tables.now c.args.imports.now.waiting) c.open-conn-items.result.now c.loop-conn.conn-index 0 c.loop-conn-test.true fails))

pub returns : goal.returns
returns c =
    let paused : list_all (is_paused c.args.tables.now.answered) (open_connections c.args.tables.now.answered) ≡ true = search rules in
    let each : list_all (is_waiting_in c.args.tables.now c.args.imports.now.waiting) c.open-conn-items.result.now ≡ true = sym (ap (list_all (is_waiting_in c.args.tables.now c.args.imports.now.waiting)) (take_all c.loop-conn.conn-index c.open-conn-items.result.now (let past = c.loop-conn-test.false in omega (arith, past)))) ∙ c.loop-conn.invariant in
    sym (all_of_both (is_paused c.args.tables.now.answered) (is_waiting_in c.args.tables.now c.args.imports.now.waiting) (open_connections c.args.tables.now.answered)
    ∙ ap (λ b. b && list_all (is_waiting_in c.args.tables.now c.args.imports.now.waiting) (open_connections c.args.tables.now.answered)) paused
    ∙ ap (list_all (is_waiting_in c.args.tables.now c.args.imports.now.waiting)) (sym c.open-conn-items.ensures.open)
    ∙ all_reversed (is_waiting_in c.args.tables.now c.args.imports.now.waiting) c.open-conn-items.result.now
    ∙ each)
