use Rattle.std.proofs.Common.{◌∙◌, ◌&&◌, ◌==◌, ◌≡◌, None, is_none, true, false, get_or, sym, ap, rules, arith}
use Rattle.std.proofs.lemmas.Bool.{and_from}
use Rattle.std.proofs.lemmas.List.{take_all}
use Rattle.std.proofs.lemmas.List.Folds.{list_any_at}
use Rattle.std.specs.List.{list_any}
use Rattle.registry_tables.specs.declared.imports.Waiting.{Waiting}
use Rattle.registry_tables.specs.Tabled.{fate_in}
use Rattle.registry_tables.proofs.Scanning.{any_reversed}
use Rattle.registry_tables.proofs.Settling.{in_at}
use Rattle.registry_tables.proofs.stalls.is_among.Goals as goal

pub fate-requires : goal.fate-requires
fate-requires c = c.requires.units _ (in_at c.args.waiting.now c.loop-waiter.waiter-index _ c.loop-waiter-test.true)

pub returns-then-is_none : goal.returns-then-is_none
returns-then-is_none c =
    let d : Waiting = record { place = 0; conn = 0; unit = 0; holder = None } in
    let waiter : Waiting = get_or c.args.waiting.now c.loop-waiter.waiter-index d in
    let named : (waiter.conn == c.args.conn) ≡ true = search rules in
    let waits : is_none (fate_in c.args.tables.now waiter.unit) ≡ true = search rules in
    sym (any_reversed (λ w. w.conn == c.args.conn && is_none (fate_in c.args.tables.now w.unit)) c.args.waiting.now
    ∙ list_any_at (λ w. w.conn == c.args.conn && is_none (fate_in c.args.tables.now w.unit)) c.args.waiting.now c.loop-waiter.waiter-index d c.loop-waiter-test.true (and_from _ _ named waits))

pub returns : goal.returns
returns c =
    let none : list_any (λ (w : Waiting). w.conn == c.args.conn && is_none (fate_in c.args.tables.now w.unit)) c.args.waiting.now ≡ false = sym (ap (list_any (λ (w : Waiting). w.conn == c.args.conn && is_none (fate_in c.args.tables.now w.unit))) (take_all c.loop-waiter.waiter-index c.args.waiting.now (let past = c.loop-waiter-test.false in omega (arith, past)))) ∙ c.loop-waiter.invariant in
    sym (any_reversed (λ (w : Waiting). w.conn == c.args.conn && is_none (fate_in c.args.tables.now w.unit)) c.args.waiting.now ∙ none)
