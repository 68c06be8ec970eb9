use Rattle.std.proofs.Common.{◌<◌, ◌+◌, ◌∙◌, List, Some, None, get_or, vec_capacity, length-set, Option, drop, length, rules, arith, refl, sym, ap, subst}
use Rattle.histories.specs.declared.answer.Answer.{Answer}
use Rattle.histories.proofs.Members.{In-reverse}
use Rattle.registry_tables.specs.declared.imports.Waiting.{Waiting}
use Rattle.registry_tables.proofs.Settling.{Ahead, ahead_start, ahead_passes, ahead_writes, in_at, drop_more}
use Rattle.registry_tables.proofs.imports.answer_ended.Goals as goal
use Rattle.registry_tables.proofs.imports.answer_ended.Goals.{in-Some, in_default}

pub loop-waiter-init : goal.loop-waiter-init
loop-waiter-init c = record { ahead = λ reply s. ahead_start c.args.tables.now c.args.waiting.now c.args.replies.now.items reply s; len = refl; capacity = refl }

pub fate-requires : goal.fate-requires
fate-requires c = c.requires.units _ (in_at c.args.waiting.now c.loop-waiter.waiter-index _ c.loop-waiter-test.true)

pub index_mut-requires : goal.index_mut-requires
index_mut-requires c =
    let d : Waiting = record { place = 0; conn = 0; unit = 0; holder = None } in
    let h = c.requires.places _ (in_at c.args.waiting.now c.loop-waiter.waiter-index d c.loop-waiter-test.true) in
    let l = c.loop-waiter.invariant.len in
    search rules

pub loop-waiter-preserved : goal.loop-waiter-preserved
loop-waiter-preserved c =
    let d : Waiting = record { place = 0; conn = 0; unit = 0; holder = None } in
    let ws = c.args.waiting.now in
    let i = c.loop-waiter.waiter-index in
    let x : Waiting = get_or ws i d in
    let place : x.place < length c.args.replies.now.items = c.requires.places x (in_at ws i d c.loop-waiter-test.true) in
    let l = c.loop-waiter.invariant.len in
    elim c.match-fate.branch [
      | in-Some w ↦ record {
        ahead = λ reply s. subst (λ (xs : List (Option Answer)). Ahead c.args.tables.now (drop (i + 1) ws) xs reply) (sym (ap (λ v. v.items) w.replies-is)) (ahead_writes c.args.tables.now x (drop (i + 1) ws) c.loop-waiter.replies.items reply (Some w.answer_by.result) (omega arith) (ap (λ y. Some y) w.answer_by.ensures ∙ sym (s.ended x (In-reverse x ws (in_at ws i d c.loop-waiter-test.true)) w.in-Some.fate (sym w.in-Some.ensures))) (subst (λ ys. Ahead c.args.tables.now ys c.loop-waiter.replies.items reply) (drop_more ws i d c.loop-waiter-test.true) (c.loop-waiter.invariant.ahead reply s)));
        len = ap (λ v. length v.items) w.replies-is ∙ length-set c.loop-waiter.replies.items x.place (Some w.answer_by.result) ∙ l;
        capacity = ap vec_capacity w.replies-is ∙ c.loop-waiter.invariant.capacity;
      }
      | in_default w ↦ record {
        ahead = λ reply s. subst (λ (xs : List (Option Answer)). Ahead c.args.tables.now (drop (i + 1) ws) xs reply) (sym (ap (λ v. v.items) w.replies-is)) (ahead_passes c.args.tables.now x (drop (i + 1) ws) c.loop-waiter.replies.items reply (search rules) (subst (λ ys. Ahead c.args.tables.now ys c.loop-waiter.replies.items reply) (drop_more ws i d c.loop-waiter-test.true) (c.loop-waiter.invariant.ahead reply s)));
        len = ap (λ v. length v.items) w.replies-is ∙ l;
        capacity = ap vec_capacity w.replies-is ∙ c.loop-waiter.invariant.capacity;
      }
    ]
