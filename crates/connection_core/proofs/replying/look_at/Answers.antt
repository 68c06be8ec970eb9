use Rattle.std.proofs.Common.{take, rules}
use Rattle.std.proofs.lemmas.List.{take_more}
use Rattle.registry_core.proofs.Desks.{looks_further}
use Rattle.connection_core.proofs.Lookings.{looks_more, pushed_reply, first_missing}
use Rattle.connection_core.proofs.replying.look_at.Goals as goal

pub returns-in-None-clause-looked : goal.returns-in-None-clause-looked
returns-in-None-clause-looked g c = looks_further _ _ _ c.loop-place.invariant.looks c.look.ensures.looked

pub returns-in-None-clause-missing : goal.returns-in-None-clause-missing
returns-in-None-clause-missing g c =
    let before = c.loop-place.invariant.so_far in
    first_missing _ _ c.args.places.now c.loop-place.place-index _ before.0 c.loop-place-test.true c.in-None.ensures.looked before.1 c.in-None.ensures.reply

pub loop-place-preserved : goal.loop-place-preserved
loop-place-preserved g c =
    let before = c.loop-place.invariant.so_far in
    record {
      so_far = (
        _,
        looks_more _ _ (take c.loop-place.place-index c.args.places.now) _ before.0 _ c.in-Some.answer c.in-Some.ensures.looked before.1 (take_more c.args.places.now c.loop-place.place-index _ c.loop-place-test.true) c.in-Some.ensures.reply,
        pushed_reply _ before.0 _ _ _ c.push_reserved.ensures.items before.2,
      );
      looks = looks_further _ _ _ c.loop-place.invariant.looks c.look.ensures.looked;
      sound = c.look.ensures.sound;
      count = search rules;
      capacity = search rules;
    }
