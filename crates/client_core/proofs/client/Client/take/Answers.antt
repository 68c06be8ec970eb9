use Rattle.std.proofs.Common.{◌≡◌, ◌++◌, take, sym, ap, subst, ◌∙◌, take-append-drop}
use Rattle.client_core.specs.Clients.{StandsAfter, made_in}
use Rattle.std.specs.Prelude.{Ok, ◌∷◌, []}
use Rattle.cody_words.specs.Octets.{newline}
use Rattle.client_core.specs.Working.{GoesOn, TakesLine}
use Rattle.client_core.proofs.Taking.{of_fields, not_over}
use Rattle.client_core.proofs.Pieces.{line_at, next_goes_on, next_ends, next_faulty, awaits_more, then_goes_on, run_goes_on}
use Rattle.client_core.proofs.client.Client.take.Goals as goal

pub loop-line-preserved : goal.loop-line-preserved
loop-line-preserved c =
    let text = c.in-Some.ensures in
    let at = line_at c.args.piece.now _ c.in-Some.line.now c.loop-line.used text.1.0 c.split_at.ensures.back c.loop-line.invariant.within text.1.1 in
    record {
      within = at.within;
      awaits = c.in_ok-take_line.ensures.more (ap Ok c.in-More.is);
      goes = λ got h.
          let before = c.loop-line.invariant.goes got h in
          next_goes_on c.args.self.now c.loop-line.self c.take_line.new.self got c.args.piece.now c.in-Some.line.now c.loop-line.used at text.0 before (subst (λ b. TakesLine c.loop-line.self (got ++ take c.loop-line.used c.args.piece.now) (c.in-Some.line.now ++ newline ∷ []) b c.take_line.new.self) c.in-More.is (c.in_ok-take_line.ensures.line (got ++ take c.loop-line.used c.args.piece.now) before.stands));
    }

pub returns-in-Block : goal.returns-in-Block
returns-in-Block c = λ got h.
    let text = c.in-Some.ensures in
    let at = line_at c.args.piece.now _ c.in-Some.line.now c.loop-line.used text.1.0 c.split_at.ensures.back c.loop-line.invariant.within text.1.1 in
    let before = c.loop-line.invariant.goes got h in
    next_ends c.args.self.now c.loop-line.self c.take_line.new.self got c.args.piece.now c.in-Some.line.now c.loop-line.used at text.0 before (subst (λ b. TakesLine c.loop-line.self (got ++ take c.loop-line.used c.args.piece.now) (c.in-Some.line.now ++ newline ∷ []) b c.take_line.new.self) c.in-Block.is (c.in_ok-take_line.ensures.line (got ++ take c.loop-line.used c.args.piece.now) before.stands))

pub returns-in-Fault : goal.returns-in-Fault
returns-in-Fault c = λ got h.
    let text = c.in-Some.ensures in
    let at = line_at c.args.piece.now _ c.in-Some.line.now c.loop-line.used text.1.0 c.split_at.ensures.back c.loop-line.invariant.within text.1.1 in
    let before = c.loop-line.invariant.goes got h in
    next_faulty c.args.self.now c.loop-line.self c.take_line.new.self got c.args.piece.now c.in-Some.line.now c.loop-line.used at text.0 before c.in-Fault.line (subst (λ b. TakesLine c.loop-line.self (got ++ take c.loop-line.used c.args.piece.now) (c.in-Some.line.now ++ newline ∷ []) b c.take_line.new.self) c.in-Fault.is (c.in_ok-take_line.ensures.line (got ++ take c.loop-line.used c.args.piece.now) before.stands))

pub returns-in_default : goal.returns-in_default
returns-in_default c = λ got h.
    let i = c.self.inside in
    let goes = c.loop-line.invariant.goes got h in
    let awaits = ap (λ s. s.stage) c.self.view_is ∙ c.loop-line.invariant.awaits in
    let going = c.self.invariant.going (not_over i.stage awaits) in
    let s = of_fields i.task i.stage i.intake i.heard i.made in
    let same = ap (λ m. of_fields i.task i.stage i.intake i.heard m) (sym going) ∙ c.self.view_is in
    let rest = c.split_at.result.1.now in
    let start = take c.loop-line.used c.args.piece.now in
    let whole : start ++ rest ≡ c.args.piece.now = ap (λ xs. start ++ xs) c.split_at.ensures.back ∙ take-append-drop c.loop-line.used c.args.piece.now in
    let after = of_fields i.task i.stage c.feed_run.new.self i.heard (made_in i.made i.heard.came_to) in
    let more = subst (λ b. StandsAfter b (got ++ start) → GoesOn b (got ++ start) rest after) same
    (λ stands. subst (λ m. GoesOn s (got ++ start) rest (of_fields i.task i.stage c.feed_run.new.self i.heard m)) (sym going) (run_goes_on s c.feed_run.new.self (got ++ start) rest awaits c.in_default.ensures c.feed_run.ensures stands)) goes.stands in
    awaits_more c.args.self.now after got c.args.piece.now (subst (λ o. GoesOn c.args.self.now got o after) whole (then_goes_on c.args.self.now c.loop-line.self after got start rest goes more))
