use Rattle.std.proofs.Common.{◌≡◌, ◌+◌, ◌++◌, ◌∷◌, [], ltb, Some, None, refl, sym, ap, subst, ◌∙◌, arith}
use Rattle.cody_words.specs.Octets.{newline}
use Rattle.std.specs.Prelude.{◌<◌, ◌≤◌, length, is_some, slice_get}
use Rattle.std.specs.Option.{option_or}
use Rattle.cody_batches.specs.Feeding.{words_of}
use Rattle.client_core.specs.declared.heard.Heard.{Heard}
use Rattle.client_core.specs.declared.stage.Stage.TheVariants as over
use Rattle.client_core.specs.Scripts.{lines_in, requests_in, reading_of}
use Rattle.client_core.specs.Outcomes.{without_error}
use Rattle.mapper_requests.specs.Asked.{asked_by}
use Rattle.mapper_replies.specs.Values.{value_of}
use Rattle.client_core.specs.Clients.{StandsAfter, MeetsFault, lines_before, made_in}
use Rattle.client_core.specs.Working.{GoesOn, EndsBlock, noted, reply_by}
use Rattle.client_core.proofs.Hearing.{reply_may}
use Rattle.client_core.proofs.Taking.{of_fields, not_over, read_of, next_of, blank_goes_on, line_goes_on, line_ends, line_faulty, after_is, made_none, noted_made, fit_more, fit_block}
use Rattle.client_core.proofs.client.Client.take_line.Goals as goal

pub returns-then-is_more-clause-line : goal.returns-then-is_more-clause-line
returns-then-is_more-clause-line c =
    let i = c.self.inside in
    let awaits = ap (λ s. s.stage) c.self.view_is ∙ c.requires.awaits in
    let going = c.self.invariant.going (not_over i.stage awaits) in
    let s = of_fields i.task i.stage i.intake i.heard i.made in
    let same = ap (λ m. of_fields i.task i.stage i.intake i.heard m) (sym going) ∙ c.self.view_is in
    λ got h. subst (λ b. StandsAfter b got → GoesOn b got (c.args.line.now ++ newline ∷ []) (of_fields i.task i.stage c.feed-step.new.self i.heard (made_in i.made i.heard.came_to))) same
    (λ stands. subst (λ m. GoesOn s got (c.args.line.now ++ newline ∷ []) (of_fields i.task i.stage c.feed-step.new.self i.heard m)) (sym going)
    (blank_goes_on s got c.args.line.now c.feed-step.new.self c.feed-step.result awaits stands (read_of s c.feed_run.new.self c.feed-step.new.self c.args.line.now c.feed-step.result c.is_some-second.result c.lines_before-before.result c.request_count-count.result awaits c.requires.clean c.feed_run.ensures c.feed-step.ensures.stands c.feed-step.ensures.answers c.is_some-second.ensures c.lines_before-before.ensures.count c.lines_before-before.ensures.few c.request_count-count.ensures.count c.request_count-count.ensures.few got stands) (c.is_more.ensures.more c.if-is_more.true))) h

pub returns-in_default-clause-line : goal.returns-in_default-clause-line
returns-in_default-clause-line c =
    let i = c.self.inside in
    let awaits = ap (λ s. s.stage) c.self.view_is ∙ c.requires.awaits in
    let going = c.self.invariant.going (not_over i.stage awaits) in
    let s = of_fields i.task i.stage i.intake i.heard i.made in
    let same = ap (λ m. of_fields i.task i.stage i.intake i.heard m) (sym going) ∙ c.self.view_is in
    let none : reply_by (asked_by c.request-request.result) (ltb (i.heard.answered + 1) c.request_count-count.result) c.feed-step.result (words_of c.feed-step.new.self) ≡ None = ap (reply_by (asked_by c.request-request.result) (ltb (i.heard.answered + 1) c.request_count-count.result) c.feed-step.result) (sym c.words.ensures) ∙ sym c.in_default.ensures in
    let line_is : c.lines_before-before.result + i.heard.answered + 1 ≡ lines_before s + i.heard.answered + 1 = ap (λ n. n + i.heard.answered + 1) (c.lines_before-before.ensures.count ∙ ap (λ b. lines_in b i.task) c.is_some-second.ensures) in
    let after = of_fields i.task over.Over c.feed-step.new.self (record { answered = i.heard.answered; paths = i.heard.paths; came_to = None }) (made_in i.made None) in
    λ got h. subst (λ b. StandsAfter b got → MeetsFault b got (c.args.line.now ++ newline ∷ []) (c.lines_before-before.result + i.heard.answered + 1) after) same
    (λ stands. line_faulty s got c.args.line.now c.feed-step.new.self c.feed-step.result (asked_by c.request-request.result) (ltb (i.heard.answered + 1) c.request_count-count.result) (next_of s c.feed_run.new.self c.feed-step.new.self c.args.line.now c.feed-step.result c.is_some-second.result c.lines_before-before.result c.request_count-count.result awaits c.requires.clean c.feed_run.ensures c.feed-step.ensures.stands c.feed-step.ensures.answers c.is_some-second.ensures c.lines_before-before.ensures.count c.lines_before-before.ensures.few c.request_count-count.ensures.count c.request_count-count.ensures.few (asked_by c.request-request.result) (c.is_more.ensures.other c.if-is_more.false) c.request-request.ensures.request got stands) none (c.lines_before-before.result + i.heard.answered + 1) line_is after refl (made_none i.made) refl refl) h

pub invariant_of-self-then-more : goal.invariant_of-self-then-more
invariant_of-self-then-more c =
    let i = c.self.inside in
    let awaits = ap (λ s. s.stage) c.self.view_is ∙ c.requires.awaits in
    let going = c.self.invariant.going (not_over i.stage awaits) in
    let s = of_fields i.task i.stage i.intake i.heard i.made in
    let same = ap (λ m. of_fields i.task i.stage i.intake i.heard m) (sym going) ∙ c.self.view_is in
    let r = asked_by c.request-request.result in
    let v = value_of c.in-Some.reply in
    let found : reply_by r (ltb (i.heard.answered + 1) c.request_count-count.result) c.feed-step.result (words_of c.feed-step.new.self) ≡ Some v = ap (reply_by (asked_by c.request-request.result) (ltb (i.heard.answered + 1) c.request_count-count.result) c.feed-step.result) (sym c.words.ensures) ∙ sym c.in-Some.ensures in
    let noted_is : c.note.new.self ≡ noted r v i.heard = c.in_ok-note.ensures.noted in
    let at = ap (λ b. slice_get (requests_in b i.task) i.heard.answered) (sym c.is_some-second.ensures) ∙ c.request-request.ensures.request in
    let may = reply_may r (ltb (i.heard.answered + 1) c.request_count-count.result) c.feed-step.result (words_of c.feed-step.new.self) v found in
    let count_is : c.request_count-count.result ≡ length (requests_in (is_some i.made) i.task) = c.request_count-count.ensures.count ∙ ap (λ b. length (requests_in b i.task)) c.is_some-second.ensures in
    let lt : i.heard.answered + 1 < length (requests_in (is_some i.made) i.task) = omega (arith, count_is, c.if-more.true) in
    fit_more i.task i.stage i.heard i.made r v c.self.invariant awaits at may c.note.new.self noted_is lt

pub returns-then-more-clause-line : goal.returns-then-more-clause-line
returns-then-more-clause-line c =
    let i = c.self.inside in
    let awaits = ap (λ s. s.stage) c.self.view_is ∙ c.requires.awaits in
    let going = c.self.invariant.going (not_over i.stage awaits) in
    let s = of_fields i.task i.stage i.intake i.heard i.made in
    let same = ap (λ m. of_fields i.task i.stage i.intake i.heard m) (sym going) ∙ c.self.view_is in
    let r = asked_by c.request-request.result in
    let v = value_of c.in-Some.reply in
    let found : reply_by r (ltb (i.heard.answered + 1) c.request_count-count.result) c.feed-step.result (words_of c.feed-step.new.self) ≡ Some v = ap (reply_by (asked_by c.request-request.result) (ltb (i.heard.answered + 1) c.request_count-count.result) c.feed-step.result) (sym c.words.ensures) ∙ sym c.in-Some.ensures in
    let noted_is : c.note.new.self ≡ noted r v i.heard = c.in_ok-note.ensures.noted in
    let at = ap (λ b. slice_get (requests_in b i.task) i.heard.answered) (sym c.is_some-second.ensures) ∙ c.request-request.ensures.request in
    let may = reply_may r (ltb (i.heard.answered + 1) c.request_count-count.result) c.feed-step.result (words_of c.feed-step.new.self) v found in
    let count_is : c.request_count-count.result ≡ length (requests_in (is_some i.made) i.task) = c.request_count-count.ensures.count ∙ ap (λ b. length (requests_in b i.task)) c.is_some-second.ensures in
    let lt : i.heard.answered + 1 < length (requests_in (is_some i.made) i.task) = omega (arith, count_is, c.if-more.true) in
    λ got h. subst (λ b. StandsAfter b got → GoesOn b got (c.args.line.now ++ newline ∷ []) (of_fields i.task i.stage c.feed-step.new.self c.note.new.self (made_in i.made c.note.new.self.came_to))) same
    (λ stands. subst (λ a. GoesOn s got (c.args.line.now ++ newline ∷ []) a) (after_is s c.feed-step.new.self r v c.note.new.self noted_is going)
    (line_goes_on s got c.args.line.now c.feed-step.new.self c.feed-step.result r (ltb (i.heard.answered + 1) c.request_count-count.result) (next_of s c.feed_run.new.self c.feed-step.new.self c.args.line.now c.feed-step.result c.is_some-second.result c.lines_before-before.result c.request_count-count.result awaits c.requires.clean c.feed_run.ensures c.feed-step.ensures.stands c.feed-step.ensures.answers c.is_some-second.ensures c.lines_before-before.ensures.count c.lines_before-before.ensures.few c.request_count-count.ensures.count c.request_count-count.ensures.few (asked_by c.request-request.result) (c.is_more.ensures.other c.if-is_more.false) c.request-request.ensures.request got stands) v found lt)) h

pub invariant_of-self-2 : goal.invariant_of-self-2
invariant_of-self-2 c =
    let i = c.self.inside in
    let awaits = ap (λ s. s.stage) c.self.view_is ∙ c.requires.awaits in
    let going = c.self.invariant.going (not_over i.stage awaits) in
    let s = of_fields i.task i.stage i.intake i.heard i.made in
    let same = ap (λ m. of_fields i.task i.stage i.intake i.heard m) (sym going) ∙ c.self.view_is in
    let r = asked_by c.request-request.result in
    let v = value_of c.in-Some.reply in
    let found : reply_by r (ltb (i.heard.answered + 1) c.request_count-count.result) c.feed-step.result (words_of c.feed-step.new.self) ≡ Some v = ap (reply_by (asked_by c.request-request.result) (ltb (i.heard.answered + 1) c.request_count-count.result) c.feed-step.result) (sym c.words.ensures) ∙ sym c.in-Some.ensures in
    let noted_is : c.note.new.self ≡ noted r v i.heard = c.in_ok-note.ensures.noted in
    let at = ap (λ b. slice_get (requests_in b i.task) i.heard.answered) (sym c.is_some-second.ensures) ∙ c.request-request.ensures.request in
    let may = reply_may r (ltb (i.heard.answered + 1) c.request_count-count.result) c.feed-step.result (words_of c.feed-step.new.self) v found in
    let count_is : c.request_count-count.result ≡ length (requests_in (is_some i.made) i.task) = c.request_count-count.ensures.count ∙ ap (λ b. length (requests_in b i.task)) c.is_some-second.ensures in
    let le : length (requests_in (is_some i.made) i.task) ≤ i.heard.answered + 1 = omega (arith, count_is, c.if-more.false) in
    let came : c.conclude-self-inside.new.came_to ≡ option_or (noted r v i.heard).came_to (without_error i.task.reading i.made) = c.conclude-self-inside.ensures.came_to ∙ ap (λ (x : Heard). option_or x.came_to (without_error (reading_of c.script.result.now) i.made)) noted_is ∙ ap (λ x. option_or (noted r v i.heard).came_to (without_error x i.made)) c.script.ensures in
    let paths : c.note.new.self.paths ≡ (noted r v i.heard).paths = ap (λ (x : Heard). x.paths) noted_is in
    fit_block i.task i.stage i.heard i.made r v c.self.invariant awaits at may c.conclude-self-inside.result c.conclude-self-inside.new.came_to c.note.new.self.answered c.note.new.self.paths c.conclude-self-inside.new.made c.conclude-self-inside.ensures.stage le came c.conclude-self-inside.ensures.kept (ap (λ (x : Heard). x.answered) noted_is) paths

pub returns-clause-line : goal.returns-clause-line
returns-clause-line c =
    let i = c.self.inside in
    let awaits = ap (λ s. s.stage) c.self.view_is ∙ c.requires.awaits in
    let going = c.self.invariant.going (not_over i.stage awaits) in
    let s = of_fields i.task i.stage i.intake i.heard i.made in
    let same = ap (λ m. of_fields i.task i.stage i.intake i.heard m) (sym going) ∙ c.self.view_is in
    let r = asked_by c.request-request.result in
    let v = value_of c.in-Some.reply in
    let found : reply_by r (ltb (i.heard.answered + 1) c.request_count-count.result) c.feed-step.result (words_of c.feed-step.new.self) ≡ Some v = ap (reply_by (asked_by c.request-request.result) (ltb (i.heard.answered + 1) c.request_count-count.result) c.feed-step.result) (sym c.words.ensures) ∙ sym c.in-Some.ensures in
    let noted_is : c.note.new.self ≡ noted r v i.heard = c.in_ok-note.ensures.noted in
    let at = ap (λ b. slice_get (requests_in b i.task) i.heard.answered) (sym c.is_some-second.ensures) ∙ c.request-request.ensures.request in
    let may = reply_may r (ltb (i.heard.answered + 1) c.request_count-count.result) c.feed-step.result (words_of c.feed-step.new.self) v found in
    let count_is : c.request_count-count.result ≡ length (requests_in (is_some i.made) i.task) = c.request_count-count.ensures.count ∙ ap (λ b. length (requests_in b i.task)) c.is_some-second.ensures in
    let le : length (requests_in (is_some i.made) i.task) ≤ i.heard.answered + 1 = omega (arith, count_is, c.if-more.false) in
    let came : c.conclude-self-inside.new.came_to ≡ option_or (noted r v i.heard).came_to (without_error i.task.reading i.made) = c.conclude-self-inside.ensures.came_to ∙ ap (λ (x : Heard). option_or x.came_to (without_error (reading_of c.script.result.now) i.made)) noted_is ∙ ap (λ x. option_or (noted r v i.heard).came_to (without_error x i.made)) c.script.ensures in
    let paths : c.note.new.self.paths ≡ (noted r v i.heard).paths = ap (λ (x : Heard). x.paths) noted_is in
    let heard : Heard = record { answered = c.note.new.self.answered; paths = c.note.new.self.paths; came_to = c.conclude-self-inside.new.came_to } in
    let made = made_in c.conclude-self-inside.new.made c.conclude-self-inside.new.came_to in
    let made_is : made ≡ i.made = c.conclude-self-inside.ensures.made (noted_made r v i.heard c.note.new.self i.made going noted_is) in
    λ got h. subst (λ b. StandsAfter b got → EndsBlock b got (c.args.line.now ++ newline ∷ []) (of_fields i.task c.conclude-self-inside.result c.feed-step.new.self heard made)) same
    (λ stands. line_ends s got c.args.line.now c.feed-step.new.self c.feed-step.result r (ltb (i.heard.answered + 1) c.request_count-count.result) (next_of s c.feed_run.new.self c.feed-step.new.self c.args.line.now c.feed-step.result c.is_some-second.result c.lines_before-before.result c.request_count-count.result awaits c.requires.clean c.feed_run.ensures c.feed-step.ensures.stands c.feed-step.ensures.answers c.is_some-second.ensures c.lines_before-before.ensures.count c.lines_before-before.ensures.few c.request_count-count.ensures.count c.request_count-count.ensures.few (asked_by c.request-request.result) (c.is_more.ensures.other c.if-is_more.false) c.request-request.ensures.request got stands) v found le c.conclude-self-inside.result heard made came paths c.conclude-self-inside.ensures.stage made_is) h
