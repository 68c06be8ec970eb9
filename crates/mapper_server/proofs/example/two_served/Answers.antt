use Rattle.std.proofs.Common.{sym, ap, ◌∙◌, true≢false}
use Rattle.std.specs.Option.{is_some}
use Rattle.mm_outside.proofs.ToldLemmas.{Told-map}
use Rattle.ruled_history.specs.Views.{with_entries}
use Rattle.mapper_server.proofs.Joined.{joined_serves}
use Rattle.mapper_server.proofs.example.two_served.Goals as goal

pub new-requires-3-clause-built : goal.new-requires-3-clause-built
new-requires-3-clause-built g c = λ unit h. absurd (true≢false (sym h ∙ ap (λ o. is_some o) (c.new-2.ensures unit)))

pub returns-clause-first : goal.returns-clause-first
returns-clause-first g c =
    let opening = c.in-Ok-new-2.registry.opening.ledger in
    let is = c.close.ensures.book.is_ledger ∙ ap (with_entries opening) c.close.ensures.seen in
    Told-map (λ a b h. joined_serves opening c.close.result.ledger c.in_ok-one.one.knows c.join-seat.result.knows c.in_ok-one.served.conn c.in_ok-one.served.how a b c.join-seat.ensures.left c.in_ok-one.ensures.kept.own is h) c.in_ok-one.ensures.served

pub returns-clause-second : goal.returns-clause-second
returns-clause-second g c =
    let opening = c.in-Ok-new-2.registry.opening.ledger in
    let is = c.close.ensures.book.is_ledger ∙ ap (with_entries opening) c.close.ensures.seen in
    Told-map (λ a b h. joined_serves opening c.close.result.ledger c.in_ok-two.two.knows c.join-seat.result.knows c.in_ok-two.other.conn c.in_ok-two.other.how a b c.join-seat.ensures.right c.in_ok-two.ensures.kept.own is h) c.in_ok-two.ensures.served
