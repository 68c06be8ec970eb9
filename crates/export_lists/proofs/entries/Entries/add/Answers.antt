use Rattle.std.proofs.Common.{◌∙◌}
use Rattle.export_lists.specs.declared.entries.Key.{Key}
use Rattle.export_lists.specs.Entries.{Listed}
use Rattle.export_lists.specs.Keys.{seen_key}
use Rattle.export_lists.proofs.Sets.{key_is_there, there, not_there}
use Rattle.export_lists.proofs.entries.Entries.add.Goals as goal

pub returns-then-contains : goal.returns-then-contains
returns-then-contains c =
    let entry : Listed = record { kind = c.args.kind; name = c.args.name.now; owner = c.args.owner.now } in
    let key : Key = record { kind = c.kind_number.result; name = c.args.name; owner = c.args.owner } in
    there c.self.inside.list c.args.self entry c.contains.result c.self.view_is
    (c.contains.ensures ∙ key_is_there seen_key c.self.inside.keys.keys c.self.inside.list key entry c.self.invariant (λ k. (c.kind_number.ensures k, c.args.name.now, c.args.owner.now)))
    c.if-contains.true

pub returns : goal.returns
returns c =
    let entry : Listed = record { kind = c.args.kind; name = c.args.name.now; owner = c.args.owner.now } in
    let key : Key = record { kind = c.kind_number.result; name = c.args.name; owner = c.args.owner } in
    not_there c.self.inside.list c.args.self c.push.new.self entry (record { kind = c.args.kind; name = c.in_ok-name.name; owner = c.in_ok-owner.owner }) c.contains.result c.self.view_is
    (c.contains.ensures ∙ key_is_there seen_key c.self.inside.keys.keys c.self.inside.list key entry c.self.invariant (λ k. (c.kind_number.ensures k, c.args.name.now, c.args.owner.now)))
    c.if-contains.false
    (λ k. record { kind = c.args.kind; name = c.in_ok-name.ensures k; owner = c.in_ok-owner.ensures k })
    c.in_ok-push.ensures.ok
