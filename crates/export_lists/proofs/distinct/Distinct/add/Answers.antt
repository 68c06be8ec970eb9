use Rattle.std.proofs.Common.{◌∙◌, sym, arith}
use Rattle.export_lists.specs.Entries.{Listed}
use Rattle.export_lists.specs.OwnKeys.{seen_own}
use Rattle.export_lists.proofs.Sets.{key_is_there}
use Rattle.export_lists.proofs.OwnSets.{refused_there, taken_last}
use Rattle.export_lists.proofs.distinct.Distinct.add.Goals as goal

pub returns-then-has_key : goal.returns-then-has_key
returns-then-has_key c =
    let entry : Listed = record { kind = c.args.kind; name = c.args.name.now; owner = c.args.owner.now } in
    refused_there c.self.inside.list c.args.self entry c.has_key.result c.self.view_is
    (c.has_key.ensures ∙ key_is_there seen_own c.self.inside.keys.keys c.self.inside.list c.in_ok-key.key entry c.self.invariant c.in_ok-key.ensures)
    c.if-has_key.true

pub returns : goal.returns
returns c =
    let entry : Listed = record { kind = c.args.kind; name = c.args.name.now; owner = c.args.owner.now } in
    taken_last c.self.inside.list c.args.self c.push.new.self entry (record { kind = c.args.kind; name = c.in_ok-name.name; owner = c.in_ok-owner.owner }) c.has_key.result c.self.view_is
    (sym c.if-not-is_good_entry.ensures) (omega arith)
    (c.has_key.ensures ∙ key_is_there seen_own c.self.inside.keys.keys c.self.inside.list c.in_ok-key.key entry c.self.invariant c.in_ok-key.ensures)
    c.if-has_key.false
    (λ k. record { kind = c.args.kind; name = c.in_ok-name.ensures k; owner = c.in_ok-owner.ensures k })
    c.in_ok-push.ensures.ok
