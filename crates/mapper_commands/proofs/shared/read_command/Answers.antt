use Rattle.std.proofs.Common.{◌≡◌, ◌∷◌, rules, sym, subst}
use Rattle.std.specs.Prelude.{IfNone, string_bytes}
use Rattle.mapper_commands.specs.Commands.{ServeWords, AsksToServe}
use Rattle.mapper_commands.proofs.ServeForms.{behind_serve}
use Rattle.mapper_commands.proofs.shared.read_command.Goals as goal

pub returns-clause-none : goal.returns-clause-none
returns-clause-none c =
    let split : c.args.words.now ≡ c.in-Some.field-0-0.now ∷ c.in-Some.rest.now = search rules in
    subst (λ words. IfNone c.read.result ((serve : ServeWords) → AsksToServe words serve → ⊥))
    (sym (behind_serve string_bytes c.args.words.now c.in-Some.rest.now c.in-Some.field-0-0.now c.requires.0 split c.requires.1)) c.read.ensures.none
