use Rattle.std.proofs.Common.{◌≡◌, map, sym, subst, rules}
use Rattle.std.specs.Prelude.{IfNone, string_bytes}
use Rattle.mapper_commands.specs.declared.verb.Verb.TheVariants as verb
use Rattle.mapper_commands.specs.Commands.{Task, AsksAs}
use Rattle.mapper_commands.proofs.command.read_behind.Goals as goal

pub returns-in-Pipe-clause-none : goal.returns-in-Pipe-clause-none
returns-in-Pipe-clause-none c =
    let same : c.args.verb ≡ verb.Pipe = search rules in
    subst (λ first. IfNone c.read_pipe.result ((task : Task) → AsksAs first (map string_bytes c.args.words.now) task → ⊥)) (sym same) c.read_pipe.ensures.none

pub returns-in-List-clause-none : goal.returns-in-List-clause-none
returns-in-List-clause-none c =
    let same : c.args.verb ≡ verb.List = search rules in
    subst (λ first. IfNone c.read_list.result ((task : Task) → AsksAs first (map string_bytes c.args.words.now) task → ⊥)) (sym same) c.read_list.ensures.none

pub returns-in-Gen-clause-none : goal.returns-in-Gen-clause-none
returns-in-Gen-clause-none c =
    let same : c.args.verb ≡ verb.Gen = search rules in
    subst (λ first. IfNone c.read_gen.result ((task : Task) → AsksAs first (map string_bytes c.args.words.now) task → ⊥)) (sym same) c.read_gen.ensures.none
