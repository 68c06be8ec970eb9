use Rattle.std.proofs.Common.{◌≡◌, ◌∷◌, map, rules}
use Rattle.std.specs.Prelude.{string_bytes}
use Rattle.std.proofs.lemmas.Option.{IfSome_then}
use Rattle.mapper_commands.specs.Commands.{task_of, verb_text}
use Rattle.mapper_commands.proofs.Forms.{one_task}
use Rattle.mapper_commands.proofs.command.Command.read.Goals as goal

pub returns-in-Some-read-clause-only : goal.returns-in-Some-read-clause-only
returns-in-Some-read-clause-only c =
    let words_are : map string_bytes c.args.words.now ≡ verb_text c.in-Some-read.verb ∷ map string_bytes c.in-Some.rest.now = search rules in
    IfSome_then c.read_behind.result c.read_behind.ensures.asked (λ command asked. λ task asks. one_task (map string_bytes c.args.words.now) task (task_of command) asks (record { first = c.in-Some-read.verb; rest = map string_bytes c.in-Some.rest.now; words_are = words_are; asked = asked }))
