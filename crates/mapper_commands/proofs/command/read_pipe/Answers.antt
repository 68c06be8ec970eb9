use Rattle.std.proofs.Common.{◌∷◌, [], refl, sym, ap, ◌∙◌, arith}
use Rattle.std.specs.Prelude.{string_bytes}
use Rattle.mapper_commands.specs.Commands.{usual}
use Rattle.mapper_commands.proofs.Forms.{one_item}
use Rattle.mapper_commands.proofs.command.read_pipe.Goals as goal

pub returns-in-len1-clause-asked : goal.returns-in-len1-clause-asked
returns-in-len1-clause-asked c = usual c.as_bytes.result.now (one_item string_bytes c.args.words.now c.project-item.result (omega arith) c.project-item.is ∙ ap (λ word. word ∷ []) (sym c.as_bytes.ensures.value)) refl
