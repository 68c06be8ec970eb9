use Rattle.std.proofs.Common.{arith}
use Rattle.std.specs.Prelude.{string_bytes, codes}
use Rattle.mapper_commands.proofs.WordLemmas.{first_word}
use Rattle.modmap.proofs.begins_with_pipe.Goals as goal

pub returns-in-len1-up : goal.returns-in-len1-up
returns-in-len1-up c = first_word string_bytes c.args.words.now c.first-item.result (codes "pipe") c.as_str.result.now c.eq.result (omega arith) c.first-item.is c.as_str.ensures.value c.eq.ensures
