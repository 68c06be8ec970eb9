use Rattle.std.proofs.Common.{ap, ◌∙◌}
use Rattle.std.specs.Option.{option_map}
use Rattle.mapper_requests.specs.Working.{row_of}
use Rattle.mapper_requests.proofs.Table.{find_row_is}
use Rattle.mapper_requests.proofs.verb.Verb.read.Goals as goal

pub returns : goal.returns
returns c = ap (option_map row_of) c.find_verb.ensures ∙ find_row_is c.args.word.now
