use Rattle.std.proofs.Common.{rules}
use Rattle.mapper_replies.proofs.Tables.{read_is}
use Rattle.mapper_replies.proofs.reader.read.Goals as goal

pub returns-in-1-clause-reply : goal.returns-in-1-clause-reply
returns-in-1-clause-reply c = read_is c.args.words.now c.read_one.result (search rules)

pub returns-in-2-clause-reply : goal.returns-in-2-clause-reply
returns-in-2-clause-reply c = read_is c.args.words.now c.read_two.result (search rules)

pub returns-in-3-clause-reply : goal.returns-in-3-clause-reply
returns-in-3-clause-reply c = read_is c.args.words.now c.read_three.result (search rules)

pub returns-in-4-clause-reply : goal.returns-in-4-clause-reply
returns-in-4-clause-reply c = read_is c.args.words.now c.read_four.result (search rules)
