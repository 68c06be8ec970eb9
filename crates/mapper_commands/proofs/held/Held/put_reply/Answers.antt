use Rattle.std.proofs.Common.{◌≡◌, false, subst, rules}
use Rattle.connection_replies.specs.declared.line_reply.LineReply.TheVariants as line
use Rattle.connection_replies.specs.ReplyLines.{reply_line}
use Rattle.mapper_commands.specs.Replays.{prefix_text}
use Rattle.mapper_commands.specs.Paging.{Puts}
use Rattle.mapper_commands.proofs.Puttings.{puts_part, puts_then}
use Rattle.mapper_commands.proofs.held.Held.put_reply.Goals as goal

pub returns-in-Ok-clause-text : goal.returns-in-Ok-clause-text
returns-in-Ok-clause-text g c =
    let reply : c.octets.result.now ≡ reply_line c.args.project.now (line.Answer c.args.answer) false = search rules in
    puts_then _ _ _ c.put.result c.in-Ok.field-0 (prefix_text c.args.place) (reply_line c.args.project.now (line.Answer c.args.answer) false) c.args.self.now.octets c.put_place.new.self.octets c.put.new.self.octets c.in-Ok.ensures.text
    (subst (λ text. Puts c.put.result text c.put_place.new.self.octets c.put.new.self.octets (g.K.Sink.written c.put_place.new.out) (g.K.Sink.written c.put.new.out)) reply c.put.ensures.text)

pub returns-in-Err-clause-text : goal.returns-in-Err-clause-text
returns-in-Err-clause-text g c = puts_part c.in-Err.field-0 (prefix_text c.args.place) (reply_line c.args.project.now (line.Answer c.args.answer) false) c.args.self.now.octets c.put_place.new.self.octets c.put_place.new.self.octets _ _ c.in-Err.ensures.text
