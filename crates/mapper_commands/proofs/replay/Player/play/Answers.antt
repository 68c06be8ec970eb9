use Rattle.mapper_commands.proofs.Played.{entry_puts, head_stops, others_stop}
use Rattle.mapper_commands.proofs.replay.Player.play.Goals as goal

pub returns-in-Err-clause-text : goal.returns-in-Err-clause-text
returns-in-Err-clause-text g c =
    head_stops c.args.project.now c.args.self.now.book.ledger c.enter-entered.new.self.ledger c.args.entry c.requires.project c.enter-entered.ensures.entered c.enter-entered.result.place c.enter-entered.ensures.place c.enter-entered.result.reply c.enter-entered.ensures.reply
    (g.K.Sink.written c.args.out.now) (g.K.Sink.written c.put_entry.new.out) (g.K.Sink.written c.put_entry.new.out) (g.K.Sink.written c.put_entry.new.out) c.args.self.now.page.held.octets c.put_entry.new.self.octets c.put_entry.new.self.octets c.put_entry.new.self.octets c.in-Err.field-0 c.in-Err.ensures.text

pub returns-in-Err-put_answered-clause-text : goal.returns-in-Err-put_answered-clause-text
returns-in-Err-put_answered-clause-text g c =
    others_stop c.args.project.now c.args.self.now.book.ledger c.enter-entered.new.self.ledger c.args.entry c.requires.project c.enter-entered.ensures.entered c.enter-entered.result.place c.enter-entered.ensures.place c.enter-entered.result.reply c.enter-entered.ensures.reply
    (g.K.Sink.written c.args.out.now) (g.K.Sink.written c.put_entry.new.out) (g.K.Sink.written c.put_answered.new.out) (g.K.Sink.written c.put_answered.new.out) c.args.self.now.page.held.octets c.put_entry.new.self.octets c.put_answered.new.self.held.octets c.put_answered.new.self.held.octets c.in_default.field-0 c.in-Err-put_answered.field-0 c.in_default.ensures.text c.in-Err-put_answered.ensures.text

pub returns-clause-text : goal.returns-clause-text
returns-clause-text g c =
    entry_puts c.args.project.now c.args.self.now.book.ledger c.enter-entered.new.self.ledger c.args.entry c.requires.project c.enter-entered.ensures.entered c.enter-entered.result.place c.enter-entered.ensures.place c.enter-entered.result.reply c.enter-entered.ensures.reply
    (g.K.Sink.written c.args.out.now) (g.K.Sink.written c.put_entry.new.out) (g.K.Sink.written c.put_answered.new.out) (g.K.Sink.written c.put_reply.new.out) c.args.self.now.page.held.octets c.put_entry.new.self.octets c.put_answered.new.self.held.octets c.put_reply.new.self.held.octets c.in_default.field-0 c.in_default-put_answered.field-0 c.put_reply.result c.in_default.ensures.text c.in_default-put_answered.ensures.text c.put_reply.ensures.text
