use Rattle.std.proofs.Common.{[], ◌++◌, subst}
use Rattle.registry_core.specs.Ledgers.{open_in, waiting_in}
use Rattle.mapper_commands.specs.Paging.{Puts}
use Rattle.mapper_commands.specs.Replays.{end_line, end_text, entries_text, replay_text}
use Rattle.mapper_commands.proofs.Played.{end_is, written_part, written_so}
use Rattle.mapper_commands.proofs.Puttings.{puts_part, puts_then}
use Rattle.mapper_commands.proofs.replay.Player.play_trace.Goals as goal

pub returns-in-Ok-clause-text : goal.returns-in-Ok-clause-text
returns-in-Ok-clause-text g c =
    written_so c.put_last.result (replay_text c.args.project.now c.args.trace.now) c.args.self.now.page.held.octets c.put_last.new.self.page.held.octets _ _ c.requires.empty c.put_last.ensures.empty
    (subst (λ last. Puts c.put_last.result (entries_text c.args.project.now c.args.trace.now.workers [] c.args.trace.now.entries ++ last) c.args.self.now.page.held.octets c.put_last.new.self.page.held.octets (g.K.Sink.written c.args.out.now) (g.K.Sink.written c.put_last.new.out))
    (end_is c.args.project.now c.args.trace.now c.play_entries.new.self.book.ledger c.in-Ok.ensures.played)
    (puts_then _ _ _ c.put_last.result c.in-Ok.field-0 (entries_text c.args.project.now c.args.trace.now.workers [] c.args.trace.now.entries) (end_line (open_in c.play_entries.new.self.book.ledger) (waiting_in c.play_entries.new.self.book.ledger)) c.args.self.now.page.held.octets c.play_entries.new.self.page.held.octets c.put_last.new.self.page.held.octets c.in-Ok.ensures.text c.put_last.ensures.text))

pub returns-in-Err-clause-text : goal.returns-in-Err-clause-text
returns-in-Err-clause-text g c =
    written_part c.in-Err.field-0 (replay_text c.args.project.now c.args.trace.now) c.args.self.now.page.held.octets c.play_entries.new.self.page.held.octets _ _ c.requires.empty
    (puts_part c.in-Err.field-0 (entries_text c.args.project.now c.args.trace.now.workers [] c.args.trace.now.entries) (end_text c.args.project.now c.args.trace.now.workers c.args.trace.now.entries) c.args.self.now.page.held.octets c.play_entries.new.self.page.held.octets c.play_entries.new.self.page.held.octets _ _ c.in-Err.ensures.text)
