use Rattle.std.proofs.Common.{[], subst, ap₂, ◌∙◌}
use Rattle.std.proofs.lemmas.List.{append-nil}
use Rattle.mapper_commands.specs.Paging.{Puts}
use Rattle.mapper_commands.specs.Replays.{end_line}
use Rattle.mapper_commands.proofs.Puttings.{puts_then}
use Rattle.mapper_commands.proofs.replay.Player.put_last.Goals as goal

pub returns-in-Ok-clause-text : goal.returns-in-Ok-clause-text
returns-in-Ok-clause-text g c =
    subst (λ text. Puts c.flush.result text c.args.self.now.page.held.octets c.flush.new.self.octets (g.K.Sink.written c.args.out.now) (g.K.Sink.written c.flush.new.out)) (append-nil (end_line c.open_count-opened.result c.waiting_count-waiting.result) ∙ ap₂ end_line c.open_count-opened.ensures c.waiting_count-waiting.ensures)
    (puts_then _ _ _ c.flush.result c.in-Ok.field-0 (end_line c.open_count-opened.result c.waiting_count-waiting.result) [] c.args.self.now.page.held.octets c.put_end.new.self.octets c.flush.new.self.octets c.in-Ok.ensures.text c.flush.ensures.text)
