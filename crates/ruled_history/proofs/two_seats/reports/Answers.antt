use Rattle.ruled_history.proofs.Worked.{reported}
use Rattle.ruled_history.proofs.two_seats.reports.Goals as goal

pub returns-clause-made : goal.returns-clause-made
returns-clause-made g c =
    let first = g.D.Desk.tells c.args.desk.now in
    let second = g.D.Desk.tells c.greets_at.new.desk in
    let third = g.D.Desk.tells c.hands_over.new.desk in
    reported first second third c.look-answer.result (g.D.Desk.tells c.look-answer.new.self) c.in_ok-hello.ensures.greeted c.in_ok-exported.ensures.over c.look-answer.ensures.looked c.look-answer.ensures.reply
