use Rattle.connection_core.proofs.Staying.{answers_go_on, course_goes_on}
use Rattle.connection_core.proofs.laws.answers_go_on.Goals as goal

pub returns-clause-answers : goal.returns-clause-answers
returns-clause-answers c = answers_go_on

pub returns-clause-entered : goal.returns-clause-entered
returns-clause-entered c = course_goes_on
