use Rattle.connection_core.proofs.session.Session.new.Goals as goal

pub returns-clause-stands : goal.returns-clause-stands
returns-clause-stands g c = λ project. c.in_ok-reader.ensures.stands project
