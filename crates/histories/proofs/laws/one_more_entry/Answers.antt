use Rattle.histories.proofs.LegalCounts.{opened_with, open_with, done_with, reserved_with}
use Rattle.histories.proofs.laws.one_more_entry.Goals as goal

pub returns-clause-opened : goal.returns-clause-opened
returns-clause-opened c = opened_with

pub returns-clause-still_open : goal.returns-clause-still_open
returns-clause-still_open c = open_with

pub returns-clause-done : goal.returns-clause-done
returns-clause-done c = done_with

pub returns-clause-reserved : goal.returns-clause-reserved
returns-clause-reserved c = reserved_with
