use Rattle.export_lists.proofs.listing_tests.listed.Goals as goal

pub returns-in-Ok : goal.returns-in-Ok
returns-in-Ok c = c.in-Ok.ensures.come_to.count
