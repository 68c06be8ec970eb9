use Rattle.export_lists.proofs.Listings.{one_listing}
use Rattle.export_lists.proofs.laws.one_listing.Goals as goal

pub returns : goal.returns
returns c = one_listing
