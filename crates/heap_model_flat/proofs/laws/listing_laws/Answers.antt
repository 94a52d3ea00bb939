use Rattle.heap_model_flat.proofs.ChangedListing.{listing_laws}
use Rattle.heap_model_flat.proofs.laws.listing_laws.Goals as goal

pub returns : goal.returns
returns c = record { laws = listing_laws }
