use Rattle.theory_printing_read.proofs.Read.{places_named}
use Rattle.theory_printing_read.proofs.places_have_printed_names.Goals as goal

pub returns : goal.returns
returns c = record { law = places_named }
