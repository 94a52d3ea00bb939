use Rattle.theory_printing_sequents.proofs.Sequents.{printed_sequents}
use Rattle.theory_printing_sequents.proofs.printed_sequents_are_derived.Goals as goal

pub returns : goal.returns
returns c = record { law = printed_sequents }
