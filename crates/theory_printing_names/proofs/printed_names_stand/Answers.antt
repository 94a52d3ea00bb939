use Rattle.theory_printing_names.proofs.Named.{printed_names}
use Rattle.theory_printing_names.proofs.printed_names_stand.Goals as goal

pub returns : goal.returns
returns c = record { law = printed_names }
