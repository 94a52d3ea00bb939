use Rattle.theory_typing_values.proofs.Sorted.{values}
use Rattle.theory_typing_values.proofs.terms_have_values.Goals as goal

pub returns : goal.returns
returns c = record { law = values }
