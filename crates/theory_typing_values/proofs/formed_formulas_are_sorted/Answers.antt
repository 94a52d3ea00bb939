use Rattle.theory_typing_values.proofs.Sorted.{sorted_forms}
use Rattle.theory_typing_values.proofs.formed_formulas_are_sorted.Goals as goal

pub returns : goal.returns
returns c = record { law = sorted_forms }
