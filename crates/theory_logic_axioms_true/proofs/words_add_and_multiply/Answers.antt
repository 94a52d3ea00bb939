use Rattle.theory_logic_axioms_true.proofs.Sums.{sums}
use Rattle.theory_logic_axioms_true.proofs.words_add_and_multiply.Goals as goal

pub returns : goal.returns
returns c = record { law = sums }
