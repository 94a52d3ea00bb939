use Rattle.theory_logic_axioms_true.proofs.Bits.{bits}
use Rattle.theory_logic_axioms_true.proofs.words_have_bits.Goals as goal

pub returns : goal.returns
returns c = record { law = bits }
