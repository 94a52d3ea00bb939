use Rattle.theory_logic_axioms_true.proofs.Induction.{on_words}
use Rattle.theory_logic_axioms_true.proofs.words_have_induction.Goals as goal

pub returns : goal.returns
returns c = record { law = on_words }
