use Rattle.theory_logic_axioms.proofs.Shapes.{formula_shaped}
use Rattle.theory_logic_axioms.proofs.formula_where_shaped.Goals as goal

pub returns : goal.returns
returns c = record { law = formula_shaped }
