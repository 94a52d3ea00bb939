use Rattle.theory_substitution_unused.proofs.Back.{term_back, comp_back, ty_back, formula_back}
use Rattle.theory_substitution_unused.proofs.unused_variable_leaves_the_tree.Goals as goal

pub returns : goal.returns
returns c = record {
  terms = λ heads g new s x term t d. term_back s new x d;
  computations = λ heads g new s x comp d. comp_back s new x d;
  types = λ heads g new s x ty d. ty_back s new x d;
  formulas = λ heads g new s x formula d. formula_back s new x d;
}
