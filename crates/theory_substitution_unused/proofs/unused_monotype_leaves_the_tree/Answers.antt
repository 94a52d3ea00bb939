use Rattle.theory_substitution_unused.proofs.FilledBack.{term_filled, comp_filled, ty_filled, formula_filled, put_undoes}
use Rattle.theory_substitution_unused.proofs.unused_monotype_leaves_the_tree.Goals as goal

pub returns : goal.returns
returns c = record {
  terms = λ heads g mono x term t d. term_filled (put_undoes mono x) d;
  computations = λ heads g mono x comp d. comp_filled (put_undoes mono x) d;
  types = λ heads g mono x ty d. ty_filled (put_undoes mono x) d;
  formulas = λ heads g mono x formula d. formula_filled (put_undoes mono x) d;
}
