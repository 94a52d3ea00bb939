use Rattle.theory_substitution.proofs.Once.{term_once, comp_once, ty_once, formula_once}
use Rattle.theory_substitution.proofs.substitution_gives_one.Goals as goal

pub returns : goal.returns
returns c = record {
  terms = λ new s x t r q d e. term_once d e;
  computations = λ new s x t r q d e. comp_once d e;
  types = λ new s x t r q d e. ty_once d e;
  formulas = λ new s x t r q d e. formula_once d e;
}
