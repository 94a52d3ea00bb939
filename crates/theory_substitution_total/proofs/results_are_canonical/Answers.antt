use Rattle.theory_substitution_total.proofs.Results.{term_result, comp_result, ty_result, formula_result, app_result, bind_result}
use Rattle.theory_substitution_total.proofs.results_are_canonical.Goals as goal

pub returns : goal.returns
returns c = record {
  terms = λ heads new s x g whole p term r t d e. term_result p d e;
  computations = λ heads new s x g whole p comp r d e. comp_result p d e;
  types = λ heads new s x g whole p ty r d e. ty_result p d e;
  formulas = λ heads new s x g whole p formula r d e. formula_result p d e;
  applications = λ heads g f a r s t d e q. app_result d e q;
  bindings = λ heads g comp others r d e q. bind_result d e q;
}
