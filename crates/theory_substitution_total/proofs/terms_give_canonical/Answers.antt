use Rattle.std.proofs.Common.{arith}
use Rattle.theory_substitution_total.proofs.Total.{size, smaller, term_put, comp_put, ty_put, formula_put}
use Rattle.theory_substitution_total.proofs.terms_give_canonical.Goals as goal

pub returns : goal.returns
returns c = record {
  terms = λ heads new s x g whole p term t d. term_put heads (size s) (smaller heads (size s)) (omega arith) p.inserted p.canonical d;
  computations = λ heads new s x g whole p comp d. comp_put heads (size s) (smaller heads (size s)) (omega arith) p.inserted p.canonical d;
  types = λ heads new s x g whole p ty d. ty_put heads (size s) (smaller heads (size s)) (omega arith) p.inserted p.canonical d;
  formulas =
      λ heads new s x g whole p formula d. formula_put heads (size s) (smaller heads (size s)) (omega arith) p.inserted p.canonical d;
}
