use Rattle.theory_substitution_total.proofs.Filled.{term_filled, comp_filled, ty_filled, formula_filled}
use Rattle.theory_substitution_total.proofs.Places.{put_fills}
use Rattle.theory_substitution_total.proofs.monotypes_give_canonical.Goals as goal

pub returns : goal.returns
returns c = record {
  terms = λ heads mono x g whole p t s d. term_filled d (put_fills p.inserted p.canonical);
  computations = λ heads mono x g whole p t d. comp_filled d (put_fills p.inserted p.canonical);
  types = λ heads mono x g whole p t d. ty_filled d (put_fills p.inserted p.canonical);
  formulas = λ heads mono x g whole p t d. formula_filled d (put_fills p.inserted p.canonical);
}
