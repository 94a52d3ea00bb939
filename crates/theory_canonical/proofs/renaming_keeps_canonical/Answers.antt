use Rattle.theory_canonical.proofs.Renamed.{term_renamed, comp_renamed, ty_renamed, formula_renamed}
use Rattle.theory_canonical.proofs.renaming_keeps_canonical.Goals as goal

pub returns : goal.returns
returns c = record {
  terms = λ heads m g h k t s d. term_renamed d k;
  computations = λ heads m g h k t d. comp_renamed d k;
  types = λ heads m g h k t d. ty_renamed d k;
  formulas = λ heads m g h k t d. formula_renamed d k;
}
