use Rattle.theory_canonical_decided.proofs.Sound.{term_sound, neutral_sound, comp_sound, ty_sound, formula_sound}
use Rattle.theory_canonical_decided.proofs.Complete.{term_complete, neutral_complete, comp_complete, ty_complete, formula_complete}
use Rattle.theory_canonical_decided.proofs.canonical_is_decided.Goals as goal

pub returns : goal.returns
returns c = record {
  neutrals = λ h g term s. (neutral_sound h term g s, neutral_complete h);
  terms = λ h g term s. (term_sound h term g s, term_complete h);
  computations = λ h g comp. (comp_sound h comp g, comp_complete h);
  types = λ h g ty. (ty_sound h ty g, ty_complete h);
  formulas = λ h g formula. (formula_sound h formula g, formula_complete h);
}
