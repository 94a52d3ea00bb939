-- What a part becomes is one, and of its kind.
use Rattle.std.proofs.Common.{◌≡◌, ℕ, refl}
use Rattle.htt_syntax.specs.Trees.{TermTree}
use Rattle.theory_canonical.specs.Skeletons.{Skeleton}
use Rattle.theory_substitution.proofs.Once.{term_once, terms_once, fix_once, comp_once, step_once, ty_once, triple_once, formula_once}
use Rattle.shared_terms_rows.specs.Parts.{Part, of_ty, of_triple, of_term, of_terms, of_fix, of_comp, of_step, of_formula, kind_of}
use Rattle.theory_rows_substitution.specs.Substitution.{SubPart, in_mono, in_ty, in_triple, in_term, in_terms, in_fix, in_comp, in_step, in_formula}

pub part_once : {new : TermTree} {s : Skeleton} {x : ℕ} {old p q : Part} → SubPart new s x old p → SubPart new s x old q → p ≡ q
part_once in_mono in_mono = refl
part_once (in_ty a) (in_ty b) = λ j. of_ty (ty_once a b j)
part_once (in_triple a) (in_triple b) = λ j. of_triple (triple_once a b j)
part_once (in_term a) (in_term b) = λ j. of_term (term_once a b j)
part_once (in_terms a) (in_terms b) = λ j. of_terms (terms_once a b j)
part_once (in_fix a) (in_fix b) = λ j. of_fix (fix_once a b j)
part_once (in_comp a) (in_comp b) = λ j. of_comp (comp_once a b j)
part_once (in_step a) (in_step b) = λ j. of_step (step_once a b j)
part_once (in_formula a) (in_formula b) = λ j. of_formula (formula_once a b j)

pub kind_stays : {new : TermTree} {s : Skeleton} {x : ℕ} {old p : Part} → SubPart new s x old p → kind_of p ≡ kind_of old
kind_stays in_mono = refl
kind_stays (in_ty a) = refl
kind_stays (in_triple a) = refl
kind_stays (in_term a) = refl
kind_stays (in_terms a) = refl
kind_stays (in_fix a) = refl
kind_stays (in_comp a) = refl
kind_stays (in_step a) = refl
kind_stays (in_formula a) = refl
