-- What a tree measures where each variable stands for itself.
use Rattle.std.proofs.Common.{◌≡◌, ℕ, refl, sym, ap, ◌∙◌}
use Rattle.htt_syntax.specs.Trees.{MonoTree, TyTree, TermTree, CompTree, FormulaTree}
use Rattle.htt_syntax_walk.specs.Walk.{Puts, walk_mono, walk_ty, walk_term, walk_comp, walk_formula}
use Rattle.htt_syntax_walk.specs.Kept.{kept}
use Rattle.htt_syntax_walk.proofs.Keeping.{mono_kept, ty_kept, term_kept, comp_kept, formula_kept}
use Rattle.theory_saturation.specs.Saturation.{saturated}
use Rattle.htt_syntax_measure.specs.declared.size.Size.{Size}
use Rattle.htt_syntax_measure.specs.Measures.{leaf, deeper, mono_measure, ty_measure, term_measure, comp_measure}
use Rattle.htt_syntax_measure.specs.Measures.{formula_measure}
use Rattle.htt_syntax_measure.proofs.MeasureLevels.{mono_var_measure, term_var_measure}

pub term_own : (p : Puts) (d n : ℕ) → p ≡ kept → leaf ≡ term_measure (p.on_term d n)
term_own p d n h = rw h (sym (term_var_measure n))

pub mono_own : (p : Puts) (d n : ℕ) → p ≡ kept → leaf ≡ mono_measure (p.on_mono d n)
mono_own p d n h = rw h (sym (mono_var_measure n))

pub own_mono : (t : MonoTree) (z : Size)
    → ((p : Puts) (d : ℕ) → p ≡ kept → 0 ≡ saturated d → z ≡ mono_measure (walk_mono p d t))
    → z ≡ mono_measure t
own_mono t z h = h kept 0 refl refl ∙ ap mono_measure (mono_kept t 0)

pub own_ty : (t : TyTree) (z : Size)
    → ((p : Puts) (d : ℕ) → p ≡ kept → 0 ≡ saturated d → z ≡ ty_measure (walk_ty p d t))
    → z ≡ ty_measure t
own_ty t z h = h kept 0 refl refl ∙ ap ty_measure (ty_kept t 0)

pub own_term : (t : TermTree) (z : Size)
    → ((p : Puts) (d : ℕ) → p ≡ kept → 0 ≡ saturated d → z ≡ term_measure (walk_term p d t))
    → z ≡ term_measure t
own_term t z h = h kept 0 refl refl ∙ ap term_measure (term_kept t 0)

pub own_formula : (t : FormulaTree) (z : Size)
    → ((p : Puts) (d : ℕ) → p ≡ kept → 0 ≡ saturated d → z ≡ formula_measure (walk_formula p d t))
    → z ≡ formula_measure t
own_formula t z h = h kept 0 refl refl ∙ ap formula_measure (formula_kept t 0)

pub own_comp : (t : CompTree) (z y : Size)
    → ((p : Puts) (d : ℕ) → p ≡ kept → 0 ≡ saturated d → z ≡ comp_measure (walk_comp p d t))
    → y ≡ deeper z
    → y ≡ deeper (comp_measure t)
own_comp t z y h is = is ∙ ap deeper (h kept 0 refl refl ∙ ap comp_measure (comp_kept t 0))
