-- What is put for a variable that a canonical tree doesn't hold leaves the tree as it was.
use Rattle.std.proofs.Common.{◌≡◌, ◌≢◌, ℕ, zero, suc, List, Some, None, refl, ap, ◌∙◌, subst, arith}
use Rattle.htt_syntax.specs.Trees.{MonoTree, TyTree, TripleTree, TermTree, FixTree, CompTree, StepTree, FormulaTree, TermTrees, y_mono, triple, t_var, t_inst}
use Rattle.htt_syntax.specs.Trees.{t_eq, t_sel, s_run, s_alloc, s_get, s_set, s_free, s_if, f_all_t, f_ex_t, f_emp, f_cell, f_block, f_join, f_same, f_eq}
use Rattle.htt_syntax.specs.Trees.{f_rec}
use Rattle.theory_renaming.specs.Renaming.{lift, rename_mono, rename_ty, rename_triple, rename_term, rename_fix, rename_comp, rename_step, rename_formula}
use Rattle.theory_renaming.specs.Renaming.{rename_terms}
use Rattle.theory_canonical.specs.Skeletons.{Skeleton}
use Rattle.theory_canonical.specs.Folding.{contractum, folding, or_itself}
use Rattle.theory_canonical.specs.Contexts.{Standing, Heads}
use Rattle.theory_canonical.specs.Canonical.{IsCanonical, IsNeutral, IsCanonicalTerms, IsCanonicalFix, IsCanonicalComp, IsCanonicalStep, IsCanonicalTy}
use Rattle.theory_canonical.specs.Canonical.{IsCanonicalTriple, IsCanonicalFormula, n_word, n_bool, n_loc, n_unit, n_pair, n_fst, n_snd, n_not, n_bin, n_eq}
use Rattle.theory_canonical.specs.Canonical.{n_sel, n_lam, n_lam_t, n_do, n_neutral, e_var, e_val, e_made, e_fix, e_app, e_inst, n_no_terms, n_more_terms}
use Rattle.theory_canonical.specs.Canonical.{n_param, n_body, n_ret, n_step, n_run, n_alloc, n_get, n_set, n_free, n_if, n_mono, n_fun, n_all, n_hoare}
use Rattle.theory_canonical.specs.Canonical.{n_triple, n_tt, n_ff, n_and, n_or, n_imp, n_all_t, n_ex_t, n_all_h, n_ex_h, n_emp, n_cell, n_block, n_join, n_same}
use Rattle.theory_canonical.specs.Canonical.{n_equal, n_rec}
use Rattle.theory_substitution.specs.Closing.{closing, up}
use Rattle.theory_substitution.specs.Substitution.{Kept, SubTerm, SubTerms, SubFix, SubComp, SubStep, SubTy, SubTriple, SubFormula, k_var, k_val, k_made, k_fix}
use Rattle.theory_substitution.specs.Substitution.{k_app, k_inst, u_kept, u_word, u_bool, u_loc, u_unit, u_pair, u_fst, u_snd, u_not, u_bin, u_eq, u_sel, u_lam}
use Rattle.theory_substitution.specs.Substitution.{u_lam_t, u_do, u_no_terms, u_more_terms, u_x_param, u_x_body, u_ret, u_step, u_run, u_s_alloc, u_s_get}
use Rattle.theory_substitution.specs.Substitution.{u_s_set, u_s_free, u_s_if, u_y_mono, u_y_fun, u_y_all, u_y_hoare, u_triple, u_f_tt, u_f_ff, u_f_and, u_f_or}
use Rattle.theory_substitution.specs.Substitution.{u_f_imp, u_f_all_t, u_f_ex_t, u_f_all_h, u_f_ex_h, u_f_emp, u_f_cell, u_f_block, u_f_join, u_f_same, u_f_eq}
use Rattle.theory_substitution.specs.Substitution.{u_f_rec}
use Rattle.theory_substitution_unused.specs.Opening.{opening}
use Rattle.theory_renaming.proofs.Composition.{mono_joins}
use Rattle.theory_renaming.proofs.Identity.{mono_stays}

pub closes : (x n : ℕ) → closing x (opening x n) ≡ n
unfolding closing opening lift
closes zero n = refl
closes (suc x) zero = refl
closes (suc x) (suc n) = ap suc (closes x n)

pub misses : (x n : ℕ) → opening x n ≢ x
unfolding opening lift
misses zero n e = omega (arith, e)
misses (suc x) zero e = omega (arith, e)
misses (suc x) (suc n) e = misses x n (omega (arith, e))

mono_back : (x : ℕ) (mono : MonoTree) → rename_mono (closing x) (rename_mono (opening x) mono) ≡ mono
mono_back x mono = mono_joins (closing x) (opening x) (λ n. n) (closes x) mono ∙ mono_stays (λ n. n) (λ n. refl) mono

pub not_folded : {t : TermTree} → contractum t ≡ None → folding t ≡ t
not_folded {t = t} e = ap (λ o. or_itself o t) e

term_moved : {new : TermTree} {s : Skeleton} {x : ℕ} {t r q : TermTree} → r ≡ q → SubTerm new s x t r → SubTerm new s x t q
term_moved {new = new} {s = s} {x = x} {t = t} e d = subst (λ u. SubTerm new s x t u) e d

kept_moved : {new : TermTree} {s : Skeleton} {x : ℕ} {t r q : TermTree} → r ≡ q → Kept new s x t r → Kept new s x t q
kept_moved {new = new} {s = s} {x = x} {t = t} e d = subst (λ u. Kept new s x t u) e d

step_moved : {new : TermTree} {s : Skeleton} {x : ℕ} {t r q : StepTree} → r ≡ q → SubStep new s x t r → SubStep new s x t q
step_moved {new = new} {s = s} {x = x} {t = t} e d = subst (λ u. SubStep new s x t u) e d

ty_moved : {new : TermTree} {s : Skeleton} {x : ℕ} {t r q : TyTree} → r ≡ q → SubTy new s x t r → SubTy new s x t q
ty_moved {new = new} {s = s} {x = x} {t = t} e d = subst (λ u. SubTy new s x t u) e d

triple_moved : {new : TermTree} {s : Skeleton} {x : ℕ} {t r q : TripleTree} → r ≡ q → SubTriple new s x t r → SubTriple new s x t q
triple_moved {new = new} {s = s} {x = x} {t = t} e d = subst (λ u. SubTriple new s x t u) e d

formula_moved : {new : TermTree} {s : Skeleton} {x : ℕ} {t r q : FormulaTree} → r ≡ q → SubFormula new s x t r → SubFormula new s x t q
formula_moved {new = new} {s = s} {x = x} {t = t} e d = subst (λ u. SubFormula new s x t u) e d

mutual
  unfolding rename_term opening

  pub term_back : {heads : Heads} {g : List Standing} {term : TermTree} {t : Skeleton} (s : Skeleton) (new : TermTree) (x : ℕ)
      → IsCanonical heads g term t
      → SubTerm new s x (rename_term (opening x) term) term
  term_back s new x n_word = u_word
  term_back s new x n_bool = u_bool
  term_back s new x n_loc = u_loc
  term_back s new x n_unit = u_unit
  term_back s new x (n_pair d0 d1) = u_pair (term_back s new x d0) (term_back s new x d1)
  term_back s new x (n_fst d0 d1) = term_moved (not_folded d1) (u_fst (term_back s new x d0))
  term_back s new x (n_snd d0 d1) = term_moved (not_folded d1) (u_snd (term_back s new x d0))
  term_back s new x (n_not d0 d1) = term_moved (not_folded d1) (u_not (term_back s new x d0))
  term_back s new x (n_bin d0 d1 d2) = term_moved (not_folded d2) (u_bin (term_back s new x d0) (term_back s new x d1))
  term_back s new x (n_eq {mono = mono} {left = left} {right = right} d0 d1 d2 d3) =
      term_moved ((λ j. folding (t_eq (mono_back x mono j) left right)) ∙ not_folded d3)
      (u_eq (term_back s new x d1) (term_back s new x d2))
  term_back s new x (n_sel {mono = mono} {test = test} {on_true = on_true} {on_false = on_false} d0 d1 d2 d3 d4) =
      term_moved ((λ j. folding (t_sel (mono_back x mono j) test on_true on_false)) ∙ not_folded d4)
      (u_sel (term_back s new x d1) (term_back s new x d2) (term_back s new x d3))
  term_back s new x (n_lam d0) = u_lam (term_back s (up new) (suc x) d0)
  term_back s new x (n_lam_t d0) = u_lam_t (term_back s (up new) (suc x) d0)
  term_back s new x (n_do d0) = u_do (comp_back s new x d0)
  term_back s new x (n_neutral d) = u_kept (head_back s new x d)

  pub head_back : {heads : Heads} {g : List Standing} {term : TermTree} {t : Skeleton} (s : Skeleton) (new : TermTree) (x : ℕ)
      → IsNeutral heads g term t
      → Kept new s x (rename_term (opening x) term) term
  head_back s new x (e_var {index = index} d) = kept_moved (λ j. t_var (closes x index j)) (k_var (misses x index))
  head_back s new x (e_val d0) = k_val
  head_back s new x (e_made d0 d1) = k_made (terms_back s new x d1)
  head_back s new x (e_fix d0) = k_fix (fix_back s new x d0)
  head_back s new x (e_app d0 d1) = k_app (head_back s new x d0) (term_back s new x d1)
  head_back s new x (e_inst {function = function} {mono = mono} d0 d1) = kept_moved (λ j. t_inst function (mono_back x mono j)) (k_inst (head_back s new x d0))

  pub terms_back : {heads : Heads} {g : List Standing} {term : TermTrees} (s : Skeleton) (new : TermTree) (x : ℕ)
      → IsCanonicalTerms heads g term
      → SubTerms new s x (rename_terms (opening x) term) term
  terms_back s new x n_no_terms = u_no_terms
  terms_back s new x (n_more_terms d0 d1) = u_more_terms (term_back s new x d0) (terms_back s new x d1)

  pub fix_back : {heads : Heads} {g : List Standing} {term : FixTree} {t over : Skeleton} (s : Skeleton) (new : TermTree) (x : ℕ)
      → IsCanonicalFix heads g over term t
      → SubFix new s x (rename_fix (opening x) term) term
  fix_back s new x (n_param d0 d1 d2) = u_x_param (ty_back s new x d0) (fix_back s (up new) (suc x) d2)
  fix_back s new x (n_body d0 d1) = u_x_body (triple_back s new x d0) (comp_back s (up new) (suc x) d1)

  pub comp_back : {heads : Heads} {g : List Standing} {term : CompTree} (s : Skeleton) (new : TermTree) (x : ℕ)
      → IsCanonicalComp heads g term
      → SubComp new s x (rename_comp (opening x) term) term
  comp_back s new x (n_ret d) = u_ret (term_back s new x d)
  comp_back s new x (n_step d e) = u_step (step_back s new x d) (comp_back s (up new) (suc x) e)

  pub step_back : {heads : Heads} {g : List Standing} {term : StepTree} (s : Skeleton) (new : TermTree) (x : ℕ)
      → IsCanonicalStep heads g term
      → SubStep new s x (rename_step (opening x) term) term
  step_back s new x (n_run {term = term} {mono = mono} d0 d1) = step_moved (λ j. s_run term (Some (mono_back x mono j))) (u_run (head_back s new x d0))
  step_back s new x (n_alloc {mono = mono} {value = value} d0 d1) = step_moved (λ j. s_alloc (mono_back x mono j) value) (u_s_alloc (term_back s new x d1))
  step_back s new x (n_get {mono = mono} {place = place} d0 d1) = step_moved (λ j. s_get (mono_back x mono j) place) (u_s_get (term_back s new x d1))
  step_back s new x (n_set {mono = mono} {place = place} {value = value} d0 d1 d2) =
      step_moved (λ j. s_set (mono_back x mono j) place value) (u_s_set (term_back s new x d1) (term_back s new x d2))
  step_back s new x (n_free {mono = mono} {place = place} d0 d1) = step_moved (λ j. s_free (mono_back x mono j) place) (u_s_free (term_back s new x d1))
  step_back s new x (n_if {mono = mono} {test = test} {on_true = on_true} {on_false = on_false} d0 d1 d2 d3) =
      step_moved (λ j. s_if (mono_back x mono j) test on_true on_false)
      (u_s_if (term_back s new x d1) (comp_back s new x d2) (comp_back s new x d3))

  pub ty_back : {heads : Heads} {g : List Standing} {term : TyTree} (s : Skeleton) (new : TermTree) (x : ℕ)
      → IsCanonicalTy heads g term
      → SubTy new s x (rename_ty (opening x) term) term
  ty_back s new x (n_mono {mono = mono} d0) = ty_moved (λ j. y_mono (mono_back x mono j)) u_y_mono
  ty_back s new x (n_fun d0 d1 d2) = u_y_fun (ty_back s new x d0) (ty_back s (up new) (suc x) d2)
  ty_back s new x (n_all d0) = u_y_all (ty_back s (up new) (suc x) d0)
  ty_back s new x (n_hoare d0) = u_y_hoare (triple_back s new x d0)

  pub triple_back : {heads : Heads} {g : List Standing} {term : TripleTree} (s : Skeleton) (new : TermTree) (x : ℕ)
      → IsCanonicalTriple heads g term
      → SubTriple new s x (rename_triple (opening x) term) term
  triple_back s new x (n_triple {pre = pre} {post = post} {mono = mono} d0 d1 d2) =
      triple_moved (λ j. triple pre (mono_back x mono j) post)
      (u_triple (formula_back s (up new) (suc x) d0) (formula_back s (up (up (up new))) (suc (suc (suc x))) d2))

  pub formula_back : {heads : Heads} {g : List Standing} {term : FormulaTree} (s : Skeleton) (new : TermTree) (x : ℕ)
      → IsCanonicalFormula heads g term
      → SubFormula new s x (rename_formula (opening x) term) term
  formula_back s new x n_tt = u_f_tt
  formula_back s new x n_ff = u_f_ff
  formula_back s new x (n_and d0 d1) = u_f_and (formula_back s new x d0) (formula_back s new x d1)
  formula_back s new x (n_or d0 d1) = u_f_or (formula_back s new x d0) (formula_back s new x d1)
  formula_back s new x (n_imp d0 d1) = u_f_imp (formula_back s new x d0) (formula_back s new x d1)
  formula_back s new x (n_all_t {mono = mono} {body = body} d0 d1) =
      formula_moved (λ j. f_all_t (mono_back x mono j) body) (u_f_all_t (formula_back s (up new) (suc x) d1))
  formula_back s new x (n_ex_t {mono = mono} {body = body} d0 d1) =
      formula_moved (λ j. f_ex_t (mono_back x mono j) body) (u_f_ex_t (formula_back s (up new) (suc x) d1))
  formula_back s new x (n_all_h d0) = u_f_all_h (formula_back s (up new) (suc x) d0)
  formula_back s new x (n_ex_h d0) = u_f_ex_h (formula_back s (up new) (suc x) d0)
  formula_back s new x (n_emp {heap = heap} d0) = formula_moved (λ j. f_emp (closes x heap j)) u_f_emp
  formula_back s new x (n_cell {mono = mono} {heap = heap} {place = place} {value = value} d0 d1 d2 d3) =
      formula_moved (λ j. f_cell (mono_back x mono j) (closes x heap j) place value)
      (u_f_cell (term_back s new x d2) (term_back s new x d3))
  formula_back s new x (n_block {mono = mono} {heap = heap} {place = place} d0 d1 d2) =
      formula_moved (λ j. f_block (mono_back x mono j) (closes x heap j) place) (u_f_block (term_back s new x d2))
  formula_back s new x (n_join {whole = whole} {left = left} {right = right} d0 d1 d2) =
      formula_moved (λ j. f_join (closes x whole j) (closes x left j) (closes x right j)) u_f_join
  formula_back s new x (n_same {left = left} {right = right} d0 d1) = formula_moved (λ j. f_same (closes x left j) (closes x right j)) u_f_same
  formula_back s new x (n_equal {mono = mono} {left = left} {right = right} d0 d1 d2) =
      formula_moved (λ j. f_eq (mono_back x mono j) left right) (u_f_eq (term_back s new x d1) (term_back s new x d2))
  formula_back s new x (n_rec {number = number} {heap = heap} {place = place} {arguments = arguments} d0 d1 d2) =
      formula_moved (λ j. f_rec number (closes x heap j) place arguments) (u_f_rec (term_back s new x d1) (terms_back s new x d2))
