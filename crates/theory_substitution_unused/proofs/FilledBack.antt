-- A monotype that is put for a variable that a canonical tree doesn't hold leaves the tree as it was.
use Rattle.std.proofs.Common.{◌≡◌, ◌≢◌, ℕ, zero, suc, List, false, Some, nat_eq, refl, ap, ◌∙◌, arith}
use Rattle.htt_syntax.specs.Trees.{MonoTree, TyTree, TripleTree, TermTree, FixTree, CompTree, StepTree, FormulaTree, TermTrees, m_word, m_bool, m_loc, m_unit}
use Rattle.htt_syntax.specs.Trees.{m_pair, m_var, y_mono, y_fun, y_all, y_hoare, triple, t_var, t_app, t_inst, t_lam, t_lam_t, t_do, t_fix, t_pair, t_fst}
use Rattle.htt_syntax.specs.Trees.{t_snd, t_not, t_bin, t_eq, t_sel, t_made, x_param, x_body, c_ret, c_step, s_run, s_alloc, s_get, s_set, s_free, s_if, f_and}
use Rattle.htt_syntax.specs.Trees.{f_or, f_imp, f_all_t, f_ex_t, f_all_h, f_ex_h, f_emp, f_cell, f_block, f_join, f_same, f_eq, f_rec, more_terms}
use Rattle.theory_renaming.specs.Renaming.{Map, lift, rename_mono, rename_ty, rename_triple, rename_term, rename_fix, rename_comp, rename_step, rename_formula}
use Rattle.theory_renaming.specs.Renaming.{rename_terms}
use Rattle.theory_canonical.specs.Skeletons.{Skeleton}
use Rattle.theory_canonical.specs.Folding.{folding}
use Rattle.theory_canonical.specs.Contexts.{Standing, Heads}
use Rattle.theory_canonical.specs.Canonical.{IsCanonical, IsNeutral, IsCanonicalTerms, IsCanonicalFix, IsCanonicalComp, IsCanonicalStep, IsCanonicalTy}
use Rattle.theory_canonical.specs.Canonical.{IsCanonicalTriple, IsCanonicalFormula, n_word, n_bool, n_loc, n_unit, n_pair, n_fst, n_snd, n_not, n_bin, n_eq}
use Rattle.theory_canonical.specs.Canonical.{n_sel, n_lam, n_lam_t, n_do, n_neutral, e_var, e_val, e_made, e_fix, e_app, e_inst, n_no_terms, n_more_terms}
use Rattle.theory_canonical.specs.Canonical.{n_param, n_body, n_ret, n_step, n_run, n_alloc, n_get, n_set, n_free, n_if, n_mono, n_fun, n_all, n_hoare}
use Rattle.theory_canonical.specs.Canonical.{n_triple, n_tt, n_ff, n_and, n_or, n_imp, n_all_t, n_ex_t, n_all_h, n_ex_h, n_emp, n_cell, n_block, n_join, n_same}
use Rattle.theory_canonical.specs.Canonical.{n_equal, n_rec}
use Rattle.theory_substitution.specs.Closing.{closing}
use Rattle.theory_substitution.specs.Monotypes.{Filling, fill_mono, next_filling, fill_ty, fill_triple, fill_term, fill_fix, fill_comp, fill_step, fill_formula}
use Rattle.theory_substitution.specs.Monotypes.{fill_terms, put_mono}
use Rattle.theory_substitution_unused.specs.Opening.{opening}
use Rattle.theory_substitution_unused.proofs.Back.{closes, misses, not_folded}

-- A filling and a map that undo a renaming.
pub record Undoes (f : Filling) (m k : Map) : Type 0 where
  pub monos : (n : ℕ) → f (k n) ≡ m_var n
  pub indices : (n : ℕ) → m (k n) ≡ n

next_mono : {f : Filling} {m k : Map} → Undoes f m k → (n : ℕ) → next_filling f (lift k n) ≡ m_var n
unfolding next_filling lift rename_mono
next_mono u zero = refl
next_mono u (suc n) = ap (rename_mono suc) (u.monos n)

next_index : {f : Filling} {m k : Map} → Undoes f m k → (n : ℕ) → lift m (lift k n) ≡ n
unfolding lift
next_index u zero = refl
next_index u (suc n) = ap suc (u.indices n)

undoes_next : {f : Filling} {m k : Map} → Undoes f m k → Undoes (next_filling f) (lift m) (lift k)
undoes_next u = record { monos = next_mono u; indices = next_index u }

mono_filled : {f : Filling} {m k : Map} → Undoes f m k → (mono : MonoTree) → fill_mono f (rename_mono k mono) ≡ mono
unfolding fill_mono rename_mono
mono_filled u m_word = refl
mono_filled u m_bool = refl
mono_filled u m_loc = refl
mono_filled u m_unit = refl
mono_filled u (m_pair left right) = λ j. m_pair (mono_filled u left j) (mono_filled u right j)
mono_filled u (m_var index) = u.monos index

mutual
  unfolding rename_term fill_term

  pub term_filled : {heads : Heads} {g : List Standing} {term : TermTree} {t : Skeleton} {f : Filling} {m k : Map}
      → Undoes f m k
      → IsCanonical heads g term t
      → fill_term f m (rename_term k term) ≡ term
  term_filled u n_word = refl
  term_filled u n_bool = refl
  term_filled u n_loc = refl
  term_filled u n_unit = refl
  term_filled u (n_pair d0 d1) = λ j. t_pair (term_filled u d0 j) (term_filled u d1 j)
  term_filled u (n_fst d0 d1) = (λ j. folding (t_fst (term_filled u d0 j))) ∙ not_folded d1
  term_filled u (n_snd d0 d1) = (λ j. folding (t_snd (term_filled u d0 j))) ∙ not_folded d1
  term_filled u (n_not d0 d1) = (λ j. folding (t_not (term_filled u d0 j))) ∙ not_folded d1
  term_filled u (n_bin {op = op} d0 d1 d2) = (λ j. folding (t_bin op (term_filled u d0 j) (term_filled u d1 j))) ∙ not_folded d2
  term_filled u (n_eq {mono = mono} d0 d1 d2 d3) = (λ j. folding (t_eq (mono_filled u mono j) (term_filled u d1 j) (term_filled u d2 j))) ∙ not_folded d3
  term_filled u (n_sel {mono = mono} d0 d1 d2 d3 d4) =
      (λ j. folding (t_sel (mono_filled u mono j) (term_filled u d1 j) (term_filled u d2 j) (term_filled u d3 j))) ∙ not_folded d4
  term_filled u (n_lam d0) = λ j. t_lam (term_filled (undoes_next u) d0 j)
  term_filled u (n_lam_t d0) = λ j. t_lam_t (term_filled (undoes_next u) d0 j)
  term_filled u (n_do d0) = λ j. t_do (comp_filled u d0 j)
  term_filled u (n_neutral d) = head_filled u d

  pub head_filled : {heads : Heads} {g : List Standing} {term : TermTree} {t : Skeleton} {f : Filling} {m k : Map}
      → Undoes f m k
      → IsNeutral heads g term t
      → fill_term f m (rename_term k term) ≡ term
  head_filled u (e_var {index = index} d0) = λ j. t_var (u.indices index j)
  head_filled u (e_val d0) = refl
  head_filled u (e_made {number = number} d0 d1) = λ j. t_made number (terms_filled u d1 j)
  head_filled u (e_fix {at = at} d0) = λ j. t_fix at (fix_filled u d0 j)
  head_filled u (e_app d0 d1) = λ j. t_app (head_filled u d0 j) (term_filled u d1 j)
  head_filled u (e_inst {mono = mono} d0 d1) = λ j. t_inst (head_filled u d0 j) (mono_filled u mono j)

  pub terms_filled : {heads : Heads} {g : List Standing} {term : TermTrees} {f : Filling} {m k : Map}
      → Undoes f m k
      → IsCanonicalTerms heads g term
      → fill_terms f m (rename_terms k term) ≡ term
  terms_filled u n_no_terms = refl
  terms_filled u (n_more_terms d0 d1) = λ j. more_terms (term_filled u d0 j) (terms_filled u d1 j)

  pub fix_filled : {heads : Heads} {g : List Standing} {term : FixTree} {t over : Skeleton} {f : Filling} {m k : Map}
      → Undoes f m k
      → IsCanonicalFix heads g over term t
      → fill_fix f m (rename_fix k term) ≡ term
  fix_filled u (n_param d0 d1 d2) = λ j. x_param (ty_filled u d0 j) (fix_filled (undoes_next u) d2 j)
  fix_filled u (n_body d0 d1) = λ j. x_body (triple_filled u d0 j) (comp_filled (undoes_next u) d1 j)

  pub comp_filled : {heads : Heads} {g : List Standing} {term : CompTree} {f : Filling} {m k : Map}
      → Undoes f m k
      → IsCanonicalComp heads g term
      → fill_comp f m (rename_comp k term) ≡ term
  comp_filled u (n_ret d0) = λ j. c_ret (term_filled u d0 j)
  comp_filled u (n_step d0 d1) = λ j. c_step (step_filled u d0 j) (comp_filled (undoes_next u) d1 j)

  pub step_filled : {heads : Heads} {g : List Standing} {term : StepTree} {f : Filling} {m k : Map}
      → Undoes f m k
      → IsCanonicalStep heads g term
      → fill_step f m (rename_step k term) ≡ term
  step_filled u (n_run {mono = mono} d0 d1) = λ j. s_run (head_filled u d0 j) (Some (mono_filled u mono j))
  step_filled u (n_alloc {mono = mono} d0 d1) = λ j. s_alloc (mono_filled u mono j) (term_filled u d1 j)
  step_filled u (n_get {mono = mono} d0 d1) = λ j. s_get (mono_filled u mono j) (term_filled u d1 j)
  step_filled u (n_set {mono = mono} d0 d1 d2) = λ j. s_set (mono_filled u mono j) (term_filled u d1 j) (term_filled u d2 j)
  step_filled u (n_free {mono = mono} d0 d1) = λ j. s_free (mono_filled u mono j) (term_filled u d1 j)
  step_filled u (n_if {mono = mono} d0 d1 d2 d3) = λ j. s_if (mono_filled u mono j) (term_filled u d1 j) (comp_filled u d2 j) (comp_filled u d3 j)

  pub ty_filled : {heads : Heads} {g : List Standing} {term : TyTree} {f : Filling} {m k : Map}
      → Undoes f m k
      → IsCanonicalTy heads g term
      → fill_ty f m (rename_ty k term) ≡ term
  ty_filled u (n_mono {mono = mono} d0) = λ j. y_mono (mono_filled u mono j)
  ty_filled u (n_fun d0 d1 d2) = λ j. y_fun (ty_filled u d0 j) (ty_filled (undoes_next u) d2 j)
  ty_filled u (n_all d0) = λ j. y_all (ty_filled (undoes_next u) d0 j)
  ty_filled u (n_hoare d0) = λ j. y_hoare (triple_filled u d0 j)

  pub triple_filled : {heads : Heads} {g : List Standing} {term : TripleTree} {f : Filling} {m k : Map}
      → Undoes f m k
      → IsCanonicalTriple heads g term
      → fill_triple f m (rename_triple k term) ≡ term
  triple_filled u (n_triple {mono = mono} d0 d1 d2) = λ j.
      triple (formula_filled (undoes_next u) d0 j) (mono_filled u mono j) (formula_filled (undoes_next (undoes_next (undoes_next u))) d2 j)

  pub formula_filled : {heads : Heads} {g : List Standing} {term : FormulaTree} {f : Filling} {m k : Map}
      → Undoes f m k
      → IsCanonicalFormula heads g term
      → fill_formula f m (rename_formula k term) ≡ term
  formula_filled u n_tt = refl
  formula_filled u n_ff = refl
  formula_filled u (n_and d0 d1) = λ j. f_and (formula_filled u d0 j) (formula_filled u d1 j)
  formula_filled u (n_or d0 d1) = λ j. f_or (formula_filled u d0 j) (formula_filled u d1 j)
  formula_filled u (n_imp d0 d1) = λ j. f_imp (formula_filled u d0 j) (formula_filled u d1 j)
  formula_filled u (n_all_t {mono = mono} d0 d1) = λ j. f_all_t (mono_filled u mono j) (formula_filled (undoes_next u) d1 j)
  formula_filled u (n_ex_t {mono = mono} d0 d1) = λ j. f_ex_t (mono_filled u mono j) (formula_filled (undoes_next u) d1 j)
  formula_filled u (n_all_h d0) = λ j. f_all_h (formula_filled (undoes_next u) d0 j)
  formula_filled u (n_ex_h d0) = λ j. f_ex_h (formula_filled (undoes_next u) d0 j)
  formula_filled u (n_emp {heap = heap} d0) = λ j. f_emp (u.indices heap j)
  formula_filled u (n_cell {mono = mono} {heap = heap} d0 d1 d2 d3) =
      λ j. f_cell (mono_filled u mono j) (u.indices heap j) (term_filled u d2 j) (term_filled u d3 j)
  formula_filled u (n_block {mono = mono} {heap = heap} d0 d1 d2) = λ j. f_block (mono_filled u mono j) (u.indices heap j) (term_filled u d2 j)
  formula_filled u (n_join {whole = whole} {left = left} {right = right} d0 d1 d2) = λ j. f_join (u.indices whole j) (u.indices left j) (u.indices right j)
  formula_filled u (n_same {left = left} {right = right} d0 d1) = λ j. f_same (u.indices left j) (u.indices right j)
  formula_filled u (n_equal {mono = mono} d0 d1 d2) = λ j. f_eq (mono_filled u mono j) (term_filled u d1 j) (term_filled u d2 j)
  formula_filled u (n_rec {number = number} {heap = heap} d0 d1 d2) = λ j. f_rec number (u.indices heap j) (term_filled u d1 j) (terms_filled u d2 j)

put_beside : (mono : MonoTree) (x n : ℕ) → n ≢ x → put_mono mono x n ≡ m_var (closing x n)
unfolding put_mono
put_beside mono x n p = let e : nat_eq n x ≡ false = grind arith in rw e refl

pub put_undoes : (mono : MonoTree) (x : ℕ) → Undoes (put_mono mono x) (closing x) (opening x)
put_undoes mono x = record { monos = λ n. put_beside mono x (opening x n) (misses x n) ∙ ap m_var (closes x n); indices = closes x }
