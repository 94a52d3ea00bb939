-- A sorted tree is in scope.
use Rattle.std.specs.Prelude.{ℕ, zero, suc, ◌<◌, Bool, length, Option}
use Rattle.std.proofs.Common.{arith}
use Rattle.htt_syntax.specs.Trees.{MonoTree, TyTree, TripleTree, TermTree, FixTree, CompTree, StepTree, FormulaTree, TermTrees}
use Rattle.theory_renaming.specs.Scoped.{ScopedMono, ScopedOption, ScopedTy, ScopedTriple, ScopedTerm, ScopedFix, ScopedComp, ScopedStep, ScopedFormula}
use Rattle.theory_renaming.specs.Scoped.{ScopedTerms, in_m_word, in_m_bool, in_m_loc, in_m_unit, in_m_pair, in_m_var, in_none, in_some, in_y_mono, in_y_fun}
use Rattle.theory_renaming.specs.Scoped.{in_y_all, in_y_hoare, in_y_at, in_triple, in_t_var, in_t_val, in_t_def, in_t_app, in_t_inst, in_t_lam, in_t_lam_t}
use Rattle.theory_renaming.specs.Scoped.{in_t_do, in_t_fix, in_t_word, in_t_bool, in_t_loc, in_t_unit, in_t_pair, in_t_fst, in_t_snd, in_t_not, in_t_bin}
use Rattle.theory_renaming.specs.Scoped.{in_t_eq, in_t_sel, in_t_ann, in_t_made, in_t_at, in_x_param, in_x_body, in_c_ret, in_c_step, in_s_run, in_s_alloc}
use Rattle.theory_renaming.specs.Scoped.{in_s_get, in_s_set, in_s_free, in_s_if, in_s_claim, in_f_tt, in_f_ff, in_f_and, in_f_or, in_f_imp, in_f_all_t}
use Rattle.theory_renaming.specs.Scoped.{in_f_ex_t, in_f_all_h, in_f_ex_h, in_f_emp, in_f_cell, in_f_block, in_f_join, in_f_same, in_f_eq, in_f_at, in_f_rec}
use Rattle.theory_renaming.specs.Scoped.{in_no_terms, in_more_terms}
use Rattle.theory_text_names.specs.Scopes.{Sort}
use Rattle.theory_text_scoped.specs.Sorted.{Sorts, HasSort, sort_here, sort_there, SortedMono, SortedOption, SortedTy, SortedTriple, SortedTerm, SortedFix}
use Rattle.theory_text_scoped.specs.Sorted.{SortedComp, SortedStep, SortedFormula, SortedTerms, sorted_m_word, sorted_m_bool, sorted_m_loc, sorted_m_unit}
use Rattle.theory_text_scoped.specs.Sorted.{sorted_m_pair, sorted_m_var, sorted_none, sorted_some, sorted_y_mono, sorted_y_fun, sorted_y_all, sorted_y_hoare}
use Rattle.theory_text_scoped.specs.Sorted.{sorted_y_at, sorted_triple, sorted_t_var, sorted_t_val, sorted_t_def, sorted_t_app, sorted_t_inst, sorted_t_lam}
use Rattle.theory_text_scoped.specs.Sorted.{sorted_t_lam_t, sorted_t_do, sorted_t_fix, sorted_t_word, sorted_t_bool, sorted_t_loc, sorted_t_unit, sorted_t_pair}
use Rattle.theory_text_scoped.specs.Sorted.{sorted_t_fst, sorted_t_snd, sorted_t_not, sorted_t_bin, sorted_t_eq, sorted_t_sel, sorted_t_ann, sorted_t_made}
use Rattle.theory_text_scoped.specs.Sorted.{sorted_t_at, sorted_x_param, sorted_x_body, sorted_c_ret, sorted_c_step, sorted_s_run, sorted_s_alloc, sorted_s_get}
use Rattle.theory_text_scoped.specs.Sorted.{sorted_s_set, sorted_s_free, sorted_s_if, sorted_s_claim, sorted_f_tt, sorted_f_ff, sorted_f_and, sorted_f_or}
use Rattle.theory_text_scoped.specs.Sorted.{sorted_f_imp, sorted_f_all_t, sorted_f_ex_t, sorted_f_all_h, sorted_f_ex_h, sorted_f_emp, sorted_f_cell}
use Rattle.theory_text_scoped.specs.Sorted.{sorted_f_block, sorted_f_join, sorted_f_same, sorted_f_eq, sorted_f_at, sorted_f_rec, sorted_no_terms}
use Rattle.theory_text_scoped.specs.Sorted.{sorted_more_terms}

pub in_context : {may_be : Sort → Bool} {g : Sorts} → (n : ℕ) → HasSort may_be g n → n < length g
in_context zero (sort_here e) = omega arith
in_context (suc n) (sort_there x) = let below = in_context n x in omega (arith, below)

pub mono_scoped : {g : Sorts} {t : MonoTree} → SortedMono g t → ScopedMono (length g) t
mono_scoped sorted_m_word = in_m_word
mono_scoped sorted_m_bool = in_m_bool
mono_scoped sorted_m_loc = in_m_loc
mono_scoped sorted_m_unit = in_m_unit
mono_scoped (sorted_m_pair d0 d1) = in_m_pair (mono_scoped d0) (mono_scoped d1)
mono_scoped (sorted_m_var d0) = in_m_var (in_context _ d0)

pub option_scoped : {g : Sorts} {t : Option MonoTree} → SortedOption g t → ScopedOption (length g) t
option_scoped sorted_none = in_none
option_scoped (sorted_some d0) = in_some (mono_scoped d0)

mutual
  pub ty_scoped : {g : Sorts} {t : TyTree} → SortedTy g t → ScopedTy (length g) t
  ty_scoped (sorted_y_mono d0) = in_y_mono (mono_scoped d0)
  ty_scoped (sorted_y_fun d0 d1) = in_y_fun (ty_scoped d0) (ty_scoped d1)
  ty_scoped (sorted_y_all d0) = in_y_all (ty_scoped d0)
  ty_scoped (sorted_y_hoare d0) = in_y_hoare (triple_scoped d0)
  ty_scoped (sorted_y_at d0) = in_y_at (ty_scoped d0)

  pub triple_scoped : {g : Sorts} {t : TripleTree} → SortedTriple g t → ScopedTriple (length g) t
  triple_scoped (sorted_triple d0 d1 d2) = in_triple (formula_scoped d0) (mono_scoped d1) (formula_scoped d2)

  pub term_scoped : {g : Sorts} {t : TermTree} → SortedTerm g t → ScopedTerm (length g) t
  term_scoped (sorted_t_var d0) = in_t_var (in_context _ d0)
  term_scoped sorted_t_val = in_t_val
  term_scoped sorted_t_def = in_t_def
  term_scoped (sorted_t_app d0 d1) = in_t_app (term_scoped d0) (term_scoped d1)
  term_scoped (sorted_t_inst d0 d1) = in_t_inst (term_scoped d0) (mono_scoped d1)
  term_scoped (sorted_t_lam d0) = in_t_lam (term_scoped d0)
  term_scoped (sorted_t_lam_t d0) = in_t_lam_t (term_scoped d0)
  term_scoped (sorted_t_do d0) = in_t_do (comp_scoped d0)
  term_scoped (sorted_t_fix d0) = in_t_fix (fix_scoped d0)
  term_scoped sorted_t_word = in_t_word
  term_scoped sorted_t_bool = in_t_bool
  term_scoped sorted_t_loc = in_t_loc
  term_scoped sorted_t_unit = in_t_unit
  term_scoped (sorted_t_pair d0 d1) = in_t_pair (term_scoped d0) (term_scoped d1)
  term_scoped (sorted_t_fst d0) = in_t_fst (term_scoped d0)
  term_scoped (sorted_t_snd d0) = in_t_snd (term_scoped d0)
  term_scoped (sorted_t_not d0) = in_t_not (term_scoped d0)
  term_scoped (sorted_t_bin d0 d1) = in_t_bin (term_scoped d0) (term_scoped d1)
  term_scoped (sorted_t_eq d0 d1 d2) = in_t_eq (mono_scoped d0) (term_scoped d1) (term_scoped d2)
  term_scoped (sorted_t_sel d0 d1 d2 d3) = in_t_sel (mono_scoped d0) (term_scoped d1) (term_scoped d2) (term_scoped d3)
  term_scoped (sorted_t_ann d0 d1) = in_t_ann (term_scoped d0) (ty_scoped d1)
  term_scoped (sorted_t_made d0) = in_t_made (terms_scoped d0)
  term_scoped (sorted_t_at d0) = in_t_at (term_scoped d0)

  pub fix_scoped : {g : Sorts} {t : FixTree} → SortedFix g t → ScopedFix (length g) t
  fix_scoped (sorted_x_param d0 d1) = in_x_param (ty_scoped d0) (fix_scoped d1)
  fix_scoped (sorted_x_body d0 d1) = in_x_body (triple_scoped d0) (comp_scoped d1)

  pub comp_scoped : {g : Sorts} {t : CompTree} → SortedComp g t → ScopedComp (length g) t
  comp_scoped (sorted_c_ret d0) = in_c_ret (term_scoped d0)
  comp_scoped (sorted_c_step d0 d1) = in_c_step (step_scoped d0) (comp_scoped d1)

  pub step_scoped : {g : Sorts} {t : StepTree} → SortedStep g t → ScopedStep (length g) t
  step_scoped (sorted_s_run d0 d1) = in_s_run (term_scoped d0) (option_scoped d1)
  step_scoped (sorted_s_alloc d0 d1) = in_s_alloc (mono_scoped d0) (term_scoped d1)
  step_scoped (sorted_s_get d0 d1) = in_s_get (mono_scoped d0) (term_scoped d1)
  step_scoped (sorted_s_set d0 d1 d2) = in_s_set (mono_scoped d0) (term_scoped d1) (term_scoped d2)
  step_scoped (sorted_s_free d0 d1) = in_s_free (mono_scoped d0) (term_scoped d1)
  step_scoped (sorted_s_if d0 d1 d2 d3) = in_s_if (mono_scoped d0) (term_scoped d1) (comp_scoped d2) (comp_scoped d3)
  step_scoped (sorted_s_claim d0) = in_s_claim (formula_scoped d0)

  pub formula_scoped : {g : Sorts} {t : FormulaTree} → SortedFormula g t → ScopedFormula (length g) t
  formula_scoped sorted_f_tt = in_f_tt
  formula_scoped sorted_f_ff = in_f_ff
  formula_scoped (sorted_f_and d0 d1) = in_f_and (formula_scoped d0) (formula_scoped d1)
  formula_scoped (sorted_f_or d0 d1) = in_f_or (formula_scoped d0) (formula_scoped d1)
  formula_scoped (sorted_f_imp d0 d1) = in_f_imp (formula_scoped d0) (formula_scoped d1)
  formula_scoped (sorted_f_all_t d0 d1) = in_f_all_t (mono_scoped d0) (formula_scoped d1)
  formula_scoped (sorted_f_ex_t d0 d1) = in_f_ex_t (mono_scoped d0) (formula_scoped d1)
  formula_scoped (sorted_f_all_h d0) = in_f_all_h (formula_scoped d0)
  formula_scoped (sorted_f_ex_h d0) = in_f_ex_h (formula_scoped d0)
  formula_scoped (sorted_f_emp d0) = in_f_emp (in_context _ d0)
  formula_scoped (sorted_f_cell d0 d1 d2 d3) = in_f_cell (mono_scoped d0) (in_context _ d1) (term_scoped d2) (term_scoped d3)
  formula_scoped (sorted_f_block d0 d1 d2) = in_f_block (mono_scoped d0) (in_context _ d1) (term_scoped d2)
  formula_scoped (sorted_f_join d0 d1 d2) = in_f_join (in_context _ d0) (in_context _ d1) (in_context _ d2)
  formula_scoped (sorted_f_same d0 d1) = in_f_same (in_context _ d0) (in_context _ d1)
  formula_scoped (sorted_f_eq d0 d1 d2) = in_f_eq (mono_scoped d0) (term_scoped d1) (term_scoped d2)
  formula_scoped (sorted_f_at d0) = in_f_at (formula_scoped d0)
  formula_scoped (sorted_f_rec d0 d1 d2) = in_f_rec (in_context _ d0) (term_scoped d1) (terms_scoped d2)

  pub terms_scoped : {g : Sorts} {t : TermTrees} → SortedTerms g t → ScopedTerms (length g) t
  terms_scoped sorted_no_terms = in_no_terms
  terms_scoped (sorted_more_terms d0 d1) = in_more_terms (term_scoped d0) (terms_scoped d1)
