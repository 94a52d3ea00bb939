-- A renaming that keeps the sorts of variables keeps trees sorted.
use Rattle.std.specs.Prelude.{ℕ, zero, suc, Bool, ◌∷◌, Option, option_map}
use Rattle.htt_syntax.specs.Trees.{MonoTree, TyTree, TripleTree, TermTree, FixTree, CompTree, StepTree, FormulaTree, TermTrees}
use Rattle.theory_renaming.specs.Renaming.{Map, lift, rename_mono, rename_ty, rename_triple, rename_term, rename_fix, rename_comp, rename_step, rename_formula}
use Rattle.theory_renaming.specs.Renaming.{rename_terms}
use Rattle.theory_text_names.specs.Scopes.{Sort}
use Rattle.theory_text_scoped.specs.Sorted.{Sorts, HasSort, sort_here, sort_there, SortedMono, SortedOption, SortedTy, SortedTriple, SortedTerm, SortedFix}
use Rattle.theory_text_scoped.specs.Sorted.{SortedComp, SortedStep, SortedFormula, SortedTerms, sorted_m_word, sorted_m_bool, sorted_m_loc, sorted_m_unit}
use Rattle.theory_text_scoped.specs.Sorted.{sorted_m_pair, sorted_m_var, sorted_none, sorted_some, sorted_y_mono, sorted_y_fun, sorted_y_all, sorted_y_hoare}
use Rattle.theory_text_scoped.specs.Sorted.{sorted_y_at, sorted_triple, sorted_t_var, sorted_t_val, sorted_t_def, sorted_t_app, sorted_t_inst, sorted_t_lam}
use Rattle.theory_text_scoped.specs.Sorted.{sorted_t_lam_t, sorted_t_do, sorted_t_fix, sorted_t_word, sorted_t_bool, sorted_t_loc, sorted_t_unit, sorted_t_pair}
use Rattle.theory_text_scoped.specs.Sorted.{sorted_t_fst, sorted_t_snd, sorted_t_not, sorted_t_bin, sorted_t_eq, sorted_t_sel, sorted_t_ann, sorted_t_made}
use Rattle.theory_text_scoped.specs.Sorted.{sorted_t_at, sorted_x_param, sorted_x_body, sorted_c_ret, sorted_c_step, sorted_s_run, sorted_s_alloc, sorted_s_get}
use Rattle.theory_text_scoped.specs.Sorted.{sorted_s_set, sorted_s_free, sorted_s_if, sorted_s_claim, sorted_f_tt, sorted_f_ff, sorted_f_and, sorted_f_or}
use Rattle.theory_text_scoped.specs.Sorted.{sorted_f_imp, sorted_f_all_t, sorted_f_ex_t, sorted_f_all_h, sorted_f_ex_h, sorted_f_emp, sorted_f_cell}
use Rattle.theory_text_scoped.specs.Sorted.{sorted_f_block, sorted_f_join, sorted_f_same, sorted_f_eq, sorted_f_at, sorted_f_rec, sorted_no_terms}
use Rattle.theory_text_scoped.specs.Sorted.{sorted_more_terms}

abbrev pub Keeps : Map → Sorts → Sorts → Type 0
Keeps m g h = (may_be : Sort → Bool) (i : ℕ) → HasSort may_be g i → HasSort may_be h (m i)

pub keeps_lift : {m : Map} {g h : Sorts} (s : Sort) → Keeps m g h → Keeps (lift m) (s ∷ g) (s ∷ h)
unfolding lift
keeps_lift s k may_be zero (sort_here e) = sort_here e
keeps_lift s k may_be (suc i) (sort_there x) = sort_there (k may_be i x)

pub mono_renamed : {m : Map} {g h : Sorts} → Keeps m g h → {t : MonoTree} → SortedMono g t → SortedMono h (rename_mono m t)
unfolding rename_mono
mono_renamed k sorted_m_word = sorted_m_word
mono_renamed k sorted_m_bool = sorted_m_bool
mono_renamed k sorted_m_loc = sorted_m_loc
mono_renamed k sorted_m_unit = sorted_m_unit
mono_renamed k (sorted_m_pair d0 d1) = sorted_m_pair (mono_renamed k d0) (mono_renamed k d1)
mono_renamed k (sorted_m_var d0) = sorted_m_var (k _ _ d0)

pub option_renamed : {m : Map} {g h : Sorts} → Keeps m g h → {t : Option MonoTree} → SortedOption g t → SortedOption h (option_map (rename_mono m) t)
option_renamed k sorted_none = sorted_none
option_renamed k (sorted_some d0) = sorted_some (mono_renamed k d0)

mutual
  unfolding rename_term

  pub ty_renamed : {m : Map} {g h : Sorts} → Keeps m g h → {t : TyTree} → SortedTy g t → SortedTy h (rename_ty m t)
  ty_renamed k (sorted_y_mono d0) = sorted_y_mono (mono_renamed k d0)
  ty_renamed k (sorted_y_fun d0 d1) = sorted_y_fun (ty_renamed k d0) (ty_renamed (keeps_lift _ k) d1)
  ty_renamed k (sorted_y_all d0) = sorted_y_all (ty_renamed (keeps_lift _ k) d0)
  ty_renamed k (sorted_y_hoare d0) = sorted_y_hoare (triple_renamed k d0)
  ty_renamed k (sorted_y_at d0) = sorted_y_at (ty_renamed k d0)

  pub triple_renamed : {m : Map} {g h : Sorts} → Keeps m g h → {t : TripleTree} → SortedTriple g t → SortedTriple h (rename_triple m t)
  triple_renamed k (sorted_triple d0 d1 d2) =
      sorted_triple (formula_renamed (keeps_lift _ k) d0) (mono_renamed k d1)
      (formula_renamed (keeps_lift _ (keeps_lift _ (keeps_lift _ k))) d2)

  pub term_renamed : {m : Map} {g h : Sorts} → Keeps m g h → {t : TermTree} → SortedTerm g t → SortedTerm h (rename_term m t)
  term_renamed k (sorted_t_var d0) = sorted_t_var (k _ _ d0)
  term_renamed k sorted_t_val = sorted_t_val
  term_renamed k sorted_t_def = sorted_t_def
  term_renamed k (sorted_t_app d0 d1) = sorted_t_app (term_renamed k d0) (term_renamed k d1)
  term_renamed k (sorted_t_inst d0 d1) = sorted_t_inst (term_renamed k d0) (mono_renamed k d1)
  term_renamed k (sorted_t_lam d0) = sorted_t_lam (term_renamed (keeps_lift _ k) d0)
  term_renamed k (sorted_t_lam_t d0) = sorted_t_lam_t (term_renamed (keeps_lift _ k) d0)
  term_renamed k (sorted_t_do d0) = sorted_t_do (comp_renamed k d0)
  term_renamed k (sorted_t_fix d0) = sorted_t_fix (fix_renamed k d0)
  term_renamed k sorted_t_word = sorted_t_word
  term_renamed k sorted_t_bool = sorted_t_bool
  term_renamed k sorted_t_loc = sorted_t_loc
  term_renamed k sorted_t_unit = sorted_t_unit
  term_renamed k (sorted_t_pair d0 d1) = sorted_t_pair (term_renamed k d0) (term_renamed k d1)
  term_renamed k (sorted_t_fst d0) = sorted_t_fst (term_renamed k d0)
  term_renamed k (sorted_t_snd d0) = sorted_t_snd (term_renamed k d0)
  term_renamed k (sorted_t_not d0) = sorted_t_not (term_renamed k d0)
  term_renamed k (sorted_t_bin d0 d1) = sorted_t_bin (term_renamed k d0) (term_renamed k d1)
  term_renamed k (sorted_t_eq d0 d1 d2) = sorted_t_eq (mono_renamed k d0) (term_renamed k d1) (term_renamed k d2)
  term_renamed k (sorted_t_sel d0 d1 d2 d3) = sorted_t_sel (mono_renamed k d0) (term_renamed k d1) (term_renamed k d2) (term_renamed k d3)
  term_renamed k (sorted_t_ann d0 d1) = sorted_t_ann (term_renamed k d0) (ty_renamed k d1)
  term_renamed k (sorted_t_made d0) = sorted_t_made (terms_renamed k d0)
  term_renamed k (sorted_t_at d0) = sorted_t_at (term_renamed k d0)

  pub fix_renamed : {m : Map} {g h : Sorts} → Keeps m g h → {t : FixTree} → SortedFix g t → SortedFix h (rename_fix m t)
  fix_renamed k (sorted_x_param d0 d1) = sorted_x_param (ty_renamed k d0) (fix_renamed (keeps_lift _ k) d1)
  fix_renamed k (sorted_x_body d0 d1) = sorted_x_body (triple_renamed k d0) (comp_renamed (keeps_lift _ k) d1)

  pub comp_renamed : {m : Map} {g h : Sorts} → Keeps m g h → {t : CompTree} → SortedComp g t → SortedComp h (rename_comp m t)
  comp_renamed k (sorted_c_ret d0) = sorted_c_ret (term_renamed k d0)
  comp_renamed k (sorted_c_step d0 d1) = sorted_c_step (step_renamed k d0) (comp_renamed (keeps_lift _ k) d1)

  pub step_renamed : {m : Map} {g h : Sorts} → Keeps m g h → {t : StepTree} → SortedStep g t → SortedStep h (rename_step m t)
  step_renamed k (sorted_s_run d0 d1) = sorted_s_run (term_renamed k d0) (option_renamed k d1)
  step_renamed k (sorted_s_alloc d0 d1) = sorted_s_alloc (mono_renamed k d0) (term_renamed k d1)
  step_renamed k (sorted_s_get d0 d1) = sorted_s_get (mono_renamed k d0) (term_renamed k d1)
  step_renamed k (sorted_s_set d0 d1 d2) = sorted_s_set (mono_renamed k d0) (term_renamed k d1) (term_renamed k d2)
  step_renamed k (sorted_s_free d0 d1) = sorted_s_free (mono_renamed k d0) (term_renamed k d1)
  step_renamed k (sorted_s_if d0 d1 d2 d3) = sorted_s_if (mono_renamed k d0) (term_renamed k d1) (comp_renamed k d2) (comp_renamed k d3)
  step_renamed k (sorted_s_claim d0) = sorted_s_claim (formula_renamed (keeps_lift _ (keeps_lift _ k)) d0)

  pub formula_renamed : {m : Map} {g h : Sorts} → Keeps m g h → {t : FormulaTree} → SortedFormula g t → SortedFormula h (rename_formula m t)
  formula_renamed k sorted_f_tt = sorted_f_tt
  formula_renamed k sorted_f_ff = sorted_f_ff
  formula_renamed k (sorted_f_and d0 d1) = sorted_f_and (formula_renamed k d0) (formula_renamed k d1)
  formula_renamed k (sorted_f_or d0 d1) = sorted_f_or (formula_renamed k d0) (formula_renamed k d1)
  formula_renamed k (sorted_f_imp d0 d1) = sorted_f_imp (formula_renamed k d0) (formula_renamed k d1)
  formula_renamed k (sorted_f_all_t d0 d1) = sorted_f_all_t (mono_renamed k d0) (formula_renamed (keeps_lift _ k) d1)
  formula_renamed k (sorted_f_ex_t d0 d1) = sorted_f_ex_t (mono_renamed k d0) (formula_renamed (keeps_lift _ k) d1)
  formula_renamed k (sorted_f_all_h d0) = sorted_f_all_h (formula_renamed (keeps_lift _ k) d0)
  formula_renamed k (sorted_f_ex_h d0) = sorted_f_ex_h (formula_renamed (keeps_lift _ k) d0)
  formula_renamed k (sorted_f_emp d0) = sorted_f_emp (k _ _ d0)
  formula_renamed k (sorted_f_cell d0 d1 d2 d3) = sorted_f_cell (mono_renamed k d0) (k _ _ d1) (term_renamed k d2) (term_renamed k d3)
  formula_renamed k (sorted_f_block d0 d1 d2) = sorted_f_block (mono_renamed k d0) (k _ _ d1) (term_renamed k d2)
  formula_renamed k (sorted_f_join d0 d1 d2) = sorted_f_join (k _ _ d0) (k _ _ d1) (k _ _ d2)
  formula_renamed k (sorted_f_same d0 d1) = sorted_f_same (k _ _ d0) (k _ _ d1)
  formula_renamed k (sorted_f_eq d0 d1 d2) = sorted_f_eq (mono_renamed k d0) (term_renamed k d1) (term_renamed k d2)
  formula_renamed k (sorted_f_at d0) = sorted_f_at (formula_renamed k d0)
  formula_renamed k (sorted_f_rec d0 d1 d2) = sorted_f_rec (k _ _ d0) (term_renamed k d1) (terms_renamed k d2)

  pub terms_renamed : {m : Map} {g h : Sorts} → Keeps m g h → {t : TermTrees} → SortedTerms g t → SortedTerms h (rename_terms m t)
  terms_renamed k sorted_no_terms = sorted_no_terms
  terms_renamed k (sorted_more_terms d0 d1) = sorted_more_terms (term_renamed k d0) (terms_renamed k d1)
