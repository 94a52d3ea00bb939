-- A renaming that sends the innermost n variables among the innermost k keeps a tree in scope.
use Rattle.std.proofs.Common.{ℕ, zero, suc, ◌<◌, arith, Option, option_map}
use Rattle.htt_syntax.specs.Trees.{MonoTree, TyTree, TripleTree, TermTree, FixTree, CompTree, StepTree, FormulaTree, TermTrees}
use Rattle.theory_renaming.specs.Renaming.{Map, lift, rename_mono, rename_ty, rename_triple, rename_term, rename_fix, rename_comp, rename_step, rename_formula}
use Rattle.theory_renaming.specs.Renaming.{rename_terms}
use Rattle.theory_renaming.specs.Scoped.{ScopedMono, ScopedOption, in_none, in_some, ScopedTy, ScopedTriple, ScopedTerm, ScopedFix, ScopedComp, ScopedStep}
use Rattle.theory_renaming.specs.Scoped.{ScopedFormula, ScopedTerms, in_m_word, in_m_bool, in_m_loc, in_m_unit, in_m_pair, in_m_var, in_y_mono, in_y_fun}
use Rattle.theory_renaming.specs.Scoped.{in_y_all, in_y_hoare, in_y_at, in_triple, in_t_var, in_t_val, in_t_def, in_t_app, in_t_inst, in_t_lam, in_t_lam_t}
use Rattle.theory_renaming.specs.Scoped.{in_t_do, in_t_fix, in_t_word, in_t_bool, in_t_loc, in_t_unit, in_t_pair, in_t_fst, in_t_snd, in_t_not, in_t_bin}
use Rattle.theory_renaming.specs.Scoped.{in_t_eq, in_t_sel, in_t_ann, in_t_made, in_t_at, in_x_param, in_x_body, in_c_ret, in_c_step, in_s_run, in_s_alloc}
use Rattle.theory_renaming.specs.Scoped.{in_s_get, in_s_set, in_s_free, in_s_if, in_s_claim, in_f_tt, in_f_ff, in_f_and, in_f_or, in_f_imp, in_f_all_t}
use Rattle.theory_renaming.specs.Scoped.{in_f_ex_t, in_f_all_h, in_f_ex_h, in_f_emp, in_f_cell, in_f_block, in_f_join, in_f_same, in_f_eq, in_f_at, in_f_rec}
use Rattle.theory_renaming.specs.Scoped.{in_no_terms, in_more_terms}

abbrev pub Sends : Map → ℕ → ℕ → Type 0
Sends m n k = (i : ℕ) → i < n → m i < k

sends_lift : (m : Map) (n k : ℕ) → Sends m n k → Sends (lift m) (suc n) (suc k)
unfolding lift
sends_lift m n k h zero e = omega arith
sends_lift m n k h (suc i) e = let below : m i < k = h i (omega (arith, e)) in omega (arith, below)

pub mono_scoped : (m : Map) (n k : ℕ) → Sends m n k → {t : MonoTree} → ScopedMono n t → ScopedMono k (rename_mono m t)
unfolding rename_mono
mono_scoped m n k h in_m_word = in_m_word
mono_scoped m n k h in_m_bool = in_m_bool
mono_scoped m n k h in_m_loc = in_m_loc
mono_scoped m n k h in_m_unit = in_m_unit
mono_scoped m n k h (in_m_pair dl0 dr1) = in_m_pair (mono_scoped m n k h dl0) (mono_scoped m n k h dr1)
mono_scoped m n k h (in_m_var di0) = in_m_var (h _ di0)

option_scoped : (m : Map) (n k : ℕ) → Sends m n k → {t : Option MonoTree} → ScopedOption n t → ScopedOption k (option_map (rename_mono m) t)
option_scoped m n k h in_none = in_none
option_scoped m n k h (in_some d) = in_some (mono_scoped m n k h d)

mutual
  unfolding rename_term

  pub ty_scoped : (m : Map) (n k : ℕ) → Sends m n k → {t : TyTree} → ScopedTy n t → ScopedTy k (rename_ty m t)
  ty_scoped m n k h (in_y_mono dm0) = in_y_mono (mono_scoped m n k h dm0)
  ty_scoped m n k h (in_y_fun da0 da1) = in_y_fun (ty_scoped m n k h da0) (ty_scoped (lift m) (suc n) (suc k) (sends_lift m n k h) da1)
  ty_scoped m n k h (in_y_all db0) = in_y_all (ty_scoped (lift m) (suc n) (suc k) (sends_lift m n k h) db0)
  ty_scoped m n k h (in_y_hoare ds0) = in_y_hoare (triple_scoped m n k h ds0)
  ty_scoped m n k h (in_y_at dt0) = in_y_at (ty_scoped m n k h dt0)

  pub triple_scoped : (m : Map) (n k : ℕ) → Sends m n k → {t : TripleTree} → ScopedTriple n t → ScopedTriple k (rename_triple m t)
  triple_scoped m n k h (in_triple dp0 dm1 dp2) =
      in_triple (formula_scoped (lift m) (suc n) (suc k) (sends_lift m n k h) dp0) (mono_scoped m n k h dm1)
      (formula_scoped (lift (lift (lift m))) (suc (suc (suc n))) (suc (suc (suc k)))
      (sends_lift (lift (lift m)) (suc (suc n)) (suc (suc k)) (sends_lift (lift m) (suc n) (suc k) (sends_lift m n k h))) dp2)

  pub term_scoped : (m : Map) (n k : ℕ) → Sends m n k → {t : TermTree} → ScopedTerm n t → ScopedTerm k (rename_term m t)
  term_scoped m n k h (in_t_var di0) = in_t_var (h _ di0)
  term_scoped m n k h in_t_val = in_t_val
  term_scoped m n k h in_t_def = in_t_def
  term_scoped m n k h (in_t_app df0 da1) = in_t_app (term_scoped m n k h df0) (term_scoped m n k h da1)
  term_scoped m n k h (in_t_inst df0 dm1) = in_t_inst (term_scoped m n k h df0) (mono_scoped m n k h dm1)
  term_scoped m n k h (in_t_lam db0) = in_t_lam (term_scoped (lift m) (suc n) (suc k) (sends_lift m n k h) db0)
  term_scoped m n k h (in_t_lam_t db0) = in_t_lam_t (term_scoped (lift m) (suc n) (suc k) (sends_lift m n k h) db0)
  term_scoped m n k h (in_t_do dc0) = in_t_do (comp_scoped m n k h dc0)
  term_scoped m n k h (in_t_fix df0) = in_t_fix (fix_scoped m n k h df0)
  term_scoped m n k h in_t_word = in_t_word
  term_scoped m n k h in_t_bool = in_t_bool
  term_scoped m n k h in_t_loc = in_t_loc
  term_scoped m n k h in_t_unit = in_t_unit
  term_scoped m n k h (in_t_pair dl0 dr1) = in_t_pair (term_scoped m n k h dl0) (term_scoped m n k h dr1)
  term_scoped m n k h (in_t_fst dp0) = in_t_fst (term_scoped m n k h dp0)
  term_scoped m n k h (in_t_snd dp0) = in_t_snd (term_scoped m n k h dp0)
  term_scoped m n k h (in_t_not dt0) = in_t_not (term_scoped m n k h dt0)
  term_scoped m n k h (in_t_bin dl0 dr1) = in_t_bin (term_scoped m n k h dl0) (term_scoped m n k h dr1)
  term_scoped m n k h (in_t_eq dm0 dl1 dr2) = in_t_eq (mono_scoped m n k h dm0) (term_scoped m n k h dl1) (term_scoped m n k h dr2)
  term_scoped m n k h (in_t_sel dm0 dt1 do2 do3) =
      in_t_sel (mono_scoped m n k h dm0) (term_scoped m n k h dt1) (term_scoped m n k h do2) (term_scoped m n k h do3)
  term_scoped m n k h (in_t_ann dt0 dt1) = in_t_ann (term_scoped m n k h dt0) (ty_scoped m n k h dt1)
  term_scoped m n k h (in_t_made dv0) = in_t_made (terms_scoped m n k h dv0)
  term_scoped m n k h (in_t_at dt0) = in_t_at (term_scoped m n k h dt0)

  pub fix_scoped : (m : Map) (n k : ℕ) → Sends m n k → {t : FixTree} → ScopedFix n t → ScopedFix k (rename_fix m t)
  fix_scoped m n k h (in_x_param dt0 do1) = in_x_param (ty_scoped m n k h dt0) (fix_scoped (lift m) (suc n) (suc k) (sends_lift m n k h) do1)
  fix_scoped m n k h (in_x_body ds0 dc1) = in_x_body (triple_scoped m n k h ds0) (comp_scoped (lift m) (suc n) (suc k) (sends_lift m n k h) dc1)

  pub comp_scoped : (m : Map) (n k : ℕ) → Sends m n k → {t : CompTree} → ScopedComp n t → ScopedComp k (rename_comp m t)
  comp_scoped m n k h (in_c_ret dt0) = in_c_ret (term_scoped m n k h dt0)
  comp_scoped m n k h (in_c_step ds0 do1) = in_c_step (step_scoped m n k h ds0) (comp_scoped (lift m) (suc n) (suc k) (sends_lift m n k h) do1)

  pub step_scoped : (m : Map) (n k : ℕ) → Sends m n k → {t : StepTree} → ScopedStep n t → ScopedStep k (rename_step m t)
  step_scoped m n k h (in_s_run dt0 dm1) = in_s_run (term_scoped m n k h dt0) (option_scoped m n k h dm1)
  step_scoped m n k h (in_s_alloc dm0 dv1) = in_s_alloc (mono_scoped m n k h dm0) (term_scoped m n k h dv1)
  step_scoped m n k h (in_s_get dm0 dp1) = in_s_get (mono_scoped m n k h dm0) (term_scoped m n k h dp1)
  step_scoped m n k h (in_s_set dm0 dp1 dv2) = in_s_set (mono_scoped m n k h dm0) (term_scoped m n k h dp1) (term_scoped m n k h dv2)
  step_scoped m n k h (in_s_free dm0 dp1) = in_s_free (mono_scoped m n k h dm0) (term_scoped m n k h dp1)
  step_scoped m n k h (in_s_if dm0 dt1 do2 do3) =
      in_s_if (mono_scoped m n k h dm0) (term_scoped m n k h dt1) (comp_scoped m n k h do2) (comp_scoped m n k h do3)
  step_scoped m n k h (in_s_claim df0) =
      in_s_claim (formula_scoped (lift (lift m)) (suc (suc n)) (suc (suc k)) (sends_lift (lift m) (suc n) (suc k) (sends_lift m n k h)) df0)

  pub formula_scoped : (m : Map) (n k : ℕ) → Sends m n k → {t : FormulaTree} → ScopedFormula n t → ScopedFormula k (rename_formula m t)
  formula_scoped m n k h in_f_tt = in_f_tt
  formula_scoped m n k h in_f_ff = in_f_ff
  formula_scoped m n k h (in_f_and dl0 dr1) = in_f_and (formula_scoped m n k h dl0) (formula_scoped m n k h dr1)
  formula_scoped m n k h (in_f_or dl0 dr1) = in_f_or (formula_scoped m n k h dl0) (formula_scoped m n k h dr1)
  formula_scoped m n k h (in_f_imp dl0 dr1) = in_f_imp (formula_scoped m n k h dl0) (formula_scoped m n k h dr1)
  formula_scoped m n k h (in_f_all_t dm0 db1) = in_f_all_t (mono_scoped m n k h dm0) (formula_scoped (lift m) (suc n) (suc k) (sends_lift m n k h) db1)
  formula_scoped m n k h (in_f_ex_t dm0 db1) = in_f_ex_t (mono_scoped m n k h dm0) (formula_scoped (lift m) (suc n) (suc k) (sends_lift m n k h) db1)
  formula_scoped m n k h (in_f_all_h db0) = in_f_all_h (formula_scoped (lift m) (suc n) (suc k) (sends_lift m n k h) db0)
  formula_scoped m n k h (in_f_ex_h db0) = in_f_ex_h (formula_scoped (lift m) (suc n) (suc k) (sends_lift m n k h) db0)
  formula_scoped m n k h (in_f_emp dh0) = in_f_emp (h _ dh0)
  formula_scoped m n k h (in_f_cell dm0 dh1 dp2 dv3) = in_f_cell (mono_scoped m n k h dm0) (h _ dh1) (term_scoped m n k h dp2) (term_scoped m n k h dv3)
  formula_scoped m n k h (in_f_block dm0 dh1 dp2) = in_f_block (mono_scoped m n k h dm0) (h _ dh1) (term_scoped m n k h dp2)
  formula_scoped m n k h (in_f_join dw0 dl1 dr2) = in_f_join (h _ dw0) (h _ dl1) (h _ dr2)
  formula_scoped m n k h (in_f_same dl0 dr1) = in_f_same (h _ dl0) (h _ dr1)
  formula_scoped m n k h (in_f_eq dm0 dl1 dr2) = in_f_eq (mono_scoped m n k h dm0) (term_scoped m n k h dl1) (term_scoped m n k h dr2)
  formula_scoped m n k h (in_f_at df0) = in_f_at (formula_scoped m n k h df0)
  formula_scoped m n k h (in_f_rec dh0 dp1 da2) = in_f_rec (h _ dh0) (term_scoped m n k h dp1) (terms_scoped m n k h da2)

  pub terms_scoped : (m : Map) (n k : ℕ) → Sends m n k → {t : TermTrees} → ScopedTerms n t → ScopedTerms k (rename_terms m t)
  terms_scoped m n k h in_no_terms = in_no_terms
  terms_scoped m n k h (in_more_terms df0 do1) = in_more_terms (term_scoped m n k h df0) (terms_scoped m n k h do1)
