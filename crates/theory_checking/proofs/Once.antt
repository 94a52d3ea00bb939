-- A phrase comes to one result at most: by the phrase, each row by its premises.
use Rattle.std.proofs.Common.{◌≡◌, ℕ, suc, true, false, List, [], ◌∷◌, ◌++◌, Option, Some, None, refl, sym, ◌∙◌}
use Rattle.htt_syntax.specs.Trees.{MonoTree, TyTree, TripleTree, TermTree, FixTree, CompTree, StepTree, FormulaTree, TermTrees, m_word, m_bool, m_loc, m_unit}
use Rattle.htt_syntax.specs.Trees.{m_pair, y_mono, y_fun, y_all, y_hoare, y_at, triple, t_var, t_val, t_def, t_app, t_inst, t_lam, t_lam_t, t_do, t_fix}
use Rattle.htt_syntax.specs.Trees.{t_word, t_bool, t_loc, t_unit, t_pair, t_fst, t_snd, t_not, t_bin, t_eq, t_sel, t_ann, t_made, t_at, x_param, x_body, c_ret}
use Rattle.htt_syntax.specs.Trees.{c_step, s_run, s_alloc, s_get, s_set, s_free, s_if, s_claim, f_tt, f_ff, f_and, f_or, f_imp, f_all_t, f_ex_t, f_all_h}
use Rattle.htt_syntax.specs.Trees.{f_ex_h, f_emp, f_cell, f_block, f_join, f_same, f_eq, f_at, f_rec, no_terms, more_terms}
use Rattle.theory_renaming.specs.Renaming.{rename_mono, rename_ty, rename_triple}
use Rattle.theory_states.specs.States.{move_alloc, move_get, move_set, move_free, move_run, move_claim, branch}
use Rattle.theory_canonical.specs.Skeletons.{skeleton}
use Rattle.theory_typing.specs.Contexts.{en_mono, en_heap, en_term, Context, Environment}
use Rattle.theory_typing.specs.Typing.{Mode, in_program, in_formula, with_heaps, part_step, part_comp, part_unit}
use Rattle.theory_typing.proofs.Once.{fun_argument, fun_answer, all_body, hoare_spec, mono_of, pair_left, pair_right, lam_body, lam_t_body, do_comp, entry_once}
use Rattle.theory_typing.proofs.Once.{found_once}
use Rattle.theory_checking.specs.Checking.{TyComesTo, TripleComesTo, FormulaComesTo, TermsComeTo, TermComesTo, HeaderComesTo, FixComesTo, RunsTo, StepComesTo}
use Rattle.theory_checking.specs.Checking.{result_of}
use Rattle.theory_checking.specs.Laws.{Once, CheckingComesToOne}
use Rattle.theory_checking.proofs.Chains.{then_once, comes_once, refuses_once, needs_once, finds_once, makes_once, mono_once, state_once, within_once}
use Rattle.theory_checking.proofs.Chains.{puts_ty_once, puts_term_once, agrees_once, goes_on_once, body_once, branch_once}

-- a type, and a canonical term, has its parts once
pub same_function : {ty : TyTree} (f h : TyTree × TyTree) → ty ≡ y_fun (f.0) (f.1) → ty ≡ y_fun (h.0) (h.1) → f ≡ h
same_function (a, b) (c, d) p q = let e : y_fun a b ≡ y_fun c d = sym p ∙ q in λ j. (fun_argument e j, fun_answer e j)

pub same_pair : {ty : TyTree} (f h : MonoTree × MonoTree) → ty ≡ y_mono (m_pair (f.0) (f.1)) → ty ≡ y_mono (m_pair (h.0) (h.1)) → f ≡ h
same_pair (a, b) (c, d) p q = let e : m_pair a b ≡ m_pair c d = mono_of (sym p ∙ q) in λ j. (pair_left e j, pair_right e j)

mutual
  unfolding TyComesTo TripleComesTo FormulaComesTo TermsComeTo TermComesTo HeaderComesTo FixComesTo RunsTo StepComesTo

  pub ty_once : (env : Environment) (g : Context) (at : ℕ) (A : TyTree) → Once (TyComesTo env g at A)
  ty_once env g at (y_mono mono) = then_once (mono_once g at mono) (λ _. comes_once)
  ty_once env g at (y_fun argument answer) =
      then_once (ty_once env g at argument)
      (λ argument'. then_once needs_once (λ _. then_once (ty_once env (en_term argument' ∷ g) at answer) (λ _. comes_once)))
  ty_once env g at (y_all ty) = then_once needs_once (λ _. then_once (ty_once env (en_mono ∷ g) at ty) (λ _. comes_once))
  ty_once env g at (y_hoare spec) = then_once (triple_once env g at spec) (λ _. comes_once)
  ty_once env g at (y_at inner ty) = ty_once env g inner ty

  pub triple_once : (env : Environment) (g : Context) (at : ℕ) (spec : TripleTree) → Once (TripleComesTo env g at spec)
  triple_once env g at (triple pre mono post) =
      then_once needs_once (λ _.
      then_once (formula_once env (en_heap ∷ g) at pre) (λ _.
      then_once (mono_once g at mono)
      (λ _. then_once needs_once (λ _. then_once (formula_once env (with_heaps (en_term (y_mono mono) ∷ g)) at post) (λ _. comes_once)))))

  pub formula_once : (env : Environment) (g : Context) (at : ℕ) (F : FormulaTree) → Once (FormulaComesTo env g at F)
  formula_once env g at f_tt = comes_once
  formula_once env g at f_ff = comes_once
  formula_once env g at (f_and left right) = then_once (formula_once env g at left) (λ _. then_once (formula_once env g at right) (λ _. comes_once))
  formula_once env g at (f_or left right) = then_once (formula_once env g at left) (λ _. then_once (formula_once env g at right) (λ _. comes_once))
  formula_once env g at (f_imp left right) = then_once (formula_once env g at left) (λ _. then_once (formula_once env g at right) (λ _. comes_once))
  formula_once env g at (f_all_t mono body) =
      then_once (mono_once g at mono)
      (λ _. then_once needs_once (λ _. then_once (formula_once env (en_term (y_mono mono) ∷ g) at body) (λ _. comes_once)))
  formula_once env g at (f_ex_t mono body) =
      then_once (mono_once g at mono)
      (λ _. then_once needs_once (λ _. then_once (formula_once env (en_term (y_mono mono) ∷ g) at body) (λ _. comes_once)))
  formula_once env g at (f_all_h body) = then_once needs_once (λ _. then_once (formula_once env (en_heap ∷ g) at body) (λ _. comes_once))
  formula_once env g at (f_ex_h body) = then_once needs_once (λ _. then_once (formula_once env (en_heap ∷ g) at body) (λ _. comes_once))
  formula_once env g at (f_emp heap) = then_once needs_once (λ _. comes_once)
  formula_once env g at (f_cell mono heap place value) =
      then_once (mono_once g at mono) (λ _.
      then_once needs_once (λ _.
      then_once (term_once env in_formula g at place (Some (y_mono m_loc)))
      (λ _. then_once (term_once env in_formula g at value (Some (y_mono mono))) (λ _. comes_once))))
  formula_once env g at (f_block mono heap place) =
      then_once (mono_once g at mono)
      (λ _. then_once needs_once (λ _. then_once (term_once env in_formula g at place (Some (y_mono m_loc))) (λ _. comes_once)))
  formula_once env g at (f_join whole_heap left_heap right_heap) =
      then_once needs_once (λ _. then_once needs_once (λ _. then_once needs_once (λ _. comes_once)))
  formula_once env g at (f_same left_heap right_heap) = then_once needs_once (λ _. then_once needs_once (λ _. comes_once))
  formula_once env g at (f_eq mono first second) =
      then_once (mono_once g at mono) (λ _.
      then_once (term_once env in_formula g at first (Some (y_mono mono)))
      (λ _. then_once (term_once env in_formula g at second (Some (y_mono mono))) (λ _. comes_once)))
  formula_once env g at (f_rec number heap term terms) =
      then_once (finds_once (λ a b d e. found_once d e)) (λ r.
      then_once needs_once (λ _.
      then_once (term_once env in_formula g at term (Some (y_mono m_word)))
      (λ _. then_once needs_once (λ _. then_once (terms_once env g at terms r.params) (λ _. comes_once)))))
  formula_once env g at (f_at inner formula) = formula_once env g inner formula

  pub terms_once : (env : Environment) (g : Context) (at : ℕ) (terms : TermTrees) (params : List MonoTree) → Once (TermsComeTo env g at terms params)
  terms_once env g at no_terms [] = comes_once
  terms_once env g at no_terms (mono ∷ params) = refuses_once
  terms_once env g at (more_terms term terms) [] = refuses_once
  terms_once env g at (more_terms term terms) (mono ∷ params) =
      then_once (term_once env in_formula g at term (Some (y_mono mono)))
      (λ _. then_once (terms_once env g at terms params) (λ _. comes_once))

  pub term_once : (env : Environment) (m : Mode) (g : Context) (at : ℕ) (M : TermTree) (asked : Option TyTree) → Once (TermComesTo env m g at M asked)
  term_once env m g at (t_var index) asked =
      then_once (then_once (finds_once (λ a b d e. entry_once d e)) (λ _. comes_once)) (λ given. agrees_once at asked given)
  term_once env m g at (t_val number) asked =
      then_once (then_once (finds_once (λ a b d e. found_once d e)) (λ _. comes_once)) (λ given. agrees_once at asked given)
  term_once env m g at (t_def number) asked =
      then_once (then_once (finds_once (λ a b d e. found_once d e)) (λ _. comes_once)) (λ given. agrees_once at asked given)
  term_once env m g at (t_word word) asked = then_once (then_once (makes_once (λ a b d e. refl)) (λ _. comes_once)) (λ given. agrees_once at asked given)
  term_once env m g at (t_bool truth) asked = then_once comes_once (λ given. agrees_once at asked given)
  term_once env m g at (t_loc place) asked = then_once (then_once (makes_once (λ a b d e. refl)) (λ _. comes_once)) (λ given. agrees_once at asked given)
  term_once env m g at t_unit asked = then_once comes_once (λ given. agrees_once at asked given)
  term_once env m g at (t_app function value) asked =
      then_once (then_once (term_once env m g at function None) (λ _.
      then_once (finds_once same_function) (λ (argument, answer).
      then_once (term_once env m g at value (Some argument)) (λ v.
      then_once (puts_ty_once v.term (skeleton argument) answer) (λ _.
      then_once (makes_once (λ a b d e. lam_body (sym d ∙ e)))
      (λ inner. then_once (puts_term_once v.term (skeleton argument) inner) (λ _. comes_once))))))) (λ given. agrees_once at asked given)
  term_once env m g at (t_inst function mono) asked =
      then_once (then_once (term_once env m g at function None) (λ _.
      then_once (finds_once (λ a b d e. all_body (sym d ∙ e))) (λ _.
      then_once (mono_once g at mono) (λ _.
      then_once (within_once _ _)
      (λ _. then_once (makes_once (λ a b d e. lam_t_body (sym d ∙ e))) (λ _. then_once (within_once _ _) (λ _. comes_once)))))))
      (λ given. agrees_once at asked given)
  term_once env m g at (t_ann term ty) asked =
      then_once (then_once (ty_once env g at ty) (λ ty'. then_once (term_once env m g at term (Some ty')) (λ _. comes_once)))
      (λ given. agrees_once at asked given)
  term_once env m g at (t_pair first second) None =
      then_once (term_once env m g at first None) (λ _.
      then_once (finds_once (λ a b d e. mono_of (sym d ∙ e))) (λ _.
      then_once (term_once env m g at second None)
      (λ _. then_once (finds_once (λ a b d e. mono_of (sym d ∙ e))) (λ _. then_once needs_once (λ _. comes_once)))))
  term_once env m g at (t_pair first second) (Some (y_mono (m_pair left right))) =
      then_once (term_once env m g at first (Some (y_mono left)))
      (λ _. then_once (term_once env m g at second (Some (y_mono right))) (λ _. comes_once))
  term_once env m g at (t_pair first second) (Some _) = refuses_once
  term_once env m g at (t_fst term) asked =
      then_once (then_once (term_once env m g at term None) (λ _. then_once (finds_once same_pair) (λ _. comes_once)))
      (λ given. agrees_once at asked given)
  term_once env m g at (t_snd term) asked =
      then_once (then_once (term_once env m g at term None) (λ _. then_once (finds_once same_pair) (λ _. comes_once)))
      (λ given. agrees_once at asked given)
  term_once env m g at (t_bin op first second) asked =
      then_once (then_once (term_once env m g at first (Some (y_mono m_word)))
      (λ _. then_once (term_once env m g at second (Some (y_mono m_word))) (λ _. comes_once))) (λ given. agrees_once at asked given)
  term_once env m g at (t_not term) asked =
      then_once (then_once (term_once env m g at term (Some (y_mono m_bool))) (λ _. comes_once)) (λ given. agrees_once at asked given)
  term_once env m g at (t_eq mono first second) asked =
      then_once (then_once (mono_once g at mono) (λ _.
      then_once needs_once (λ _.
      then_once (term_once env m g at first (Some (y_mono mono)))
      (λ _. then_once (term_once env m g at second (Some (y_mono mono))) (λ _. comes_once))))) (λ given. agrees_once at asked given)
  term_once env m g at (t_sel mono first second third) asked =
      then_once (then_once (mono_once g at mono) (λ _.
      then_once (term_once env m g at first (Some (y_mono m_bool))) (λ _.
      then_once (term_once env m g at second (Some (y_mono mono)))
      (λ _. then_once (term_once env m g at third (Some (y_mono mono))) (λ _. comes_once))))) (λ given. agrees_once at asked given)
  term_once env in_formula g at (t_fix keyword fix) asked = refuses_once
  term_once env in_program g at (t_fix keyword fix) asked =
      then_once (then_once (header_once env g at fix) (λ ty. then_once (fix_once env g at ty fix ty) (λ _. comes_once)))
      (λ given. agrees_once at asked given)
  term_once env m g at (t_lam term) None = refuses_once
  term_once env m g at (t_lam term) (Some (y_fun argument answer)) =
      then_once needs_once (λ _. then_once (term_once env m (en_term argument ∷ g) at term (Some answer)) (λ _. comes_once))
  term_once env m g at (t_lam term) (Some _) = refuses_once
  term_once env m g at (t_lam_t term) None = refuses_once
  term_once env m g at (t_lam_t term) (Some (y_all ty)) =
      then_once needs_once (λ _. then_once (term_once env m (en_mono ∷ g) at term (Some ty)) (λ _. comes_once))
  term_once env m g at (t_lam_t term) (Some _) = refuses_once
  term_once env in_formula g at (t_do comp) asked = refuses_once
  term_once env in_program g at (t_do comp) None = refuses_once
  term_once env in_program g at (t_do comp) (Some (y_hoare spec)) =
      then_once (body_once g spec (λ mono state. RunsTo env g at mono state comp) (λ mono state. runs_once env g at mono state comp))
      (λ _. comes_once)
  term_once env in_program g at (t_do comp) (Some _) = refuses_once
  term_once env m g at (t_made number values) asked = refuses_once
  term_once env m g at (t_at inner term) asked = term_once env m g inner term asked

  pub header_once : (env : Environment) (g : Context) (at : ℕ) (fix : FixTree) → Once (HeaderComesTo env g at fix)
  header_once env g at (x_param argument rest) =
      then_once (ty_once env g at argument)
      (λ argument'. then_once needs_once (λ _. then_once (header_once env (en_term argument' ∷ g) at rest) (λ _. comes_once)))
  header_once env g at (x_body spec comp) = then_once (triple_once env g at spec) (λ _. comes_once)

  pub fix_once : (env : Environment) (g : Context) (at : ℕ) (whole : TyTree) (fix : FixTree) (ty : TyTree) → Once (FixComesTo env g at whole fix ty)
  fix_once env g at whole (x_param argument rest) (y_fun argument' answer) =
      then_once (fix_once env (en_term argument' ∷ g) at (rename_ty suc whole) rest answer) (λ _. comes_once)
  fix_once env g at whole (x_param argument rest) _ = refuses_once
  fix_once env g at whole (x_body spec comp) (y_hoare spec') =
      then_once needs_once (λ _.
      then_once (body_once (en_term whole ∷ g) (rename_triple suc spec') (λ mono state. RunsTo env (en_term whole ∷ g) at mono state comp)
      (λ mono state. runs_once env (en_term whole ∷ g) at mono state comp)) (λ _. comes_once))
  fix_once env g at whole (x_body spec comp) _ = refuses_once

  pub runs_once : (env : Environment) (g : Context) (at : ℕ) (mono : MonoTree) (state : FormulaTree) (comp : CompTree) → Once (RunsTo env g at mono state comp)
  runs_once env g at mono state (c_ret term) = then_once (term_once env in_program g at term (Some (y_mono mono))) (λ _. comes_once)
  runs_once env g at mono state (c_step step others) =
      then_once (step_once env g at state step)
      (λ s. then_once (runs_once env (en_term (y_mono s.mono) ∷ g) at (rename_mono suc mono) s.next others) (λ _. comes_once))

  pub step_once : (env : Environment) (g : Context) (at : ℕ) (state : FormulaTree) (step : StepTree) → Once (StepComesTo env g at state step)
  step_once env g at state (s_alloc mono value) =
      then_once (mono_once g at mono) (λ _.
      then_once (term_once env in_program g at value (Some (y_mono mono)))
      (λ v. (goes_on_once g state (move_alloc mono v.term) m_loc (part_step (s_alloc mono v.term)) v.owed)))
  step_once env g at state (s_get mono place) =
      then_once (mono_once g at mono) (λ _.
      then_once (term_once env in_program g at place (Some (y_mono m_loc)))
      (λ p. (goes_on_once g state (move_get mono p.term) mono (part_step (s_get mono p.term)) p.owed)))
  step_once env g at state (s_set mono place value) =
      then_once (mono_once g at mono) (λ _.
      then_once (term_once env in_program g at place (Some (y_mono m_loc))) (λ p.
      then_once (term_once env in_program g at value (Some (y_mono mono)))
      (λ v. (goes_on_once g state (move_set mono p.term v.term) m_unit (part_step (s_set mono p.term v.term)) (p.owed ++ v.owed)))))
  step_once env g at state (s_free mono place) =
      then_once (mono_once g at mono) (λ _.
      then_once (term_once env in_program g at place (Some (y_mono m_loc)))
      (λ p. (goes_on_once g state (move_free mono p.term) m_unit (part_step (s_free mono p.term)) p.owed)))
  step_once env g at state (s_run term given) =
      then_once (term_once env in_program g at term None) (λ k.
      then_once (finds_once (λ a b d e. hoare_spec (sym d ∙ e))) (λ spec.
      then_once (makes_once (λ a b d e. do_comp (sym d ∙ e)))
      (λ comp. (goes_on_once g state (move_run spec) (result_of spec) (part_comp comp) k.owed))))
  step_once env g at state (s_if mono test on_true on_false) =
      then_once (mono_once g at mono) (λ _.
      then_once (term_once env in_program g at test (Some (y_mono m_bool))) (λ k.
      then_once (branch_once g mono (branch state k.term true) (λ from. RunsTo env g at mono from on_true)
      (λ from. runs_once env g at mono from on_true)) (λ _.
      then_once (branch_once g mono (branch state k.term false) (λ from. RunsTo env g at mono from on_false)
      (λ from. runs_once env g at mono from on_false)) (λ _. then_once needs_once (λ _. then_once (state_once _) (λ _. comes_once))))))
  step_once env g at state (s_claim claim) =
      then_once needs_once
      (λ _. then_once (formula_once env (with_heaps g) at claim) (λ claim'. (goes_on_once g state (move_claim claim') m_unit part_unit [])))

pub checking_comes_to_one : CheckingComesToOne
checking_comes_to_one = record {
  types = ty_once;
  formulas = formula_once;
  terms = term_once;
  bodies = λ env g at spec E. body_once g spec (λ mono state. RunsTo env g at mono state E) (λ mono state. runs_once env g at mono state E);
}
