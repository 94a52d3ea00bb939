-- Leaving positions out, and putting trees for variables, in either order.
use Rattle.std.specs.Prelude.{◌≡◌, ℕ, ◌+◌, Option, Some, None, option_map}
use Rattle.std.proofs.Common.{refl}
use Rattle.htt_syntax.specs.Trees.{MonoTree, TyTree, TripleTree, TermTree, FixTree, CompTree, StepTree, FormulaTree, TermTrees, m_word, m_bool, m_loc, m_unit}
use Rattle.htt_syntax.specs.Trees.{m_pair, m_var, y_mono, y_fun, y_all, y_hoare, y_at, triple, t_var, t_val, t_def, t_app, t_inst, t_lam, t_lam_t, t_do, t_fix}
use Rattle.htt_syntax.specs.Trees.{t_word, t_bool, t_loc, t_unit, t_pair, t_fst, t_snd, t_not, t_bin, t_eq, t_sel, t_ann, t_made, t_at, x_param, x_body, c_ret}
use Rattle.htt_syntax.specs.Trees.{c_step, s_run, s_alloc, s_get, s_set, s_free, s_if, s_claim, f_tt, f_ff, f_and, f_or, f_imp, f_all_t, f_ex_t, f_all_h}
use Rattle.htt_syntax.specs.Trees.{f_ex_h, f_emp, f_cell, f_block, f_join, f_same, f_eq, f_at, f_rec, no_terms, more_terms}
use Rattle.htt_syntax_walk.specs.Walk.{Puts, walk_mono, walk_ty, walk_triple, walk_term, walk_fix, walk_comp, walk_step, walk_formula, walk_terms}
use Rattle.theory_typing.specs.Positions.{plain_ty, plain_triple, plain_term, plain_fix, plain_comp, plain_step, plain_formula, plain_terms}

-- what one action puts is what the other does, but for positions
pub record PutsPlain (p q : Puts) : Type 0 where
  pub on_mono : (d n : ℕ) → p.on_mono d n ≡ q.on_mono d n
  pub on_term : (d n : ℕ) → plain_term (p.on_term d n) ≡ q.on_term d n
  pub on_heap : (d n : ℕ) → p.on_heap d n ≡ q.on_heap d n

pub mono_walked : {p q : Puts} → PutsPlain p q → (d : ℕ) (t : MonoTree) → walk_mono p d t ≡ walk_mono q d t
unfolding walk_mono
mono_walked h d m_word = refl
mono_walked h d m_bool = refl
mono_walked h d m_loc = refl
mono_walked h d m_unit = refl
mono_walked h d (m_pair left right) = λ j. m_pair (mono_walked h d left j) (mono_walked h d right j)
mono_walked h d (m_var index) = h.on_mono d index

option_walked : {p q : Puts} → PutsPlain p q → (d : ℕ) (t : Option MonoTree) → option_map (walk_mono p d) t ≡ option_map (walk_mono q d) t
option_walked h d None = refl
option_walked h d (Some t) = λ j. Some (mono_walked h d t j)

mutual
  unfolding walk_term plain_term

  pub ty_walked : {p q : Puts} → PutsPlain p q → (d : ℕ) (t : TyTree) → plain_ty (walk_ty p d t) ≡ walk_ty q d (plain_ty t)
  ty_walked h d (y_mono mono) = λ j. y_mono (mono_walked h d mono j)
  ty_walked h d (y_fun argument answer) = λ j. y_fun (ty_walked h d argument j) (ty_walked h (d + 1) answer j)
  ty_walked h d (y_all body) = λ j. y_all (ty_walked h (d + 1) body j)
  ty_walked h d (y_hoare spec) = λ j. y_hoare (triple_walked h d spec j)
  ty_walked h d (y_at at ty) = ty_walked h d ty

  pub triple_walked : {p q : Puts} → PutsPlain p q → (d : ℕ) (t : TripleTree) → plain_triple (walk_triple p d t) ≡ walk_triple q d (plain_triple t)
  triple_walked h d (triple pre mono post) = λ j. triple (formula_walked h (d + 1) pre j) (mono_walked h d mono j) (formula_walked h (d + 3) post j)

  pub term_walked : {p q : Puts} → PutsPlain p q → (d : ℕ) (t : TermTree) → plain_term (walk_term p d t) ≡ walk_term q d (plain_term t)
  term_walked h d (t_var index) = h.on_term d index
  term_walked h d (t_val number) = refl
  term_walked h d (t_def number) = refl
  term_walked h d (t_app function argument) = λ j. t_app (term_walked h d function j) (term_walked h d argument j)
  term_walked h d (t_inst function mono) = λ j. t_inst (term_walked h d function j) (mono_walked h d mono j)
  term_walked h d (t_lam body) = λ j. t_lam (term_walked h (d + 1) body j)
  term_walked h d (t_lam_t body) = λ j. t_lam_t (term_walked h (d + 1) body j)
  term_walked h d (t_do comp) = λ j. t_do (comp_walked h d comp j)
  term_walked h d (t_fix at fix) = λ j. t_fix 0 (fix_walked h d fix j)
  term_walked h d (t_word word) = refl
  term_walked h d (t_bool truth) = refl
  term_walked h d (t_loc place) = refl
  term_walked h d t_unit = refl
  term_walked h d (t_pair left right) = λ j. t_pair (term_walked h d left j) (term_walked h d right j)
  term_walked h d (t_fst pair) = λ j. t_fst (term_walked h d pair j)
  term_walked h d (t_snd pair) = λ j. t_snd (term_walked h d pair j)
  term_walked h d (t_not term) = λ j. t_not (term_walked h d term j)
  term_walked h d (t_bin op left right) = λ j. t_bin op (term_walked h d left j) (term_walked h d right j)
  term_walked h d (t_eq mono left right) = λ j. t_eq (mono_walked h d mono j) (term_walked h d left j) (term_walked h d right j)
  term_walked h d (t_sel mono test on_true on_false) =
      λ j. t_sel (mono_walked h d mono j) (term_walked h d test j) (term_walked h d on_true j) (term_walked h d on_false j)
  term_walked h d (t_ann term ty) = λ j. t_ann (term_walked h d term j) (ty_walked h d ty j)
  term_walked h d (t_made number values) = λ j. t_made number (terms_walked h d values j)
  term_walked h d (t_at at term) = term_walked h d term

  pub fix_walked : {p q : Puts} → PutsPlain p q → (d : ℕ) (t : FixTree) → plain_fix (walk_fix p d t) ≡ walk_fix q d (plain_fix t)
  fix_walked h d (x_param ty others) = λ j. x_param (ty_walked h d ty j) (fix_walked h (d + 1) others j)
  fix_walked h d (x_body spec comp) = λ j. x_body (triple_walked h d spec j) (comp_walked h (d + 1) comp j)

  pub comp_walked : {p q : Puts} → PutsPlain p q → (d : ℕ) (t : CompTree) → plain_comp (walk_comp p d t) ≡ walk_comp q d (plain_comp t)
  comp_walked h d (c_ret term) = λ j. c_ret (term_walked h d term j)
  comp_walked h d (c_step step others) = λ j. c_step (step_walked h d step j) (comp_walked h (d + 1) others j)

  pub step_walked : {p q : Puts} → PutsPlain p q → (d : ℕ) (t : StepTree) → plain_step (walk_step p d t) ≡ walk_step q d (plain_step t)
  step_walked h d (s_run term mono) = λ j. s_run (term_walked h d term j) (option_walked h d mono j)
  step_walked h d (s_alloc mono value) = λ j. s_alloc (mono_walked h d mono j) (term_walked h d value j)
  step_walked h d (s_get mono place) = λ j. s_get (mono_walked h d mono j) (term_walked h d place j)
  step_walked h d (s_set mono place value) = λ j. s_set (mono_walked h d mono j) (term_walked h d place j) (term_walked h d value j)
  step_walked h d (s_free mono place) = λ j. s_free (mono_walked h d mono j) (term_walked h d place j)
  step_walked h d (s_if mono test on_true on_false) =
      λ j. s_if (mono_walked h d mono j) (term_walked h d test j) (comp_walked h d on_true j) (comp_walked h d on_false j)
  step_walked h d (s_claim formula) = λ j. s_claim (formula_walked h (d + 2) formula j)

  pub formula_walked : {p q : Puts} → PutsPlain p q → (d : ℕ) (t : FormulaTree) → plain_formula (walk_formula p d t) ≡ walk_formula q d (plain_formula t)
  formula_walked h d f_tt = refl
  formula_walked h d f_ff = refl
  formula_walked h d (f_and left right) = λ j. f_and (formula_walked h d left j) (formula_walked h d right j)
  formula_walked h d (f_or left right) = λ j. f_or (formula_walked h d left j) (formula_walked h d right j)
  formula_walked h d (f_imp left right) = λ j. f_imp (formula_walked h d left j) (formula_walked h d right j)
  formula_walked h d (f_all_t mono body) = λ j. f_all_t (mono_walked h d mono j) (formula_walked h (d + 1) body j)
  formula_walked h d (f_ex_t mono body) = λ j. f_ex_t (mono_walked h d mono j) (formula_walked h (d + 1) body j)
  formula_walked h d (f_all_h body) = λ j. f_all_h (formula_walked h (d + 1) body j)
  formula_walked h d (f_ex_h body) = λ j. f_ex_h (formula_walked h (d + 1) body j)
  formula_walked h d (f_emp heap) = λ j. f_emp (h.on_heap d heap j)
  formula_walked h d (f_cell mono heap place value) =
      λ j. f_cell (mono_walked h d mono j) (h.on_heap d heap j) (term_walked h d place j) (term_walked h d value j)
  formula_walked h d (f_block mono heap place) = λ j. f_block (mono_walked h d mono j) (h.on_heap d heap j) (term_walked h d place j)
  formula_walked h d (f_join whole left right) = λ j. f_join (h.on_heap d whole j) (h.on_heap d left j) (h.on_heap d right j)
  formula_walked h d (f_same left right) = λ j. f_same (h.on_heap d left j) (h.on_heap d right j)
  formula_walked h d (f_eq mono left right) = λ j. f_eq (mono_walked h d mono j) (term_walked h d left j) (term_walked h d right j)
  formula_walked h d (f_at at formula) = formula_walked h d formula
  formula_walked h d (f_rec number heap place arguments) = λ j. f_rec number (h.on_heap d heap j) (term_walked h d place j) (terms_walked h d arguments j)

  pub terms_walked : {p q : Puts} → PutsPlain p q → (d : ℕ) (t : TermTrees) → plain_terms (walk_terms p d t) ≡ walk_terms q d (plain_terms t)
  terms_walked h d no_terms = refl
  terms_walked h d (more_terms first others) = λ j. more_terms (term_walked h d first j) (terms_walked h d others j)
