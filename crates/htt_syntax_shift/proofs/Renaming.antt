-- A walk that puts each variable where a map says is the renaming by the map.
use Rattle.std.proofs.Common.{ℕ, ◌+◌, ◌≡◌, refl, Option, Some, None, option_map}
use Rattle.htt_syntax.specs.Trees.{MonoTree, TyTree, TripleTree, TermTree, FixTree, CompTree, StepTree, FormulaTree, TermTrees, m_word, m_bool, m_loc, m_unit}
use Rattle.htt_syntax.specs.Trees.{m_pair, m_var, y_mono, y_fun, y_all, y_hoare, y_at, t_var, t_val, t_def, t_app, t_inst, t_lam, t_lam_t, t_do, t_fix, t_word}
use Rattle.htt_syntax.specs.Trees.{t_bool, t_loc, t_unit, t_pair, t_fst, t_snd, t_not, t_bin, t_eq, t_sel, t_ann, t_made, t_at, s_run, s_alloc, s_get, s_set}
use Rattle.htt_syntax.specs.Trees.{s_free, s_if, s_claim, f_tt, f_ff, f_and, f_or, f_imp, f_all_t, f_ex_t, f_all_h, f_ex_h, f_emp, f_cell, f_block, f_join}
use Rattle.htt_syntax.specs.Trees.{f_same, f_eq, f_at, f_rec, triple, x_param, x_body, c_ret, c_step, no_terms, more_terms}
use Rattle.htt_syntax_walk.specs.Walk.{walk_mono, walk_ty, walk_triple, walk_term, walk_fix, walk_comp, walk_step, walk_formula, walk_terms}
use Rattle.theory_renaming.specs.Renaming.{Map, lift, lifts, rename_mono, rename_ty, rename_triple, rename_term, rename_fix, rename_comp, rename_step}
use Rattle.theory_renaming.specs.Renaming.{rename_formula, rename_terms}
use Rattle.htt_syntax_shift.specs.Renamed.{renamed}
use Rattle.htt_syntax_shift.proofs.Depths.{deeper, deeper_two, deeper_three}

module _ (m : Map) where
  pub mono_renamed : (t : MonoTree) (d : ℕ) (k : Map) → lifts d m ≡ k → walk_mono (renamed m) d t ≡ rename_mono k t
  unfolding walk_mono rename_mono
  mono_renamed m_word d k e = refl
  mono_renamed m_bool d k e = refl
  mono_renamed m_loc d k e = refl
  mono_renamed m_unit d k e = refl
  mono_renamed (m_pair left right) d k e = λ j. m_pair (mono_renamed left d k e j) (mono_renamed right d k e j)
  mono_renamed (m_var index) d k e = λ j. m_var (e j index)

  pub option_renamed : (t : Option MonoTree) (d : ℕ) (k : Map) → lifts d m ≡ k → option_map (walk_mono (renamed m) d) t ≡ option_map (rename_mono k) t
  option_renamed None d k e = refl
  option_renamed (Some mono) d k e = λ j. Some (mono_renamed mono d k e j)

  mutual
    unfolding walk_term rename_term

    pub ty_renamed : (t : TyTree) (d : ℕ) (k : Map) → lifts d m ≡ k → walk_ty (renamed m) d t ≡ rename_ty k t
    ty_renamed (y_mono mono) d k e = λ j. y_mono (mono_renamed mono d k e j)
    ty_renamed (y_fun argument answer) d k e = λ j. y_fun (ty_renamed argument d k e j) (ty_renamed answer (d + 1) (lift k) (deeper m d k e) j)
    ty_renamed (y_all body) d k e = λ j. y_all (ty_renamed body (d + 1) (lift k) (deeper m d k e) j)
    ty_renamed (y_hoare spec) d k e = λ j. y_hoare (triple_renamed spec d k e j)
    ty_renamed (y_at at ty) d k e = λ j. y_at at (ty_renamed ty d k e j)

    pub triple_renamed : (t : TripleTree) (d : ℕ) (k : Map) → lifts d m ≡ k → walk_triple (renamed m) d t ≡ rename_triple k t
    triple_renamed (triple pre mono post) d k e = λ j.
        triple (formula_renamed pre (d + 1) (lift k) (deeper m d k e) j) (mono_renamed mono d k e j)
        (formula_renamed post (d + 3) (lift (lift (lift k))) (deeper_three m d k e) j)

    pub term_renamed : (t : TermTree) (d : ℕ) (k : Map) → lifts d m ≡ k → walk_term (renamed m) d t ≡ rename_term k t
    term_renamed (t_var index) d k e = λ j. t_var (e j index)
    term_renamed (t_val number) d k e = refl
    term_renamed (t_def number) d k e = refl
    term_renamed (t_app function argument) d k e = λ j. t_app (term_renamed function d k e j) (term_renamed argument d k e j)
    term_renamed (t_inst function mono) d k e = λ j. t_inst (term_renamed function d k e j) (mono_renamed mono d k e j)
    term_renamed (t_lam body) d k e = λ j. t_lam (term_renamed body (d + 1) (lift k) (deeper m d k e) j)
    term_renamed (t_lam_t body) d k e = λ j. t_lam_t (term_renamed body (d + 1) (lift k) (deeper m d k e) j)
    term_renamed (t_do comp) d k e = λ j. t_do (comp_renamed comp d k e j)
    term_renamed (t_fix at fix) d k e = λ j. t_fix at (fix_renamed fix d k e j)
    term_renamed (t_word word) d k e = refl
    term_renamed (t_bool truth) d k e = refl
    term_renamed (t_loc place) d k e = refl
    term_renamed t_unit d k e = refl
    term_renamed (t_pair left right) d k e = λ j. t_pair (term_renamed left d k e j) (term_renamed right d k e j)
    term_renamed (t_fst pair) d k e = λ j. t_fst (term_renamed pair d k e j)
    term_renamed (t_snd pair) d k e = λ j. t_snd (term_renamed pair d k e j)
    term_renamed (t_not term) d k e = λ j. t_not (term_renamed term d k e j)
    term_renamed (t_bin op left right) d k e = λ j. t_bin op (term_renamed left d k e j) (term_renamed right d k e j)
    term_renamed (t_eq mono left right) d k e = λ j. t_eq (mono_renamed mono d k e j) (term_renamed left d k e j) (term_renamed right d k e j)
    term_renamed (t_sel mono test on_true on_false) d k e =
        λ j. t_sel (mono_renamed mono d k e j) (term_renamed test d k e j) (term_renamed on_true d k e j) (term_renamed on_false d k e j)
    term_renamed (t_ann term ty) d k e = λ j. t_ann (term_renamed term d k e j) (ty_renamed ty d k e j)
    term_renamed (t_made number values) d k e = λ j. t_made number (terms_renamed values d k e j)
    term_renamed (t_at at term) d k e = λ j. t_at at (term_renamed term d k e j)

    pub fix_renamed : (t : FixTree) (d : ℕ) (k : Map) → lifts d m ≡ k → walk_fix (renamed m) d t ≡ rename_fix k t
    fix_renamed (x_param ty rest) d k e = λ j. x_param (ty_renamed ty d k e j) (fix_renamed rest (d + 1) (lift k) (deeper m d k e) j)
    fix_renamed (x_body spec comp) d k e = λ j. x_body (triple_renamed spec d k e j) (comp_renamed comp (d + 1) (lift k) (deeper m d k e) j)

    pub comp_renamed : (t : CompTree) (d : ℕ) (k : Map) → lifts d m ≡ k → walk_comp (renamed m) d t ≡ rename_comp k t
    comp_renamed (c_ret term) d k e = λ j. c_ret (term_renamed term d k e j)
    comp_renamed (c_step step rest) d k e = λ j. c_step (step_renamed step d k e j) (comp_renamed rest (d + 1) (lift k) (deeper m d k e) j)

    pub step_renamed : (t : StepTree) (d : ℕ) (k : Map) → lifts d m ≡ k → walk_step (renamed m) d t ≡ rename_step k t
    step_renamed (s_run term mono) d k e = λ j. s_run (term_renamed term d k e j) (option_renamed mono d k e j)
    step_renamed (s_alloc mono value) d k e = λ j. s_alloc (mono_renamed mono d k e j) (term_renamed value d k e j)
    step_renamed (s_get mono place) d k e = λ j. s_get (mono_renamed mono d k e j) (term_renamed place d k e j)
    step_renamed (s_set mono place value) d k e = λ j. s_set (mono_renamed mono d k e j) (term_renamed place d k e j) (term_renamed value d k e j)
    step_renamed (s_free mono place) d k e = λ j. s_free (mono_renamed mono d k e j) (term_renamed place d k e j)
    step_renamed (s_if mono test on_true on_false) d k e =
        λ j. s_if (mono_renamed mono d k e j) (term_renamed test d k e j) (comp_renamed on_true d k e j) (comp_renamed on_false d k e j)
    step_renamed (s_claim formula) d k e = λ j. s_claim (formula_renamed formula (d + 2) (lift (lift k)) (deeper_two m d k e) j)

    pub formula_renamed : (t : FormulaTree) (d : ℕ) (k : Map) → lifts d m ≡ k → walk_formula (renamed m) d t ≡ rename_formula k t
    formula_renamed f_tt d k e = refl
    formula_renamed f_ff d k e = refl
    formula_renamed (f_and left right) d k e = λ j. f_and (formula_renamed left d k e j) (formula_renamed right d k e j)
    formula_renamed (f_or left right) d k e = λ j. f_or (formula_renamed left d k e j) (formula_renamed right d k e j)
    formula_renamed (f_imp left right) d k e = λ j. f_imp (formula_renamed left d k e j) (formula_renamed right d k e j)
    formula_renamed (f_all_t mono body) d k e = λ j. f_all_t (mono_renamed mono d k e j) (formula_renamed body (d + 1) (lift k) (deeper m d k e) j)
    formula_renamed (f_ex_t mono body) d k e = λ j. f_ex_t (mono_renamed mono d k e j) (formula_renamed body (d + 1) (lift k) (deeper m d k e) j)
    formula_renamed (f_all_h body) d k e = λ j. f_all_h (formula_renamed body (d + 1) (lift k) (deeper m d k e) j)
    formula_renamed (f_ex_h body) d k e = λ j. f_ex_h (formula_renamed body (d + 1) (lift k) (deeper m d k e) j)
    formula_renamed (f_emp heap) d k e = λ j. f_emp (e j heap)
    formula_renamed (f_cell mono heap place value) d k e =
        λ j. f_cell (mono_renamed mono d k e j) (e j heap) (term_renamed place d k e j) (term_renamed value d k e j)
    formula_renamed (f_block mono heap place) d k e = λ j. f_block (mono_renamed mono d k e j) (e j heap) (term_renamed place d k e j)
    formula_renamed (f_join whole left right) d k e = λ j. f_join (e j whole) (e j left) (e j right)
    formula_renamed (f_same left right) d k e = λ j. f_same (e j left) (e j right)
    formula_renamed (f_eq mono left right) d k e = λ j. f_eq (mono_renamed mono d k e j) (term_renamed left d k e j) (term_renamed right d k e j)
    formula_renamed (f_at at formula) d k e = λ j. f_at at (formula_renamed formula d k e j)
    formula_renamed (f_rec number heap place arguments) d k e = λ j. f_rec number (e j heap) (term_renamed place d k e j) (terms_renamed arguments d k e j)

    pub terms_renamed : (t : TermTrees) (d : ℕ) (k : Map) → lifts d m ≡ k → walk_terms (renamed m) d t ≡ rename_terms k t
    terms_renamed no_terms d k e = refl
    terms_renamed (more_terms first others) d k e = λ j. more_terms (term_renamed first d k e j) (terms_renamed others d k e j)

  pub mono_shifted : (t : MonoTree) → walk_mono (renamed m) 0 t ≡ rename_mono m t
  unfolding lifts
  mono_shifted t = mono_renamed t 0 m refl

  pub ty_shifted : (t : TyTree) → walk_ty (renamed m) 0 t ≡ rename_ty m t
  unfolding lifts
  ty_shifted t = ty_renamed t 0 m refl

  pub term_shifted : (t : TermTree) → walk_term (renamed m) 0 t ≡ rename_term m t
  unfolding lifts
  term_shifted t = term_renamed t 0 m refl

  pub comp_shifted : (t : CompTree) → walk_comp (renamed m) 0 t ≡ rename_comp m t
  unfolding lifts
  comp_shifted t = comp_renamed t 0 m refl

  pub formula_shifted : (t : FormulaTree) → walk_formula (renamed m) 0 t ≡ rename_formula m t
  unfolding lifts
  formula_shifted t = formula_renamed t 0 m refl
