-- A renaming that keeps every index keeps the tree.
use Rattle.std.proofs.Common.{ℕ, zero, suc, ◌≡◌, refl, ap, List, [], ◌∷◌, map, Option, Some, None, option_map}
use Rattle.htt_syntax.specs.Trees.{MonoTree, TyTree, TripleTree, TermTree, FixTree, CompTree, StepTree, FormulaTree, TermTrees, ArgTree, ProofTree, StmtTree}
use Rattle.htt_syntax.specs.Trees.{BlockTree, binders_of, m_word, m_bool, m_loc, m_unit, m_pair, m_var, y_mono, y_fun, y_all, y_hoare, y_at, triple, t_var}
use Rattle.htt_syntax.specs.Trees.{t_val, t_def, t_app, t_inst, t_lam, t_lam_t, t_do, t_fix, t_word, t_bool, t_loc, t_unit, t_pair, t_fst, t_snd, t_not, t_bin}
use Rattle.htt_syntax.specs.Trees.{t_eq, t_sel, t_ann, t_made, t_at, x_param, x_body, c_ret, c_step, s_run, s_alloc, s_get, s_set, s_free, s_if, s_claim, f_tt}
use Rattle.htt_syntax.specs.Trees.{f_ff, f_and, f_or, f_imp, f_all_t, f_ex_t, f_all_h, f_ex_h, f_emp, f_cell, f_block, f_join, f_same, f_eq, f_at, f_rec}
use Rattle.htt_syntax.specs.Trees.{no_terms, more_terms, a_heap, a_term, p_hyp, p_trivial, p_refl, p_first, p_second, p_left, p_right, p_absurd, p_both, p_give}
use Rattle.htt_syntax.specs.Trees.{p_app, p_inst, p_case, p_rewrite, p_induct, p_split, p_axiom, p_lem, p_the, p_block, p_at, p_unfold, d_intro, d_gen, d_have}
use Rattle.htt_syntax.specs.Trees.{d_open, d_at, b_then, b_end}
use Rattle.theory_renaming.specs.Renaming.{Map, lift, lifts, rename_mono, rename_ty, rename_triple, rename_term, rename_fix, rename_comp, rename_step}
use Rattle.theory_renaming.specs.Renaming.{rename_formula, rename_terms, rename_arg, rename_proof, rename_stmt, rename_block}

stays_lift : (m : Map) → ((n : ℕ) → m n ≡ n) → (n : ℕ) → lift m n ≡ n
unfolding lift
stays_lift m h zero = refl
stays_lift m h (suc n) = ap suc (h n)

stays_lifts : (k : ℕ) (m : Map) → ((n : ℕ) → m n ≡ n) → (n : ℕ) → lifts k m n ≡ n
unfolding lifts
stays_lifts zero m h = h
stays_lifts (suc k) m h = stays_lift (lifts k m) (stays_lifts k m h)

pub mono_stays : (m : Map) → ((n : ℕ) → m n ≡ n) → (t : MonoTree) → rename_mono m t ≡ t
unfolding rename_mono
mono_stays m h m_word = refl
mono_stays m h m_bool = refl
mono_stays m h m_loc = refl
mono_stays m h m_unit = refl
mono_stays m h (m_pair left right) = λ j. m_pair (mono_stays m h left j) (mono_stays m h right j)
mono_stays m h (m_var index) = λ j. m_var (h index j)

option_stays : (m : Map) → ((n : ℕ) → m n ≡ n) → (t : Option MonoTree) → option_map (rename_mono m) t ≡ t
option_stays m h None = refl
option_stays m h (Some t) = λ j. Some (mono_stays m h t j)

mutual
  unfolding rename_term

  pub ty_stays : (m : Map) → ((n : ℕ) → m n ≡ n) → (t : TyTree) → rename_ty m t ≡ t
  ty_stays m h (y_mono mono) = λ j. y_mono (mono_stays m h mono j)
  ty_stays m h (y_fun argument answer) = λ j. y_fun (ty_stays m h argument j) (ty_stays (lift m) (stays_lift m h) answer j)
  ty_stays m h (y_all body) = λ j. y_all (ty_stays (lift m) (stays_lift m h) body j)
  ty_stays m h (y_hoare spec) = λ j. y_hoare (triple_stays m h spec j)
  ty_stays m h (y_at at ty) = λ j. y_at at (ty_stays m h ty j)

  pub triple_stays : (m : Map) → ((n : ℕ) → m n ≡ n) → (t : TripleTree) → rename_triple m t ≡ t
  triple_stays m h (triple pre mono post) = λ j.
      triple (formula_stays (lift m) (stays_lift m h) pre j) (mono_stays m h mono j)
      (formula_stays (lift (lift (lift m))) (stays_lift (lift (lift m)) (stays_lift (lift m) (stays_lift m h))) post j)

  pub term_stays : (m : Map) → ((n : ℕ) → m n ≡ n) → (t : TermTree) → rename_term m t ≡ t
  term_stays m h (t_var index) = λ j. t_var (h index j)
  term_stays m h (t_val number) = refl
  term_stays m h (t_def number) = refl
  term_stays m h (t_app function argument) = λ j. t_app (term_stays m h function j) (term_stays m h argument j)
  term_stays m h (t_inst function mono) = λ j. t_inst (term_stays m h function j) (mono_stays m h mono j)
  term_stays m h (t_lam body) = λ j. t_lam (term_stays (lift m) (stays_lift m h) body j)
  term_stays m h (t_lam_t body) = λ j. t_lam_t (term_stays (lift m) (stays_lift m h) body j)
  term_stays m h (t_do comp) = λ j. t_do (comp_stays m h comp j)
  term_stays m h (t_fix at fix) = λ j. t_fix at (fix_stays m h fix j)
  term_stays m h (t_word word) = refl
  term_stays m h (t_bool truth) = refl
  term_stays m h (t_loc place) = refl
  term_stays m h t_unit = refl
  term_stays m h (t_pair left right) = λ j. t_pair (term_stays m h left j) (term_stays m h right j)
  term_stays m h (t_fst pair) = λ j. t_fst (term_stays m h pair j)
  term_stays m h (t_snd pair) = λ j. t_snd (term_stays m h pair j)
  term_stays m h (t_not term) = λ j. t_not (term_stays m h term j)
  term_stays m h (t_bin op left right) = λ j. t_bin op (term_stays m h left j) (term_stays m h right j)
  term_stays m h (t_eq mono left right) = λ j. t_eq (mono_stays m h mono j) (term_stays m h left j) (term_stays m h right j)
  term_stays m h (t_sel mono test on_true on_false) =
      λ j. t_sel (mono_stays m h mono j) (term_stays m h test j) (term_stays m h on_true j) (term_stays m h on_false j)
  term_stays m h (t_ann term ty) = λ j. t_ann (term_stays m h term j) (ty_stays m h ty j)
  term_stays m h (t_made number values) = λ j. t_made number (terms_stays m h values j)
  term_stays m h (t_at at term) = λ j. t_at at (term_stays m h term j)

  pub fix_stays : (m : Map) → ((n : ℕ) → m n ≡ n) → (t : FixTree) → rename_fix m t ≡ t
  fix_stays m h (x_param ty others) = λ j. x_param (ty_stays m h ty j) (fix_stays (lift m) (stays_lift m h) others j)
  fix_stays m h (x_body spec comp) = λ j. x_body (triple_stays m h spec j) (comp_stays (lift m) (stays_lift m h) comp j)

  pub comp_stays : (m : Map) → ((n : ℕ) → m n ≡ n) → (t : CompTree) → rename_comp m t ≡ t
  comp_stays m h (c_ret term) = λ j. c_ret (term_stays m h term j)
  comp_stays m h (c_step step others) = λ j. c_step (step_stays m h step j) (comp_stays (lift m) (stays_lift m h) others j)

  pub step_stays : (m : Map) → ((n : ℕ) → m n ≡ n) → (t : StepTree) → rename_step m t ≡ t
  step_stays m h (s_run term mono) = λ j. s_run (term_stays m h term j) (option_stays m h mono j)
  step_stays m h (s_alloc mono value) = λ j. s_alloc (mono_stays m h mono j) (term_stays m h value j)
  step_stays m h (s_get mono place) = λ j. s_get (mono_stays m h mono j) (term_stays m h place j)
  step_stays m h (s_set mono place value) = λ j. s_set (mono_stays m h mono j) (term_stays m h place j) (term_stays m h value j)
  step_stays m h (s_free mono place) = λ j. s_free (mono_stays m h mono j) (term_stays m h place j)
  step_stays m h (s_if mono test on_true on_false) =
      λ j. s_if (mono_stays m h mono j) (term_stays m h test j) (comp_stays m h on_true j) (comp_stays m h on_false j)
  step_stays m h (s_claim formula) = λ j. s_claim (formula_stays (lift (lift m)) (stays_lift (lift m) (stays_lift m h)) formula j)

  pub formula_stays : (m : Map) → ((n : ℕ) → m n ≡ n) → (t : FormulaTree) → rename_formula m t ≡ t
  formula_stays m h f_tt = refl
  formula_stays m h f_ff = refl
  formula_stays m h (f_and left right) = λ j. f_and (formula_stays m h left j) (formula_stays m h right j)
  formula_stays m h (f_or left right) = λ j. f_or (formula_stays m h left j) (formula_stays m h right j)
  formula_stays m h (f_imp left right) = λ j. f_imp (formula_stays m h left j) (formula_stays m h right j)
  formula_stays m h (f_all_t mono body) = λ j. f_all_t (mono_stays m h mono j) (formula_stays (lift m) (stays_lift m h) body j)
  formula_stays m h (f_ex_t mono body) = λ j. f_ex_t (mono_stays m h mono j) (formula_stays (lift m) (stays_lift m h) body j)
  formula_stays m h (f_all_h body) = λ j. f_all_h (formula_stays (lift m) (stays_lift m h) body j)
  formula_stays m h (f_ex_h body) = λ j. f_ex_h (formula_stays (lift m) (stays_lift m h) body j)
  formula_stays m h (f_emp heap) = λ j. f_emp (h heap j)
  formula_stays m h (f_cell mono heap place value) = λ j. f_cell (mono_stays m h mono j) (h heap j) (term_stays m h place j) (term_stays m h value j)
  formula_stays m h (f_block mono heap place) = λ j. f_block (mono_stays m h mono j) (h heap j) (term_stays m h place j)
  formula_stays m h (f_join whole left right) = λ j. f_join (h whole j) (h left j) (h right j)
  formula_stays m h (f_same left right) = λ j. f_same (h left j) (h right j)
  formula_stays m h (f_eq mono left right) = λ j. f_eq (mono_stays m h mono j) (term_stays m h left j) (term_stays m h right j)
  formula_stays m h (f_at at formula) = λ j. f_at at (formula_stays m h formula j)
  formula_stays m h (f_rec number heap place arguments) = λ j. f_rec number (h heap j) (term_stays m h place j) (terms_stays m h arguments j)

  pub terms_stays : (m : Map) → ((n : ℕ) → m n ≡ n) → (t : TermTrees) → rename_terms m t ≡ t
  terms_stays m h no_terms = refl
  terms_stays m h (more_terms first others) = λ j. more_terms (term_stays m h first j) (terms_stays m h others j)

pub arg_stays : (m : Map) → ((n : ℕ) → m n ≡ n) → (t : ArgTree) → rename_arg m t ≡ t
unfolding rename_arg
arg_stays m h (a_heap heap) = λ j. a_heap (h heap j)
arg_stays m h (a_term term) = λ j. a_term (term_stays m h term j)

args_stay : (m : Map) → ((n : ℕ) → m n ≡ n) → (ts : List ArgTree) → map (rename_arg m) ts ≡ ts
args_stay m h [] = refl
args_stay m h (t ∷ ts) = λ j. arg_stays m h t j ∷ args_stay m h ts j

monos_stay : (m : Map) → ((n : ℕ) → m n ≡ n) → (ts : List MonoTree) → map (rename_mono m) ts ≡ ts
monos_stay m h [] = refl
monos_stay m h (t ∷ ts) = λ j. mono_stays m h t j ∷ monos_stay m h ts j

mutual
  unfolding rename_proof

  pub proof_stays : (m : Map) → ((n : ℕ) → m n ≡ n) → (t : ProofTree) → rename_proof m t ≡ t
  proof_stays m h (p_hyp number) = refl
  proof_stays m h p_trivial = refl
  proof_stays m h p_refl = refl
  proof_stays m h (p_first proof) = λ j. p_first (proof_stays m h proof j)
  proof_stays m h (p_second proof) = λ j. p_second (proof_stays m h proof j)
  proof_stays m h (p_left proof) = λ j. p_left (proof_stays m h proof j)
  proof_stays m h (p_right proof) = λ j. p_right (proof_stays m h proof j)
  proof_stays m h (p_absurd proof) = λ j. p_absurd (proof_stays m h proof j)
  proof_stays m h (p_both left right) = λ j. p_both (proof_stays m h left j) (proof_stays m h right j)
  proof_stays m h (p_give arg proof) = λ j. p_give (arg_stays m h arg j) (proof_stays m h proof j)
  proof_stays m h (p_app function argument) = λ j. p_app (proof_stays m h function j) (proof_stays m h argument j)
  proof_stays m h (p_inst proof arg) = λ j. p_inst (proof_stays m h proof j) (arg_stays m h arg j)
  proof_stays m h (p_case either left right) = λ j. p_case (proof_stays m h either j) (proof_stays m h left j) (proof_stays m h right j)
  proof_stays m h (p_rewrite equation motive proof) =
      λ j. p_rewrite (proof_stays m h equation j) (formula_stays (lift m) (stays_lift m h) motive j) (proof_stays m h proof j)
  proof_stays m h (p_induct motive word at_zero at_next) = λ j.
      p_induct (formula_stays (lift m) (stays_lift m h) motive j) (term_stays m h word j) (proof_stays m h at_zero j)
      (proof_stays (lift m) (stays_lift m h) at_next j)
  proof_stays m h (p_split motive test on_true on_false) = λ j.
      p_split (formula_stays (lift m) (stays_lift m h) motive j) (term_stays m h test j) (proof_stays m h on_true j)
      (proof_stays m h on_false j)
  proof_stays m h (p_axiom name monos arguments) = λ j. p_axiom name (monos_stay m h monos j) (args_stay m h arguments j)
  proof_stays m h (p_lem formula) = λ j. p_lem (formula_stays m h formula j)
  proof_stays m h (p_the formula proof) = λ j. p_the (formula_stays m h formula j) (proof_stays m h proof j)
  proof_stays m h (p_block block) = λ j. p_block (block_stays m h block j)
  proof_stays m h (p_at at proof) = λ j. p_at at (proof_stays m h proof j)
  proof_stays m h (p_unfold number case arguments) = λ j. p_unfold number case (args_stay m h arguments j)

  pub stmt_stays : (m : Map) → ((n : ℕ) → m n ≡ n) → (t : StmtTree) → rename_stmt m t ≡ t
  stmt_stays m h d_intro = refl
  stmt_stays m h d_gen = refl
  stmt_stays m h (d_have formula proof) = λ j. d_have (formula_stays m h formula j) (proof_stays m h proof j)
  stmt_stays m h (d_open proof) = λ j. d_open (proof_stays m h proof j)
  stmt_stays m h (d_at at stmt) = λ j. d_at at (stmt_stays m h stmt j)

  pub block_stays : (m : Map) → ((n : ℕ) → m n ≡ n) → (t : BlockTree) → rename_block m t ≡ t
  block_stays m h (b_then stmt others) =
      λ j. b_then (stmt_stays m h stmt j) (block_stays (lifts (binders_of stmt) m) (stays_lifts (binders_of stmt) m h) others j)
  block_stays m h (b_end proof) = λ j. b_end (proof_stays m h proof j)
