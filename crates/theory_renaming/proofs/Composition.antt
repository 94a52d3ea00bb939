-- A renaming of a renaming is the renaming by the one map after the other.
use Rattle.std.proofs.Common.{ℕ, zero, suc, ◌≡◌, refl, ap, List, [], ◌∷◌, map, Option, Some, None, option_map}
use Rattle.htt_syntax.specs.Trees.{MonoTree, TyTree, TripleTree, TermTree, FixTree, CompTree, StepTree, FormulaTree, TermTrees, ArgTree, ProofTree, StmtTree}
use Rattle.htt_syntax.specs.Trees.{BlockTree, binders_of, m_word, m_bool, m_loc, m_unit, m_pair, m_var, y_mono, y_fun, y_all, y_hoare, y_at, triple, t_var}
use Rattle.htt_syntax.specs.Trees.{t_val, t_def, t_app, t_inst, t_lam, t_lam_t, t_do, t_fix, t_word, t_bool, t_loc, t_unit, t_pair, t_fst, t_snd, t_not, t_bin}
use Rattle.htt_syntax.specs.Trees.{t_eq, t_sel, t_ann, t_made, t_at, x_param, x_body, c_ret, c_step, s_run, s_alloc, s_get, s_set, s_free, s_if, s_claim, f_tt}
use Rattle.htt_syntax.specs.Trees.{f_ff, f_and, f_or, f_imp, f_all_t, f_ex_t, f_all_h, f_ex_h, f_emp, f_cell, f_block, f_join, f_same, f_eq, f_at, f_rec}
use Rattle.htt_syntax.specs.Trees.{no_terms, more_terms, a_heap, a_term, p_hyp, p_trivial, p_refl, p_first, p_second, p_left, p_right, p_absurd, p_both, p_give}
use Rattle.htt_syntax.specs.Trees.{p_app, p_inst, p_case, p_rewrite, p_induct, p_split, p_axiom, p_lem, p_the, p_block, p_at, p_unfold, d_intro, d_gen, d_have}
use Rattle.htt_syntax.specs.Trees.{d_open, d_at, b_then, b_end}
use Rattle.theory_renaming.specs.Renaming.{Map, lift, lifts, rename_mono, rename_ty, rename_triple, rename_term, rename_fix, rename_comp, rename_step}
use Rattle.theory_renaming.specs.Renaming.{rename_formula, rename_terms, rename_arg, rename_proof, rename_stmt, rename_block}

joins_lift : (m k l : Map) → ((n : ℕ) → m (k n) ≡ l n) → (n : ℕ) → lift m (lift k n) ≡ lift l n
unfolding lift
joins_lift m k l h zero = refl
joins_lift m k l h (suc n) = ap suc (h n)

joins_lifts : (count : ℕ) (m k l : Map) → ((n : ℕ) → m (k n) ≡ l n) → (n : ℕ) → lifts count m (lifts count k n) ≡ lifts count l n
unfolding lifts
joins_lifts zero m k l h = h
joins_lifts (suc count) m k l h = joins_lift (lifts count m) (lifts count k) (lifts count l) (joins_lifts count m k l h)

binders_stay : (m : Map) (stmt : StmtTree) → binders_of (rename_stmt m stmt) ≡ binders_of stmt
unfolding rename_proof binders_of
binders_stay m d_intro = refl
binders_stay m d_gen = refl
binders_stay m (d_have formula proof) = refl
binders_stay m (d_open proof) = refl
binders_stay m (d_at at stmt) = binders_stay m stmt

then_joins : (m k : Map) (stmt : StmtTree) (others whole : BlockTree)
    → rename_block (lifts (binders_of stmt) m) others ≡ whole
    → rename_block (lifts (binders_of (rename_stmt k stmt)) m) others ≡ whole
then_joins m k stmt others whole h = rw (binders_stay k stmt) h

pub mono_joins : (m k l : Map) → ((n : ℕ) → m (k n) ≡ l n) → (t : MonoTree) → rename_mono m (rename_mono k t) ≡ rename_mono l t
unfolding rename_mono
mono_joins m k l h m_word = refl
mono_joins m k l h m_bool = refl
mono_joins m k l h m_loc = refl
mono_joins m k l h m_unit = refl
mono_joins m k l h (m_pair left right) = λ j. m_pair (mono_joins m k l h left j) (mono_joins m k l h right j)
mono_joins m k l h (m_var index) = λ j. m_var (h index j)

option_joins : (m k l : Map)
    → ((n : ℕ) → m (k n) ≡ l n)
    → (t : Option MonoTree)
    → option_map (rename_mono m) (option_map (rename_mono k) t) ≡ option_map (rename_mono l) t
option_joins m k l h None = refl
option_joins m k l h (Some t) = λ j. Some (mono_joins m k l h t j)

mutual
  unfolding rename_term

  pub ty_joins : (m k l : Map) → ((n : ℕ) → m (k n) ≡ l n) → (t : TyTree) → rename_ty m (rename_ty k t) ≡ rename_ty l t
  ty_joins m k l h (y_mono mono) = λ j. y_mono (mono_joins m k l h mono j)
  ty_joins m k l h (y_fun argument answer) = λ j. y_fun (ty_joins m k l h argument j) (ty_joins (lift m) (lift k) (lift l) (joins_lift m k l h) answer j)
  ty_joins m k l h (y_all body) = λ j. y_all (ty_joins (lift m) (lift k) (lift l) (joins_lift m k l h) body j)
  ty_joins m k l h (y_hoare spec) = λ j. y_hoare (triple_joins m k l h spec j)
  ty_joins m k l h (y_at at ty) = λ j. y_at at (ty_joins m k l h ty j)

  pub triple_joins : (m k l : Map) → ((n : ℕ) → m (k n) ≡ l n) → (t : TripleTree) → rename_triple m (rename_triple k t) ≡ rename_triple l t
  triple_joins m k l h (triple pre mono post) = λ j.
      triple (formula_joins (lift m) (lift k) (lift l) (joins_lift m k l h) pre j) (mono_joins m k l h mono j)
      (formula_joins (lift (lift (lift m))) (lift (lift (lift k))) (lift (lift (lift l)))
      (joins_lift (lift (lift m)) (lift (lift k)) (lift (lift l)) (joins_lift (lift m) (lift k) (lift l) (joins_lift m k l h))) post j)

  pub term_joins : (m k l : Map) → ((n : ℕ) → m (k n) ≡ l n) → (t : TermTree) → rename_term m (rename_term k t) ≡ rename_term l t
  term_joins m k l h (t_var index) = λ j. t_var (h index j)
  term_joins m k l h (t_val number) = refl
  term_joins m k l h (t_def number) = refl
  term_joins m k l h (t_app function argument) = λ j. t_app (term_joins m k l h function j) (term_joins m k l h argument j)
  term_joins m k l h (t_inst function mono) = λ j. t_inst (term_joins m k l h function j) (mono_joins m k l h mono j)
  term_joins m k l h (t_lam body) = λ j. t_lam (term_joins (lift m) (lift k) (lift l) (joins_lift m k l h) body j)
  term_joins m k l h (t_lam_t body) = λ j. t_lam_t (term_joins (lift m) (lift k) (lift l) (joins_lift m k l h) body j)
  term_joins m k l h (t_do comp) = λ j. t_do (comp_joins m k l h comp j)
  term_joins m k l h (t_fix at fix) = λ j. t_fix at (fix_joins m k l h fix j)
  term_joins m k l h (t_word word) = refl
  term_joins m k l h (t_bool truth) = refl
  term_joins m k l h (t_loc place) = refl
  term_joins m k l h t_unit = refl
  term_joins m k l h (t_pair left right) = λ j. t_pair (term_joins m k l h left j) (term_joins m k l h right j)
  term_joins m k l h (t_fst pair) = λ j. t_fst (term_joins m k l h pair j)
  term_joins m k l h (t_snd pair) = λ j. t_snd (term_joins m k l h pair j)
  term_joins m k l h (t_not term) = λ j. t_not (term_joins m k l h term j)
  term_joins m k l h (t_bin op left right) = λ j. t_bin op (term_joins m k l h left j) (term_joins m k l h right j)
  term_joins m k l h (t_eq mono left right) = λ j. t_eq (mono_joins m k l h mono j) (term_joins m k l h left j) (term_joins m k l h right j)
  term_joins m k l h (t_sel mono test on_true on_false) =
      λ j. t_sel (mono_joins m k l h mono j) (term_joins m k l h test j) (term_joins m k l h on_true j) (term_joins m k l h on_false j)
  term_joins m k l h (t_ann term ty) = λ j. t_ann (term_joins m k l h term j) (ty_joins m k l h ty j)
  term_joins m k l h (t_made number values) = λ j. t_made number (terms_joins m k l h values j)
  term_joins m k l h (t_at at term) = λ j. t_at at (term_joins m k l h term j)

  pub fix_joins : (m k l : Map) → ((n : ℕ) → m (k n) ≡ l n) → (t : FixTree) → rename_fix m (rename_fix k t) ≡ rename_fix l t
  fix_joins m k l h (x_param ty others) = λ j. x_param (ty_joins m k l h ty j) (fix_joins (lift m) (lift k) (lift l) (joins_lift m k l h) others j)
  fix_joins m k l h (x_body spec comp) = λ j. x_body (triple_joins m k l h spec j) (comp_joins (lift m) (lift k) (lift l) (joins_lift m k l h) comp j)

  pub comp_joins : (m k l : Map) → ((n : ℕ) → m (k n) ≡ l n) → (t : CompTree) → rename_comp m (rename_comp k t) ≡ rename_comp l t
  comp_joins m k l h (c_ret term) = λ j. c_ret (term_joins m k l h term j)
  comp_joins m k l h (c_step step others) = λ j. c_step (step_joins m k l h step j) (comp_joins (lift m) (lift k) (lift l) (joins_lift m k l h) others j)

  pub step_joins : (m k l : Map) → ((n : ℕ) → m (k n) ≡ l n) → (t : StepTree) → rename_step m (rename_step k t) ≡ rename_step l t
  step_joins m k l h (s_run term mono) = λ j. s_run (term_joins m k l h term j) (option_joins m k l h mono j)
  step_joins m k l h (s_alloc mono value) = λ j. s_alloc (mono_joins m k l h mono j) (term_joins m k l h value j)
  step_joins m k l h (s_get mono place) = λ j. s_get (mono_joins m k l h mono j) (term_joins m k l h place j)
  step_joins m k l h (s_set mono place value) = λ j. s_set (mono_joins m k l h mono j) (term_joins m k l h place j) (term_joins m k l h value j)
  step_joins m k l h (s_free mono place) = λ j. s_free (mono_joins m k l h mono j) (term_joins m k l h place j)
  step_joins m k l h (s_if mono test on_true on_false) =
      λ j. s_if (mono_joins m k l h mono j) (term_joins m k l h test j) (comp_joins m k l h on_true j) (comp_joins m k l h on_false j)
  step_joins m k l h (s_claim formula) = λ j.
      s_claim
      (formula_joins (lift (lift m)) (lift (lift k)) (lift (lift l)) (joins_lift (lift m) (lift k) (lift l) (joins_lift m k l h)) formula j)

  pub formula_joins : (m k l : Map) → ((n : ℕ) → m (k n) ≡ l n) → (t : FormulaTree) → rename_formula m (rename_formula k t) ≡ rename_formula l t
  formula_joins m k l h f_tt = refl
  formula_joins m k l h f_ff = refl
  formula_joins m k l h (f_and left right) = λ j. f_and (formula_joins m k l h left j) (formula_joins m k l h right j)
  formula_joins m k l h (f_or left right) = λ j. f_or (formula_joins m k l h left j) (formula_joins m k l h right j)
  formula_joins m k l h (f_imp left right) = λ j. f_imp (formula_joins m k l h left j) (formula_joins m k l h right j)
  formula_joins m k l h (f_all_t mono body) = λ j. f_all_t (mono_joins m k l h mono j) (formula_joins (lift m) (lift k) (lift l) (joins_lift m k l h) body j)
  formula_joins m k l h (f_ex_t mono body) = λ j. f_ex_t (mono_joins m k l h mono j) (formula_joins (lift m) (lift k) (lift l) (joins_lift m k l h) body j)
  formula_joins m k l h (f_all_h body) = λ j. f_all_h (formula_joins (lift m) (lift k) (lift l) (joins_lift m k l h) body j)
  formula_joins m k l h (f_ex_h body) = λ j. f_ex_h (formula_joins (lift m) (lift k) (lift l) (joins_lift m k l h) body j)
  formula_joins m k l h (f_emp heap) = λ j. f_emp (h heap j)
  formula_joins m k l h (f_cell mono heap place value) =
      λ j. f_cell (mono_joins m k l h mono j) (h heap j) (term_joins m k l h place j) (term_joins m k l h value j)
  formula_joins m k l h (f_block mono heap place) = λ j. f_block (mono_joins m k l h mono j) (h heap j) (term_joins m k l h place j)
  formula_joins m k l h (f_join whole left right) = λ j. f_join (h whole j) (h left j) (h right j)
  formula_joins m k l h (f_same left right) = λ j. f_same (h left j) (h right j)
  formula_joins m k l h (f_eq mono left right) = λ j. f_eq (mono_joins m k l h mono j) (term_joins m k l h left j) (term_joins m k l h right j)
  formula_joins m k l h (f_at at formula) = λ j. f_at at (formula_joins m k l h formula j)
  formula_joins m k l h (f_rec number heap place arguments) = λ j. f_rec number (h heap j) (term_joins m k l h place j) (terms_joins m k l h arguments j)

  pub terms_joins : (m k l : Map) → ((n : ℕ) → m (k n) ≡ l n) → (t : TermTrees) → rename_terms m (rename_terms k t) ≡ rename_terms l t
  terms_joins m k l h no_terms = refl
  terms_joins m k l h (more_terms first others) = λ j. more_terms (term_joins m k l h first j) (terms_joins m k l h others j)

pub arg_joins : (m k l : Map) → ((n : ℕ) → m (k n) ≡ l n) → (t : ArgTree) → rename_arg m (rename_arg k t) ≡ rename_arg l t
unfolding rename_arg
arg_joins m k l h (a_heap heap) = λ j. a_heap (h heap j)
arg_joins m k l h (a_term term) = λ j. a_term (term_joins m k l h term j)

args_join : (m k l : Map) → ((n : ℕ) → m (k n) ≡ l n) → (ts : List ArgTree) → map (rename_arg m) (map (rename_arg k) ts) ≡ map (rename_arg l) ts
args_join m k l h [] = refl
args_join m k l h (t ∷ ts) = λ j. arg_joins m k l h t j ∷ args_join m k l h ts j

monos_join : (m k l : Map) → ((n : ℕ) → m (k n) ≡ l n) → (ts : List MonoTree) → map (rename_mono m) (map (rename_mono k) ts) ≡ map (rename_mono l) ts
monos_join m k l h [] = refl
monos_join m k l h (t ∷ ts) = λ j. mono_joins m k l h t j ∷ monos_join m k l h ts j

mutual
  unfolding rename_proof

  pub proof_joins : (m k l : Map) → ((n : ℕ) → m (k n) ≡ l n) → (t : ProofTree) → rename_proof m (rename_proof k t) ≡ rename_proof l t
  proof_joins m k l h (p_hyp number) = refl
  proof_joins m k l h p_trivial = refl
  proof_joins m k l h p_refl = refl
  proof_joins m k l h (p_first proof) = λ j. p_first (proof_joins m k l h proof j)
  proof_joins m k l h (p_second proof) = λ j. p_second (proof_joins m k l h proof j)
  proof_joins m k l h (p_left proof) = λ j. p_left (proof_joins m k l h proof j)
  proof_joins m k l h (p_right proof) = λ j. p_right (proof_joins m k l h proof j)
  proof_joins m k l h (p_absurd proof) = λ j. p_absurd (proof_joins m k l h proof j)
  proof_joins m k l h (p_both left right) = λ j. p_both (proof_joins m k l h left j) (proof_joins m k l h right j)
  proof_joins m k l h (p_give arg proof) = λ j. p_give (arg_joins m k l h arg j) (proof_joins m k l h proof j)
  proof_joins m k l h (p_app function argument) = λ j. p_app (proof_joins m k l h function j) (proof_joins m k l h argument j)
  proof_joins m k l h (p_inst proof arg) = λ j. p_inst (proof_joins m k l h proof j) (arg_joins m k l h arg j)
  proof_joins m k l h (p_case either left right) = λ j. p_case (proof_joins m k l h either j) (proof_joins m k l h left j) (proof_joins m k l h right j)
  proof_joins m k l h (p_rewrite equation motive proof) = λ j.
      p_rewrite (proof_joins m k l h equation j) (formula_joins (lift m) (lift k) (lift l) (joins_lift m k l h) motive j)
      (proof_joins m k l h proof j)
  proof_joins m k l h (p_induct motive word at_zero at_next) =
      λ j.
      p_induct (formula_joins (lift m) (lift k) (lift l) (joins_lift m k l h) motive j) (term_joins m k l h word j)
      (proof_joins m k l h at_zero j) (proof_joins (lift m) (lift k) (lift l) (joins_lift m k l h) at_next j)
  proof_joins m k l h (p_split motive test on_true on_false) =
      λ j.
      p_split (formula_joins (lift m) (lift k) (lift l) (joins_lift m k l h) motive j) (term_joins m k l h test j)
      (proof_joins m k l h on_true j) (proof_joins m k l h on_false j)
  proof_joins m k l h (p_axiom name monos arguments) = λ j. p_axiom name (monos_join m k l h monos j) (args_join m k l h arguments j)
  proof_joins m k l h (p_lem formula) = λ j. p_lem (formula_joins m k l h formula j)
  proof_joins m k l h (p_the formula proof) = λ j. p_the (formula_joins m k l h formula j) (proof_joins m k l h proof j)
  proof_joins m k l h (p_block block) = λ j. p_block (block_joins m k l h block j)
  proof_joins m k l h (p_at at proof) = λ j. p_at at (proof_joins m k l h proof j)
  proof_joins m k l h (p_unfold number case arguments) = λ j. p_unfold number case (args_join m k l h arguments j)

  pub stmt_joins : (m k l : Map) → ((n : ℕ) → m (k n) ≡ l n) → (t : StmtTree) → rename_stmt m (rename_stmt k t) ≡ rename_stmt l t
  stmt_joins m k l h d_intro = refl
  stmt_joins m k l h d_gen = refl
  stmt_joins m k l h (d_have formula proof) = λ j. d_have (formula_joins m k l h formula j) (proof_joins m k l h proof j)
  stmt_joins m k l h (d_open proof) = λ j. d_open (proof_joins m k l h proof j)
  stmt_joins m k l h (d_at at stmt) = λ j. d_at at (stmt_joins m k l h stmt j)

  pub block_joins : (m k l : Map) → ((n : ℕ) → m (k n) ≡ l n) → (t : BlockTree) → rename_block m (rename_block k t) ≡ rename_block l t
  block_joins m k l h (b_then stmt others) = λ j.
      b_then (stmt_joins m k l h stmt j)
      (then_joins m k stmt (rename_block (lifts (binders_of stmt) k) others) (rename_block (lifts (binders_of stmt) l) others)
      (block_joins (lifts (binders_of stmt) m) (lifts (binders_of stmt) k) (lifts (binders_of stmt) l)
      (joins_lifts (binders_of stmt) m k l h) others) j)
  block_joins m k l h (b_end proof) = λ j. b_end (proof_joins m k l h proof j)
