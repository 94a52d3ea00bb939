-- What a text says of a tree: the tree without its positions, and without the monotypes that runs hold.
use Rattle.std.specs.Prelude.{List, None, map}
use Rattle.htt_syntax.specs.Trees.{TyTree, TripleTree, TermTree, FixTree, CompTree, StepTree, FormulaTree, TermTrees}
use Rattle.htt_syntax.specs.Trees.{y_mono, y_fun, y_all, y_hoare, triple, t_var, t_val, t_def, t_app, t_inst, t_lam}
use Rattle.htt_syntax.specs.Trees.{t_lam_t, t_do, t_word, t_bool, t_loc, t_unit, t_pair, t_fst, t_snd, t_not, t_bin}
use Rattle.htt_syntax.specs.Trees.{t_eq, t_sel, t_ann, t_made, x_param, x_body, c_ret, c_step, s_run, s_alloc, s_get}
use Rattle.htt_syntax.specs.Trees.{s_set, s_free, s_if, s_claim, f_tt, f_ff, f_and, f_or, f_imp, f_all_t, f_ex_t}
use Rattle.htt_syntax.specs.Trees.{f_all_h, f_ex_h, f_emp, f_cell, f_block, f_join, f_same, f_eq, f_rec, no_terms}
use Rattle.htt_syntax.specs.Trees.{more_terms, y_at, t_fix, t_at, f_at, ArgTree, ProofTree, StmtTree, BlockTree, a_heap}
use Rattle.htt_syntax.specs.Trees.{a_term, p_hyp, p_trivial, p_refl, p_first, p_second, p_left, p_right, p_absurd}
use Rattle.htt_syntax.specs.Trees.{p_both, p_give, p_app, p_inst, p_case, p_rewrite, p_induct, p_split, p_axiom, p_lem}
use Rattle.htt_syntax.specs.Trees.{p_the, p_block, p_at, p_unfold, d_intro, d_gen, d_have, d_open, d_at, b_then, b_end}

unfoldable mutual
  pub said_ty : TyTree → TyTree
  said_ty (y_mono mono) = y_mono mono
  said_ty (y_fun argument answer) = y_fun (said_ty argument) (said_ty answer)
  said_ty (y_all body) = y_all (said_ty body)
  said_ty (y_hoare spec) = y_hoare (said_triple spec)
  said_ty (y_at at ty) = said_ty ty

  pub said_triple : TripleTree → TripleTree
  said_triple (triple pre mono post) = triple (said_formula pre) mono (said_formula post)

  pub said_term : TermTree → TermTree
  said_term (t_var index) = t_var index
  said_term (t_val number) = t_val number
  said_term (t_def number) = t_def number
  said_term (t_app function argument) = t_app (said_term function) (said_term argument)
  said_term (t_inst function mono) = t_inst (said_term function) mono
  said_term (t_lam body) = t_lam (said_term body)
  said_term (t_lam_t body) = t_lam_t (said_term body)
  said_term (t_do comp) = t_do (said_comp comp)
  said_term (t_word word) = t_word word
  said_term (t_bool truth) = t_bool truth
  said_term (t_loc place) = t_loc place
  said_term t_unit = t_unit
  said_term (t_pair left right) = t_pair (said_term left) (said_term right)
  said_term (t_fst pair) = t_fst (said_term pair)
  said_term (t_snd pair) = t_snd (said_term pair)
  said_term (t_not term) = t_not (said_term term)
  said_term (t_bin op left right) = t_bin op (said_term left) (said_term right)
  said_term (t_eq mono left right) = t_eq mono (said_term left) (said_term right)
  said_term (t_sel mono test on_true on_false) =
      t_sel mono (said_term test) (said_term on_true) (said_term on_false)
  said_term (t_ann term ty) = t_ann (said_term term) (said_ty ty)
  said_term (t_made number values) = t_made number (said_terms values)
  said_term (t_fix at fix) = t_fix 0 (said_fix fix)
  said_term (t_at at term) = said_term term

  pub said_fix : FixTree → FixTree
  said_fix (x_param ty others) = x_param (said_ty ty) (said_fix others)
  said_fix (x_body spec comp) = x_body (said_triple spec) (said_comp comp)

  pub said_comp : CompTree → CompTree
  said_comp (c_ret term) = c_ret (said_term term)
  said_comp (c_step step others) = c_step (said_step step) (said_comp others)

  pub said_step : StepTree → StepTree
  said_step (s_run term mono) = s_run (said_term term) None
  said_step (s_alloc mono value) = s_alloc mono (said_term value)
  said_step (s_get mono place) = s_get mono (said_term place)
  said_step (s_set mono place value) = s_set mono (said_term place) (said_term value)
  said_step (s_free mono place) = s_free mono (said_term place)
  said_step (s_if mono test on_true on_false) = s_if mono (said_term test) (said_comp on_true) (said_comp on_false)
  said_step (s_claim formula) = s_claim (said_formula formula)

  pub said_formula : FormulaTree → FormulaTree
  said_formula f_tt = f_tt
  said_formula f_ff = f_ff
  said_formula (f_and left right) = f_and (said_formula left) (said_formula right)
  said_formula (f_or left right) = f_or (said_formula left) (said_formula right)
  said_formula (f_imp left right) = f_imp (said_formula left) (said_formula right)
  said_formula (f_all_t mono body) = f_all_t mono (said_formula body)
  said_formula (f_ex_t mono body) = f_ex_t mono (said_formula body)
  said_formula (f_all_h body) = f_all_h (said_formula body)
  said_formula (f_ex_h body) = f_ex_h (said_formula body)
  said_formula (f_emp heap) = f_emp heap
  said_formula (f_cell mono heap place value) = f_cell mono heap (said_term place) (said_term value)
  said_formula (f_block mono heap place) = f_block mono heap (said_term place)
  said_formula (f_join whole left right) = f_join whole left right
  said_formula (f_same left right) = f_same left right
  said_formula (f_eq mono left right) = f_eq mono (said_term left) (said_term right)
  said_formula (f_rec number heap place arguments) = f_rec number heap (said_term place) (said_terms arguments)
  said_formula (f_at at formula) = said_formula formula

  pub said_terms : TermTrees → TermTrees
  said_terms no_terms = no_terms
  said_terms (more_terms first others) = more_terms (said_term first) (said_terms others)

abbrev pub said_arg : ArgTree → ArgTree
said_arg (a_heap heap) = a_heap heap
said_arg (a_term term) = a_term (said_term term)

unfoldable mutual
  pub said_proof : ProofTree → ProofTree
  said_proof (p_hyp number) = p_hyp number
  said_proof p_trivial = p_trivial
  said_proof p_refl = p_refl
  said_proof (p_first p) = p_first (said_proof p)
  said_proof (p_second p) = p_second (said_proof p)
  said_proof (p_left p) = p_left (said_proof p)
  said_proof (p_right p) = p_right (said_proof p)
  said_proof (p_absurd p) = p_absurd (said_proof p)
  said_proof (p_both p q) = p_both (said_proof p) (said_proof q)
  said_proof (p_give a p) = p_give (said_arg a) (said_proof p)
  said_proof (p_app p q) = p_app (said_proof p) (said_proof q)
  said_proof (p_inst p a) = p_inst (said_proof p) (said_arg a)
  said_proof (p_case p q r) = p_case (said_proof p) (said_proof q) (said_proof r)
  said_proof (p_rewrite p C q) = p_rewrite (said_proof p) (said_formula C) (said_proof q)
  said_proof (p_induct C M p q) = p_induct (said_formula C) (said_term M) (said_proof p) (said_proof q)
  said_proof (p_split C M p q) = p_split (said_formula C) (said_term M) (said_proof p) (said_proof q)
  said_proof (p_axiom name ts more) = p_axiom name ts (map said_arg more)
  said_proof (p_lem F) = p_lem (said_formula F)
  said_proof (p_the F p) = p_the (said_formula F) (said_proof p)
  said_proof (p_block b) = p_block (said_block b)
  said_proof (p_at at p) = said_proof p
  said_proof (p_unfold number at_next more) = p_unfold number at_next (map said_arg more)

  pub said_block : BlockTree → BlockTree
  said_block (b_then d b) = b_then (said_stmt d) (said_block b)
  said_block (b_end p) = b_end (said_proof p)

  pub said_stmt : StmtTree → StmtTree
  said_stmt d_intro = d_intro
  said_stmt d_gen = d_gen
  said_stmt (d_have F p) = d_have (said_formula F) (said_proof p)
  said_stmt (d_open p) = d_open (said_proof p)
  said_stmt (d_at at d) = said_stmt d
