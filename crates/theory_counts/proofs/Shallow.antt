-- A tree is no deeper than it has nodes.
use Rattle.std.proofs.Common.{suc, ◌≤◌, List, [], ◌∷◌, Option, Some, None, arith}
use Rattle.htt_syntax.specs.Trees.{MonoTree, TyTree, TripleTree, TermTree, FixTree, CompTree, StepTree, FormulaTree, TermTrees, ArgTree, ProofTree, StmtTree}
use Rattle.htt_syntax.specs.Trees.{BlockTree, m_word, m_bool, m_loc, m_unit, m_pair, m_var, y_mono, y_fun, y_all, y_hoare, y_at, triple, t_var, t_val, t_def}
use Rattle.htt_syntax.specs.Trees.{t_app, t_inst, t_lam, t_lam_t, t_do, t_fix, t_word, t_bool, t_loc, t_unit, t_pair, t_fst, t_snd, t_not, t_bin, t_eq, t_sel}
use Rattle.htt_syntax.specs.Trees.{t_ann, t_made, t_at, x_param, x_body, c_ret, c_step, s_run, s_alloc, s_get, s_set, s_free, s_if, s_claim, f_tt, f_ff, f_and}
use Rattle.htt_syntax.specs.Trees.{f_or, f_imp, f_all_t, f_ex_t, f_all_h, f_ex_h, f_emp, f_cell, f_block, f_join, f_same, f_eq, f_at, f_rec, no_terms}
use Rattle.htt_syntax.specs.Trees.{more_terms, a_heap, a_term, p_hyp, p_trivial, p_refl, p_first, p_second, p_left, p_right, p_absurd, p_both, p_give, p_app}
use Rattle.htt_syntax.specs.Trees.{p_inst, p_case, p_rewrite, p_induct, p_split, p_axiom, p_lem, p_the, p_block, p_at, p_unfold, d_intro, d_gen, d_have, d_open}
use Rattle.htt_syntax.specs.Trees.{d_at, b_then, b_end}
use Rattle.theory_counts.specs.Nodes.{nodes_mono, nodes_option, nodes_ty, nodes_triple, nodes_term, nodes_fix, nodes_comp, nodes_step, nodes_formula}
use Rattle.theory_counts.specs.Nodes.{nodes_terms, nodes_arg, nodes_monos, nodes_args, nodes_proof, nodes_stmt, nodes_block}
use Rattle.theory_counts.specs.Depth.{depth_mono, depth_option, depth_ty, depth_triple, depth_term, within_fix, within_comp, depth_step, depth_formula}
use Rattle.theory_counts.specs.Depth.{depth_terms, depth_arg, depth_monos, depth_args, depth_proof, depth_stmt, within_block}

pub mono_shallow : (t : MonoTree) → depth_mono t ≤ nodes_mono t
unfolding depth_mono nodes_mono
mono_shallow m_word = omega arith
mono_shallow m_bool = omega arith
mono_shallow m_loc = omega arith
mono_shallow m_unit = omega arith
mono_shallow (m_pair left right) = omega (arith, mono_shallow left, mono_shallow right)
mono_shallow (m_var index) = omega arith

pub option_shallow : (t : Option MonoTree) → depth_option t ≤ nodes_option t
unfolding depth_option nodes_option
option_shallow None = omega arith
option_shallow (Some mono) = mono_shallow mono

mutual
  unfolding depth_term nodes_term

  pub ty_shallow : (t : TyTree) → depth_ty t ≤ nodes_ty t
  ty_shallow (y_mono mono) = omega (arith, mono_shallow mono)
  ty_shallow (y_fun argument answer) = omega (arith, ty_shallow argument, ty_shallow answer)
  ty_shallow (y_all body) = omega (arith, ty_shallow body)
  ty_shallow (y_hoare spec) = omega (arith, triple_shallow spec)
  ty_shallow (y_at at ty) = omega (arith, ty_shallow ty)

  pub triple_shallow : (t : TripleTree) → depth_triple t ≤ nodes_triple t
  triple_shallow (triple pre mono post) = omega (arith, formula_shallow pre, mono_shallow mono, formula_shallow post)

  pub term_shallow : (t : TermTree) → depth_term t ≤ nodes_term t
  term_shallow (t_var index) = omega arith
  term_shallow (t_val number) = omega arith
  term_shallow (t_def number) = omega arith
  term_shallow (t_app function argument) = omega (arith, term_shallow function, term_shallow argument)
  term_shallow (t_inst function mono) = omega (arith, term_shallow function, mono_shallow mono)
  term_shallow (t_lam body) = omega (arith, term_shallow body)
  term_shallow (t_lam_t body) = omega (arith, term_shallow body)
  term_shallow (t_do comp) = omega (arith, comp_shallow comp)
  term_shallow (t_fix at fix) = omega (arith, fix_shallow fix)
  term_shallow (t_word word) = omega arith
  term_shallow (t_bool truth) = omega arith
  term_shallow (t_loc place) = omega arith
  term_shallow t_unit = omega arith
  term_shallow (t_pair left right) = omega (arith, term_shallow left, term_shallow right)
  term_shallow (t_fst pair) = omega (arith, term_shallow pair)
  term_shallow (t_snd pair) = omega (arith, term_shallow pair)
  term_shallow (t_not term) = omega (arith, term_shallow term)
  term_shallow (t_bin op left right) = omega (arith, term_shallow left, term_shallow right)
  term_shallow (t_eq mono left right) = omega (arith, mono_shallow mono, term_shallow left, term_shallow right)
  term_shallow (t_sel mono test on_true on_false) = omega (arith, mono_shallow mono, term_shallow test, term_shallow on_true, term_shallow on_false)
  term_shallow (t_ann term ty) = omega (arith, term_shallow term, ty_shallow ty)
  term_shallow (t_made number values) = omega (arith, terms_shallow values)
  term_shallow (t_at at term) = omega (arith, term_shallow term)

  pub fix_shallow : (t : FixTree) → suc (within_fix t) ≤ nodes_fix t
  fix_shallow (x_param ty others) = omega (arith, ty_shallow ty, fix_shallow others)
  fix_shallow (x_body spec comp) = omega (arith, triple_shallow spec, comp_shallow comp)

  pub comp_shallow : (t : CompTree) → suc (within_comp t) ≤ nodes_comp t
  comp_shallow (c_ret term) = omega (arith, term_shallow term)
  comp_shallow (c_step step others) = omega (arith, step_shallow step, comp_shallow others)

  pub step_shallow : (t : StepTree) → depth_step t ≤ nodes_step t
  step_shallow (s_run term mono) = omega (arith, term_shallow term, option_shallow mono)
  step_shallow (s_alloc mono value) = omega (arith, mono_shallow mono, term_shallow value)
  step_shallow (s_get mono place) = omega (arith, mono_shallow mono, term_shallow place)
  step_shallow (s_set mono place value) = omega (arith, mono_shallow mono, term_shallow place, term_shallow value)
  step_shallow (s_free mono place) = omega (arith, mono_shallow mono, term_shallow place)
  step_shallow (s_if mono test on_true on_false) = omega (arith, mono_shallow mono, term_shallow test, comp_shallow on_true, comp_shallow on_false)
  step_shallow (s_claim formula) = omega (arith, formula_shallow formula)

  pub formula_shallow : (t : FormulaTree) → depth_formula t ≤ nodes_formula t
  formula_shallow f_tt = omega arith
  formula_shallow f_ff = omega arith
  formula_shallow (f_and left right) = omega (arith, formula_shallow left, formula_shallow right)
  formula_shallow (f_or left right) = omega (arith, formula_shallow left, formula_shallow right)
  formula_shallow (f_imp left right) = omega (arith, formula_shallow left, formula_shallow right)
  formula_shallow (f_all_t mono body) = omega (arith, mono_shallow mono, formula_shallow body)
  formula_shallow (f_ex_t mono body) = omega (arith, mono_shallow mono, formula_shallow body)
  formula_shallow (f_all_h body) = omega (arith, formula_shallow body)
  formula_shallow (f_ex_h body) = omega (arith, formula_shallow body)
  formula_shallow (f_emp heap) = omega arith
  formula_shallow (f_cell mono heap place value) = omega (arith, mono_shallow mono, term_shallow place, term_shallow value)
  formula_shallow (f_block mono heap place) = omega (arith, mono_shallow mono, term_shallow place)
  formula_shallow (f_join whole left right) = omega arith
  formula_shallow (f_same left right) = omega arith
  formula_shallow (f_eq mono left right) = omega (arith, mono_shallow mono, term_shallow left, term_shallow right)
  formula_shallow (f_at at formula) = omega (arith, formula_shallow formula)
  formula_shallow (f_rec number heap place arguments) = omega (arith, term_shallow place, terms_shallow arguments)

  pub terms_shallow : (t : TermTrees) → depth_terms t ≤ nodes_terms t
  terms_shallow no_terms = omega arith
  terms_shallow (more_terms first others) = omega (arith, term_shallow first, terms_shallow others)

pub arg_shallow : (t : ArgTree) → depth_arg t ≤ nodes_arg t
unfolding depth_arg nodes_arg
arg_shallow (a_heap heap) = omega arith
arg_shallow (a_term term) = omega (arith, term_shallow term)

pub monos_shallow : (t : List MonoTree) → depth_monos t ≤ nodes_monos t
unfolding depth_monos nodes_monos
monos_shallow [] = omega arith
monos_shallow (mono ∷ others) = omega (arith, mono_shallow mono, monos_shallow others)

pub args_shallow : (t : List ArgTree) → depth_args t ≤ nodes_args t
unfolding depth_args nodes_args
args_shallow [] = omega arith
args_shallow (arg ∷ others) = omega (arith, arg_shallow arg, args_shallow others)

mutual
  unfolding depth_proof nodes_proof

  pub proof_shallow : (t : ProofTree) → depth_proof t ≤ nodes_proof t
  proof_shallow (p_hyp number) = omega arith
  proof_shallow p_trivial = omega arith
  proof_shallow p_refl = omega arith
  proof_shallow (p_first proof) = omega (arith, proof_shallow proof)
  proof_shallow (p_second proof) = omega (arith, proof_shallow proof)
  proof_shallow (p_left proof) = omega (arith, proof_shallow proof)
  proof_shallow (p_right proof) = omega (arith, proof_shallow proof)
  proof_shallow (p_absurd proof) = omega (arith, proof_shallow proof)
  proof_shallow (p_both left right) = omega (arith, proof_shallow left, proof_shallow right)
  proof_shallow (p_give arg proof) = omega (arith, arg_shallow arg, proof_shallow proof)
  proof_shallow (p_app function argument) = omega (arith, proof_shallow function, proof_shallow argument)
  proof_shallow (p_inst proof arg) = omega (arith, proof_shallow proof, arg_shallow arg)
  proof_shallow (p_case either left right) = omega (arith, proof_shallow either, proof_shallow left, proof_shallow right)
  proof_shallow (p_rewrite equation motive proof) = omega (arith, proof_shallow equation, formula_shallow motive, proof_shallow proof)
  proof_shallow (p_induct motive word at_zero at_next) = omega (arith, formula_shallow motive, term_shallow word, proof_shallow at_zero, proof_shallow at_next)
  proof_shallow (p_split motive test on_true on_false) = omega (arith, formula_shallow motive, term_shallow test, proof_shallow on_true, proof_shallow on_false)
  proof_shallow (p_axiom name monos arguments) = omega (arith, monos_shallow monos, args_shallow arguments)
  proof_shallow (p_lem formula) = omega (arith, formula_shallow formula)
  proof_shallow (p_the formula proof) = omega (arith, formula_shallow formula, proof_shallow proof)
  proof_shallow (p_block block) = omega (arith, block_shallow block)
  proof_shallow (p_at at proof) = omega (arith, proof_shallow proof)
  proof_shallow (p_unfold number case arguments) = omega (arith, args_shallow arguments)

  pub stmt_shallow : (t : StmtTree) → depth_stmt t ≤ nodes_stmt t
  stmt_shallow d_intro = omega arith
  stmt_shallow d_gen = omega arith
  stmt_shallow (d_have formula proof) = omega (arith, formula_shallow formula, proof_shallow proof)
  stmt_shallow (d_open proof) = omega (arith, proof_shallow proof)
  stmt_shallow (d_at at stmt) = omega (arith, stmt_shallow stmt)

  pub block_shallow : (t : BlockTree) → within_block t ≤ nodes_block t
  block_shallow (b_then stmt others) = omega (arith, stmt_shallow stmt, block_shallow others)
  block_shallow (b_end proof) = omega (arith, proof_shallow proof)
