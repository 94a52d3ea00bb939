-- No operand is deeper than the tokens before it: types, terms, computations and formulas.
use Rattle.std.proofs.Common.{ℕ, suc, ◌≤◌, refl}
use Rattle.htt_parser_trees.specs.Trees.{RawTyTree, RawTripleTree, RawTermTree, RawParamTrees, RawRelTree, RawSumTree, RawSumRestTree, RawProdTree}
use Rattle.htt_parser_trees.specs.Trees.{RawProdRestTree, RawApplTree, RawPartTrees, RawAtomTree, RawCompTree, RawStepTree, RawFormulaTree, RawSortTree}
use Rattle.htt_parser_trees.specs.Trees.{RawDisjTree, RawConjTree, RawStarTree, RawFatomTree, RawTermTrees, y_fun, y_all, y_hoare, y_mono, triple_of, t_fun}
use Rattle.htt_parser_trees.specs.Trees.{t_fun_mono, t_do, t_fix, t_rel, no_params, more_params, r_sum, r_less, s_sum, s_end, s_more, x_prod, x_end, x_more}
use Rattle.htt_parser_trees.specs.Trees.{l_unary, l_apply, no_parts, atom_part, mono_part, a_name, a_number, a_true, a_false, a_null, a_place, a_eq, a_sel}
use Rattle.htt_parser_trees.specs.Trees.{a_unit, a_brackets, a_pair, a_annotated, c_ret, c_step, s_alloc, s_get, s_set, s_free, s_if, s_claim, s_run, f_all}
use Rattle.htt_parser_trees.specs.Trees.{f_ex, f_disj, f_implies, over_mono, over_heap, d_conj, d_or, j_star, j_and, k_fatom, k_times, g_tt, g_ff, g_emp}
use Rattle.htt_parser_trees.specs.Trees.{g_brackets, g_at_heap, g_emp_of, g_same, g_join, g_cell, g_block, g_use, g_use_at, g_use_at_heap, g_eq, g_points}
use Rattle.htt_parser_trees.specs.Trees.{g_points_any, no_terms, more_terms}
use Rattle.theory_grammar.specs.Grammar
use Rattle.theory_grammar.proofs.Opens.{opens_mono, opens_atom, opens_appl, opens_prod}
use Rattle.theory_grammar_chains.proofs.Even.{Even, none, one, alone, sub, behind, level_of, again}
use Rattle.theory_grammar_chains.proofs.Monotypes.{binder_even, heap_even, mono_even, in_brackets_even, monos_even}

mutual
  unfolding Grammar.term

  pub ty_even : {n : ℕ} (l : ℕ) (x : RawTyTree) → Even n (Grammar.ty l x)
  ty_even l (y_fun a0 x1 x3 x6) = one _ refl (sub (binder_even _ x1) (one _ refl (sub (ty_even _ x3) (one _ refl (one _ refl (ty_even _ x6))))))
  ty_even l (y_all a0 s1 x4) = one _ refl (one _ refl (one _ refl (one _ refl (ty_even _ x4))))
  ty_even l (y_hoare a0 x1) = one _ refl (triple_even _ x1)
  ty_even l (y_mono x0) = mono_even _ x0

  pub triple_even : {n : ℕ} (l : ℕ) (x : RawTripleTree) → Even n (Grammar.triple l x)
  triple_even l (triple_of x0 x2 x4 x6) =
      sub (formula_even _ x0)
      (one _ refl (sub (binder_even _ x2) (one _ refl (sub (mono_even _ x4) (one _ refl (sub (formula_even _ x6) (alone refl)))))))

  pub term_even : {n : ℕ} (l : ℕ) (x : RawTermTree) → Even n (Grammar.term l x)
  term_even l (t_fun a0 x1 x3) = one _ refl (sub (binder_even _ x1) (one _ refl (term_even _ x3)))
  term_even l (t_fun_mono a0 s2 x5) = one _ refl (one _ refl (one _ refl (one _ refl (one _ refl (term_even _ x5)))))
  term_even l (t_do a0 x1) = one _ refl (comp_even _ x1)
  term_even l (t_fix a0 s1 x2 x5 x7) =
      one _ refl (one _ refl (sub (params_even _ x2) (one _ refl (one _ refl (sub (triple_even _ x5) (one _ refl (comp_even _ x7)))))))
  term_even l (t_rel x0) = rel_even _ x0

  pub params_even : {n : ℕ} (l : ℕ) (x : RawParamTrees) → Even n (Grammar.params l x)
  params_even l no_params = none
  params_even l (more_params x1 x3 x5) = one _ refl (sub (binder_even _ x1) (one _ refl (sub (ty_even _ x3) (one _ refl (params_even _ x5)))))

  pub rel_even : {n : ℕ} (l : ℕ) (x : RawRelTree) → Even n (Grammar.rel l x)
  rel_even l (r_sum x0) = sum_even _ x0
  rel_even l (r_less x0 x2) = sub (sum_even _ x0) (one _ refl (sum_even _ x2))

  pub sum_even : {n : ℕ} (l : ℕ) (x : RawSumTree) → Even n (Grammar.sum l x)
  sum_even l (s_sum x0 x1) = behind (prod_even l x0) (λ most. sum_rest_even l 2 (level_of _ _ (opens_prod l x0) most) x1)

  pub sum_rest_even : {n : ℕ} (l k : ℕ) → l ≤ n → (x : RawSumRestTree) → Even n (Grammar.sum_rest l k x)
  sum_rest_even l k low s_end = none
  sum_rest_even l k low (s_more x0 x1 x2) = one _ refl (sub (again k _ (opens_prod l x1) low (prod_even l x1)) (sum_rest_even l (suc k) low x2))

  pub prod_even : {n : ℕ} (l : ℕ) (x : RawProdTree) → Even n (Grammar.prod l x)
  prod_even l (x_prod x0 x1) = behind (appl_even l x0) (λ most. prod_rest_even l 2 (level_of _ _ (opens_appl l x0) most) x1)

  pub prod_rest_even : {n : ℕ} (l k : ℕ) → l ≤ n → (x : RawProdRestTree) → Even n (Grammar.prod_rest l k x)
  prod_rest_even l k low x_end = none
  prod_rest_even l k low (x_more x0 x1 x2) = one _ refl (sub (again k _ (opens_appl l x1) low (appl_even l x1)) (prod_rest_even l (suc k) low x2))

  pub appl_even : {n : ℕ} (l : ℕ) (x : RawApplTree) → Even n (Grammar.appl l x)
  appl_even l (l_unary x0a x0b x1) = one _ refl (atom_even _ x1)
  appl_even l (l_apply x0 x1) = behind (atom_even l x0) (λ most. parts_even l 2 (level_of _ _ (opens_atom l x0) most) x1)

  pub parts_even : {n : ℕ} (l k : ℕ) → l ≤ n → (x : RawPartTrees) → Even n (Grammar.parts l k x)
  parts_even l k low no_parts = none
  parts_even l k low (atom_part x0 x1) = sub (again k _ (opens_atom l x0) low (atom_even l x0)) (parts_even l (suc k) low x1)
  parts_even l k low (mono_part x1 x3) = one _ refl (sub (again k _ (opens_mono l x1) low (mono_even l x1)) (one _ refl (parts_even l (suc k) low x3)))

  pub atom_even : {n : ℕ} (l : ℕ) (x : RawAtomTree) → Even n (Grammar.atom l x)
  atom_even l (a_name s0) = alone refl
  atom_even l (a_number a0 n0) = alone refl
  atom_even l (a_true a0) = alone refl
  atom_even l (a_false a0) = alone refl
  atom_even l (a_null a0) = alone refl
  atom_even l (a_place a0 n1) = one _ refl (alone refl)
  atom_even l (a_eq a0 x1 x3 x5) = one _ refl (sub (in_brackets_even _ x1) (one _ refl (sub (term_even _ x3) (one _ refl (sub (term_even _ x5) (alone refl))))))
  atom_even l (a_sel a0 x1 x3 x5 x7) =
      one _ refl (sub (in_brackets_even _ x1)
      (one _ refl (sub (term_even _ x3) (one _ refl (sub (term_even _ x5) (one _ refl (sub (term_even _ x7) (alone refl))))))))
  atom_even l (a_unit a0) = one _ refl (alone refl)
  atom_even l (a_brackets a0 x1) = one _ refl (sub (term_even _ x1) (alone refl))
  atom_even l (a_pair a0 x1 x3) = one _ refl (sub (term_even _ x1) (one _ refl (sub (term_even _ x3) (alone refl))))
  atom_even l (a_annotated a0 x1 x3) = one _ refl (sub (term_even _ x1) (one _ refl (sub (ty_even _ x3) (alone refl))))

  pub comp_even : {n : ℕ} (l : ℕ) (x : RawCompTree) → Even n (Grammar.comp l x)
  comp_even l (c_ret x1) = one _ refl (term_even _ x1)
  comp_even l (c_step x0 x2 x4) = sub (binder_even _ x0) (one _ refl (sub (step_even _ x2) (one _ refl (comp_even _ x4))))

  pub step_even : {n : ℕ} (l : ℕ) (x : RawStepTree) → Even n (Grammar.step l x)
  step_even l (s_alloc x1 x2) = one _ refl (sub (in_brackets_even _ x1) (atom_even _ x2))
  step_even l (s_get x1 x2) = one _ refl (sub (in_brackets_even _ x1) (atom_even _ x2))
  step_even l (s_set x1 x2 x3) = one _ refl (sub (in_brackets_even _ x1) (sub (atom_even _ x2) (atom_even _ x3)))
  step_even l (s_free x1 x2) = one _ refl (sub (in_brackets_even _ x1) (atom_even _ x2))
  step_even l (s_if x1 x2 x4 x7) =
      one _ refl (sub (in_brackets_even _ x1)
      (sub (atom_even _ x2) (one _ refl (sub (comp_even _ x4) (one _ refl (one _ refl (sub (comp_even _ x7) (alone refl))))))))
  step_even l (s_claim x2) = one _ refl (one _ refl (sub (formula_even _ x2) (alone refl)))
  step_even l (s_run x0) = appl_even _ x0

  pub formula_even : {n : ℕ} (l : ℕ) (x : RawFormulaTree) → Even n (Grammar.formula l x)
  formula_even l (f_all a0 x1 x3 x5) = one _ refl (sub (binder_even _ x1) (one _ refl (sub (sort_even _ x3) (one _ refl (formula_even _ x5)))))
  formula_even l (f_ex a0 x1 x3 x5) = one _ refl (sub (binder_even _ x1) (one _ refl (sub (sort_even _ x3) (one _ refl (formula_even _ x5)))))
  formula_even l (f_disj x0) = disj_even _ x0
  formula_even l (f_implies x0 x2) = sub (disj_even _ x0) (one _ refl (formula_even _ x2))

  pub sort_even : {n : ℕ} (l : ℕ) (x : RawSortTree) → Even n (Grammar.sort l x)
  sort_even l (over_mono x0) = mono_even _ x0
  sort_even l over_heap = alone refl

  pub disj_even : {n : ℕ} (l : ℕ) (x : RawDisjTree) → Even n (Grammar.disj l x)
  disj_even l (d_conj x0) = conj_even _ x0
  disj_even l (d_or x0 x2) = sub (conj_even _ x0) (one _ refl (disj_even _ x2))

  pub conj_even : {n : ℕ} (l : ℕ) (x : RawConjTree) → Even n (Grammar.conj l x)
  conj_even l (j_star x0) = star_even _ x0
  conj_even l (j_and x0 x2) = sub (star_even _ x0) (one _ refl (conj_even _ x2))

  pub star_even : {n : ℕ} (l : ℕ) (x : RawStarTree) → Even n (Grammar.star l x)
  star_even l (k_fatom x0) = fatom_even _ x0
  star_even l (k_times x0 x2) = sub (fatom_even _ x0) (one _ refl (star_even _ x2))

  pub fatom_even : {n : ℕ} (l : ℕ) (x : RawFatomTree) → Even n (Grammar.fatom l x)
  fatom_even l (g_tt a0) = alone refl
  fatom_even l (g_ff a0) = alone refl
  fatom_even l (g_emp a0) = alone refl
  fatom_even l (g_brackets a0 x1) = one _ refl (sub (formula_even _ x1) (alone refl))
  fatom_even l (g_at_heap a0 x1 x3) = one _ refl (sub (heap_even _ x1) (one _ refl (sub (formula_even _ x3) (alone refl))))
  fatom_even l (g_emp_of a0 x2) = one _ refl (one _ refl (sub (heap_even _ x2) (alone refl)))
  fatom_even l (g_same a0 x2 x4) = one _ refl (one _ refl (sub (heap_even _ x2) (one _ refl (sub (heap_even _ x4) (alone refl)))))
  fatom_even l (g_join a0 x2 x4 x6) =
      one _ refl (one _ refl (sub (heap_even _ x2) (one _ refl (sub (heap_even _ x4) (one _ refl (sub (heap_even _ x6) (alone refl)))))))
  fatom_even l (g_cell a0 x1 x3 x5 x7) =
      one _ refl (sub (in_brackets_even _ x1)
      (one _ refl (sub (heap_even _ x3) (one _ refl (sub (term_even _ x5) (one _ refl (sub (term_even _ x7) (alone refl))))))))
  fatom_even l (g_block a0 x1 x3 x5) =
      one _ refl (sub (in_brackets_even _ x1) (one _ refl (sub (heap_even _ x3) (one _ refl (sub (term_even _ x5) (alone refl))))))
  fatom_even l (g_use a0 s1 x2 x4) = one _ refl (one _ refl (sub (monos_even _ x2) (one _ refl (sub (terms_even _ x4) (alone refl)))))
  fatom_even l (g_use_at a0 s1 x3 x5) = one _ refl (one _ refl (one _ refl (sub (term_even _ x3) (one _ refl (sub (terms_even _ x5) (alone refl))))))
  fatom_even l (g_use_at_heap a0 s1 x3 x5 x7) =
      one _ refl
      (one _ refl (one _ refl (sub (heap_even _ x3) (one _ refl (sub (term_even _ x5) (one _ refl (sub (terms_even _ x7) (alone refl))))))))
  fatom_even l (g_eq x0 x2 x3) = sub (rel_even _ x0) (one _ refl (sub (in_brackets_even _ x2) (rel_even _ x3)))
  fatom_even l (g_points x0 x2 x3) = sub (rel_even _ x0) (one _ refl (sub (in_brackets_even _ x2) (rel_even _ x3)))
  fatom_even l (g_points_any x0 x2) = sub (rel_even _ x0) (one _ refl (sub (in_brackets_even _ x2) (alone refl)))

  pub terms_even : {n : ℕ} (l : ℕ) (x : RawTermTrees) → Even n (Grammar.terms l x)
  terms_even l no_terms = none
  terms_even l (more_terms x0 x1) = sub (term_even _ x0) (terms_after_even _ x1)

  pub terms_after_even : {n : ℕ} (l : ℕ) (x : RawTermTrees) → Even n (Grammar.terms_after l x)
  terms_after_even l no_terms = none
  terms_after_even l (more_terms x1 x2) = one _ refl (sub (term_even _ x1) (terms_after_even _ x2))
