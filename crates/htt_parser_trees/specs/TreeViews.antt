-- The tree that each type, term, computation and formula is. The values are matched as they are
-- generated: a box as its shape and what it holds, a sequence as its shape and its row, and a struct
-- inside a node as its fields. The equations that readers use stand in TreeLevels.
use Rattle.std.specs.Prelude.{map}
use Rattle.htt_parser_trees.specs.declared.place.Binder.{Binder}
use Rattle.htt_parser_trees.specs.declared.place.Binder.TheVariants as binders
use Rattle.htt_parser_trees.specs.declared.tree.RawTy.{RawTy}
use Rattle.htt_parser_trees.specs.declared.tree.RawTy as ty
use Rattle.htt_parser_trees.specs.declared.tree.RawTerm.{RawTerm}
use Rattle.htt_parser_trees.specs.declared.tree.RawTerm as term
use Rattle.htt_parser_trees.specs.declared.tree.RawParam.{RawParam}
use Rattle.htt_parser_trees.specs.declared.tree.RawParam as param
use Rattle.htt_parser_trees.specs.declared.tree.RawRel.{RawRel}
use Rattle.htt_parser_trees.specs.declared.tree.RawRel as rel
use Rattle.htt_parser_trees.specs.declared.tree.SumOperand.{SumOperand}
use Rattle.htt_parser_trees.specs.declared.tree.SumOperand as sum_operand
use Rattle.htt_parser_trees.specs.declared.tree.ProdOperand.{ProdOperand}
use Rattle.htt_parser_trees.specs.declared.tree.ProdOperand as prod_operand
use Rattle.htt_parser_trees.specs.declared.tree.RawAppl.{RawAppl}
use Rattle.htt_parser_trees.specs.declared.tree.RawAppl as appl
use Rattle.htt_parser_trees.specs.declared.tree.RawPart.{RawPart}
use Rattle.htt_parser_trees.specs.declared.tree.RawPart as part
use Rattle.htt_parser_trees.specs.declared.tree.RawAtom.{RawAtom}
use Rattle.htt_parser_trees.specs.declared.tree.RawAtom as atom
use Rattle.htt_parser_trees.specs.declared.tree.RawStep.{RawStep}
use Rattle.htt_parser_trees.specs.declared.tree.RawStep as step
use Rattle.htt_parser_trees.specs.declared.tree.RawFormula.{RawFormula}
use Rattle.htt_parser_trees.specs.declared.tree.RawFormula as formula
use Rattle.htt_parser_trees.specs.declared.tree.RawDisj.{RawDisj}
use Rattle.htt_parser_trees.specs.declared.tree.RawDisj as disj
use Rattle.htt_parser_trees.specs.declared.tree.RawConj.{RawConj}
use Rattle.htt_parser_trees.specs.declared.tree.RawConj as conj
use Rattle.htt_parser_trees.specs.declared.tree.RawStar.{RawStar}
use Rattle.htt_parser_trees.specs.declared.tree.RawStar as star
use Rattle.htt_parser_trees.specs.declared.tree.RawFatom.{RawFatom}
use Rattle.htt_parser_trees.specs.declared.tree.RawFatom as fatom
use Rattle.htt_parser_trees.specs.declared.tree.ProdOperand.TheBlock.{Row_of-ProdOperand, Row_of-RawParam}
use Rattle.htt_parser_trees.specs.declared.tree.ProdOperand.TheBlock.{Row_of-RawPart, Row_of-RawStep, Row_of-RawTerm}
use Rattle.htt_parser_trees.specs.declared.tree.ProdOperand.TheBlock.{Row_of-SumOperand, end_of-ProdOperand}
use Rattle.htt_parser_trees.specs.declared.tree.ProdOperand.TheBlock.{end_of-RawComp, end_of-RawConj, end_of-RawDisj}
use Rattle.htt_parser_trees.specs.declared.tree.ProdOperand.TheBlock.{end_of-RawFix, end_of-RawFormula, end_of-RawParam}
use Rattle.htt_parser_trees.specs.declared.tree.ProdOperand.TheBlock.{end_of-RawPart, end_of-RawRel, end_of-RawStar}
use Rattle.htt_parser_trees.specs.declared.tree.ProdOperand.TheBlock.{end_of-RawStep, end_of-RawTerm, end_of-RawTriple}
use Rattle.htt_parser_trees.specs.declared.tree.ProdOperand.TheBlock.{end_of-RawTy, end_of-SumOperand}
use Rattle.htt_parser_trees.specs.declared.tree.ProdOperand.TheBlock.{more_of-ProdOperand, more_of-RawComp}
use Rattle.htt_parser_trees.specs.declared.tree.ProdOperand.TheBlock.{more_of-RawConj, more_of-RawDisj, more_of-RawFix}
use Rattle.htt_parser_trees.specs.declared.tree.ProdOperand.TheBlock.{more_of-RawFormula, more_of-RawParam}
use Rattle.htt_parser_trees.specs.declared.tree.ProdOperand.TheBlock.{more_of-RawPart, more_of-RawRel, more_of-RawStar}
use Rattle.htt_parser_trees.specs.declared.tree.ProdOperand.TheBlock.{more_of-RawStep, more_of-RawTerm}
use Rattle.htt_parser_trees.specs.declared.tree.ProdOperand.TheBlock.{more_of-RawTriple, more_of-RawTy}
use Rattle.htt_parser_trees.specs.declared.tree.ProdOperand.TheBlock.{more_of-SumOperand}
use Rattle.htt_parser_trees.specs.Trees.{RawSortTree, over_mono, over_heap, RawApplTree, RawAtomTree, RawCompTree}
use Rattle.htt_parser_trees.specs.Trees.{RawConjTree, RawDisjTree, RawFatomTree, RawFormulaTree, RawParamTrees}
use Rattle.htt_parser_trees.specs.Trees.{RawPartTrees, RawProdRestTree, RawRelTree, RawStarTree, RawStepTree}
use Rattle.htt_parser_trees.specs.Trees.{RawSumRestTree, RawTermTree, RawTermTrees, RawTyTree, a_annotated, a_brackets}
use Rattle.htt_parser_trees.specs.Trees.{a_eq, a_false, a_name, a_null, a_number, a_pair, a_place, a_sel, a_true}
use Rattle.htt_parser_trees.specs.Trees.{a_unit, ampersand, atom_part, bar, c_ret, c_step, caret, d_conj, d_or, f_all}
use Rattle.htt_parser_trees.specs.Trees.{f_disj, f_ex, f_implies, g_at_heap, g_block, g_brackets, g_cell, g_emp}
use Rattle.htt_parser_trees.specs.Trees.{g_emp_of, g_eq, g_ff, g_join, g_points, g_points_any, g_same, g_tt, g_use}
use Rattle.htt_parser_trees.specs.Trees.{g_use_at, g_use_at_heap, j_and, j_star, k_fatom, k_times, l_apply, l_unary}
use Rattle.htt_parser_trees.specs.Trees.{minus, mono_part, more_params, more_terms, no_params, no_parts, no_terms, plus}
use Rattle.htt_parser_trees.specs.Trees.{r_less, r_sum, s_alloc, s_claim, s_end, s_free, s_get, s_if, s_more, s_run}
use Rattle.htt_parser_trees.specs.Trees.{s_set, s_sum, shift_left, shift_right, t_do, t_fix, t_fun, t_fun_mono, t_rel}
use Rattle.htt_parser_trees.specs.Trees.{times, triple_of, x_end, x_more, x_prod, y_all, y_fun, y_hoare, y_mono}
use Rattle.htt_parser_trees.specs.declared.tree.RawSort.{RawSort}
use Rattle.htt_parser_trees.specs.declared.tree.RawSort.TheVariants as sort
use Rattle.htt_parser_trees.specs.MonoLevels.{raw_mono_tree}

abbrev pub raw_sort_tree : RawSort → RawSortTree
raw_sort_tree (sort.Mono m) = over_mono (raw_mono_tree m)
raw_sort_tree sort.Heap = over_heap

-- what a step binds
abbrev pub raw_step_name : RawStep → Binder
raw_step_name (step.Alloc x _ _) = x
raw_step_name (step.Get x _ _) = x
raw_step_name (step.Set x _ _ _) = x
raw_step_name (step.Free x _ _) = x
raw_step_name (step.If' x _ _ _ _ _ _ _ _) = x
raw_step_name (step.Claim x _) = x
raw_step_name (step.Run x _) = x

unfoldable mutual
  pub raw_ty_tree : RawTy → RawTyTree
  raw_ty_tree (ty.Fun' x1 x2 _ (more_of-RawTy x3 end_of-RawTy) _ (more_of-RawTy x4 end_of-RawTy)) =
      y_fun x1 x2 (raw_ty_tree x3) (raw_ty_tree x4)
  raw_ty_tree (ty.All' x1 x2 _ (more_of-RawTy x3 end_of-RawTy)) = y_all x1 x2 (raw_ty_tree x3)
  raw_ty_tree (ty.Hoare' x1 _ (more_of-RawTriple x2 x3 x4 x5 end_of-RawTriple)) =
      y_hoare x1 (triple_of (raw_formula_tree x2) x3 (raw_mono_tree x4) (raw_formula_tree x5))
  raw_ty_tree (ty.Mono x1) = y_mono (raw_mono_tree x1)

  pub raw_term_tree : RawTerm → RawTermTree
  raw_term_tree (term.Fun' x1 x2 _ (more_of-RawTerm x3 end_of-RawTerm)) = t_fun x1 x2 (raw_term_tree x3)
  raw_term_tree (term.FunMono' x1 x2 _ (more_of-RawTerm x3 end_of-RawTerm)) = t_fun_mono x1 x2 (raw_term_tree x3)
  raw_term_tree (term.Do' x1 _ (more_of-RawComp _ x2 x3 end_of-RawComp)) =
      t_do x1 (raw_steps_row x2 (c_ret (raw_term_tree x3)))
  raw_term_tree (term.Fix' x1 _ (more_of-RawFix x2 _ x3 x4 x5 x6 x7 _ x8 x9 end_of-RawFix)) =
      t_fix x1 x2 (raw_params_row x3) (triple_of (raw_formula_tree x4) x5 (raw_mono_tree x6) (raw_formula_tree x7))
      (raw_steps_row x8 (c_ret (raw_term_tree x9)))
  raw_term_tree (term.Rel' _ (more_of-RawRel x1 end_of-RawRel)) = t_rel (raw_rel_tree x1)

  pub raw_param_tree : RawParam → RawParamTrees → RawParamTrees
  raw_param_tree (param.Named x1 x2) = more_params (binders.Name x1) (raw_ty_tree x2)
  raw_param_tree (param.Blank x1) = more_params binders.Blank (raw_ty_tree x1)

  pub raw_rel_tree : RawRel → RawRelTree
  raw_rel_tree (rel.Sum' x1 _ x2 _ x3) = r_sum (s_sum (x_prod (raw_appl_tree x1) (raw_prod_row x2)) (raw_sum_row x3))
  raw_rel_tree (rel.Less' x1 _ x2 _ x3 x4 _ x5 _ x6) =
      r_less (s_sum (x_prod (raw_appl_tree x1) (raw_prod_row x2)) (raw_sum_row x3))
      (s_sum (x_prod (raw_appl_tree x4) (raw_prod_row x5)) (raw_sum_row x6))

  pub raw_sum_operand_tree : SumOperand → RawSumRestTree → RawSumRestTree
  raw_sum_operand_tree (sum_operand.Plus' x1 _ x2) = s_more plus (x_prod (raw_appl_tree x1) (raw_prod_row x2))
  raw_sum_operand_tree (sum_operand.Minus' x1 _ x2) = s_more minus (x_prod (raw_appl_tree x1) (raw_prod_row x2))
  raw_sum_operand_tree (sum_operand.Bar' x1 _ x2) = s_more bar (x_prod (raw_appl_tree x1) (raw_prod_row x2))
  raw_sum_operand_tree (sum_operand.Caret' x1 _ x2) = s_more caret (x_prod (raw_appl_tree x1) (raw_prod_row x2))

  pub raw_prod_operand_tree : ProdOperand → RawProdRestTree → RawProdRestTree
  raw_prod_operand_tree (prod_operand.Times x1) = x_more times (raw_appl_tree x1)
  raw_prod_operand_tree (prod_operand.And x1) = x_more ampersand (raw_appl_tree x1)
  raw_prod_operand_tree (prod_operand.ShiftLeft x1) = x_more shift_left (raw_appl_tree x1)
  raw_prod_operand_tree (prod_operand.ShiftRight x1) = x_more shift_right (raw_appl_tree x1)

  pub raw_appl_tree : RawAppl → RawApplTree
  raw_appl_tree (appl.Unary x1 x2 x3) = l_unary x1 x2 (raw_atom_tree x3)
  raw_appl_tree (appl.Apply' x1 _ x2) = l_apply (raw_atom_tree x1) (raw_parts_row x2)

  pub raw_part_tree : RawPart → RawPartTrees → RawPartTrees
  raw_part_tree (part.Atom x1) = atom_part (raw_atom_tree x1)
  raw_part_tree (part.Mono x1) = mono_part (raw_mono_tree x1)

  pub raw_atom_tree : RawAtom → RawAtomTree
  raw_atom_tree (atom.Name x1) = a_name x1
  raw_atom_tree (atom.Number x1 x2) = a_number x1 x2
  raw_atom_tree (atom.True x1) = a_true x1
  raw_atom_tree (atom.False x1) = a_false x1
  raw_atom_tree (atom.Null x1) = a_null x1
  raw_atom_tree (atom.Place x1 x2) = a_place x1 x2
  raw_atom_tree (atom.Eq' x1 x2 _ (more_of-RawTerm x3 end_of-RawTerm) _ (more_of-RawTerm x4 end_of-RawTerm)) =
      a_eq x1 (raw_mono_tree x2) (raw_term_tree x3) (raw_term_tree x4)
  raw_atom_tree (atom.Sel' x1 x2 _ (more_of-RawTerm x3 end_of-RawTerm) _ (more_of-RawTerm x4 end_of-RawTerm) _
      (more_of-RawTerm x5 end_of-RawTerm)) =
      a_sel x1 (raw_mono_tree x2) (raw_term_tree x3) (raw_term_tree x4) (raw_term_tree x5)
  raw_atom_tree (atom.Unit x1) = a_unit x1
  raw_atom_tree (atom.Brackets' x1 _ (more_of-RawTerm x2 end_of-RawTerm)) = a_brackets x1 (raw_term_tree x2)
  raw_atom_tree (atom.Pair' x1 _ (more_of-RawTerm x2 end_of-RawTerm) _ (more_of-RawTerm x3 end_of-RawTerm)) =
      a_pair x1 (raw_term_tree x2) (raw_term_tree x3)
  raw_atom_tree (atom.Annotated' x1 _ (more_of-RawTerm x2 end_of-RawTerm) _ (more_of-RawTy x3 end_of-RawTy)) =
      a_annotated x1 (raw_term_tree x2) (raw_ty_tree x3)

  pub raw_step_tree : RawStep → RawStepTree
  raw_step_tree (step.Alloc x1 x2 x3) = s_alloc (raw_mono_tree x2) (raw_atom_tree x3)
  raw_step_tree (step.Get x1 x2 x3) = s_get (raw_mono_tree x2) (raw_atom_tree x3)
  raw_step_tree (step.Set x1 x2 x3 x4) = s_set (raw_mono_tree x2) (raw_atom_tree x3) (raw_atom_tree x4)
  raw_step_tree (step.Free x1 x2 x3) = s_free (raw_mono_tree x2) (raw_atom_tree x3)
  raw_step_tree (step.If' x1 x2 x3 _ x4 x5 _ x6 x7) =
      s_if (raw_mono_tree x2) (raw_atom_tree x3) (raw_steps_row x4 (c_ret (raw_term_tree x5)))
      (raw_steps_row x6 (c_ret (raw_term_tree x7)))
  raw_step_tree (step.Claim x1 x2) = s_claim (raw_formula_tree x2)
  raw_step_tree (step.Run x1 x2) = s_run (raw_appl_tree x2)

  pub raw_formula_tree : RawFormula → RawFormulaTree
  raw_formula_tree (formula.All' x1 x2 x3 _ (more_of-RawFormula x4 end_of-RawFormula)) =
      f_all x1 x2 (raw_sort_tree x3) (raw_formula_tree x4)
  raw_formula_tree (formula.Ex' x1 x2 x3 _ (more_of-RawFormula x4 end_of-RawFormula)) =
      f_ex x1 x2 (raw_sort_tree x3) (raw_formula_tree x4)
  raw_formula_tree (formula.Disj' _ (more_of-RawDisj x1 end_of-RawDisj)) = f_disj (raw_disj_tree x1)
  raw_formula_tree (formula.Implies' _ (more_of-RawDisj x1 end_of-RawDisj) _ (more_of-RawFormula x2 end_of-RawFormula))
      = f_implies (raw_disj_tree x1) (raw_formula_tree x2)

  pub raw_disj_tree : RawDisj → RawDisjTree
  raw_disj_tree (disj.Conj x1) = d_conj (raw_conj_tree x1)
  raw_disj_tree (disj.Or' x1 _ (more_of-RawDisj x2 end_of-RawDisj)) = d_or (raw_conj_tree x1) (raw_disj_tree x2)

  pub raw_conj_tree : RawConj → RawConjTree
  raw_conj_tree (conj.Star x1) = j_star (raw_star_tree x1)
  raw_conj_tree (conj.And' x1 _ (more_of-RawConj x2 end_of-RawConj)) = j_and (raw_star_tree x1) (raw_conj_tree x2)

  pub raw_star_tree : RawStar → RawStarTree
  raw_star_tree (star.Fatom x1) = k_fatom (raw_fatom_tree x1)
  raw_star_tree (star.Times' x1 _ (more_of-RawStar x2 end_of-RawStar)) = k_times (raw_fatom_tree x1) (raw_star_tree x2)

  pub raw_fatom_tree : RawFatom → RawFatomTree
  raw_fatom_tree (fatom.Tt x1) = g_tt x1
  raw_fatom_tree (fatom.Ff x1) = g_ff x1
  raw_fatom_tree (fatom.Emp x1) = g_emp x1
  raw_fatom_tree (fatom.Brackets' x1 _ (more_of-RawFormula x2 end_of-RawFormula)) = g_brackets x1 (raw_formula_tree x2)
  raw_fatom_tree (fatom.AtHeap' x1 x2 _ (more_of-RawFormula x3 end_of-RawFormula)) =
      g_at_heap x1 x2 (raw_formula_tree x3)
  raw_fatom_tree (fatom.EmpOf x1 x2) = g_emp_of x1 x2
  raw_fatom_tree (fatom.Same x1 x2 x3) = g_same x1 x2 x3
  raw_fatom_tree (fatom.Join x1 x2 x3 x4) = g_join x1 x2 x3 x4
  raw_fatom_tree (fatom.Cell' x1 x2 x3 _ (more_of-RawTerm x4 end_of-RawTerm) _ (more_of-RawTerm x5 end_of-RawTerm)) =
      g_cell x1 (raw_mono_tree x2) x3 (raw_term_tree x4) (raw_term_tree x5)
  raw_fatom_tree (fatom.Block' x1 x2 x3 _ (more_of-RawTerm x4 end_of-RawTerm)) =
      g_block x1 (raw_mono_tree x2) x3 (raw_term_tree x4)
  raw_fatom_tree (fatom.Use' x1 x2 x3 _ x4) = g_use x1 x2 (map raw_mono_tree x3) (raw_terms_row x4)
  raw_fatom_tree (fatom.UseAt' x1 x2 _ (more_of-RawTerm x3 end_of-RawTerm) _ x4) =
      g_use_at x1 x2 (raw_term_tree x3) (raw_terms_row x4)
  raw_fatom_tree (fatom.UseAtHeap' x1 x2 x3 _ (more_of-RawTerm x4 end_of-RawTerm) _ x5) =
      g_use_at_heap x1 x2 x3 (raw_term_tree x4) (raw_terms_row x5)
  raw_fatom_tree (fatom.Eq' _ (more_of-RawRel x1 end_of-RawRel) x2 _ (more_of-RawRel x3 end_of-RawRel)) =
      g_eq (raw_rel_tree x1) (raw_mono_tree x2) (raw_rel_tree x3)
  raw_fatom_tree (fatom.PointsTo' _ (more_of-RawRel x1 end_of-RawRel) x2 _ (more_of-RawRel x3 end_of-RawRel)) =
      g_points (raw_rel_tree x1) (raw_mono_tree x2) (raw_rel_tree x3)
  raw_fatom_tree (fatom.PointsToAny' _ (more_of-RawRel x1 end_of-RawRel) x2) =
      g_points_any (raw_rel_tree x1) (raw_mono_tree x2)

  pub raw_params_row : {shape : _} → Row_of-RawParam shape → RawParamTrees
  raw_params_row end_of-RawParam = no_params
  raw_params_row (more_of-RawParam first others) = raw_param_tree first (raw_params_row others)

  pub raw_sum_row : {shape : _} → Row_of-SumOperand shape → RawSumRestTree
  raw_sum_row end_of-SumOperand = s_end
  raw_sum_row (more_of-SumOperand first others) = raw_sum_operand_tree first (raw_sum_row others)

  pub raw_prod_row : {shape : _} → Row_of-ProdOperand shape → RawProdRestTree
  raw_prod_row end_of-ProdOperand = x_end
  raw_prod_row (more_of-ProdOperand first others) = raw_prod_operand_tree first (raw_prod_row others)

  pub raw_parts_row : {shape : _} → Row_of-RawPart shape → RawPartTrees
  raw_parts_row end_of-RawPart = no_parts
  raw_parts_row (more_of-RawPart first others) = raw_part_tree first (raw_parts_row others)

  pub raw_terms_row : {shape : _} → Row_of-RawTerm shape → RawTermTrees
  raw_terms_row end_of-RawTerm = no_terms
  raw_terms_row (more_of-RawTerm first others) = more_terms (raw_term_tree first) (raw_terms_row others)

  pub raw_steps_row : {shape : _} → Row_of-RawStep shape → RawCompTree → RawCompTree
  raw_steps_row end_of-RawStep last = last
  raw_steps_row (more_of-RawStep first others) last =
      c_step (raw_step_name first) (raw_step_tree first) (raw_steps_row others last)
