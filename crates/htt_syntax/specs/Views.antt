-- The tree that each value of the Rust types is. The values are matched as they are generated: a
-- box as its shape and what it holds, a sequence as its shape and its row, and a struct inside a
-- node as its fields. The equations that readers use stand in the files of levels.
use Rattle.std.specs.Prelude.{option_map}
use Rattle.htt_syntax.specs.declared.mono.Mono.{Mono, Pair', more_of-Mono, end_of-Mono}
use Rattle.htt_syntax.specs.declared.mono.Mono.TheVariants as mono
use Rattle.htt_syntax.specs.declared.tree.Ty.{Ty, more_of-Ty, end_of-Ty, Row_of-Ty, more_of-Triple, end_of-Triple}
use Rattle.htt_syntax.specs.declared.tree.Ty as ty
use Rattle.htt_syntax.specs.declared.tree.Term.{Term, more_of-Term, end_of-Term, Row_of-Term, more_of-Comp, end_of-Comp}
use Rattle.htt_syntax.specs.declared.tree.Term.{more_of-Fix, end_of-Fix}
use Rattle.htt_syntax.specs.declared.tree.Term as term
use Rattle.htt_syntax.specs.declared.tree.Comp.{Row_of-Step, more_of-Step, end_of-Step}
use Rattle.htt_syntax.specs.declared.tree.Step.{Step}
use Rattle.htt_syntax.specs.declared.tree.Step as step
use Rattle.htt_syntax.specs.declared.tree.Formula.{Formula, more_of-Formula, end_of-Formula}
use Rattle.htt_syntax.specs.declared.tree.Formula as formula
use Rattle.htt_syntax.specs.Trees.{MonoTree, TyTree, TermTree, FixTree, CompTree, StepTree, FormulaTree, TermTrees}
use Rattle.htt_syntax.specs.Trees.{m_word, m_bool, m_loc, m_unit, m_pair, m_var, y_mono, y_fun, y_all, y_hoare, y_at}
use Rattle.htt_syntax.specs.Trees.{t_var, t_val, t_def, t_app, t_inst, t_lam, t_lam_t, t_do, t_fix, t_word, t_bool}
use Rattle.htt_syntax.specs.Trees.{t_loc, t_unit, t_pair, t_fst, t_snd, t_not, t_bin, t_eq, t_sel, t_ann, t_made, t_at}
use Rattle.htt_syntax.specs.Trees.{s_run, s_alloc, s_get, s_set, s_free, s_if, s_claim, f_tt, f_ff, f_and, f_or, f_imp}
use Rattle.htt_syntax.specs.Trees.{f_all_t, f_ex_t, f_all_h, f_ex_h, f_emp, f_cell, f_block, f_join, f_same, f_eq, f_at}
use Rattle.htt_syntax.specs.Trees.{f_rec, triple, x_param, x_body, c_ret, c_step, no_terms, more_terms}

unfoldable pub mono_tree : Mono → MonoTree
mono_tree mono.Word = m_word
mono_tree mono.Bool = m_bool
mono_tree mono.Loc = m_loc
mono_tree mono.Unit = m_unit
mono_tree (Pair' pa (more_of-Mono a end_of-Mono) pb (more_of-Mono b end_of-Mono)) = m_pair (mono_tree a) (mono_tree b)
mono_tree (mono.Var a) = m_var a

unfoldable mutual
  pub ty_tree : Ty → TyTree
  ty_tree (ty.Mono a) = y_mono (mono_tree a)
  ty_tree (ty.Fun' pa (more_of-Ty a end_of-Ty) pb (more_of-Ty b end_of-Ty)) = y_fun (ty_tree a) (ty_tree b)
  ty_tree (ty.All' pa (more_of-Ty a end_of-Ty)) = y_all (ty_tree a)
  ty_tree (ty.Hoare' pa (more_of-Triple a0 a1 a2 end_of-Triple)) =
      y_hoare (triple (formula_tree a0) (mono_tree a1) (formula_tree a2))
  ty_tree (ty.At' a pb (more_of-Ty b end_of-Ty)) = y_at a (ty_tree b)

  pub term_tree : Term → TermTree
  term_tree (term.Var a) = t_var a
  term_tree (term.Val a) = t_val a
  term_tree (term.Def a) = t_def a
  term_tree (term.App' pa (more_of-Term a end_of-Term) pb (more_of-Term b end_of-Term)) =
      t_app (term_tree a) (term_tree b)
  term_tree (term.Inst' pa (more_of-Term a end_of-Term) b) = t_inst (term_tree a) (mono_tree b)
  term_tree (term.Lam' pa (more_of-Term a end_of-Term)) = t_lam (term_tree a)
  term_tree (term.LamT' pa (more_of-Term a end_of-Term)) = t_lam_t (term_tree a)
  term_tree (term.Do' pa (more_of-Comp qa a0 a1 end_of-Comp)) = t_do (steps_row a0 (term_tree a1))
  term_tree (term.Fix' pa (more_of-Fix a0 qa a1 a2 a3 a4 ra a5 a6 end_of-Fix)) =
      t_fix a0
      (params_row a1 (x_body (triple (formula_tree a2) (mono_tree a3) (formula_tree a4)) (steps_row a5 (term_tree a6))))
  term_tree (term.Word a) = t_word a
  term_tree (term.Bool a) = t_bool a
  term_tree (term.Loc a) = t_loc a
  term_tree term.Unit = t_unit
  term_tree (term.Pair' pa (more_of-Term a end_of-Term) pb (more_of-Term b end_of-Term)) =
      t_pair (term_tree a) (term_tree b)
  term_tree (term.Fst' pa (more_of-Term a end_of-Term)) = t_fst (term_tree a)
  term_tree (term.Snd' pa (more_of-Term a end_of-Term)) = t_snd (term_tree a)
  term_tree (term.Un' pa (more_of-Term a end_of-Term)) = t_not (term_tree a)
  term_tree (term.Bin' a pb (more_of-Term b end_of-Term) pc (more_of-Term c end_of-Term)) =
      t_bin a (term_tree b) (term_tree c)
  term_tree (term.Eq' a pb (more_of-Term b end_of-Term) pc (more_of-Term c end_of-Term)) =
      t_eq (mono_tree a) (term_tree b) (term_tree c)
  term_tree
      (term.Sel' a pb (more_of-Term b end_of-Term) pc (more_of-Term c end_of-Term) pe (more_of-Term e end_of-Term)) =
      t_sel (mono_tree a) (term_tree b) (term_tree c) (term_tree e)
  term_tree (term.Ann' pa (more_of-Term a end_of-Term) pb (more_of-Ty b end_of-Ty)) = t_ann (term_tree a) (ty_tree b)
  term_tree (term.Made' a pb b) = t_made a (terms_row b)
  term_tree (term.At' a pb (more_of-Term b end_of-Term)) = t_at a (term_tree b)

  pub step_tree : Step → StepTree
  step_tree (step.Run a b) = s_run (term_tree a) (option_map mono_tree b)
  step_tree (step.Alloc a b) = s_alloc (mono_tree a) (term_tree b)
  step_tree (step.Get a b) = s_get (mono_tree a) (term_tree b)
  step_tree (step.Set a b c) = s_set (mono_tree a) (term_tree b) (term_tree c)
  step_tree (step.Free a b) = s_free (mono_tree a) (term_tree b)
  step_tree (step.If' a b pc c0 c1 pe e0 e1) =
      s_if (mono_tree a) (term_tree b) (steps_row c0 (term_tree c1)) (steps_row e0 (term_tree e1))
  step_tree (step.Claim a) = s_claim (formula_tree a)

  pub formula_tree : Formula → FormulaTree
  formula_tree formula.Tt = f_tt
  formula_tree formula.Ff = f_ff
  formula_tree (formula.And' pa (more_of-Formula a end_of-Formula) pb (more_of-Formula b end_of-Formula)) =
      f_and (formula_tree a) (formula_tree b)
  formula_tree (formula.Or' pa (more_of-Formula a end_of-Formula) pb (more_of-Formula b end_of-Formula)) =
      f_or (formula_tree a) (formula_tree b)
  formula_tree (formula.Imp' pa (more_of-Formula a end_of-Formula) pb (more_of-Formula b end_of-Formula)) =
      f_imp (formula_tree a) (formula_tree b)
  formula_tree (formula.AllT' a pb (more_of-Formula b end_of-Formula)) = f_all_t (mono_tree a) (formula_tree b)
  formula_tree (formula.ExT' a pb (more_of-Formula b end_of-Formula)) = f_ex_t (mono_tree a) (formula_tree b)
  formula_tree (formula.AllH' pa (more_of-Formula a end_of-Formula)) = f_all_h (formula_tree a)
  formula_tree (formula.ExH' pa (more_of-Formula a end_of-Formula)) = f_ex_h (formula_tree a)
  formula_tree (formula.Emp a) = f_emp a
  formula_tree (formula.Cell a b c e) = f_cell (mono_tree a) b (term_tree c) (term_tree e)
  formula_tree (formula.Block a b c) = f_block (mono_tree a) b (term_tree c)
  formula_tree (formula.Join a b c) = f_join a b c
  formula_tree (formula.Same a b) = f_same a b
  formula_tree (formula.Eq a b c) = f_eq (mono_tree a) (term_tree b) (term_tree c)
  formula_tree (formula.At' a pb (more_of-Formula b end_of-Formula)) = f_at a (formula_tree b)
  formula_tree (formula.Rec' a b c pe e) = f_rec a b (term_tree c) (terms_row e)

  pub params_row : {shape : _} → Row_of-Ty shape → FixTree → FixTree
  params_row end_of-Ty rest = rest
  params_row (more_of-Ty first others) rest = x_param (ty_tree first) (params_row others rest)

  pub steps_row : {shape : _} → Row_of-Step shape → TermTree → CompTree
  steps_row end_of-Step result = c_ret result
  steps_row (more_of-Step first others) result = c_step (step_tree first) (steps_row others result)

  pub terms_row : {shape : _} → Row_of-Term shape → TermTrees
  terms_row end_of-Term = no_terms
  terms_row (more_of-Term first others) = more_terms (term_tree first) (terms_row others)
