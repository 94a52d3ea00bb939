-- Trees as binary trees of numbers, and back: two trees are equal where these are.
use Rattle.std.specs.Prelude.{ℕ, zero, Bool, true, false, Option, Some, None}
use Rattle.htt_syntax.specs.declared.mono.Op.{Op}
use Rattle.htt_syntax.specs.declared.mono.Op.TheVariants.{Add, Sub, Mul, And, Or, Xor, Shl, Shr, Lt}
use Rattle.htt_syntax.specs.Trees.{MonoTree, TyTree, TripleTree, TermTree, TermTrees, FixTree, CompTree, StepTree}
use Rattle.htt_syntax.specs.Trees.{FormulaTree, m_word, m_bool, m_loc, m_unit, m_pair, m_var, y_mono, y_fun, y_all}
use Rattle.htt_syntax.specs.Trees.{y_hoare, y_at, triple, t_var, t_val, t_def, t_app, t_inst, t_lam, t_lam_t, t_do}
use Rattle.htt_syntax.specs.Trees.{t_fix, t_word, t_bool, t_loc, t_unit, t_pair, t_fst, t_snd, t_not, t_bin, t_eq}
use Rattle.htt_syntax.specs.Trees.{t_sel, t_ann, t_made, t_at, no_terms, more_terms, x_param, x_body, c_ret}
use Rattle.htt_syntax.specs.Trees.{c_step, s_run, s_alloc, s_get, s_set, s_free, s_if, s_claim, f_tt, f_ff, f_and}
use Rattle.htt_syntax.specs.Trees.{f_or, f_imp, f_all_t, f_ex_t, f_all_h, f_ex_h, f_emp, f_cell, f_block, f_join}
use Rattle.htt_syntax.specs.Trees.{f_same, f_eq, f_at, f_rec}

pub data Code : Type 0 where
  leaf : ℕ → Code
  fork : Code → Code → Code
  left right : Code → Code

-- which of its kind a phrase is, is told by left and right, from the outside
unfoldable pub number_from : Code → ℕ
number_from (leaf n) = n
number_from a = zero

unfoldable pub truth_code : Bool → Code
truth_code true = left (leaf zero)
truth_code false = right (leaf zero)

unfoldable pub truth_from : Code → Bool
truth_from (left a) = true
truth_from a = false

unfoldable pub op_code : Op → Code
op_code Add = left (left (left (left (leaf zero))))
op_code Sub = left (left (left (right (leaf zero))))
op_code Mul = left (left (right (left (leaf zero))))
op_code And = left (left (right (right (leaf zero))))
op_code Or = left (right (left (left (leaf zero))))
op_code Xor = left (right (left (right (leaf zero))))
op_code Shl = left (right (right (left (leaf zero))))
op_code Shr = left (right (right (right (leaf zero))))
op_code Lt = right (left (left (left (leaf zero))))

unfoldable pub op_from : Code → Op
op_from (left (left (left (left a)))) = Add
op_from (left (left (left (right a)))) = Sub
op_from (left (left (right (left a)))) = Mul
op_from (left (left (right (right a)))) = And
op_from (left (right (left (left a)))) = Or
op_from (left (right (left (right a)))) = Xor
op_from (left (right (right (left a)))) = Shl
op_from (left (right (right (right a)))) = Shr
op_from (right (left (left (left a)))) = Lt
op_from a = Add

unfoldable pub mono_code : MonoTree → Code
mono_code m_word = left (left (left (leaf zero)))
mono_code m_bool = left (left (right (leaf zero)))
mono_code m_loc = left (right (left (leaf zero)))
mono_code m_unit = left (right (right (leaf zero)))
mono_code (m_pair a b) = right (left (left (fork (mono_code a) (mono_code b))))
mono_code (m_var a) = right (left (right (leaf a)))

unfoldable pub mono_from : Code → MonoTree
mono_from (left (left (left a))) = m_word
mono_from (left (left (right a))) = m_bool
mono_from (left (right (left a))) = m_loc
mono_from (left (right (right a))) = m_unit
mono_from (right (left (left (fork a b)))) = m_pair (mono_from a) (mono_from b)
mono_from (right (left (right a))) = m_var (number_from a)
mono_from a = m_unit

unfoldable pub option_code : Option MonoTree → Code
option_code None = left (leaf zero)
option_code (Some a) = right (mono_code a)

unfoldable pub option_from : Code → Option MonoTree
option_from (right a) = Some (mono_from a)
option_from a = None

unfoldable mutual
  pub ty_code : TyTree → Code
  ty_code (y_mono a) = left (left (left (mono_code a)))
  ty_code (y_fun a b) = left (left (right (fork (ty_code a) (ty_code b))))
  ty_code (y_all a) = left (right (left (ty_code a)))
  ty_code (y_hoare a) = left (right (right (triple_code a)))
  ty_code (y_at a b) = right (left (left (fork (leaf a) (ty_code b))))

  pub triple_code : TripleTree → Code
  triple_code (triple a b c) = fork (formula_code a) (fork (mono_code b) (formula_code c))

  pub term_code : TermTree → Code
  term_code (t_var a) = left (left (left (left (left (leaf a)))))
  term_code (t_val a) = left (left (left (left (right (leaf a)))))
  term_code (t_def a) = left (left (left (right (left (leaf a)))))
  term_code (t_app a b) = left (left (left (right (right (fork (term_code a) (term_code b))))))
  term_code (t_inst a b) = left (left (right (left (left (fork (term_code a) (mono_code b))))))
  term_code (t_lam a) = left (left (right (left (right (term_code a)))))
  term_code (t_lam_t a) = left (left (right (right (left (term_code a)))))
  term_code (t_do a) = left (left (right (right (right (comp_code a)))))
  term_code (t_fix a b) = left (right (left (left (left (fork (leaf a) (fix_code b))))))
  term_code (t_word a) = left (right (left (left (right (leaf a)))))
  term_code (t_bool a) = left (right (left (right (left (truth_code a)))))
  term_code (t_loc a) = left (right (left (right (right (leaf a)))))
  term_code t_unit = left (right (right (left (left (leaf zero)))))
  term_code (t_pair a b) = left (right (right (left (right (fork (term_code a) (term_code b))))))
  term_code (t_fst a) = left (right (right (right (left (term_code a)))))
  term_code (t_snd a) = left (right (right (right (right (term_code a)))))
  term_code (t_not a) = right (left (left (left (left (term_code a)))))
  term_code (t_bin a b c) = right (left (left (left (right (fork (op_code a) (fork (term_code b) (term_code c)))))))
  term_code (t_eq a b c) = right (left (left (right (left (fork (mono_code a) (fork (term_code b) (term_code c)))))))
  term_code (t_sel a b c d) = right (left (left (right (right (fork (mono_code a) (fork (term_code b) (fork (term_code c) (term_code d))))))))
  term_code (t_ann a b) = right (left (right (left (left (fork (term_code a) (ty_code b))))))
  term_code (t_made a b) = right (left (right (left (right (fork (leaf a) (terms_code b))))))
  term_code (t_at a b) = right (left (right (right (left (fork (leaf a) (term_code b))))))

  pub terms_code : TermTrees → Code
  terms_code no_terms = left (leaf zero)
  terms_code (more_terms a b) = right (fork (term_code a) (terms_code b))

  pub fix_code : FixTree → Code
  fix_code (x_param a b) = left (fork (ty_code a) (fix_code b))
  fix_code (x_body a b) = right (fork (triple_code a) (comp_code b))

  pub comp_code : CompTree → Code
  comp_code (c_ret a) = left (term_code a)
  comp_code (c_step a b) = right (fork (step_code a) (comp_code b))

  pub step_code : StepTree → Code
  step_code (s_run a b) = left (left (left (fork (term_code a) (option_code b))))
  step_code (s_alloc a b) = left (left (right (fork (mono_code a) (term_code b))))
  step_code (s_get a b) = left (right (left (fork (mono_code a) (term_code b))))
  step_code (s_set a b c) = left (right (right (fork (mono_code a) (fork (term_code b) (term_code c)))))
  step_code (s_free a b) = right (left (left (fork (mono_code a) (term_code b))))
  step_code (s_if a b c d) = right (left (right (fork (mono_code a) (fork (term_code b) (fork (comp_code c) (comp_code d))))))
  step_code (s_claim a) = right (right (left (formula_code a)))

  pub formula_code : FormulaTree → Code
  formula_code f_tt = left (left (left (left (left (leaf zero)))))
  formula_code f_ff = left (left (left (left (right (leaf zero)))))
  formula_code (f_and a b) = left (left (left (right (left (fork (formula_code a) (formula_code b))))))
  formula_code (f_or a b) = left (left (left (right (right (fork (formula_code a) (formula_code b))))))
  formula_code (f_imp a b) = left (left (right (left (left (fork (formula_code a) (formula_code b))))))
  formula_code (f_all_t a b) = left (left (right (left (right (fork (mono_code a) (formula_code b))))))
  formula_code (f_ex_t a b) = left (left (right (right (left (fork (mono_code a) (formula_code b))))))
  formula_code (f_all_h a) = left (left (right (right (right (formula_code a)))))
  formula_code (f_ex_h a) = left (right (left (left (left (formula_code a)))))
  formula_code (f_emp a) = left (right (left (left (right (leaf a)))))
  formula_code (f_cell a b c d) = left (right (left (right (left (fork (mono_code a) (fork (leaf b) (fork (term_code c) (term_code d))))))))
  formula_code (f_block a b c) = left (right (left (right (right (fork (mono_code a) (fork (leaf b) (term_code c)))))))
  formula_code (f_join a b c) = left (right (right (left (left (fork (leaf a) (fork (leaf b) (leaf c)))))))
  formula_code (f_same a b) = left (right (right (left (right (fork (leaf a) (leaf b))))))
  formula_code (f_eq a b c) = left (right (right (right (left (fork (mono_code a) (fork (term_code b) (term_code c)))))))
  formula_code (f_at a b) = left (right (right (right (right (fork (leaf a) (formula_code b))))))
  formula_code (f_rec a b c d) = right (left (left (left (left (fork (leaf a) (fork (leaf b) (fork (term_code c) (terms_code d))))))))

unfoldable mutual
  pub ty_from : Code → TyTree
  ty_from (left (left (left a))) = y_mono (mono_from a)
  ty_from (left (left (right (fork a b)))) = y_fun (ty_from a) (ty_from b)
  ty_from (left (right (left a))) = y_all (ty_from a)
  ty_from (left (right (right a))) = y_hoare (triple_from a)
  ty_from (right (left (left (fork a b)))) = y_at (number_from a) (ty_from b)
  ty_from a = y_mono m_unit

  pub triple_from : Code → TripleTree
  triple_from (fork a (fork b c)) = triple (formula_from a) (mono_from b) (formula_from c)
  triple_from a = triple f_tt m_unit f_tt

  pub term_from : Code → TermTree
  term_from (left (left (left (left (left a))))) = t_var (number_from a)
  term_from (left (left (left (left (right a))))) = t_val (number_from a)
  term_from (left (left (left (right (left a))))) = t_def (number_from a)
  term_from (left (left (left (right (right (fork a b)))))) = t_app (term_from a) (term_from b)
  term_from (left (left (right (left (left (fork a b)))))) = t_inst (term_from a) (mono_from b)
  term_from (left (left (right (left (right a))))) = t_lam (term_from a)
  term_from (left (left (right (right (left a))))) = t_lam_t (term_from a)
  term_from (left (left (right (right (right a))))) = t_do (comp_from a)
  term_from (left (right (left (left (left (fork a b)))))) = t_fix (number_from a) (fix_from b)
  term_from (left (right (left (left (right a))))) = t_word (number_from a)
  term_from (left (right (left (right (left a))))) = t_bool (truth_from a)
  term_from (left (right (left (right (right a))))) = t_loc (number_from a)
  term_from (left (right (right (left (left a))))) = t_unit
  term_from (left (right (right (left (right (fork a b)))))) = t_pair (term_from a) (term_from b)
  term_from (left (right (right (right (left a))))) = t_fst (term_from a)
  term_from (left (right (right (right (right a))))) = t_snd (term_from a)
  term_from (right (left (left (left (left a))))) = t_not (term_from a)
  term_from (right (left (left (left (right (fork a (fork b c))))))) = t_bin (op_from a) (term_from b) (term_from c)
  term_from (right (left (left (right (left (fork a (fork b c))))))) = t_eq (mono_from a) (term_from b) (term_from c)
  term_from (right (left (left (right (right (fork a (fork b (fork c d)))))))) = t_sel (mono_from a) (term_from b) (term_from c) (term_from d)
  term_from (right (left (right (left (left (fork a b)))))) = t_ann (term_from a) (ty_from b)
  term_from (right (left (right (left (right (fork a b)))))) = t_made (number_from a) (terms_from b)
  term_from (right (left (right (right (left (fork a b)))))) = t_at (number_from a) (term_from b)
  term_from a = t_unit

  pub terms_from : Code → TermTrees
  terms_from (left a) = no_terms
  terms_from (right (fork a b)) = more_terms (term_from a) (terms_from b)
  terms_from a = no_terms

  pub fix_from : Code → FixTree
  fix_from (left (fork a b)) = x_param (ty_from a) (fix_from b)
  fix_from (right (fork a b)) = x_body (triple_from a) (comp_from b)
  fix_from a = x_body (triple f_tt m_unit f_tt) (c_ret t_unit)

  pub comp_from : Code → CompTree
  comp_from (left a) = c_ret (term_from a)
  comp_from (right (fork a b)) = c_step (step_from a) (comp_from b)
  comp_from a = c_ret t_unit

  pub step_from : Code → StepTree
  step_from (left (left (left (fork a b)))) = s_run (term_from a) (option_from b)
  step_from (left (left (right (fork a b)))) = s_alloc (mono_from a) (term_from b)
  step_from (left (right (left (fork a b)))) = s_get (mono_from a) (term_from b)
  step_from (left (right (right (fork a (fork b c))))) = s_set (mono_from a) (term_from b) (term_from c)
  step_from (right (left (left (fork a b)))) = s_free (mono_from a) (term_from b)
  step_from (right (left (right (fork a (fork b (fork c d)))))) = s_if (mono_from a) (term_from b) (comp_from c) (comp_from d)
  step_from (right (right (left a))) = s_claim (formula_from a)
  step_from a = s_claim f_tt

  pub formula_from : Code → FormulaTree
  formula_from (left (left (left (left (left a))))) = f_tt
  formula_from (left (left (left (left (right a))))) = f_ff
  formula_from (left (left (left (right (left (fork a b)))))) = f_and (formula_from a) (formula_from b)
  formula_from (left (left (left (right (right (fork a b)))))) = f_or (formula_from a) (formula_from b)
  formula_from (left (left (right (left (left (fork a b)))))) = f_imp (formula_from a) (formula_from b)
  formula_from (left (left (right (left (right (fork a b)))))) = f_all_t (mono_from a) (formula_from b)
  formula_from (left (left (right (right (left (fork a b)))))) = f_ex_t (mono_from a) (formula_from b)
  formula_from (left (left (right (right (right a))))) = f_all_h (formula_from a)
  formula_from (left (right (left (left (left a))))) = f_ex_h (formula_from a)
  formula_from (left (right (left (left (right a))))) = f_emp (number_from a)
  formula_from (left (right (left (right (left (fork a (fork b (fork c d)))))))) = f_cell (mono_from a) (number_from b) (term_from c) (term_from d)
  formula_from (left (right (left (right (right (fork a (fork b c))))))) = f_block (mono_from a) (number_from b) (term_from c)
  formula_from (left (right (right (left (left (fork a (fork b c))))))) = f_join (number_from a) (number_from b) (number_from c)
  formula_from (left (right (right (left (right (fork a b)))))) = f_same (number_from a) (number_from b)
  formula_from (left (right (right (right (left (fork a (fork b c))))))) = f_eq (mono_from a) (term_from b) (term_from c)
  formula_from (left (right (right (right (right (fork a b)))))) = f_at (number_from a) (formula_from b)
  formula_from (right (left (left (left (left (fork a (fork b (fork c d)))))))) = f_rec (number_from a) (number_from b) (term_from c) (terms_from d)
  formula_from a = f_tt
