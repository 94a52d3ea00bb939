-- Bodies and items of a file that were worked out by hand.
use Rattle.std.specs.Prelude.{[], ◌∷◌, List, true, false, Some, None}
use Rattle.htt_syntax.specs.declared.mono.Op.TheVariants.{Add}
use Rattle.htt_syntax.specs.Trees.{TyTree, TermTree, FixTree, CompTree, FormulaTree, m_word, m_bool, m_loc, m_unit}
use Rattle.htt_syntax.specs.Trees.{m_var, y_mono, y_fun, y_all, y_hoare, triple, t_var, t_val, t_def, t_app, t_inst}
use Rattle.htt_syntax.specs.Trees.{t_lam, t_lam_t, t_do, t_fix, t_word, t_bool, t_unit, t_bin, x_param, x_body, c_ret}
use Rattle.htt_syntax.specs.Trees.{c_step, s_run, s_alloc, s_get, s_free, s_if, s_claim, f_tt, f_and, f_or, f_imp}
use Rattle.htt_syntax.specs.Trees.{f_ex_t, f_all_h, f_ex_h, f_emp, f_cell, f_block, f_join, f_same, f_eq, f_rec}
use Rattle.htt_syntax.specs.Trees.{no_terms, more_terms}
use Rattle.theory_states.specs.Laws.{two_steps_by_hand, three_end_by_hand}
use Rattle.theory_typing.specs.Contexts.{en_term, en_heap, Environment, Obligation}
use Rattle.theory_typing.specs.Typing.{in_program, in_formula, FormsFormula, Gives, FitsBody, with_heaps}
use Rattle.theory_typing.specs.Laws.{none, word_to_word}

-- [a] -> (x : a) -> a
abbrev pub identity_type : TyTree
identity_type = y_all (y_fun (y_mono (m_var 0)) (y_mono (m_var 1)))

-- {tt} x : word {x =[word] 0}
abbrev pub gives_zero : TyTree
gives_zero = y_hoare (triple f_tt m_word (f_eq m_word (t_var 2) (t_word 0)))

-- value 0 gives 0, definition 0 is `fun [a] . fun x . x`, predicate 0 is of a word
abbrev pub file : Environment
file = record {
  vals = gives_zero ∷ [];
  defs = (identity_type, t_lam_t (t_lam (t_var 0))) ∷ [];
  recs = record { params = m_word ∷ []; at_zero = f_tt; at_next = f_tt } ∷ [];
}

pub record TheItems : Type 0 where
  pub value :
      Gives file in_program [] (t_val 0) gives_zero (t_do (c_step (s_run (t_val 0) (Some m_word)) (c_ret (t_var 0)))) []
  pub definition : Gives file in_formula [] (t_def 0) identity_type (t_lam_t (t_lam (t_var 0))) []
  pub instance : Gives file in_formula [] (t_inst (t_def 0) m_word) word_to_word (t_lam (t_var 0)) []
  -- the definition at word and 3 gives 3
  pub applied : Gives file in_formula [] (t_app (t_inst (t_def 0) m_word) (t_word 3)) (y_mono m_word) (t_word 3) []
  pub no_instance : (A : TyTree) (N : TermTree) (o : List Obligation)
      → Gives file in_formula [] (t_inst (t_word 3) m_word) A N o
      → ⊥
  pub no_definition : (A : TyTree) (N : TermTree) (o : List Obligation) → Gives file in_formula [] (t_def 1) A N o → ⊥
  -- the index of a recursive atom is folded
  pub atom :
      FormsFormula file (en_heap ∷ []) (f_rec 0 0 (t_bin Add (t_word 2) (t_word 3)) (more_terms (t_word 1) no_terms))
      (f_rec 0 0 (t_word 5) (more_terms (t_word 1) no_terms))
  pub atom_without_argument : (F : FormulaTree) → FormsFormula file (en_heap ∷ []) (f_rec 0 0 (t_word 5) no_terms) F → ⊥
  pub no_predicate : (F : FormulaTree) → FormsFormula file (en_heap ∷ []) (f_rec 1 0 (t_word 5) no_terms) F → ⊥
  -- a word is no heap
  pub no_heap : (F : FormulaTree) → FormsFormula file (en_term (y_mono m_word) ∷ []) (f_emp 0) F → ⊥

-- l <- alloc[word] 7; v <- get[word] l; _ <- free[word] l; ret v
abbrev pub one_cell : CompTree
one_cell =
    c_step (s_alloc m_word (t_word 7))
    (c_step (s_get m_word (t_var 0)) (c_step (s_free m_word (t_var 1)) (c_ret (t_var 1))))

-- the read owes that some part of mem is a cell at l
abbrev pub read_goal : Obligation
read_goal = record {
  context = with_heaps (en_term (y_mono m_loc) ∷ []);
  goal = f_imp
      (f_ex_h
      (f_and (f_and (f_emp 2) (f_same 0 2)) (f_ex_h (f_and (f_cell m_word 0 (t_var 4) (t_word 7)) (f_join 2 1 0)))))
      (f_ex_t m_word (f_ex_h (f_ex_h (f_and (f_cell m_word 1 (t_var 5) (t_var 2)) (f_join 3 1 0)))));
}

-- the release owes that some part of mem is a block at l
abbrev pub free_goal : Obligation
free_goal = record {
  context = with_heaps (en_term (y_mono m_word) ∷ en_term (y_mono m_loc) ∷ []);
  goal = f_imp two_steps_by_hand (f_ex_h (f_ex_h (f_and (f_block m_word 1 (t_var 5)) (f_join 2 1 0))));
}

-- the end implies emp /\ x =[word] 7
abbrev pub end_goal : Obligation
end_goal = record {
  context = with_heaps (en_term (y_mono m_word) ∷ []);
  goal = f_imp three_end_by_hand (f_and (f_emp 0) (f_eq m_word (t_var 2) (t_word 7)));
}

-- the run of value 0 owes its precondition at some part of mem
abbrev pub run_goal : Obligation
run_goal = record {
  context = with_heaps [];
  goal = f_imp (f_and f_tt (f_same 0 1)) (f_ex_h (f_ex_h (f_and (f_join 2 1 0) f_tt)));
}

-- `y <- value 0; ret y + 1` implies x =[word] 1
abbrev pub after_run_goal : Obligation
after_run_goal = record {
  context = with_heaps (en_term (y_mono m_word) ∷ []);
  goal = f_imp
      (f_ex_t m_word (f_and
      (f_ex_h (f_and (f_and f_tt (f_same 0 3))
      (f_all_h (f_all_h
      (f_imp (f_and (f_join 2 1 0) f_tt) (f_ex_h (f_and (f_join 5 0 1) (f_eq m_word (t_var 4) (t_word 0)))))))))
      (f_eq m_word (t_var 3) (t_bin Add (t_var 0) (t_word 1)))))
      (f_eq m_word (t_var 2) (t_word 1));
}

-- the claim owes its formula, and then only the formula is known
abbrev pub claim_goal : Obligation
claim_goal =
    record { context = with_heaps []; goal = f_imp (f_and f_tt (f_same 0 1)) (f_eq m_word (t_word 1) (t_word 2)) }

abbrev pub after_claim_goal : Obligation
after_claim_goal = record {
  context = with_heaps (en_term (y_mono m_unit) ∷ []);
  goal = f_imp (f_ex_t m_unit (f_and (f_eq m_word (t_word 1) (t_word 2)) (f_eq m_unit (t_var 3) (t_var 0)))) f_tt;
}

-- the end of `b <- if [word] true { ret 1 } { ret 2 }; ret b`
abbrev pub branches_goal : Obligation
branches_goal = record {
  context = with_heaps (en_term (y_mono m_word) ∷ []);
  goal = f_imp
      (f_ex_t m_word (f_and
      (f_or
      (f_and (f_and (f_and f_tt (f_same 1 2)) (f_eq m_bool (t_bool true) (t_bool true)))
      (f_eq m_word (t_var 0) (t_word 1)))
      (f_and (f_and (f_and f_tt (f_same 1 2)) (f_eq m_bool (t_bool true) (t_bool false)))
      (f_eq m_word (t_var 0) (t_word 2))))
      (f_eq m_word (t_var 3) (t_var 0))))
      f_tt;
}

-- fix f (n : word) : {tt} z : word {z =[word] n} . ret n, its type, and what its body owes under n, f, z, init and mem
abbrev pub returns_own : FixTree
returns_own = x_param (y_mono m_word) (x_body (triple f_tt m_word (f_eq m_word (t_var 2) (t_var 3))) (c_ret (t_var 1)))

abbrev pub returns_own_type : TyTree
returns_own_type = y_fun (y_mono m_word) (y_hoare (triple f_tt m_word (f_eq m_word (t_var 2) (t_var 3))))

abbrev pub recursion_goal : Obligation
recursion_goal = record {
  context = with_heaps (en_term (y_mono m_word) ∷ en_term returns_own_type ∷ en_term (y_mono m_word) ∷ []);
  goal = f_imp (f_and (f_and f_tt (f_same 0 1)) (f_eq m_word (t_var 2) (t_var 4))) (f_eq m_word (t_var 2) (t_var 4));
}

pub record TheBodies : Type 0 where
  -- one_cell against {emp} x : word {emp /\ x =[word] 7}
  pub cell_used :
      FitsBody none [] one_cell (triple (f_emp 0) m_word (f_and (f_emp 0) (f_eq m_word (t_var 2) (t_word 7)))) one_cell
      (read_goal ∷ free_goal ∷ end_goal ∷ [])
  -- y <- value 0; ret y + 1 against {tt} x : word {x =[word] 1}
  pub value_run :
      FitsBody file [] (c_step (s_run (t_val 0) None) (c_ret (t_bin Add (t_var 0) (t_word 1))))
      (triple f_tt m_word (f_eq m_word (t_var 2) (t_word 1)))
      (c_step (s_run (t_val 0) (Some m_word)) (c_ret (t_bin Add (t_var 0) (t_word 1)))) (run_goal ∷ after_run_goal ∷ [])
  -- y <- claim {1 =[word] 2}; ret y: the claim is erased, and its variable becomes ()
  pub claimed :
      FitsBody none [] (c_step (s_claim (f_eq m_word (t_word 1) (t_word 2))) (c_ret (t_var 0)))
      (triple f_tt m_unit f_tt) (c_ret t_unit) (claim_goal ∷ after_claim_goal ∷ [])
  pub branched :
      FitsBody none [] (c_step (s_if m_word (t_bool true) (c_ret (t_word 1)) (c_ret (t_word 2))) (c_ret (t_var 0)))
      (triple f_tt m_word f_tt)
      (c_step (s_if m_word (t_bool true) (c_ret (t_word 1)) (c_ret (t_word 2))) (c_ret (t_var 0))) (branches_goal ∷ [])
  -- a recursive function gives its type as fun n . do r <- (fix ..) n; ret r
  pub recursion :
      Gives none in_program [] (t_fix 9 returns_own) returns_own_type
      (t_lam (t_do (c_step (s_run (t_app (t_fix 9 returns_own) (t_var 0)) (Some m_word)) (c_ret (t_var 0)))))
      (recursion_goal ∷ [])
  pub no_recursion_in_formula : (A : TyTree) (N : TermTree) (o : List Obligation)
      → Gives none in_formula [] (t_fix 9 returns_own) A N o
      → ⊥
  pub no_truth_returned : (E : CompTree) (o : List Obligation)
      → FitsBody none [] (c_ret (t_bool true)) (triple f_tt m_word f_tt) E o
      → ⊥
  pub no_run_of_a_word : (E : CompTree) (o : List Obligation)
      → FitsBody none [] (c_step (s_run (t_word 3) None) (c_ret (t_var 0))) (triple f_tt m_word f_tt) E o
      → ⊥
