-- The order of obligations, worked out by hand: what a phrase's parts owe stands in the order of the
-- parts, and before what the phrase owes itself.
use Rattle.std.specs.Prelude.{ℕ, [], ◌∷◌, true, false, Some, None}
use Rattle.htt_syntax.specs.declared.mono.Op.TheVariants.{Add}
use Rattle.htt_syntax.specs.Trees.{MonoTree, TyTree, TermTree, FixTree, FormulaTree, m_word, m_bool, m_loc}
use Rattle.htt_syntax.specs.Trees.{m_unit, m_pair, y_mono, y_fun, y_hoare, triple, t_var, t_app, t_lam, t_do, t_fix}
use Rattle.htt_syntax.specs.Trees.{t_word, t_bool, t_loc, t_pair, t_bin, t_eq, t_sel, t_ann, x_param, x_body, c_ret}
use Rattle.htt_syntax.specs.Trees.{c_step, s_run, s_alloc, s_get, s_set, s_free, s_if, s_claim, f_tt, f_and, f_or}
use Rattle.htt_syntax.specs.Trees.{f_imp}
use Rattle.htt_syntax.specs.Trees.{f_ex_t, f_all_h, f_ex_h, f_emp, f_cell, f_block, f_join, f_same, f_eq}
use Rattle.theory_states.specs.States.{move_alloc, move_get, move_set, move_free, after}
use Rattle.theory_typing.specs.Contexts.{en_term, Context, Obligation}
use Rattle.theory_typing.specs.Typing.{in_program, with_heaps, part_step, Gives, Fits, FitsBody, Moves}
use Rattle.theory_typing.specs.Laws.{none}

-- {tt} y : word {tt}
abbrev pub returning : TyTree
returning = y_hoare (triple f_tt m_word f_tt)

-- ((fun c . value) : (c : {tt} y : word {tt}) -> t) (do ret n), which gives the value at t
abbrev pub owing : ℕ → MonoTree → TermTree → TermTree
owing n t value = t_app (t_ann (t_lam value) (y_fun returning (y_mono t))) (t_do (c_ret (t_word n)))

-- and owes [[tt /\ Same(mem, init)] /\ y =[word] n] => tt
abbrev pub return_goal : Context → ℕ → Obligation
return_goal g n = record {
  context = with_heaps (en_term (y_mono m_word) ∷ g);
  goal = f_imp (f_and (f_and f_tt (f_same 0 1)) (f_eq m_word (t_var 2) (t_word n))) f_tt;
}

-- what a step owes at this place itself, from tt
abbrev pub step_goal : FormulaTree → Obligation
step_goal needed = record { context = with_heaps []; goal = f_imp f_tt needed }

-- the terms of a phrase from the left
pub record TermsInOrder : Type 0 where
  -- ((fun c . fun d . 0) : ..) (do ret 1) (do ret 2): the function before the argument
  pub function :
      Gives none in_program [] (t_app
      (t_app (t_ann (t_lam (t_lam (t_word 0))) (y_fun returning (y_fun returning (y_mono m_word))))
      (t_do (c_ret (t_word 1)))) (t_do (c_ret (t_word 2)))) (y_mono m_word) (t_word 0)
      (return_goal [] 1 ∷ return_goal [] 2 ∷ [])
  pub pair_given :
      Gives none in_program [] (t_pair (owing 1 m_word (t_word 0)) (owing 2 m_bool (t_bool true)))
      (y_mono (m_pair m_word m_bool)) (t_pair (t_word 0) (t_bool true)) (return_goal [] 1 ∷ return_goal [] 2 ∷ [])
  pub pair_fitted :
      Fits none in_program [] (t_pair (owing 1 m_word (t_word 0)) (owing 2 m_bool (t_bool true)))
      (y_mono (m_pair m_word m_bool)) (t_pair (t_word 0) (t_bool true)) (return_goal [] 1 ∷ return_goal [] 2 ∷ [])
  pub sum :
      Gives none in_program [] (t_bin Add (owing 1 m_word (t_word 3)) (owing 2 m_word (t_word 4))) (y_mono m_word)
      (t_word 7) (return_goal [] 1 ∷ return_goal [] 2 ∷ [])
  pub comparison :
      Gives none in_program [] (t_eq m_word (owing 1 m_word (t_word 3)) (owing 2 m_word (t_word 3))) (y_mono m_bool)
      (t_bool true) (return_goal [] 1 ∷ return_goal [] 2 ∷ [])
  pub choice :
      Gives none in_program []
      (t_sel m_word (owing 1 m_bool (t_bool true)) (owing 2 m_word (t_word 3)) (owing 3 m_word (t_word 4)))
      (y_mono m_word) (t_word 3) (return_goal [] 1 ∷ return_goal [] 2 ∷ return_goal [] 3 ∷ [])

-- the terms of a step before the step itself
pub record StepsInOrder : Type 0 where
  -- alloc[word] N owes what N owes
  pub alloc :
      Moves none [] f_tt (s_alloc m_word (owing 1 m_word (t_word 0))) m_loc (after (move_alloc m_word (t_word 0)) f_tt)
      (part_step (s_alloc m_word (t_word 0))) (return_goal [] 1 ∷ [])
  -- get[word] M
  pub get :
      Moves none [] f_tt (s_get m_word (owing 1 m_loc (t_loc 9))) m_word (after (move_get m_word (t_loc 9)) f_tt)
      (part_step (s_get m_word (t_loc 9)))
      (return_goal [] 1 ∷
      step_goal (f_ex_t m_word (f_ex_h (f_ex_h (f_and (f_cell m_word 1 (t_loc 9) (t_var 2)) (f_join 3 1 0))))) ∷ [])
  -- set[word] M N
  pub set :
      Moves none [] f_tt (s_set m_word (owing 1 m_loc (t_loc 9)) (owing 2 m_word (t_word 0))) m_unit
      (after (move_set m_word (t_loc 9) (t_word 0)) f_tt) (part_step (s_set m_word (t_loc 9) (t_word 0)))
      (return_goal [] 1 ∷ return_goal [] 2 ∷
      step_goal (f_ex_h (f_ex_h (f_and (f_block m_word 1 (t_loc 9)) (f_join 2 1 0)))) ∷ [])
  -- free[word] M
  pub free :
      Moves none [] f_tt (s_free m_word (owing 1 m_loc (t_loc 9))) m_unit (after (move_free m_word (t_loc 9)) f_tt)
      (part_step (s_free m_word (t_loc 9)))
      (return_goal [] 1 ∷ step_goal (f_ex_h (f_ex_h (f_and (f_block m_word 1 (t_loc 9)) (f_join 2 1 0)))) ∷ [])
  -- if [word] M { _ <- claim {1 =[word] 1}; ret 1 } { _ <- claim {2 =[word] 2}; ret 2 }: M, the first
  -- branch, the second
  pub branches :
      Moves none [] f_tt
      (s_if m_word (owing 1 m_bool (t_bool true))
      (c_step (s_claim (f_eq m_word (t_word 1) (t_word 1))) (c_ret (t_word 1)))
      (c_step (s_claim (f_eq m_word (t_word 2) (t_word 2))) (c_ret (t_word 2))))
      m_word
      (f_or (f_ex_t m_unit (f_and (f_eq m_word (t_word 1) (t_word 1)) (f_eq m_word (t_var 3) (t_word 1))))
      (f_ex_t m_unit (f_and (f_eq m_word (t_word 2) (t_word 2)) (f_eq m_word (t_var 3) (t_word 2)))))
      (part_step (s_if m_word (t_bool true) (c_ret (t_word 1)) (c_ret (t_word 2))))
      (return_goal [] 1
      ∷ record {
        context = with_heaps [];
        goal = f_imp (f_and f_tt (f_eq m_bool (t_bool true) (t_bool true))) (f_eq m_word (t_word 1) (t_word 1));
      }
      ∷ record {
        context = with_heaps [];
        goal = f_imp (f_and f_tt (f_eq m_bool (t_bool true) (t_bool false))) (f_eq m_word (t_word 2) (t_word 2));
      }
      ∷ [])

-- The end of `r <- c; ret r` from a precondition, where c has {P} x : word {tt}: P is seen from the heap g,
-- and y is the result.
abbrev pub after_run : FormulaTree → FormulaTree → FormulaTree
after_run pre seen =
    f_ex_t m_word (f_and
    (f_ex_h (f_and (f_and pre (f_same 0 3))
    (f_all_h (f_all_h (f_imp (f_and (f_join 2 1 0) seen) (f_ex_h (f_and (f_join 5 0 1) f_tt)))))))
    (f_eq m_word (t_var 3) (t_var 0)))

-- ex g : heap . ex k : heap . Join(mem, g, k) /\ P[g]
abbrev pub part_is : FormulaTree → FormulaTree
part_is seen = f_ex_h (f_ex_h (f_and (f_join 2 1 0) seen))

-- fix f (c : {tt} x : word {tt}) : {tt} z : word {tt} . r <- c; ret r, as it is written and as it is
-- canonical, and its type
abbrev pub runs_it : FixTree
runs_it = x_param returning (x_body (triple f_tt m_word f_tt) (c_step (s_run (t_var 1) None) (c_ret (t_var 0))))

abbrev pub runs_it_whole : FixTree
runs_it_whole =
    x_param returning (x_body (triple f_tt m_word f_tt) (c_step (s_run (t_var 1) (Some m_word)) (c_ret (t_var 0))))

abbrev pub runs_it_type : TyTree
runs_it_type = y_fun returning returning

-- fix f (a : word) (c : {a =[word] 3} x : word {tt}) : {tt} z : word {tt} . r <- c; ret r
abbrev pub needs_three : TyTree
needs_three = y_hoare (triple (f_eq m_word (t_var 1) (t_word 3)) m_word f_tt)

abbrev pub runs_three : FixTree
runs_three = x_param (y_mono m_word) (x_param needs_three
    (x_body (triple f_tt m_word f_tt) (c_step (s_run (t_var 1) None) (c_ret (t_var 0)))))

abbrev pub runs_three_whole : FixTree
runs_three_whole = x_param (y_mono m_word) (x_param needs_three
    (x_body (triple f_tt m_word f_tt) (c_step (s_run (t_var 1) (Some m_word)) (c_ret (t_var 0)))))

abbrev pub runs_three_type : TyTree
runs_three_type = y_fun (y_mono m_word) (y_fun needs_three returning)

-- do _ <- claim {1 =[word] 1}; ret 0
abbrev pub claims : TermTree
claims = t_do (c_step (s_claim (f_eq m_word (t_word 1) (t_word 1))) (c_ret (t_word 0)))

-- what is run in a step of a body, and what it owes before the step itself
pub record RunsInOrder : Type 0 where
  -- do s <- (fix f ..) (do _ <- claim {1 =[word] 1}; ret 0); ret s against {emp} y : word {tt}: two
  -- obligations of the body of the `fix`, two of the argument, the run's own, and the end's
  pub argument :
      FitsBody none [] (c_step (s_run (t_app (t_fix 9 runs_it) claims) None) (c_ret (t_var 0)))
      (triple (f_emp 0) m_word f_tt)
      (c_step (s_run (t_app (t_fix 9 runs_it_whole) (t_do (c_ret (t_word 0)))) (Some m_word)) (c_ret (t_var 0)))
      (record {
        context = with_heaps (en_term runs_it_type ∷ en_term returning ∷ []);
        goal = f_imp (f_and f_tt (f_same 0 1)) (part_is f_tt);
      }
      ∷ record {
        context = with_heaps (en_term (y_mono m_word) ∷ en_term runs_it_type ∷ en_term returning ∷ []);
        goal = f_imp (after_run f_tt f_tt) f_tt;
      }
      ∷ record {
        context = with_heaps [];
        goal = f_imp (f_and f_tt (f_same 0 1)) (f_eq m_word (t_word 1) (t_word 1));
      }
      ∷ record {
        context = with_heaps (en_term (y_mono m_word) ∷ []);
        goal = f_imp
            (f_ex_t m_unit (f_and (f_eq m_word (t_word 1) (t_word 1)) (f_eq m_word (t_var 3) (t_word 0)))) f_tt;
      }
      ∷ record { context = with_heaps []; goal = f_imp (f_and (f_emp 1) (f_same 0 1)) (part_is f_tt) }
      ∷ record {
        context = with_heaps (en_term (y_mono m_word) ∷ []);
        goal = f_imp (after_run (f_emp 3) f_tt) f_tt;
      }
      ∷ [])
  -- the second parameter's type speaks of the first one, which is seen from the heap g
  pub parameters :
      Gives none in_program [] (t_fix 9 runs_three) runs_three_type
      (t_lam (t_lam (t_do (c_step
      (s_run (t_app (t_app (t_fix 9 runs_three_whole) (t_var 1))
      (t_do (c_step (s_run (t_var 0) (Some m_word)) (c_ret (t_var 0))))) (Some m_word)) (c_ret (t_var 0))))))
      (record {
        context = with_heaps (en_term runs_three_type ∷ en_term needs_three ∷ en_term (y_mono m_word) ∷ []);
        goal = f_imp (f_and f_tt (f_same 0 1)) (part_is (f_eq m_word (t_var 6) (t_word 3)));
      }
      ∷ record {
        context = with_heaps
            (en_term (y_mono m_word) ∷ en_term runs_three_type ∷ en_term needs_three ∷ en_term (y_mono m_word) ∷ []);
        goal = f_imp (after_run f_tt (f_eq m_word (t_var 9) (t_word 3))) f_tt;
      }
      ∷ [])
  -- do s <- (do ret 5 : {tt} y : word {tt}); ret s: what is written owes its end, then the run its own;
  -- the states keep the variable s, and the canonical computation has `ret 5`
  pub written :
      FitsBody none [] (c_step (s_run (t_ann (t_do (c_ret (t_word 5))) returning) None) (c_ret (t_var 0)))
      (triple (f_emp 0) m_word f_tt) (c_ret (t_word 5))
      (return_goal [] 5
      ∷ record { context = with_heaps []; goal = f_imp (f_and (f_emp 1) (f_same 0 1)) (part_is f_tt) }
      ∷ record {
        context = with_heaps (en_term (y_mono m_word) ∷ []);
        goal = f_imp (after_run (f_emp 3) f_tt) f_tt;
      }
      ∷ [])
