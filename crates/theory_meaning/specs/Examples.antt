-- Evaluations and runs that were worked out by hand.
use Rattle.std.specs.Prelude.{◌≡◌, ℕ, List, [], ◌∷◌, true, false, None}
use Rattle.htt_syntax.specs.declared.mono.Op.TheVariants.{Add, Sub}
use Rattle.htt_syntax.specs.Trees.{TermTree, FixTree, CompTree, StepTree, y_mono, y_fun, triple, f_tt, f_ff, m_word}
use Rattle.htt_syntax.specs.Trees.{m_bool, m_loc, m_unit, m_pair, m_var, t_var, t_val, t_def, t_app, t_inst, t_lam}
use Rattle.htt_syntax.specs.Trees.{t_lam_t, t_do, t_fix, t_word, t_bool, t_loc, t_unit, t_pair, t_fst, t_bin, t_eq}
use Rattle.htt_syntax.specs.Trees.{t_sel, t_ann, t_at, x_param, x_body, c_ret, c_step, s_run, s_alloc, s_get, s_set}
use Rattle.htt_syntax.specs.Trees.{s_free, s_if, s_claim}
use Rattle.theory_values.specs.Values.{v_word, v_bool, v_unit, v_pair}
use Rattle.theory_values.specs.Heaps.{Heap, empty_heap, single_block, with_block, without_block}
use Rattle.theory_meaning.specs.Closures.{base, do_of, nothing, PureResult, gives, lacks_fuel, faults, RunResult, done}
use Rattle.theory_meaning.specs.Closures.{no_fuel, asks, fault, Items}
use Rattle.theory_meaning.specs.Meaning.{pure, run}
use Rattle.theory_meaning.specs.Choices.{numbers_from}

-- value 0 is `do ret 2 + 3`, definition 0 is `fun x . x + 1`
abbrev pub file : Items
file = record {
  vals = t_do (c_ret (t_bin Add (t_word 2) (t_word 3))) ∷ [];
  defs = t_lam (t_bin Add (t_var 0) (t_word 1)) ∷ [];
}

abbrev pub value : ℕ → TermTree → PureResult
value n term = pure file n nothing term

abbrev pub ends : ℕ → CompTree → Heap → List ℕ → RunResult
ends n comp h cs = run file n nothing comp h cs

-- x <- step; ret x
abbrev pub only : StepTree → CompTree
only step = c_step step (c_ret (t_var 0))

-- fix f (n : word) . b <- if n is 0 { ret 0 } { y <- f (n - 1); ret y }; ret b
abbrev pub count_down : FixTree
count_down =
    x_param (y_mono m_word) (x_body (triple f_tt m_word f_tt)
    (only (s_if m_word (t_eq m_word (t_var 1) (t_word 0)) (c_ret (t_word 0))
    (only (s_run (t_app (t_var 0) (t_bin Sub (t_var 1) (t_word 1))) None)))))

-- fix f (x : word) (y : word) . ret (x, y)
abbrev pub both : FixTree
both =
    x_param (y_mono m_word)
    (x_param (y_mono m_word) (x_body (triple f_tt m_word f_tt) (c_ret (t_pair (t_var 2) (t_var 1)))))

-- l <- alloc[word] 7; x <- get[word] l; _ <- set[word] l x + 1; y <- get[word] l; _ <- free[word] l; ret y
abbrev pub one_cell : CompTree
one_cell =
    c_step (s_alloc m_word (t_word 7))
    (c_step (s_get m_word (t_var 0))
    (c_step (s_set m_word (t_var 1) (t_bin Add (t_var 0) (t_word 1)))
    (c_step (s_get m_word (t_var 2)) (c_step (s_free m_word (t_var 3)) (c_ret (t_var 1))))))

-- fix f (h : (x : word) -> word) (n : word) . b <- if n is 0 { ret 0 } { y <- f h (n - 1); ret h y }; ret b
abbrev pub repeated : FixTree
repeated =
    x_param (y_fun (y_mono m_word) (y_mono m_word))
    (x_param (y_mono m_word) (x_body (triple f_tt m_word f_tt)
    (only (s_if m_word (t_eq m_word (t_var 1) (t_word 0)) (c_ret (t_word 0))
    (c_step (s_run (t_app (t_app (t_var 0) (t_var 2)) (t_bin Sub (t_var 1) (t_word 1))) None)
    (c_ret (t_app (t_var 3) (t_var 0))))))))

-- l <- alloc[unit] (); k <- alloc[unit] (); ret eq[loc](l, k)
abbrev pub two_empty_blocks : CompTree
two_empty_blocks =
    c_step (s_alloc m_unit t_unit) (c_step (s_alloc m_unit t_unit) (c_ret (t_eq m_loc (t_var 1) (t_var 0))))

pub record WorkedExamples : Type 0 where
  pub sum_takes_no_fuel : value 0 (t_bin Add (t_word 1) (t_word 2)) ≡ gives (base (v_word 3))
  pub body_takes_fuel : value 0 (t_app (t_lam (t_bin Add (t_var 0) (t_var 0))) (t_word 4)) ≡ lacks_fuel
  pub body_with_fuel : value 1 (t_app (t_lam (t_bin Add (t_var 0) (t_var 0))) (t_word 4)) ≡ gives (base (v_word 8))
  pub closure_keeps_its_environment :
      value 2 (t_app (t_app (t_lam (t_lam (t_pair (t_var 1) (t_var 0)))) (t_word 1)) (t_word 2))
      ≡ gives (base (v_pair (v_word 1) (v_word 2)))
  pub no_function_before_no_fuel : value 0 (t_app (t_word 1) (t_word 2)) ≡ faults
  pub argument_before_no_function : value 0 (t_app (t_word 1) (t_app (t_lam (t_var 0)) (t_word 2))) ≡ lacks_fuel
  pub monotype_is_closed :
      value 1 (t_app (t_inst (t_lam_t (t_lam (t_eq (m_var 1) (t_var 0) (t_word 3)))) m_word) (t_word 3))
      ≡ gives (base (v_bool true))
  pub other_monotype : value 1 (t_app (t_inst (t_lam_t (t_lam (t_eq (m_var 1) (t_var 0) (t_word 3)))) m_loc) (t_word 3))
      ≡ faults
  pub no_pair_of_closures : value 0 (t_pair (t_lam (t_var 0)) (t_word 1)) ≡ faults
  pub no_such_value : value 0 (t_val 1) ≡ faults
  pub use_takes_fuel : value 0 (t_val 0) ≡ lacks_fuel
  pub use_with_fuel : value 1 (t_val 0) ≡ gives (do_of nothing (c_ret (t_bin Add (t_word 2) (t_word 3))))
  pub definition_is_applied : value 1 (t_app (t_def 0) (t_at 5 (t_ann (t_word 6) (y_mono m_word))))
      ≡ gives (base (v_word 7))
  pub all_parts_of_a_choice : value 0 (t_sel m_word (t_bool true) (t_word 1) (t_fst (t_word 2))) ≡ faults
  pub cell_is_used : ends 0 one_cell empty_heap (5 ∷ 9 ∷ [])
      ≡ done (base (v_word 8)) (without_block (with_block (single_block 5 (7 ∷ [])) 5 (8 ∷ [])) 5) (9 ∷ [])
  pub no_choice : ends 0 one_cell empty_heap [] ≡ asks
  pub zero_is_no_choice : ends 0 one_cell empty_heap (0 ∷ 5 ∷ []) ≡ asks
  pub used_is_no_choice : ends 0 one_cell (single_block 5 []) (5 ∷ 6 ∷ []) ≡ asks
  pub two_is_no_bool : ends 0 (only (s_get m_bool (t_loc 5))) (single_block 5 (2 ∷ [])) [] ≡ fault
  pub one_is_true : ends 0 (only (s_get m_bool (t_loc 5))) (single_block 5 (1 ∷ [])) []
      ≡ done (base (v_bool true)) (single_block 5 (1 ∷ [])) []
  pub other_width : ends 0 (only (s_set (m_pair m_word m_word) (t_loc 5) (t_word 1))) (single_block 5 (1 ∷ [])) []
      ≡ fault
  pub width_alone_counts : ends 0 (only (s_free m_bool (t_loc 5))) (single_block 5 (7 ∷ [])) []
      ≡ done (base v_unit) (without_block (single_block 5 (7 ∷ [])) 5) []
  pub free_of_another_width : ends 0 (only (s_free (m_pair m_word m_word) (t_loc 5))) (single_block 5 (7 ∷ [])) []
      ≡ fault
  -- l <- alloc[word] 7; _ <- free[word] l; x <- get[word] l; ret x
  pub use_after_free :
      ends 0 (c_step (s_alloc m_word (t_word 7)) (c_step (s_free m_word (t_var 0)) (only (s_get m_word (t_var 1)))))
      empty_heap (5 ∷ [])
      ≡ fault
  pub nothing_to_free : ends 0 (only (s_free m_word (t_loc 6))) (single_block 5 (7 ∷ [])) [] ≡ fault
  pub branch_takes_no_fuel :
      ends 0 (only (s_if m_word (t_bool false) (c_ret (t_word 1)) (c_ret (t_word 2)))) empty_heap []
      ≡ done (base (v_word 2)) empty_heap []
  pub claim_does_nothing : ends 0 (only (s_claim f_ff)) (single_block 5 []) (6 ∷ [])
      ≡ done (base v_unit) (single_block 5 []) (6 ∷ [])
  pub run_takes_fuel : ends 0 (only (s_run (t_do (c_ret (t_word 1))) None)) empty_heap [] ≡ no_fuel
  pub use_and_run : ends 1 (only (s_run (t_val 0) None)) empty_heap [] ≡ done (base (v_word 5)) empty_heap []
  pub counted_down : ends 3 (only (s_run (t_app (t_fix 9 count_down) (t_word 2)) None)) empty_heap []
      ≡ done (base (v_word 0)) empty_heap []
  pub counting_takes_fuel : ends 2 (only (s_run (t_app (t_fix 9 count_down) (t_word 2)) None)) empty_heap [] ≡ no_fuel
  pub arguments_in_order : ends 1 (only (s_run (t_app (t_app (t_fix 9 both) (t_word 3)) (t_word 4)) None)) empty_heap []
      ≡ done (base (v_pair (v_word 3) (v_word 4))) empty_heap []
  pub lacks_an_argument : ends 1 (only (s_run (t_app (t_fix 9 both) (t_word 3)) None)) empty_heap [] ≡ fault
  pub too_many_arguments : value 5 (t_app (t_app (t_fix 9 count_down) (t_word 3)) (t_word 4)) ≡ faults
  pub three_choices : numbers_from 6 3 ≡ 6 ∷ 7 ∷ 8 ∷ []
  -- the test of a choice may be a literal
  pub chosen_by_a_literal : value 0 (t_sel m_word (t_bool false) (t_word 1) (t_word 2)) ≡ gives (base (v_word 2))
  pub no_choice_by_a_word : value 0 (t_sel m_word (t_word 0) (t_word 1) (t_word 2)) ≡ faults
  -- the first part that gives no value tells the result: want of fuel, and then a fault
  pub first_part_tells : value 0 (t_pair (t_app (t_lam (t_var 0)) (t_word 2)) (t_fst (t_word 2))) ≡ lacks_fuel
  pub second_part_tells : value 0 (t_pair (t_word 1) (t_fst (t_word 2))) ≡ faults
  -- twice 2 is added, by a function that is handed on: it needs fuel 3
  pub repeated_twice :
      ends 3 (only (s_run (t_app (t_app (t_fix 9 repeated) (t_lam (t_bin Add (t_var 0) (t_word 2)))) (t_word 2)) None))
      empty_heap []
      ≡ done (base (v_word 4)) empty_heap []
  pub repeated_lacks_fuel :
      ends 2 (only (s_run (t_app (t_app (t_fix 9 repeated) (t_lam (t_bin Add (t_var 0) (t_word 2)))) (t_word 2)) None))
      empty_heap []
      ≡ no_fuel
  pub blocks_differ : ends 0 two_empty_blocks empty_heap (1 ∷ 2 ∷ [])
      ≡ done (base (v_bool false)) (with_block (single_block 1 []) 2 []) []
  -- the second allocation may not take the location of the first
  pub location_is_taken : ends 0 two_empty_blocks empty_heap (1 ∷ 1 ∷ []) ≡ asks
  pub pair_is_read : ends 0 (only (s_get (m_pair m_word m_bool) (t_loc 5))) (single_block 5 (4 ∷ 1 ∷ [])) []
      ≡ done (base (v_pair (v_word 4) (v_bool true))) (single_block 5 (4 ∷ 1 ∷ [])) []
  -- a step that isn't done ends the run, whatever follows
  pub first_step_tells : ends 0 (c_step (s_get m_word (t_loc 6)) (only (s_alloc m_word (t_word 1)))) empty_heap []
      ≡ fault
