-- Denotations that were worked out by hand.
use Rattle.std.specs.Prelude.{◌≡◌, ℕ, List, [], ◌∷◌, true, false, Some}
use Rattle.htt_syntax.specs.declared.mono.Op.TheVariants.{Add, Sub}
use Rattle.htt_syntax.specs.Trees.{TermTree, FixTree, CompTree, StepTree, y_mono, triple, f_tt, f_ff, f_eq, f_all_t}
use Rattle.htt_syntax.specs.Trees.{m_word, m_bool, m_loc, m_pair, m_var, t_var, t_val, t_app, t_inst, t_lam, t_lam_t}
use Rattle.htt_syntax.specs.Trees.{t_do, t_fix, t_word, t_bool, t_loc, t_pair, t_bin, t_eq, x_param, x_body, c_ret}
use Rattle.htt_syntax.specs.Trees.{c_step, s_run, s_alloc, s_get, s_set, s_free, s_if, s_claim}
use Rattle.theory_values.specs.Values.{v_word, v_bool, v_unit, v_pair}
use Rattle.theory_values.specs.Heaps.{Heap, empty_heap, single_block, with_block, without_block}
use Rattle.theory_truth.specs.Predicates.{recs_of}
use Rattle.theory_canonical.specs.Skeletons.{Skeleton, sk_o, sk_c, sk_arrow, sk_all}
use Rattle.theory_denotation.specs.Outcomes.{Outcome, ended, out_of_fuel, asking, wrong}
use Rattle.theory_denotation.specs.Valuations.{Domain, Valuation, den_mono, den_term, HeadEntries}
use Rattle.theory_denotation.specs.Denotation.{term_den, comp_den, heads_of_vals}
use Rattle.theory_denotation.specs.Satisfaction.{Satisfies}
use Rattle.theory_meaning.specs.Examples.{one_cell, both}

-- x <- step; ret x
abbrev pub only : StepTree → CompTree
only step = c_step step (c_ret (t_var 0))

-- fix f (n : word) . b <- if n is 0 { ret 0 } { y <- f (n - 1); ret y }; ret b
abbrev pub count_down : FixTree
count_down =
    x_param (y_mono m_word) (x_body (triple f_tt m_word f_tt)
    (only (s_if m_word (t_eq m_word (t_var 1) (t_word 0)) (c_ret (t_word 0))
    (only (s_run (t_app (t_var 0) (t_bin Sub (t_var 1) (t_word 1))) (Some m_word))))))

-- value 0 is `do ret 5`, value 1 is `fun x . do y <- v0; ret (x, y)`, value 2 counts down
abbrev pub file : HeadEntries
file =
    heads_of_vals (record { term = t_do (c_ret (t_word 5)); skeleton = sk_c } ∷ record {
      term = t_lam (t_do (c_step (s_run (t_val 0) (Some m_word)) (c_ret (t_pair (t_var 1) (t_var 0)))));
      skeleton = sk_arrow sk_o sk_c;
    } ∷ record {
      term = t_lam (t_do (only (s_run (t_app (t_fix 9 count_down) (t_var 0)) (Some m_word))));
      skeleton = sk_arrow sk_o sk_c;
    } ∷ [])

abbrev pub denotes : TermTree → (s : Skeleton) → Domain s
denotes term s = term_den file [] term s

abbrev pub ends : ℕ → CompTree → Heap → List ℕ → Outcome
ends n comp h cs = comp_den file [] comp n h cs

abbrev pub plus_one : TermTree
plus_one = t_lam (t_bin Add (t_var 0) (t_word 1))

-- fun f . fun x . f (f x)
abbrev pub twice : TermTree
twice = t_lam (t_lam (t_app (t_var 1) (t_app (t_var 1) (t_var 0))))

abbrev pub function : Skeleton
function = sk_arrow sk_o sk_o

-- a function variable, which adds one
abbrev pub adds_one : Valuation
adds_one = den_term function (denotes plus_one function) ∷ []

pub record WorkedExamples : Type 0 where
  pub sum_of_literals : denotes (t_bin Add (t_word 1) (t_word 2)) sk_o ≡ v_word 3
  pub function_at_four : denotes plus_one function (v_word 4) ≡ v_word 5
  pub functional_at_a_function : denotes twice (sk_arrow function function) (denotes plus_one function) (v_word 3)
      ≡ v_word 5
  pub family_at_words :
      denotes (t_lam_t (t_lam (t_eq (m_var 1) (t_var 0) (t_word 3)))) (sk_all function) m_word (v_word 3) ≡ v_bool true
  pub family_at_places :
      denotes (t_lam_t (t_lam (t_eq (m_var 1) (t_var 0) (t_word 3)))) (sk_all function) m_loc (v_word 3) ≡ v_unit
  pub no_value_of_a_function : denotes plus_one sk_o ≡ v_unit
  pub variable_is_applied : term_den file adds_one (t_app (t_var 0) (t_app (t_var 0) (t_word 3))) sk_o ≡ v_word 5
  pub instance_of_a_variable :
      term_den file (den_term (sk_all sk_o) (λ t. v_bool true) ∷ den_mono m_word ∷ []) (t_inst (t_var 0) (m_var 1)) sk_o
      ≡ v_bool true
  pub cell_is_used : ends 0 one_cell empty_heap (5 ∷ 9 ∷ [])
      ≡ ended (v_word 8) (without_block (with_block (single_block 5 (7 ∷ [])) 5 (8 ∷ [])) 5) (9 ∷ [])
  pub no_choice : ends 0 one_cell empty_heap [] ≡ asking
  pub used_is_no_choice : ends 0 one_cell (single_block 5 []) (5 ∷ 6 ∷ []) ≡ asking
  pub two_is_no_bool : ends 0 (only (s_get m_bool (t_loc 5))) (single_block 5 (2 ∷ [])) [] ≡ wrong
  pub other_width : ends 0 (only (s_set (m_pair m_word m_word) (t_loc 5) (t_word 1))) (single_block 5 (1 ∷ [])) []
      ≡ wrong
  pub nothing_to_free : ends 0 (only (s_free m_word (t_loc 6))) (single_block 5 (7 ∷ [])) [] ≡ wrong
  pub branch_takes_no_fuel :
      ends 0 (only (s_if m_word (t_bool false) (c_ret (t_word 1)) (c_ret (t_word 2)))) empty_heap []
      ≡ ended (v_word 2) empty_heap []
  pub claim_does_nothing : ends 0 (only (s_claim f_ff)) (single_block 5 []) (6 ∷ [])
      ≡ ended v_unit (single_block 5 []) (6 ∷ [])
  pub value_takes_no_fuel : ends 0 (only (s_run (t_val 0) (Some m_word))) empty_heap [] ≡ ended (v_word 5) empty_heap []
  pub value_knows_earlier_ones :
      ends 0 (only (s_run (t_app (t_val 1) (t_word 3)) (Some (m_pair m_word m_word)))) empty_heap []
      ≡ ended (v_pair (v_word 3) (v_word 5)) empty_heap []
  pub recursion_in_a_value : ends 2 (only (s_run (t_app (t_val 2) (t_word 1)) (Some m_word))) empty_heap []
      ≡ ended (v_word 0) empty_heap []
  pub recursion_in_a_value_takes_fuel : ends 1 (only (s_run (t_app (t_val 2) (t_word 1)) (Some m_word))) empty_heap []
      ≡ out_of_fuel
  pub no_such_value : ends 9 (only (s_run (t_val 3) (Some m_word))) empty_heap [] ≡ wrong
  pub counted_down : ends 3 (only (s_run (t_app (t_fix 9 count_down) (t_word 2)) (Some m_word))) empty_heap []
      ≡ ended (v_word 0) empty_heap []
  pub more_fuel_is_no_harm : ends 9 (only (s_run (t_app (t_fix 9 count_down) (t_word 2)) (Some m_word))) empty_heap []
      ≡ ended (v_word 0) empty_heap []
  pub counting_takes_fuel : ends 2 (only (s_run (t_app (t_fix 9 count_down) (t_word 2)) (Some m_word))) empty_heap []
      ≡ out_of_fuel
  pub arguments_in_order :
      ends 1 (only (s_run (t_app (t_app (t_fix 9 both) (t_word 3)) (t_word 4)) (Some (m_pair m_word m_word))))
      empty_heap []
      ≡ ended (v_pair (v_word 3) (v_word 4)) empty_heap []
  pub lacks_an_argument :
      ends 1 (only (s_run (t_app (t_fix 9 both) (t_word 3)) (Some (m_pair m_word m_word)))) empty_heap [] ≡ wrong
  pub computation_variable :
      comp_den file (den_term sk_c (λ n h cs. ended (v_word n) h cs) ∷ []) (only (s_run (t_var 0) (Some m_word))) 4
      empty_heap []
      ≡ ended (v_word 4) empty_heap []
  pub function_in_a_formula :
      Satisfies (recs_of []) file adds_one (f_all_t m_word (f_eq m_word (t_app (t_var 1) (t_word 3)) (t_word 4)))
  pub other_value : Satisfies (recs_of []) file adds_one (f_eq m_word (t_app (t_var 0) (t_word 3)) (t_word 5)) → ⊥
