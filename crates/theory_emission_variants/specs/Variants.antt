-- Wrong extractions and wrong rows of emission, and small cases in which they come to something else.
use Rattle.std.specs.Prelude.{◌≡◌, ℕ, List, [], ◌∷◌, true, false}
use Rattle.htt_syntax.specs.declared.mono.Op.TheVariants.{Add}
use Rattle.htt_syntax.specs.Trees.{TermTree, m_word, t_var, t_val, t_word, t_bool, t_lam, t_bin, t_sel}
use Rattle.theory_values.specs.Values.{v_word}
use Rattle.theory_values.specs.Heaps.{Heap, empty_heap}
use Rattle.word_loader_code.specs.declared.code.Code.{Code}
use Rattle.word_loader_code.specs.declared.code.Instr.TheVariants.{Const, Op, Sel, Jump, Ret}
use Rattle.word_loader_code.specs.Machine.{Frame, bottom, above, going, halted, machine_after}
use Rattle.theory_denotation.specs.Outcomes.{ended}
use Rattle.theory_instances.specs.Calls.{of_term}
use Rattle.theory_instances.specs.Keys.{Key, IsSameKey}
use Rattle.theory_flat.specs.Flat.{Instance, flat_ret, flat_step, flat_call}
use Rattle.theory_flat.specs.Reading.{flat_run}
use Rattle.theory_flat.specs.Examples.{alone, of_word, sum_flat, seven_flat}
use Rattle.theory_emission.specs.Codes.{first_code, code_of}
use Rattle.theory_emission.specs.Examples.{only}

-- a jump to itself for every main
abbrev pub jump_to_itself : Code
jump_to_itself = only 0 1 (Jump 0 ∷ [])

-- a value at the functions fun x . x + 2 and fun x . x + 3, and the keys of these calls
abbrev pub at_function : ℕ → Key
at_function n = record { head = t_val 0; fixed = of_term (t_lam (t_bin Add (t_var 0) (t_word n))) ∷ []; captured = [] }

-- a <- (instance 1) 5; b <- (instance second) a; ret b, where the instances add 2 and 3
abbrev pub adds_twice : ℕ → List Instance
adds_twice second =
    alone m_word
    (flat_step (flat_call 1 (t_word 5 ∷ [])) (flat_step (flat_call second (t_var 0 ∷ [])) (flat_ret (t_var 0)))) ∷
    of_word (flat_ret (t_bin Add (t_var 0) (t_word 2))) ∷ of_word (flat_ret (t_bin Add (t_var 0) (t_word 3))) ∷ []

abbrev pub sum_of_two : List Instance
sum_of_two = alone m_word (flat_ret (t_bin Add (t_word 2) (t_word 3))) ∷ []

abbrev pub first_of_two : List Instance
first_of_two = alone m_word (flat_ret (t_sel m_word (t_bool true) (t_word 1) (t_word 2))) ∷ []

abbrev pub with_locals : ℕ → ℕ → List ℕ → Frame
with_locals function next locals = record { function = function; next = next; locals = locals }

pub record VariantsOfEmission : Type 0 where
  -- a jump to itself never halts, where main's flat body ends
  pub jump_never_halts : (h : Heap) (choices : List ℕ) (n : ℕ)
      → machine_after jump_to_itself h choices n ≡ going h (bottom (with_locals 0 0 [])) choices
  pub sum_ends : flat_run sum_flat 0 0 [] empty_heap [] ≡ ended (v_word 5) empty_heap []
  -- calls with other fixed arguments have other keys, and the first instance gives another result for the second
  pub other_keys : IsSameKey (at_function 2) (at_function 3) → ⊥
  pub both_instances : flat_run (adds_twice 2) 1 0 [] empty_heap [] ≡ ended (v_word 10) empty_heap []
  pub first_instance : flat_run (adds_twice 1) 1 0 [] empty_heap [] ≡ ended (v_word 9) empty_heap []
  -- a place that is used twice
  pub new_places : code_of sum_of_two ≡ only 3 1 (Const 0 2 ∷ Const 1 3 ∷ Op 2 0 0 1 ∷ Ret 2 ∷ [])
  pub new_places_halt : machine_after (code_of sum_of_two) empty_heap [] 4 ≡ halted (5 ∷ []) empty_heap
  pub place_twice_halts : machine_after (only 2 1 (Const 0 2 ∷ Const 0 3 ∷ Op 1 0 0 0 ∷ Ret 1 ∷ [])) empty_heap [] 4
      ≡ halted (6 ∷ []) empty_heap
  -- a call in tail place that keeps the frame, as in version 1: the bytes and the frames tell it, and no outcome
  pub frame_is_replaced : machine_after (code_of seven_flat) empty_heap [] 1
      ≡ going empty_heap (bottom (with_locals 1 0 (0 ∷ []))) []
  pub frame_is_kept : machine_after (first_code seven_flat) empty_heap [] 1
      ≡ going empty_heap (above (with_locals 1 0 (0 ∷ [])) 0 (bottom (with_locals 0 1 (0 ∷ [])))) []
  -- a `sel` whose sides are changed
  pub sides : code_of first_of_two ≡ only 4 1 (Const 0 1 ∷ Const 1 1 ∷ Const 2 2 ∷ Sel 3 0 1 2 1 ∷ Ret 3 ∷ [])
  pub sides_halt : machine_after (code_of first_of_two) empty_heap [] 5 ≡ halted (1 ∷ []) empty_heap
  pub changed_sides_halt :
      machine_after (only 4 1 (Const 0 1 ∷ Const 1 1 ∷ Const 2 2 ∷ Sel 3 0 2 1 1 ∷ Ret 3 ∷ [])) empty_heap [] 5
      ≡ halted (2 ∷ []) empty_heap
