-- An `if` within an `if`, and behind other steps: its jumps go to instructions of the whole body.
use Rattle.std.specs.Prelude.{◌≡◌, List, [], ◌∷◌, true, false, Some}
use Rattle.htt_syntax.specs.declared.mono.Op.TheVariants.{Add}
use Rattle.htt_syntax.specs.Trees.{CompTree, m_word, t_var, t_word, t_bool, t_bin, t_eq, c_ret, c_step, s_alloc, s_if}
use Rattle.theory_values.specs.Values.{v_word}
use Rattle.theory_values.specs.Heaps.{empty_heap, with_block}
use Rattle.theory_denotation.specs.Outcomes.{ended}
use Rattle.word_loader_code.specs.declared.code.Instr.TheVariants.{Const, Mov, Op, Alloc, Jump, Jz, Ret}
use Rattle.word_loader_code.specs.Machine.{halted, machine_after}
use Rattle.theory_instances.specs.Calls.{Program}
use Rattle.theory_instances.specs.Orders.{a_word}
use Rattle.theory_flat.specs.Flat.{Instance, HasFlatInstances, flat_ret, flat_step, flat_alloc, flat_if}
use Rattle.theory_flat.specs.Reading.{flat_run}
use Rattle.theory_flat.specs.Examples.{alone}
use Rattle.theory_emission.specs.Codes.{code_of}
use Rattle.theory_emission.specs.Examples.{only}

-- val main = do l <- alloc[word] 7;
--   b <- if [word] true { c <- if [word] false { ret 1 } { ret 2 }; ret c + 4 } { ret 3 };
--   r <- if [word] eq[word](b, 6) { s <- if [word] true { ret b } { ret 8 }; ret s } { ret 9 }; ret r
abbrev pub nested_body : CompTree
nested_body =
    c_step (s_alloc m_word (t_word 7))
    (c_step
    (s_if m_word (t_bool true)
    (c_step (s_if m_word (t_bool false) (c_ret (t_word 1)) (c_ret (t_word 2))) (c_ret (t_bin Add (t_var 0) (t_word 4))))
    (c_ret (t_word 3)))
    (c_step
    (s_if m_word (t_eq m_word (t_var 0) (t_word 6))
    (c_step (s_if m_word (t_bool true) (c_ret (t_var 0)) (c_ret (t_word 8))) (c_ret (t_var 0))) (c_ret (t_word 9)))
    (c_ret (t_var 0))))

abbrev pub nested : Program
nested = record { vals = a_word nested_body ∷ []; main = Some 0 }

abbrev pub nested_flat : List Instance
nested_flat =
    alone m_word
    (flat_step (flat_alloc m_word (t_word 7))
    (flat_step
    (flat_if m_word (t_bool true)
    (flat_step (flat_if m_word (t_bool false) (flat_ret (t_word 1)) (flat_ret (t_word 2)))
    (flat_ret (t_bin Add (t_var 0) (t_word 4)))) (flat_ret (t_word 3)))
    (flat_step
    (flat_if m_word (t_eq m_word (t_var 0) (t_word 6))
    (flat_step (flat_if m_word (t_bool true) (flat_ret (t_var 0)) (flat_ret (t_word 8))) (flat_ret (t_var 0)))
    (flat_ret (t_word 9))) (flat_ret (t_var 0))))) ∷ []

pub record WorkedBranches : Type 0 where
  pub flat_bodies : HasFlatInstances nested nested_flat
  -- the outer `if` begins at instruction 2 and the inner one at 4: its branch is at 9 and its end at 11, that
  -- of the outer one at 15 and 17. In tail place the outer one begins at 17 and the inner one at 20
  pub code : code_of nested_flat
      ≡ only 16 1 (Const 0 7 ∷ Alloc 1 0 1 ∷ Const 2 1 ∷ Jz 2 15 ∷ Const 4 0 ∷ Jz 4 9 ∷ Const 6 1 ∷ Mov 5 6 1 ∷
      Jump 11 ∷ Const 7 2 ∷ Mov 5 7 1 ∷ Const 8 4 ∷ Op 9 0 5 8 ∷ Mov 3 9 1 ∷ Jump 17 ∷ Const 10 3 ∷ Mov 3 10 1 ∷
      Const 11 6 ∷ Op 12 9 3 11 ∷ Jz 12 25 ∷ Const 13 1 ∷ Jz 13 23 ∷ Ret 3 ∷ Const 14 8 ∷ Ret 14 ∷ Const 15 9 ∷
      Ret 15 ∷ [])
  -- the second inner branch, and then the first of both in tail place
  pub ends : flat_run nested_flat 0 0 [] empty_heap (5 ∷ [])
      ≡ ended (v_word 6) (with_block empty_heap 5 (7 ∷ [])) []
  pub runs : machine_after (code_of nested_flat) empty_heap (5 ∷ []) 18
      ≡ halted (6 ∷ []) (with_block empty_heap 5 (7 ∷ []))
