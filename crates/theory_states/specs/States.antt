-- The states of a computation, and what its steps owe.
--
-- A computation is checked against {P} y : t {Q} in a context. After some steps its state is a
-- formula in the context, the steps' variables, and the heaps init and mem, of which mem is the
-- innermost: so mem is 0, init is 1, and the others come after them. A step's terms and monotypes
-- stand in the context and the variables before it, without the heaps. The next state has the
-- step's variable between the others and the heaps.
use Rattle.std.specs.Prelude.{ℕ, zero, suc, Bool, List, [], ◌∷◌, length, Option, Some, None}
use Rattle.htt_syntax.specs.Trees.{MonoTree, TripleTree, TermTree, FormulaTree, m_bool, triple, t_var, t_bool, f_and}
use Rattle.htt_syntax.specs.Trees.{f_or, f_imp, f_ex_t, f_all_h, f_ex_h, f_cell, f_block, f_join, f_same, f_eq}
use Rattle.theory_renaming.specs.Renaming.{Map, lifts, rename_mono, rename_term, rename_formula}

-- the map that goes past so many variables
unfoldable pub past : ℕ → Map
past zero n = n
past (suc k) n = suc (past k n)

-- R at other heaps: mem becomes m, init becomes i, and the rest goes past k variables
unfoldable pub at_heaps : ℕ → ℕ → ℕ → Map
at_heaps m i k zero = m
at_heaps m i k (suc zero) = i
at_heaps m i k (suc (suc n)) = past k n

-- P[h], where the rest goes past k variables
unfoldable pub at_heap : ℕ → ℕ → Map
at_heap h k zero = h
at_heap h k (suc n) = past k n

-- Q[before, after, value], where the rest goes past k variables
unfoldable pub at_result : ℕ → ℕ → ℕ → ℕ → Map
at_result before after value k zero = after
at_result before after value k (suc zero) = before
at_result before after value k (suc (suc zero)) = value
at_result before after value k (suc (suc (suc n))) = past k n

-- a step as far as states go: a run has the triple of what it runs
pub data Move : Type 0 where
  move_alloc : MonoTree → TermTree → Move
  move_get : MonoTree → TermTree → Move
  move_set : MonoTree → TermTree → TermTree → Move
  move_free : MonoTree → TermTree → Move
  move_run : TripleTree → Move
  move_claim : FormulaTree → Move

-- P[init] /\ Same(mem, init)
unfoldable pub start : FormulaTree → FormulaTree
start P = f_and (rename_formula (at_heap 1 2) P) (f_same 0 1)

-- R => ex g : heap . ex k : heap . Block[t](g, M) /\ Join(mem, g, k)
unfoldable pub owes_block : FormulaTree → MonoTree → TermTree → FormulaTree
owes_block R t M =
    f_imp R (f_ex_h (f_ex_h (f_and (f_block (rename_mono (past 4) t) 1 (rename_term (past 4) M)) (f_join 2 1 0))))

-- what a step owes in a state, if anything
unfoldable pub owed : Move → FormulaTree → Option FormulaTree
owed (move_alloc t N) R = None
-- R => ex v : t . ex g : heap . ex k : heap . Cell[t](g, M, v) /\ Join(mem, g, k)
owed (move_get t M) R =
    Some (f_imp R (f_ex_t (rename_mono (past 2) t)
    (f_ex_h (f_ex_h (f_and (f_cell (rename_mono (past 5) t) 1 (rename_term (past 5) M) (t_var 2)) (f_join 3 1 0))))))
owed (move_set t M N) R = Some (owes_block R t M)
owed (move_free t M) R = Some (owes_block R t M)
-- R => ex g : heap . ex k : heap . Join(mem, g, k) /\ P[g]
owed (move_run (triple P t Q)) R =
    Some (f_imp R (f_ex_h (f_ex_h (f_and (f_join 2 1 0) (rename_formula (at_heap 1 4) P)))))
owed (move_claim F) R = Some (f_imp R F)

-- the state after a step, under the step's variable x
unfoldable pub after : Move → FormulaTree → FormulaTree
-- ex b : heap . R[b] /\ [ex g : heap . Cell[t](g, x, N) /\ Join(mem, b, g)]
after (move_alloc t N) R =
    f_ex_h (f_and (rename_formula (at_heaps 0 2 4) R)
    (f_ex_h (f_and (f_cell (rename_mono (past 5) t) 0 (t_var 4) (rename_term (past 5) N)) (f_join 2 1 0))))
-- R /\ [ex g : heap . ex k : heap . Cell[t](g, M, x) /\ Join(mem, g, k)]
after (move_get t M) R =
    f_and (rename_formula (at_heaps 0 1 3) R)
    (f_ex_h (f_ex_h (f_and (f_cell (rename_mono (past 5) t) 1 (rename_term (past 5) M) (t_var 4)) (f_join 2 1 0))))
-- ex b : heap . ex g : heap . ex n : heap . ex k : heap .
--   R[b] /\ Block[t](g, M) /\ Join(b, g, k) /\ Cell[t](n, M, N) /\ Join(mem, n, k)
-- as indices: k is 0, n 1, g 2, b 3, mem 4, init 5, x 6, and the others come from 7 on
after (move_set t M N) R =
    f_ex_h (f_ex_h (f_ex_h (f_ex_h
    (f_and (rename_formula (at_heaps 3 5 7) R)
    (f_and (f_block (rename_mono (past 7) t) 2 (rename_term (past 7) M))
    (f_and (f_join 3 2 0)
    (f_and (f_cell (rename_mono (past 7) t) 1 (rename_term (past 7) M) (rename_term (past 7) N)) (f_join 4 1 0))))))))
-- ex b : heap . ex g : heap . R[b] /\ Block[t](g, M) /\ Join(b, g, mem)
after (move_free t M) R =
    f_ex_h (f_ex_h (f_and (rename_formula (at_heaps 1 3 5) R)
    (f_and (f_block (rename_mono (past 5) t) 0 (rename_term (past 5) M)) (f_join 1 0 2))))
-- ex b : heap . R[b] /\ [all g : heap . all k : heap . [Join(b, g, k) /\ P[g]]
--   => ex n : heap . Join(mem, n, k) /\ Q[g, n, x]]
after (move_run (triple P t Q)) R =
    f_ex_h (f_and (rename_formula (at_heaps 0 2 4) R)
    (f_all_h (f_all_h (f_imp (f_and (f_join 2 1 0) (rename_formula (at_heap 1 6) P))
    (f_ex_h (f_and (f_join 4 0 1) (rename_formula (at_result 2 0 6 7) Q)))))))
-- F
after (move_claim F) R = rename_formula (at_heaps 0 1 3) F

-- R /\ M =[bool] true, or false
unfoldable pub branch : FormulaTree → TermTree → Bool → FormulaTree
branch R M side = f_and R (f_eq m_bool (rename_term (past 2) M) (t_bool side))

-- The end of a body or branch: ex z1 . .. ex zj . R /\ y =[t] M, in the context with the result y in
-- place of the variables z1, .., zj, and before init and mem. What stood under i of the z goes past
-- y, init and mem behind them.
unfoldable pub some_values : ℕ → List MonoTree → FormulaTree → FormulaTree
some_values i [] F = F
some_values i (z ∷ zs) F = f_ex_t (rename_mono (lifts i (past 3)) z) (some_values (suc i) zs F)

unfoldable pub within : ℕ → Map
within j zero = j
within j (suc zero) = suc j
within j (suc (suc n)) = lifts j (past 3) n

unfoldable pub ending : ℕ → FormulaTree → MonoTree → TermTree → FormulaTree
ending j R t M =
    f_and (rename_formula (within j) R)
    (f_eq (rename_mono (past (suc (suc (suc j)))) t) (t_var (suc (suc j))) (rename_term (lifts j (past 3)) M))

unfoldable pub finish : FormulaTree → List MonoTree → MonoTree → TermTree → FormulaTree
finish R zs t M = some_values 0 zs (ending (length zs) R t M)

-- B1 \/ B2
unfoldable pub merge : FormulaTree → FormulaTree → FormulaTree
merge on_true on_false = f_or on_true on_false

-- S => Q
unfoldable pub last : FormulaTree → FormulaTree → FormulaTree
last S Q = f_imp S Q
