-- Two states that a step might leave, and doesn't.
use Rattle.htt_syntax.specs.Trees.{MonoTree, TripleTree, TermTree, FormulaTree, triple, f_and, f_ex_h, f_cell, f_join}
use Rattle.theory_renaming.specs.Renaming.{rename_mono, rename_term, rename_formula}
use Rattle.theory_states.specs.States.{past, at_heaps, at_heap, at_result}

-- after a `set` that keeps what was known of mem, the old cell too:
-- R /\ [ex g : heap . ex k : heap . Cell[t](g, M, N) /\ Join(mem, g, k)]
abbrev pub set_keeping : MonoTree → TermTree → TermTree → FormulaTree → FormulaTree
set_keeping t M N R =
    f_and (rename_formula (at_heaps 0 1 3) R)
    (f_ex_h (f_ex_h
    (f_and (f_cell (rename_mono (past 5) t) 1 (rename_term (past 5) M) (rename_term (past 5) N)) (f_join 2 1 0))))

-- after a run that speaks of some split of the heap before, and not of all:
-- ex b : heap . R[b] /\ [ex g : heap . ex k : heap . Join(b, g, k) /\ P[g] /\ [ex n : heap . Join(mem, n, k) /\ Q[g, n,
-- x]]]
abbrev pub run_at_some : TripleTree → FormulaTree → FormulaTree
run_at_some (triple P t Q) R =
    f_ex_h (f_and (rename_formula (at_heaps 0 2 4) R)
    (f_ex_h (f_ex_h (f_and (f_join 2 1 0)
    (f_and (rename_formula (at_heap 1 6) P) (f_ex_h (f_and (f_join 4 0 1) (rename_formula (at_result 2 0 6 7) Q))))))))
