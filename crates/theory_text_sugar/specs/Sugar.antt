-- What each sugar stands for, at the current heap, once its parts stand for something.
use Rattle.std.specs.Prelude.{ℕ, suc, None}
use Rattle.htt_syntax.specs.Trees.{FormulaTree, f_and, f_ex_h, f_join, f_at}
use Rattle.theory_text_names.specs.Scopes.{a_heap, Scope, with_local, at_heap}

-- a formula with this byte in place of its own
abbrev pub placed : ℕ → FormulaTree → FormulaTree
placed at (f_at own F) = f_at at F
placed at F = f_at at F

-- P ** Q: ex a : heap . ex b : heap . Join(h, a, b) /\ P /\ Q, which stand under a and b
abbrev pub star : ℕ → FormulaTree → FormulaTree → FormulaTree
star h P Q = f_ex_h (f_ex_h (f_and (f_join (suc (suc h)) 1 0) (f_and P Q)))

-- its sides are at a and at b, which have no names
abbrev pub under_parts : Scope → Scope
under_parts s = with_local None a_heap (with_local None a_heap s)

abbrev pub left_part : Scope → Scope
left_part s = at_heap (under_parts s) 1

abbrev pub right_part : Scope → Scope
right_part s = at_heap (under_parts s) 0
