-- The laws of states.
use Rattle.std.specs.Prelude.{ℕ, zero, suc, ◌≡◌, List, [], ◌∷◌, Bool, true, false, Option, Some, None}
use Rattle.htt_syntax.specs.declared.mono.Op.TheVariants.{Add}
use Rattle.htt_syntax.specs.Trees.{MonoTree, TripleTree, TermTree, FormulaTree, m_word, m_bool, m_loc, m_unit, m_pair}
use Rattle.htt_syntax.specs.Trees.{m_var, triple, t_var, t_word, t_bool, t_pair, t_bin, f_tt, f_and, f_or, f_imp}
use Rattle.htt_syntax.specs.Trees.{f_ex_t, f_all_h, f_ex_h, f_emp, f_cell, f_block, f_join, f_same, f_eq}
use Rattle.theory_renaming.specs.Scoped.{ScopedMono, ScopedTriple, ScopedTerm, ScopedFormula}
use Rattle.theory_states.specs.States.{past, Move, move_alloc, move_get, move_set, move_free, move_run, move_claim}
use Rattle.theory_states.specs.States.{start, owed, after, branch, finish, merge, last}
use Rattle.theory_renaming.specs.Renaming.{shifting}

-- a step in a context with n variables
abbrev pub ScopedMove : ℕ → Move → Type 0
ScopedMove n (move_alloc t N) = ScopedMono n t × ScopedTerm n N
ScopedMove n (move_get t M) = ScopedMono n t × ScopedTerm n M
ScopedMove n (move_set t M N) = ScopedMono n t × ScopedTerm n M × ScopedTerm n N
ScopedMove n (move_free t M) = ScopedMono n t × ScopedTerm n M
ScopedMove n (move_run spec) = ScopedTriple n spec
ScopedMove n (move_claim F) = ScopedFormula (suc (suc n)) F

abbrev pub ScopedOwed : ℕ → Option FormulaTree → Type 0
ScopedOwed n None = Unit {0}
ScopedOwed n (Some F) = ScopedFormula n F

pub record StatesKeepScope : Type 0 where
  pub starts : (n : ℕ) (P : FormulaTree) → ScopedFormula (suc n) P → ScopedFormula (suc (suc n)) (start P)
  pub owes : (n : ℕ) (step : Move) (R : FormulaTree)
      → ScopedMove n step
      → ScopedFormula (suc (suc n)) R
      → ScopedOwed (suc (suc n)) (owed step R)
  pub goes_on : (n : ℕ) (step : Move) (R : FormulaTree)
      → ScopedMove n step
      → ScopedFormula (suc (suc n)) R
      → ScopedFormula (suc (suc (suc n))) (after step R)
  pub branches : (n : ℕ) (R : FormulaTree) (M : TermTree) (side : Bool)
      → ScopedFormula (suc (suc n)) R
      → ScopedTerm n M
      → ScopedFormula (suc (suc n)) (branch R M side)
  pub merges : (n : ℕ) (on_true on_false : FormulaTree)
      → ScopedFormula n on_true
      → ScopedFormula n on_false
      → ScopedFormula n (merge on_true on_false)
  pub lasts : (n : ℕ) (S Q : FormulaTree) → ScopedFormula n S → ScopedFormula n Q → ScopedFormula n (last S Q)

-- each monotype stands under those before it
abbrev pub ScopedRow : ℕ → List MonoTree → Type 0
ScopedRow n [] = Unit {0}
ScopedRow n (z ∷ zs) = ScopedMono n z × ScopedRow (suc n) zs

-- the context with so many variables more
abbrev pub under : ℕ → List MonoTree → ℕ
under n [] = n
under n (z ∷ zs) = under (suc n) zs

abbrev pub EndsKeepScope : Type 0
EndsKeepScope =
    (n : ℕ) (R : FormulaTree) (zs : List MonoTree) (t : MonoTree) (M : TermTree)
    → ScopedFormula (suc (suc (under n zs))) R
    → ScopedRow n zs
    → ScopedMono n t
    → ScopedTerm (under n zs) M
    → ScopedFormula (suc (suc (suc n))) (finish R zs t M)

-- the state of `do l <- alloc[word] 7; v <- get[word] l; ..` from emp after its two steps
abbrev pub two_steps : FormulaTree
two_steps = after (move_get m_word (t_var 0)) (after (move_alloc m_word (t_word 7)) (start (f_emp 0)))

-- ex b . [Emp(init) /\ Same(b, init)] /\ [ex g . Cell[word](g, l, 7) /\ Join(mem, b, g)], and
-- ex g . ex k . Cell[word](g, l, v) /\ Join(mem, g, k)
abbrev pub two_steps_by_hand : FormulaTree
two_steps_by_hand =
    f_and (f_ex_h
    (f_and (f_and (f_emp 2) (f_same 0 2)) (f_ex_h (f_and (f_cell m_word 0 (t_var 5) (t_word 7)) (f_join 2 1 0)))))
    (f_ex_h (f_ex_h (f_and (f_cell m_word 1 (t_var 5) (t_var 4)) (f_join 2 1 0))))

-- and of `_ <- free[word] l; ..` after them
abbrev pub three_steps : FormulaTree
three_steps = after (move_free m_word (t_var 1)) two_steps

-- ex b . ex g . R[b] /\ Block[word](g, l) /\ Join(b, g, mem), where R is the state before
abbrev pub three_steps_by_hand : FormulaTree
three_steps_by_hand =
    f_ex_h (f_ex_h (f_and
    (f_and (f_ex_h
    (f_and (f_and (f_emp 4) (f_same 0 4)) (f_ex_h (f_and (f_cell m_word 0 (t_var 8) (t_word 7)) (f_join 3 1 0)))))
    (f_ex_h (f_ex_h (f_and (f_cell m_word 1 (t_var 8) (t_var 7)) (f_join 3 1 0)))))
    (f_and (f_block m_word 0 (t_var 6)) (f_join 1 0 2))))

-- and its end with `ret v`: ex l . ex v . ex u . R /\ y =[word] v
abbrev pub three_end_by_hand : FormulaTree
three_end_by_hand =
    f_ex_t m_loc (f_ex_t m_word (f_ex_t m_unit (f_and (f_ex_h (f_ex_h (f_and
    (f_and (f_ex_h
    (f_and (f_and (f_emp 7) (f_same 0 7)) (f_ex_h (f_and (f_cell m_word 0 (t_var 6) (t_word 7)) (f_join 3 1 0)))))
    (f_ex_h (f_ex_h (f_and (f_cell m_word 1 (t_var 6) (t_var 5)) (f_join 3 1 0)))))
    (f_and (f_block m_word 0 (t_var 4)) (f_join 1 0 5)))))
    (f_eq m_word (t_var 5) (t_var 1)))))

-- {l |->[word] 7} x : unit {l |->[word] 8 /\ @init [l |->[word] 7]}, where l is the variable 0
abbrev pub writes_eight : TripleTree
writes_eight =
    triple (f_cell m_word 0 (t_var 1) (t_word 7)) m_unit
    (f_and (f_cell m_word 0 (t_var 3) (t_word 8)) (f_cell m_word 1 (t_var 3) (t_word 7)))

pub record WorkedStates : Type 0 where
  pub two : two_steps ≡ two_steps_by_hand
  -- a free after them owes ex g . ex k . Block[word](g, l) /\ Join(mem, g, k)
  pub free_owes : owed (move_free m_word (t_var 1)) two_steps
      ≡ Some (f_imp two_steps_by_hand (f_ex_h (f_ex_h (f_and (f_block m_word 1 (t_var 5)) (f_join 2 1 0)))))
  -- a body `do ret 0` from tt ends in [tt /\ Same(mem, init)] /\ y =[word] 0, and owes y =[word] 4
  pub no_steps : last (finish (start f_tt) [] m_word (t_word 0)) (f_eq m_word (t_var 2) (t_word 4))
      ≡ f_imp (f_and (f_and f_tt (f_same 0 1)) (f_eq m_word (t_var 2) (t_word 0))) (f_eq m_word (t_var 2) (t_word 4))
  -- the first step `x <- get[word] l` of a swap of l and k with a and b, from two cells that are joined
  pub swap_owes :
      owed (move_get m_word (t_var 3))
      (start (f_ex_h (f_ex_h
      (f_and (f_join 2 1 0) (f_and (f_cell m_word 1 (t_var 6) (t_var 4)) (f_cell m_word 0 (t_var 5) (t_var 3)))))))
      ≡ Some (f_imp (f_and (f_ex_h
      (f_ex_h
      (f_and (f_join 3 1 0) (f_and (f_cell m_word 1 (t_var 7) (t_var 5)) (f_cell m_word 0 (t_var 6) (t_var 4))))))
      (f_same 0 1)) (f_ex_t m_word (f_ex_h (f_ex_h (f_and (f_cell m_word 1 (t_var 8) (t_var 2)) (f_join 3 1 0))))))
  -- `y <- f; ..`, where f has {tt} x : word {x =[word] 2}, from tt: all splits of the heap before
  pub run_goes_on : after (move_run (triple f_tt m_word (f_eq m_word (t_var 2) (t_word 2)))) (start f_tt)
      ≡ f_ex_h (f_and (f_and f_tt (f_same 0 2))
      (f_all_h
      (f_all_h (f_imp (f_and (f_join 2 1 0) f_tt) (f_ex_h (f_and (f_join 4 0 1) (f_eq m_word (t_var 6) (t_word 2))))))))
  -- its end with `ret y + 1`: ex y . R /\ x =[word] y + 1, with x after y
  pub run_ends :
      finish (f_and f_tt (f_eq m_word (t_var 2) (t_word 2))) (m_word ∷ []) m_word (t_bin Add (t_var 0) (t_word 1))
      ≡ f_ex_t m_word
      (f_and (f_and f_tt (f_eq m_word (t_var 0) (t_word 2))) (f_eq m_word (t_var 3) (t_bin Add (t_var 0) (t_word 1))))
  -- a claim goes on as its formula, which keeps its heaps and passes the claim's variable
  pub claim_goes_on : after (move_claim (f_and (f_same 0 1) (f_eq m_word (t_var 2) (t_word 9)))) f_tt
      ≡ f_and (f_same 0 1) (f_eq m_word (t_var 3) (t_word 9))
  -- `_ <- set[word] l 8`: the old block goes, the new cell stands in its place
  pub set_goes_on : after (move_set m_word (t_var 0) (t_word 8)) f_tt
      ≡ f_ex_h (f_ex_h (f_ex_h (f_ex_h
      (f_and f_tt (f_and (f_block m_word 2 (t_var 7))
      (f_and (f_join 3 2 0) (f_and (f_cell m_word 1 (t_var 7) (t_word 8)) (f_join 4 1 0))))))))
  -- `x <- alloc[word * bool] (y, true)`: the new block is joined to the old heap
  pub alloc_goes_on : after (move_alloc (m_pair m_word m_bool) (t_pair (t_var 0) (t_bool true))) f_tt
      ≡ f_ex_h (f_and f_tt
      (f_ex_h (f_and (f_cell (m_pair m_word m_bool) 0 (t_var 4) (t_pair (t_var 5) (t_bool true))) (f_join 2 1 0))))
  pub alloc_owes : owed (move_alloc m_word (t_word 7)) f_tt ≡ None
  -- `_ <- free[word] l` from Same(mem, init) /\ l =[word] 9: the heap before is the block and mem
  pub free_goes_on : after (move_free m_word (t_var 0)) (f_and (f_same 0 1) (f_eq m_word (t_var 2) (t_word 9)))
      ≡ f_ex_h (f_ex_h (f_and (f_and (f_same 1 3) (f_eq m_word (t_var 5) (t_word 9)))
      (f_and (f_block m_word 0 (t_var 5)) (f_join 1 0 2))))
  -- `_ <- set[a] l x`, where l, a and x are the variables 0, 1 and 2
  pub set_owes : owed (move_set (m_var 1) (t_var 0) (t_var 2)) f_tt
      ≡ Some (f_imp f_tt (f_ex_h (f_ex_h (f_and (f_block (m_var 5) 1 (t_var 4)) (f_join 2 1 0)))))
  -- a run whose precondition reads a cell: some part of mem is that cell, and at the end another is
  pub run_owes : owed (move_run writes_eight) f_tt
      ≡ Some (f_imp f_tt (f_ex_h (f_ex_h (f_and (f_join 2 1 0) (f_cell m_word 1 (t_var 4) (t_word 7))))))
  pub run_writes : after (move_run writes_eight) f_tt
      ≡ f_ex_h (f_and f_tt (f_all_h
      (f_all_h (f_imp (f_and (f_join 2 1 0) (f_cell m_word 1 (t_var 6) (t_word 7)))
      (f_ex_h
      (f_and (f_join 4 0 1) (f_and (f_cell m_word 0 (t_var 7) (t_word 8)) (f_cell m_word 2 (t_var 7) (t_word 7)))))))))
  pub claim_owes : owed (move_claim (f_same 0 1)) f_tt ≡ Some (f_imp f_tt (f_same 0 1))
  -- alloc, get, free, and their end
  pub three : three_steps ≡ three_steps_by_hand
  pub three_end : finish three_steps (m_loc ∷ m_word ∷ m_unit ∷ []) m_word (t_var 1) ≡ three_end_by_hand
  -- an end with the variables z and v, in a context with k and l: z =[word] v /\ Cell[word](mem, l, z)
  -- and `ret v + k`
  pub two_variables_end :
      finish (f_and (f_eq m_word (t_var 3) (t_var 2)) (f_cell m_word 0 (t_var 4) (t_var 3))) (m_word ∷ m_word ∷ [])
      m_word (t_bin Add (t_var 0) (t_var 3))
      ≡ f_ex_t m_word (f_ex_t m_word
      (f_and (f_and (f_eq m_word (t_var 1) (t_var 0)) (f_cell m_word 2 (t_var 5) (t_var 1)))
      (f_eq m_word (t_var 4) (t_bin Add (t_var 0) (t_var 6)))))
  -- two variables of a monotype a, the variable 0
  pub monotypes_end : finish f_tt (m_var 0 ∷ m_var 1 ∷ []) (m_var 0) (t_var 0)
      ≡ f_ex_t (m_var 3) (f_ex_t (m_var 4) (f_and f_tt (f_eq (m_var 5) (t_var 4) (t_var 0))))
  pub branches : branch (f_same 0 1) (t_var 0) false ≡ f_and (f_same 0 1) (f_eq m_bool (t_var 2) (t_bool false))
  -- `x <- if [word] b { ret 1 } { ret 2 }` from tt
  pub branches_meet :
      merge (finish (branch f_tt (t_var 0) true) [] m_word (t_word 1))
      (finish (branch f_tt (t_var 0) false) [] m_word (t_word 2))
      ≡ f_or (f_and (f_and f_tt (f_eq m_bool (t_var 3) (t_bool true))) (f_eq m_word (t_var 2) (t_word 1)))
      (f_and (f_and f_tt (f_eq m_bool (t_var 3) (t_bool false))) (f_eq m_word (t_var 2) (t_word 2)))

-- going past k variables is the shift by k, from 0 on
abbrev pub PastIsAShift : Type 0
PastIsAShift = (k n : ℕ) → past k n ≡ shifting zero k n
