-- States keep in scope.
use Rattle.std.proofs.Common.{ℕ, zero, suc, ◌<◌, Bool, arith}
use Rattle.htt_syntax.specs.Trees.{MonoTree, TermTree, FormulaTree, triple}
use Rattle.theory_renaming.specs.Renaming.{rename_mono, rename_term, rename_formula}
use Rattle.theory_renaming.specs.Scoped.{ScopedMono, ScopedTerm, ScopedFormula, in_triple, in_t_var, in_f_and, in_f_imp, in_f_ex_t, in_f_ex_h, in_f_all_h}
use Rattle.theory_renaming.specs.Scoped.{in_f_cell, in_f_block, in_f_join, in_f_same, in_f_or, in_f_eq, in_t_bool, in_m_bool}
use Rattle.theory_renaming.proofs.Scoping.{Sends, mono_scoped, term_scoped, formula_scoped}
use Rattle.theory_states.specs.States.{past, at_heaps, at_heap, at_result, Move, move_alloc, move_get, move_set, move_free, move_run, move_claim, start}
use Rattle.theory_states.specs.States.{owes_block, owed, after, branch, merge, last}
use Rattle.theory_states.specs.Laws.{ScopedMove, ScopedOwed}

-- where each map sends the variables of a context
pub past_below : (k n i : ℕ) → i < n → past k i < past k n
unfolding past
past_below zero n i h = h
past_below (suc k) n i h = let e = past_below k n i h in omega (arith, e)

heaps_send : (m i k n : ℕ) → m < past k n → i < past k n → Sends (at_heaps m i k) (suc (suc n)) (past k n)
unfolding at_heaps
heaps_send m i k n a b zero h = a
heaps_send m i k n a b (suc zero) h = b
heaps_send m i k n a b (suc (suc j)) h = past_below k n j (omega (arith, h))

heap_sends : (g k n : ℕ) → g < past k n → Sends (at_heap g k) (suc n) (past k n)
unfolding at_heap
heap_sends g k n a zero h = a
heap_sends g k n a (suc j) h = past_below k n j (omega (arith, h))

result_sends : (b a v k n : ℕ) → b < past k n → a < past k n → v < past k n → Sends (at_result b a v k) (suc (suc (suc n))) (past k n)
unfolding at_result
result_sends b a v k n p q r zero h = q
result_sends b a v k n p q r (suc zero) h = p
result_sends b a v k n p q r (suc (suc zero)) h = r
result_sends b a v k n p q r (suc (suc (suc j))) h = past_below k n j (omega (arith, h))

module _ {n : ℕ} where
  mono_past : (k : ℕ) {t : MonoTree} → ScopedMono n t → ScopedMono (past k n) (rename_mono (past k) t)
  mono_past k h = mono_scoped (past k) n (past k n) (past_below k n) h

  term_past : (k : ℕ) {t : TermTree} → ScopedTerm n t → ScopedTerm (past k n) (rename_term (past k) t)
  term_past k h = term_scoped (past k) n (past k n) (past_below k n) h

  state_at : (m i k : ℕ)
      → m < past k n
      → i < past k n
      → {R : FormulaTree}
      → ScopedFormula (suc (suc n)) R
      → ScopedFormula (past k n) (rename_formula (at_heaps m i k) R)
  state_at m i k a b h = formula_scoped (at_heaps m i k) (suc (suc n)) (past k n) (heaps_send m i k n a b) h

  pre_at : (g k : ℕ) → g < past k n → {P : FormulaTree} → ScopedFormula (suc n) P → ScopedFormula (past k n) (rename_formula (at_heap g k) P)
  pre_at g k a h = formula_scoped (at_heap g k) (suc n) (past k n) (heap_sends g k n a) h

  post_at : (b a v k : ℕ)
      → b < past k n
      → a < past k n
      → v < past k n
      → {Q : FormulaTree}
      → ScopedFormula (suc (suc (suc n))) Q
      → ScopedFormula (past k n) (rename_formula (at_result b a v k) Q)
  post_at b a v k p q r h = formula_scoped (at_result b a v k) (suc (suc (suc n))) (past k n) (result_sends b a v k n p q r) h

pub start_scoped : (n : ℕ) (P : FormulaTree) → ScopedFormula (suc n) P → ScopedFormula (suc (suc n)) (start P)
unfolding past start
start_scoped n P h = in_f_and (pre_at 1 2 (omega arith) h) (in_f_same (omega arith) (omega arith))

block_scoped : (n : ℕ) (R : FormulaTree) (t : MonoTree) (M : TermTree)
    → ScopedMono n t
    → ScopedTerm n M
    → ScopedFormula (suc (suc n)) R
    → ScopedFormula (suc (suc n)) (owes_block R t M)
unfolding past owes_block
block_scoped n R t M ht hm h =
    in_f_imp h (in_f_ex_h (in_f_ex_h
    (in_f_and (in_f_block (mono_past 4 ht) (omega arith) (term_past 4 hm)) (in_f_join (omega arith) (omega arith) (omega arith)))))

pub owed_scoped : (n : ℕ) (step : Move) (R : FormulaTree) → ScopedMove n step → ScopedFormula (suc (suc n)) R → ScopedOwed (suc (suc n)) (owed step R)
unfolding past owed
owed_scoped n (move_alloc t N) R s h = tt
owed_scoped n (move_get t M) R s h =
    in_f_imp h (in_f_ex_t (mono_past 2 s.0)
    (in_f_ex_h (in_f_ex_h (in_f_and (in_f_cell (mono_past 5 s.0) (omega arith) (term_past 5 s.1) (in_t_var (omega arith)))
    (in_f_join (omega arith) (omega arith) (omega arith))))))
owed_scoped n (move_set t M N) R s h = block_scoped n R t M s.0 s.1 h
owed_scoped n (move_free t M) R s h = block_scoped n R t M s.0 s.1 h
owed_scoped n (move_run (triple P t Q)) R (in_triple hp ht hq) h =
    in_f_imp h (in_f_ex_h (in_f_ex_h (in_f_and (in_f_join (omega arith) (omega arith) (omega arith)) (pre_at 1 4 (omega arith) hp))))
owed_scoped n (move_claim F) R s h = in_f_imp h s

pub after_scoped : (n : ℕ) (step : Move) (R : FormulaTree)
    → ScopedMove n step
    → ScopedFormula (suc (suc n)) R
    → ScopedFormula (suc (suc (suc n))) (after step R)
unfolding past after
after_scoped n (move_alloc t N) R s h =
    in_f_ex_h (in_f_and (state_at 0 2 4 (omega arith) (omega arith) h)
    (in_f_ex_h (in_f_and (in_f_cell (mono_past 5 s.0) (omega arith) (in_t_var (omega arith)) (term_past 5 s.1))
    (in_f_join (omega arith) (omega arith) (omega arith)))))
after_scoped n (move_get t M) R s h =
    in_f_and (state_at 0 1 3 (omega arith) (omega arith) h)
    (in_f_ex_h (in_f_ex_h (in_f_and (in_f_cell (mono_past 5 s.0) (omega arith) (term_past 5 s.1) (in_t_var (omega arith)))
    (in_f_join (omega arith) (omega arith) (omega arith)))))
after_scoped n (move_set t M N) R s h =
    in_f_ex_h (in_f_ex_h (in_f_ex_h
    (in_f_ex_h (in_f_and (state_at 3 5 7 (omega arith) (omega arith) h)
    (in_f_and (in_f_block (mono_past 7 s.0) (omega arith) (term_past 7 s.1))
    (in_f_and (in_f_join (omega arith) (omega arith) (omega arith))
    (in_f_and (in_f_cell (mono_past 7 s.0) (omega arith) (term_past 7 s.1) (term_past 7 s.2))
    (in_f_join (omega arith) (omega arith) (omega arith)))))))))
after_scoped n (move_free t M) R s h =
    in_f_ex_h (in_f_ex_h (in_f_and (state_at 1 3 5 (omega arith) (omega arith) h)
    (in_f_and (in_f_block (mono_past 5 s.0) (omega arith) (term_past 5 s.1)) (in_f_join (omega arith) (omega arith) (omega arith)))))
after_scoped n (move_run (triple P t Q)) R (in_triple hp ht hq) h =
    in_f_ex_h (in_f_and (state_at 0 2 4 (omega arith) (omega arith) h)
    (in_f_all_h (in_f_all_h (in_f_imp (in_f_and (in_f_join (omega arith) (omega arith) (omega arith)) (pre_at 1 6 (omega arith) hp))
    (in_f_ex_h
    (in_f_and (in_f_join (omega arith) (omega arith) (omega arith)) (post_at 2 0 6 7 (omega arith) (omega arith) (omega arith) hq)))))))
after_scoped n (move_claim F) R s h = state_at 0 1 3 (omega arith) (omega arith) s

pub branch_scoped : (n : ℕ) (R : FormulaTree) (M : TermTree) (side : Bool)
    → ScopedFormula (suc (suc n)) R
    → ScopedTerm n M
    → ScopedFormula (suc (suc n)) (branch R M side)
unfolding past branch
branch_scoped n R M side h m = in_f_and h (in_f_eq in_m_bool (term_past 2 m) in_t_bool)

pub merge_scoped : (n : ℕ) (F G : FormulaTree) → ScopedFormula n F → ScopedFormula n G → ScopedFormula n (merge F G)
unfolding merge
merge_scoped n F G d e = in_f_or d e

pub last_scoped : (n : ℕ) (S Q : FormulaTree) → ScopedFormula n S → ScopedFormula n Q → ScopedFormula n (last S Q)
unfolding last
last_scoped n S Q d e = in_f_imp d e
