-- States are formed where their parts are.
use Rattle.std.proofs.Common.{ℕ, zero, suc, [], ◌∷◌, Bool, subst}
use Rattle.htt_syntax.specs.Trees.{MonoTree, TermTree, FormulaTree, m_loc, m_bool, triple, t_var}
use Rattle.theory_renaming.specs.Renaming.{rename_mono}
use Rattle.theory_states.specs.States.{past, Move, move_alloc, move_get, move_set, move_free, move_run, move_claim, start, owes_block, owed, after, branch}
use Rattle.theory_states.specs.States.{merge, last}
use Rattle.theory_formed_shapes.specs.Shapes.{sh_mono, in_heap, in_term, ShapeEntry, Shapes, IsHeapAt, heap_at_zero, heap_further}
use Rattle.theory_formed_shapes.specs.Formed.{FileShapes, IsFormedMono, z_m_bool, IsFormedTerm, z_bool, z_triple, IsFormedFormula, z_and, z_or, z_imp, z_ex_t}
use Rattle.theory_formed_shapes.specs.Formed.{z_all_h, z_ex_h, z_cell, z_block, z_join, z_same, z_equal, IsClosedFile}
use Rattle.theory_formed_states.specs.Laws.{at_state, mono_of, IsFormedMove, IsFormedOwed, StatesKeepFormed}
use Rattle.theory_formed_states.proofs.Sent.{past_sends, deep, variable, mono_sent, term_sent, formula_sent, heaps_sent, pre_sent, result_sent, twice}
use Rattle.theory_formed_states.proofs.Ending.{finish_formed}

-- so many heaps, and then the step's variable
abbrev heaps : ℕ → Shapes → Shapes
heaps zero g = g
heaps (suc n) g = in_heap ∷ heaps n g

at_0 : {g : Shapes} → IsHeapAt (in_heap ∷ g) 0
at_0 = heap_at_zero

at_1 : {a : ShapeEntry} {g : Shapes} → IsHeapAt (a ∷ in_heap ∷ g) 1
at_1 = heap_further at_0

at_2 : {a b : ShapeEntry} {g : Shapes} → IsHeapAt (a ∷ b ∷ in_heap ∷ g) 2
at_2 = heap_further at_1

at_3 : {a b c : ShapeEntry} {g : Shapes} → IsHeapAt (a ∷ b ∷ c ∷ in_heap ∷ g) 3
at_3 = heap_further at_2

at_4 : {a b c d : ShapeEntry} {g : Shapes} → IsHeapAt (a ∷ b ∷ c ∷ d ∷ in_heap ∷ g) 4
at_4 = heap_further at_3

at_5 : {a b c d e : ShapeEntry} {g : Shapes} → IsHeapAt (a ∷ b ∷ c ∷ d ∷ e ∷ in_heap ∷ g) 5
at_5 = heap_further at_4

-- past the step's variable and heaps
abbrev value : MonoTree → ShapeEntry
value t = in_term (sh_mono t)

module _ {file : FileShapes} (c : IsClosedFile file) (g : Shapes) where
  pub start_formed : {P : FormulaTree} → IsFormedFormula file (in_heap ∷ g) P → IsFormedFormula file (at_state g) (start P)
  unfolding start
  start_formed d = z_and (formula_sent d c (pre_sent 2 at_1 (past_sends (heaps 2 []) g))) (z_same at_0 at_1)

  block_formed : {R : FormulaTree} {t : MonoTree} {M : TermTree}
      → IsFormedMono g t
      → IsFormedTerm file g M (sh_mono m_loc)
      → IsFormedFormula file (at_state g) R
      → IsFormedFormula file (at_state g) (owes_block R t M)
  unfolding owes_block rename_mono
  block_formed t m r =
      let p = past_sends (heaps 4 []) g in
      z_imp r (z_ex_h (z_ex_h (z_and (z_block (mono_sent t p) at_1 (term_sent m c p)) (z_join at_2 at_1 at_0))))

  pub owed_formed : (step : Move) {R : FormulaTree}
      → IsFormedMove file g step
      → IsFormedFormula file (at_state g) R
      → IsFormedOwed file (at_state g) (owed step R)
  unfolding owed rename_mono
  owed_formed (move_alloc t N) s r = tt
  owed_formed (move_get t M) s r =
      let bound = rename_mono (past 2) t in
      let p = past_sends (in_heap ∷ in_heap ∷ value bound ∷ in_heap ∷ in_heap ∷ []) g in
      let it =
      subst (λ (u : MonoTree). IsFormedTerm file (in_heap ∷ in_heap ∷ value bound ∷ in_heap ∷ in_heap ∷ g) (t_var 2) (sh_mono u)) (twice t)
      (variable (heaps 2 []) (in_heap ∷ in_heap ∷ g) bound) in
      z_imp r (z_ex_t (mono_sent s.0 (past_sends (heaps 2 []) g))
      (z_ex_h (z_ex_h (z_and (z_cell (mono_sent s.0 p) at_1 (term_sent s.1 c p) it) (z_join at_3 at_1 at_0)))))
  owed_formed (move_set t M N) s r = block_formed s.0 s.1 r
  owed_formed (move_free t M) s r = block_formed s.0 s.1 r
  owed_formed (move_run (triple P z Q)) (z_triple p t q) r =
      z_imp r (z_ex_h (z_ex_h (z_and (z_join at_2 at_1 at_0) (formula_sent p c (pre_sent 4 at_1 (past_sends (heaps 4 []) g))))))
  owed_formed (move_claim F) s r = z_imp r s

  pub after_formed : (step : Move) {R : FormulaTree}
      → IsFormedMove file g step
      → IsFormedFormula file (at_state g) R
      → IsFormedFormula file (at_state (value (mono_of step) ∷ g)) (after step R)
  unfolding after rename_mono
  after_formed (move_alloc t N) s r =
      let v = value m_loc in
      let p = past_sends (heaps 4 (v ∷ [])) g in
      z_ex_h (z_and (formula_sent r c (heaps_sent 4 at_0 at_2 (past_sends (heaps 3 (v ∷ [])) g)))
      (z_ex_h (z_and (z_cell (mono_sent s.0 p) at_0 (variable (heaps 4 []) g m_loc) (term_sent s.1 c p)) (z_join at_2 at_1 at_0))))
  after_formed (move_get t M) s r =
      let p = past_sends (heaps 4 (value t ∷ [])) g in
      z_and (formula_sent r c (heaps_sent 3 at_0 at_1 (past_sends (heaps 2 (value t ∷ [])) g)))
      (z_ex_h (z_ex_h (z_and (z_cell (mono_sent s.0 p) at_1 (term_sent s.1 c p) (variable (heaps 4 []) g t)) (z_join at_2 at_1 at_0))))
  after_formed (move_set t M N) s r =
      let p = past_sends (heaps 6 (value (mono_of (move_set t M N)) ∷ [])) g in
      z_ex_h (z_ex_h (z_ex_h (z_ex_h (z_and (formula_sent r c (heaps_sent 7 at_3 at_5 p))
      (z_and (z_block (mono_sent s.0 p) at_2 (term_sent s.1 c p)) (z_and (z_join at_3 at_2 at_0)
      (z_and (z_cell (mono_sent s.0 p) at_1 (term_sent s.1 c p) (term_sent s.2 c p)) (z_join at_4 at_1 at_0))))))))
  after_formed (move_free t M) s r =
      let p = past_sends (heaps 4 (value (mono_of (move_free t M)) ∷ [])) g in
      z_ex_h (z_ex_h (z_and (formula_sent r c (heaps_sent 5 at_1 at_3 p)) (z_and (z_block (mono_sent s.0 p) at_0 (term_sent s.1 c p)) (z_join at_1 at_0 at_2))))
  after_formed (move_run (triple P z Q)) (z_triple p t q) r =
      z_ex_h (z_and (formula_sent r c (heaps_sent 4 at_0 at_2 (past_sends (heaps 3 (value z ∷ [])) g)))
      (z_all_h (z_all_h (z_imp (z_and (z_join at_2 at_1 at_0) (formula_sent p c (pre_sent 6 at_1 (past_sends (heaps 5 (value z ∷ [])) g))))
      (z_ex_h (z_and (z_join at_4 at_0 at_1)
      (formula_sent q c (result_sent 7 at_2 at_0 (deep (heaps 6 []) g (sh_mono z)) (past_sends (heaps 6 (value z ∷ [])) g)))))))))
  after_formed (move_claim F) s r = formula_sent s c (heaps_sent 3 at_0 at_1 (past_sends (heaps 2 (value (mono_of (move_claim F)) ∷ [])) g))

  pub branch_formed : (side : Bool) {R : FormulaTree} {M : TermTree}
      → IsFormedFormula file (at_state g) R
      → IsFormedTerm file g M (sh_mono m_bool)
      → IsFormedFormula file (at_state g) (branch R M side)
  unfolding branch rename_mono
  branch_formed side r m = z_and r (z_equal z_m_bool (term_sent m c (past_sends (heaps 2 []) g)) z_bool)

pub merge_formed : {file : FileShapes} {g : Shapes} {F G : FormulaTree}
    → IsFormedFormula file g F
    → IsFormedFormula file g G
    → IsFormedFormula file g (merge F G)
unfolding merge
merge_formed d e = z_or d e

pub last_formed : {file : FileShapes} {g : Shapes} {S Q : FormulaTree} → IsFormedFormula file g S → IsFormedFormula file g Q → IsFormedFormula file g (last S Q)
unfolding last
last_formed d e = z_imp d e

pub states_formed : StatesKeepFormed
states_formed = record {
  starts = λ file c g P d. start_formed c g d;
  owes = λ file c g step R s r. owed_formed c g step s r;
  goes_on = λ file c g step R s r. after_formed c g step s r;
  branches = λ file c g R M side r m. branch_formed c g side r m;
  ends = λ file c g R zs t M r row m d. finish_formed c zs r row m d;
  merges = λ file g F G d e. merge_formed d e;
  lasts = λ file g S Q d e. last_formed d e;
}
