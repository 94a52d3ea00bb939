-- Truth of a formula in a world, as in classical logic. The logic of the check is constructive, so
-- "or" and "there is" say that their denial is absurd; then all laws of classical logic hold.
use Rattle.std.specs.Prelude.{◌≡◌, ℕ, List, length, ◌∷◌, ◌⊎◌}
use Rattle.htt_syntax.specs.Trees.{FormulaTree, f_tt, f_ff, f_and, f_or, f_imp, f_all_t, f_ex_t, f_all_h, f_ex_h, f_emp}
use Rattle.htt_syntax.specs.Trees.{f_cell, f_block, f_join, f_same, f_eq, f_at, f_rec}
use Rattle.theory_values.specs.Values.{Value, HasType, encoding, width}
use Rattle.theory_values.specs.Heaps.{Block, Heap, IsHeap, IsEmpty, IsOnly, IsJoin, IsSame}
use Rattle.theory_truth.specs.Worlds.{World, th_value, th_heap, heap_at, mono_under}
use Rattle.theory_truth.specs.TermValue.{term_value, term_values, word_of, loc_of}

abbrev pub NotNot : Type 0 → Type 0
NotNot A = (A → ⊥) → ⊥

-- What each recursive predicate says: its number, the index, the arguments, the heap.
abbrev pub Recs : Type 1
Recs = ℕ → ℕ → List Value → Heap → Type 0

-- The heap is exactly one block, at this location and of this width. The heap tells which block it is, so
-- "there is" needs no double negation here.
abbrev pub IsBlock : Heap → ℕ → ℕ → Type 0
IsBlock h l n = (b : Block) × (length b ≡ n) × IsOnly h l b

unfoldable pub Holds : Recs → World → FormulaTree → Type 0
Holds R w f_tt = Unit {0}
Holds R w f_ff = ⊥
Holds R w (f_and left right) = Holds R w left × Holds R w right
Holds R w (f_or left right) = NotNot (Holds R w left ⊎ Holds R w right)
Holds R w (f_imp left right) = Holds R w left → Holds R w right
Holds R w (f_all_t mono body) = (v : Value) → HasType v (mono_under w mono) → Holds R (th_value v ∷ w) body
Holds R w (f_ex_t mono body) = NotNot ((v : Value) × HasType v (mono_under w mono) × Holds R (th_value v ∷ w) body)
Holds R w (f_all_h body) = (h : Heap) → IsHeap h → Holds R (th_heap h ∷ w) body
Holds R w (f_ex_h body) = NotNot ((h : Heap) × IsHeap h × Holds R (th_heap h ∷ w) body)
Holds R w (f_emp heap) = IsEmpty (heap_at w heap)
Holds R w (f_cell mono heap place value) =
    IsOnly (heap_at w heap) (loc_of (term_value w place)) (encoding (term_value w value))
Holds R w (f_block mono heap place) =
    IsBlock (heap_at w heap) (loc_of (term_value w place)) (width (mono_under w mono))
Holds R w (f_join whole left right) = IsJoin (heap_at w whole) (heap_at w left) (heap_at w right)
Holds R w (f_same left right) = IsSame (heap_at w left) (heap_at w right)
Holds R w (f_eq mono left right) = term_value w left ≡ term_value w right
Holds R w (f_at at formula) = Holds R w formula
Holds R w (f_rec number heap place arguments) =
    R number (word_of (term_value w place)) (term_values w arguments) (heap_at w heap)
