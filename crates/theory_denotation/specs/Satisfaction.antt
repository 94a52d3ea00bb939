-- Truth of formulas in valuations, in which functions and computations may stand too, and what the
-- formulas of a triple say. Truth is read classically, as in worlds.
use Rattle.std.specs.Prelude.{◌≡◌, ◌∷◌, ◌⊎◌}
use Rattle.htt_syntax.specs.Trees.{MonoTree, TripleTree, FormulaTree, triple, f_tt, f_ff, f_and, f_or, f_imp, f_all_t}
use Rattle.htt_syntax.specs.Trees.{f_ex_t, f_all_h, f_ex_h, f_emp, f_cell, f_block, f_join, f_same, f_eq, f_at, f_rec}
use Rattle.theory_values.specs.Values.{Value, HasType, encoding, width}
use Rattle.theory_values.specs.Heaps.{Heap, IsHeap, IsEmpty, IsOnly, IsJoin, IsSame}
use Rattle.theory_truth.specs.TermValue.{word_of, loc_of}
use Rattle.theory_truth.specs.Truth.{NotNot, IsBlock, Recs}
use Rattle.theory_canonical.specs.Skeletons.{sk_o}
use Rattle.theory_denotation.specs.Valuations.{den_heap, den_term, Valuation, mono_in, heap_in, HeadEntries}
use Rattle.theory_denotation.specs.Denotation.{term_den, terms_den}

unfoldable pub Satisfies : Recs → HeadEntries → Valuation → FormulaTree → Type 0
Satisfies R e w f_tt = Unit {0}
Satisfies R e w f_ff = ⊥
Satisfies R e w (f_and left right) = Satisfies R e w left × Satisfies R e w right
Satisfies R e w (f_or left right) = NotNot (Satisfies R e w left ⊎ Satisfies R e w right)
Satisfies R e w (f_imp left right) = Satisfies R e w left → Satisfies R e w right
Satisfies R e w (f_all_t mono body) =
    (v : Value) → HasType v (mono_in w mono) → Satisfies R e (den_term sk_o v ∷ w) body
Satisfies R e w (f_ex_t mono body) =
    NotNot ((v : Value) × HasType v (mono_in w mono) × Satisfies R e (den_term sk_o v ∷ w) body)
Satisfies R e w (f_all_h body) = (h : Heap) → IsHeap h → Satisfies R e (den_heap h ∷ w) body
Satisfies R e w (f_ex_h body) = NotNot ((h : Heap) × IsHeap h × Satisfies R e (den_heap h ∷ w) body)
Satisfies R e w (f_emp heap) = IsEmpty (heap_in w heap)
Satisfies R e w (f_cell mono heap place value) =
    IsOnly (heap_in w heap) (loc_of (term_den e w place sk_o)) (encoding (term_den e w value sk_o))
Satisfies R e w (f_block mono heap place) =
    IsBlock (heap_in w heap) (loc_of (term_den e w place sk_o)) (width (mono_in w mono))
Satisfies R e w (f_join whole left right) = IsJoin (heap_in w whole) (heap_in w left) (heap_in w right)
Satisfies R e w (f_same left right) = IsSame (heap_in w left) (heap_in w right)
Satisfies R e w (f_eq mono left right) = term_den e w left sk_o ≡ term_den e w right sk_o
Satisfies R e w (f_at at formula) = Satisfies R e w formula
Satisfies R e w (f_rec number heap place arguments) =
    R number (word_of (term_den e w place sk_o)) (terms_den e w arguments) (heap_in w heap)

-- The precondition of a triple at a heap.
abbrev pub PreAt : Recs → HeadEntries → Valuation → TripleTree → Heap → Type 0
PreAt R e w (triple pre mono post) h = Satisfies R e (den_heap h ∷ w) pre

-- The postcondition of a triple at a result, the heap before and the heap after.
abbrev pub PostAt : Recs → HeadEntries → Valuation → TripleTree → Value → Heap → Heap → Type 0
PostAt R e w (triple pre mono post) v before after =
    Satisfies R e (den_heap after ∷ den_heap before ∷ den_term sk_o v ∷ w) post

-- The monotype of a triple's result.
abbrev pub answer_mono : Valuation → TripleTree → MonoTree
answer_mono w (triple pre mono post) = mono_in w mono
