-- Worlds that agree on the entries of a formula's sorts make it true together.
use Rattle.std.proofs.Common.{◌≡◌, ℕ, zero, suc, ◌∷◌, refl, ap, ◌⊎◌}
use Rattle.htt_syntax.specs.Trees.{MonoTree, TermTree, TermTrees, FormulaTree, m_word, m_bool, m_loc, m_unit, m_pair, m_var, t_var, t_pair, t_fst, t_snd, t_not}
use Rattle.htt_syntax.specs.Trees.{t_bin, t_eq, t_sel, t_at, no_terms, more_terms, f_tt, f_ff, f_and, f_or, f_imp, f_all_t, f_ex_t, f_all_h, f_ex_h, f_emp}
use Rattle.htt_syntax.specs.Trees.{f_cell, f_block, f_join, f_same, f_eq, f_at, f_rec}
use Rattle.theory_values.specs.Values.{Value, v_pair, HasType, encoding, width, value_of_op, value_of_not, value_of_eq, value_of_sel, value_of_fst}
use Rattle.theory_values.specs.Values.{value_of_snd}
use Rattle.theory_values.specs.Heaps.{Heap, IsHeap, IsEmpty, IsOnly, IsJoin, IsSame}
use Rattle.theory_truth.specs.Worlds.{Thing, World, th_value, th_heap, thing_at, mono_of, value_of, heap_of, mono_under}
use Rattle.theory_truth.specs.TermValue.{value_or_unit, term_value, term_values, word_of, loc_of}
use Rattle.theory_truth.specs.Truth.{NotNot, IsBlock, Recs, Holds}
use Rattle.theory_truth.specs.Predicates.{recs_of}
use Rattle.theory_truth.proofs.Renamed.{both_ways}
use Rattle.theory_logic_sorts.specs.Sorts.{Sort, Sorts, for_mono, for_value, for_heap, HasSort, SortedMono, SortedTerm, SortedTerms, SortedFormula}
use Rattle.theory_logic_substitution.specs.Reindexing.{AgreesOn}
use Rattle.theory_logic_substitution.specs.Laws.{EntriesDecide}

pub agrees_next : {g : Sorts} {w v : World} (s : Sort) (x : Thing) → AgreesOn g w v → AgreesOn (s ∷ g) (x ∷ w) (x ∷ v)
agrees_next {g = g} {w = w} {v = v} s x a = record { at = go }
  where
    go : (n : ℕ) (t : Sort) → HasSort (s ∷ g) n t → thing_at (x ∷ w) n ≡ thing_at (x ∷ v) n
    go zero t e = refl
    go (suc n) t e = a.at n t e

mono_agrees : {g : Sorts} {w v : World} → AgreesOn g w v → (t : MonoTree) → SortedMono g t → mono_under w t ≡ mono_under v t
unfolding SortedMono
mono_agrees a m_word d = refl
mono_agrees a m_bool d = refl
mono_agrees a m_loc d = refl
mono_agrees a m_unit d = refl
mono_agrees a (m_pair left right) d = λ j. m_pair (mono_agrees a left d.0 j) (mono_agrees a right d.1 j)
mono_agrees a (m_var index) d = ap mono_of (a.at index for_mono d)

pub value_agrees : {g : Sorts} {w v : World} → AgreesOn g w v → (M : TermTree) → SortedTerm g M → term_value w M ≡ term_value v M
unfolding term_value SortedTerm
value_agrees a (t_var index) d = ap value_of (a.at index for_value d)
value_agrees a (t_pair left right) d = λ j. v_pair (value_agrees a left d.0 j) (value_agrees a right d.1 j)
value_agrees a (t_fst pair) d = λ j. value_or_unit (value_of_fst (value_agrees a pair d j))
value_agrees a (t_snd pair) d = λ j. value_or_unit (value_of_snd (value_agrees a pair d j))
value_agrees a (t_not term) d = λ j. value_or_unit (value_of_not (value_agrees a term d j))
value_agrees a (t_bin op left right) d = λ j. value_or_unit (value_of_op op (value_agrees a left d.0 j) (value_agrees a right d.1 j))
value_agrees a (t_eq mono left right) d = λ j. value_or_unit (value_of_eq (mono_agrees a mono d.0 j) (value_agrees a left d.1 j) (value_agrees a right d.2 j))
value_agrees a (t_sel mono test on_true on_false) d =
    λ j. value_or_unit (value_of_sel (value_agrees a test d.0 j) (value_agrees a on_true d.1 j) (value_agrees a on_false d.2 j))
value_agrees a (t_at at term) d = value_agrees a term d
value_agrees a _ d = refl

values_agree : {g : Sorts} {w v : World} → AgreesOn g w v → (Ms : TermTrees) → SortedTerms g Ms → term_values w Ms ≡ term_values v Ms
unfolding term_values SortedTerms
values_agree a no_terms d = refl
values_agree a (more_terms first others) d = λ j. value_agrees a first d.0 j ∷ values_agree a others d.1 j

pub truth_agrees : (R : Recs) (F : FormulaTree) {g : Sorts} {w v : World} → AgreesOn g w v → SortedFormula g F → Holds R w F ≡ Holds R v F
unfolding Holds SortedFormula
truth_agrees R f_tt a d = refl
truth_agrees R f_ff a d = refl
truth_agrees R (f_and left right) a d = λ j. truth_agrees R left a d.0 j × truth_agrees R right a d.1 j
truth_agrees R (f_or left right) a d = λ j. NotNot (truth_agrees R left a d.0 j ⊎ truth_agrees R right a d.1 j)
truth_agrees R (f_imp left right) a d = λ j. truth_agrees R left a d.0 j → truth_agrees R right a d.1 j
truth_agrees R (f_all_t mono body) a d =
    λ j. (v : Value) → HasType v (mono_agrees a mono d.0 j) → truth_agrees R body (agrees_next for_value (th_value v) a) d.1 j
truth_agrees R (f_ex_t mono body) a d =
    λ j. NotNot ((v : Value) × HasType v (mono_agrees a mono d.0 j) × truth_agrees R body (agrees_next for_value (th_value v) a) d.1 j)
truth_agrees R (f_all_h body) a d = λ j. (h : Heap) → IsHeap h → truth_agrees R body (agrees_next for_heap (th_heap h) a) d j
truth_agrees R (f_ex_h body) a d = λ j. NotNot ((h : Heap) × IsHeap h × truth_agrees R body (agrees_next for_heap (th_heap h) a) d j)
truth_agrees R (f_emp heap) a d = λ j. IsEmpty (heap_of (a.at heap for_heap d j))
truth_agrees R (f_cell mono heap place value) a d =
    λ j. IsOnly (heap_of (a.at heap for_heap d.1 j)) (loc_of (value_agrees a place d.2 j)) (encoding (value_agrees a value d.3 j))
truth_agrees R (f_block mono heap place) a d = λ j.
    IsBlock (heap_of (a.at heap for_heap d.1 j)) (loc_of (value_agrees a place d.2 j)) (width (mono_agrees a mono d.0 j))
truth_agrees R (f_join whole left right) a d =
    λ j. IsJoin (heap_of (a.at whole for_heap d.0 j)) (heap_of (a.at left for_heap d.1 j)) (heap_of (a.at right for_heap d.2 j))
truth_agrees R (f_same left right) a d = λ j. IsSame (heap_of (a.at left for_heap d.0 j)) (heap_of (a.at right for_heap d.1 j))
truth_agrees R (f_eq mono left right) a d = λ j. value_agrees a left d.1 j ≡ value_agrees a right d.2 j
truth_agrees R (f_at at formula) a d = truth_agrees R formula a d
truth_agrees R (f_rec number heap place arguments) a d =
    λ j. R number (word_of (value_agrees a place d.1 j)) (values_agree a arguments d.2 j) (heap_of (a.at heap for_heap d.0 j))

pub decided : EntriesDecide
decided = record { values = value_agrees; truths = λ table a F d. both_ways (truth_agrees (recs_of table) F a d) }
