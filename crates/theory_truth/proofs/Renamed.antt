-- A renamed phrase means in one world what the phrase means in the other.
use Rattle.std.proofs.Common.{◌≡◌, ℕ, zero, suc, ◌∷◌, refl, sym, ap, subst, ◌⊎◌, ◌↔◌}
use Rattle.htt_syntax.specs.Trees.{MonoTree, TermTree, FormulaTree, TermTrees, m_word, m_bool, m_loc, m_unit, m_pair, m_var, t_var, t_val, t_def, t_app, t_inst}
use Rattle.htt_syntax.specs.Trees.{t_lam, t_lam_t, t_do, t_fix, t_word, t_bool, t_loc, t_unit, t_pair, t_fst, t_snd, t_not, t_bin, t_eq, t_sel, t_ann, t_made}
use Rattle.htt_syntax.specs.Trees.{t_at, f_tt, f_ff, f_and, f_or, f_imp, f_all_t, f_ex_t, f_all_h, f_ex_h, f_emp, f_cell, f_block, f_join, f_same, f_eq, f_at}
use Rattle.htt_syntax.specs.Trees.{f_rec, no_terms, more_terms}
use Rattle.theory_renaming.specs.Renaming.{Map, lift, rename_mono, rename_term, rename_formula, rename_terms}
use Rattle.theory_values.specs.Values.{Value, v_pair, HasType, encoding, width, value_of_op, value_of_not, value_of_eq, value_of_sel, value_of_fst}
use Rattle.theory_values.specs.Values.{value_of_snd}
use Rattle.theory_values.specs.Heaps.{Heap, IsHeap, IsEmpty, IsOnly, IsJoin, IsSame}
use Rattle.theory_truth.specs.Worlds.{Thing, World, th_value, th_heap, thing_at, mono_of, value_of, heap_of, mono_under}
use Rattle.theory_truth.specs.TermValue.{value_or_unit, term_value, term_values, word_of, loc_of}
use Rattle.theory_truth.specs.Truth.{NotNot, IsBlock, Recs, Holds}
use Rattle.theory_truth.specs.Predicates.{recs_of}
use Rattle.theory_truth.specs.Laws.{Agrees, RenamingKeepsTruth}

pub agrees_next : {m : Map} {w w' : World} (x : Thing) → Agrees m w w' → Agrees (lift m) (x ∷ w) (x ∷ w')
unfolding lift
agrees_next {m = m} {w = w} {w' = w'} x a = record { at = go }
  where
    go : (n : ℕ) → thing_at (x ∷ w') (lift m n) ≡ thing_at (x ∷ w) n
    go zero = refl
    go (suc n) = a.at n

pub mono_renamed : {m : Map} {w w' : World} → Agrees m w w' → (t : MonoTree) → mono_under w' (rename_mono m t) ≡ mono_under w t
unfolding rename_mono
mono_renamed a m_word = refl
mono_renamed a m_bool = refl
mono_renamed a m_loc = refl
mono_renamed a m_unit = refl
mono_renamed a (m_pair left right) = λ j. m_pair (mono_renamed a left j) (mono_renamed a right j)
mono_renamed a (m_var index) = ap mono_of (a.at index)

pub value_renamed : {m : Map} {w w' : World} → Agrees m w w' → (M : TermTree) → term_value w' (rename_term m M) ≡ term_value w M
unfolding term_value rename_term
value_renamed a (t_var index) = ap value_of (a.at index)
value_renamed a (t_val number) = refl
value_renamed a (t_def number) = refl
value_renamed a (t_app function argument) = refl
value_renamed a (t_inst function mono) = refl
value_renamed a (t_lam body) = refl
value_renamed a (t_lam_t body) = refl
value_renamed a (t_do comp) = refl
value_renamed a (t_fix at fix) = refl
value_renamed a (t_word word) = refl
value_renamed a (t_bool truth) = refl
value_renamed a (t_loc place) = refl
value_renamed a t_unit = refl
value_renamed a (t_pair left right) = λ j. v_pair (value_renamed a left j) (value_renamed a right j)
value_renamed a (t_fst pair) = λ j. value_or_unit (value_of_fst (value_renamed a pair j))
value_renamed a (t_snd pair) = λ j. value_or_unit (value_of_snd (value_renamed a pair j))
value_renamed a (t_not term) = λ j. value_or_unit (value_of_not (value_renamed a term j))
value_renamed a (t_bin op left right) = λ j. value_or_unit (value_of_op op (value_renamed a left j) (value_renamed a right j))
value_renamed a (t_eq mono left right) = λ j. value_or_unit (value_of_eq (mono_renamed a mono j) (value_renamed a left j) (value_renamed a right j))
value_renamed a (t_sel mono test on_true on_false) =
    λ j. value_or_unit (value_of_sel (value_renamed a test j) (value_renamed a on_true j) (value_renamed a on_false j))
value_renamed a (t_ann term ty) = refl
value_renamed a (t_made number values) = refl
value_renamed a (t_at at term) = value_renamed a term

pub values_renamed : {m : Map} {w w' : World} → Agrees m w w' → (Ms : TermTrees) → term_values w' (rename_terms m Ms) ≡ term_values w Ms
unfolding term_values rename_terms
values_renamed a no_terms = refl
values_renamed a (more_terms first others) = λ j. value_renamed a first j ∷ values_renamed a others j

-- truth is equal as a type, so that no two directions are needed
pub truth_renamed : (R : Recs) (F : FormulaTree) {m : Map} {w w' : World} → Agrees m w w' → Holds R w' (rename_formula m F) ≡ Holds R w F
unfolding Holds rename_formula
truth_renamed R f_tt a = refl
truth_renamed R f_ff a = refl
truth_renamed R (f_and left right) a = λ j. truth_renamed R left a j × truth_renamed R right a j
truth_renamed R (f_or left right) a = λ j. NotNot (truth_renamed R left a j ⊎ truth_renamed R right a j)
truth_renamed R (f_imp left right) a = λ j. truth_renamed R left a j → truth_renamed R right a j
truth_renamed R (f_all_t mono body) a = λ j. (v : Value) → HasType v (mono_renamed a mono j) → truth_renamed R body (agrees_next (th_value v) a) j
truth_renamed R (f_ex_t mono body) a = λ j. NotNot ((v : Value) × HasType v (mono_renamed a mono j) × truth_renamed R body (agrees_next (th_value v) a) j)
truth_renamed R (f_all_h body) a = λ j. (h : Heap) → IsHeap h → truth_renamed R body (agrees_next (th_heap h) a) j
truth_renamed R (f_ex_h body) a = λ j. NotNot ((h : Heap) × IsHeap h × truth_renamed R body (agrees_next (th_heap h) a) j)
truth_renamed R (f_emp heap) a = λ j. IsEmpty (heap_of (a.at heap j))
truth_renamed R (f_cell mono heap place value) a = λ j. IsOnly (heap_of (a.at heap j)) (loc_of (value_renamed a place j)) (encoding (value_renamed a value j))
truth_renamed R (f_block mono heap place) a = λ j.
    IsBlock (heap_of (a.at heap j)) (loc_of (value_renamed a place j)) (width (mono_renamed a mono j))
truth_renamed R (f_join whole left right) a = λ j. IsJoin (heap_of (a.at whole j)) (heap_of (a.at left j)) (heap_of (a.at right j))
truth_renamed R (f_same left right) a = λ j. IsSame (heap_of (a.at left j)) (heap_of (a.at right j))
truth_renamed R (f_eq mono left right) a = λ j. value_renamed a left j ≡ value_renamed a right j
truth_renamed R (f_at at formula) a = truth_renamed R formula a
truth_renamed R (f_rec number heap place arguments) a = λ j. R number (word_of (value_renamed a place j)) (values_renamed a arguments j) (heap_of (a.at heap j))

-- equal types are each other's consequence
pub both_ways : {A B : Type 0} → A ≡ B → A ↔ B
both_ways e = (subst (λ (X : Type 0). X) e, subst (λ (X : Type 0). X) (sym e))

pub renamed : RenamingKeepsTruth
renamed = record { monos = mono_renamed; values = value_renamed; truths = λ table a F. both_ways (truth_renamed (recs_of table) F a) }
