-- A monotype put for a monotype variable is reindexing of the world.
use Rattle.std.proofs.Common.{◌≡◌, ℕ, zero, suc, ◌∷◌, Some, refl, sym, ap, ◌∙◌, ◌⊎◌}
use Rattle.std.specs.Prelude.{slice_get, nat_eq}
use Rattle.htt_syntax.specs.Trees.{MonoTree, TermTree, TermTrees, FormulaTree, m_word, m_bool, m_loc, m_unit, m_pair, m_var, t_var, t_pair, t_fst, t_snd, t_not}
use Rattle.htt_syntax.specs.Trees.{t_bin, t_eq, t_sel, t_at, no_terms, more_terms, f_tt, f_ff, f_and, f_or, f_imp, f_all_t, f_ex_t, f_all_h, f_ex_h, f_emp}
use Rattle.htt_syntax.specs.Trees.{f_cell, f_block, f_join, f_same, f_eq, f_at, f_rec}
use Rattle.theory_renaming.specs.Renaming.{Map, lift}
use Rattle.theory_values.specs.Values.{Value, v_pair, HasType, encoding, width, value_of_op, value_of_not, value_of_eq, value_of_sel, value_of_fst}
use Rattle.theory_values.specs.Values.{value_of_snd}
use Rattle.theory_values.specs.Heaps.{Heap, IsHeap, IsEmpty, IsOnly, IsJoin, IsSame}
use Rattle.theory_truth.specs.Worlds.{Thing, World, th_mono, th_value, th_heap, thing_at, mono_of, value_of, heap_of, mono_at, value_at, heap_at, mono_under}
use Rattle.theory_truth.specs.TermValue.{value_or_unit, term_value, term_values, word_of, loc_of}
use Rattle.theory_truth.specs.Truth.{NotNot, IsBlock, Recs, Holds}
use Rattle.theory_truth.specs.Predicates.{recs_of}
use Rattle.theory_truth.proofs.Renamed.{mono_renamed, both_ways}
use Rattle.theory_substitution.specs.Closing.{closing}
use Rattle.theory_logic_sorts.specs.Sorts.{Sort, Sorts, for_mono, for_value, for_heap, HasSort, SortedMono, SortedTerm, SortedTerms, SortedFormula}
use Rattle.theory_logic_axioms_true.proofs.Folded.{folded}
use Rattle.theory_logic_substitution.specs.Reindexing.{HasMore}
use Rattle.theory_substitution.specs.Monotypes.{Filling, next_filling, fill_mono, fill_term, fill_terms, fill_formula, put_mono}
use Rattle.std.proofs.lemmas.Bool.{eqb-true, eq-eqb}
use Rattle.std.specs.Prelude.{Bool, true, false, if◌then◌else◌}
use Rattle.theory_logic_substitution.specs.Laws.{MonotypesReindexTruth}

-- The filling and the map reindex: what they give means in w what the variable stands for in the whole.
pub record Fills (f : Filling) (m : Map) (g : Sorts) (w whole : World) : Type 0 where
  pub mono : (n : ℕ) → HasSort g n for_mono → mono_under w (f n) ≡ mono_at whole n
  pub value : (n : ℕ) → HasSort g n for_value → value_at w (m n) ≡ value_at whole n
  pub heap : (n : ℕ) → HasSort g n for_heap → heap_at w (m n) ≡ heap_at whole n

fills_next : {f : Filling} {m : Map} {g : Sorts} {w whole : World} (s : Sort) (y : Thing)
    → Fills f m g w whole
    → Fills (next_filling f) (lift m) (s ∷ g) (y ∷ w) (y ∷ whole)
unfolding next_filling lift
fills_next {f = f} {m = m} {g = g} {w = w} {whole = whole} s y p = record { mono = on_mono; value = on_value; heap = on_heap }
  where
    on_mono : (n : ℕ) → HasSort (s ∷ g) n for_mono → mono_under (y ∷ w) (next_filling f n) ≡ mono_at (y ∷ whole) n
    on_mono zero e = refl
    on_mono (suc n) e = mono_renamed {m = suc} {w = w} {w' = y ∷ w} (record { at = λ k. refl }) (f n) ∙ p.mono n e

    on_value : (n : ℕ) → HasSort (s ∷ g) n for_value → value_at (y ∷ w) (lift m n) ≡ value_at (y ∷ whole) n
    on_value zero e = refl
    on_value (suc n) e = p.value n e

    on_heap : (n : ℕ) → HasSort (s ∷ g) n for_heap → heap_at (y ∷ w) (lift m n) ≡ heap_at (y ∷ whole) n
    on_heap zero e = refl
    on_heap (suc n) e = p.heap n e

mono_filled : {f : Filling} {m : Map} {g : Sorts} {w whole : World}
    → Fills f m g w whole
    → (t : MonoTree)
    → SortedMono g t
    → mono_under w (fill_mono f t) ≡ mono_under whole t
unfolding SortedMono fill_mono
mono_filled p m_word d = refl
mono_filled p m_bool d = refl
mono_filled p m_loc d = refl
mono_filled p m_unit d = refl
mono_filled p (m_pair left right) d = λ j. m_pair (mono_filled p left d.0 j) (mono_filled p right d.1 j)
mono_filled p (m_var index) d = p.mono index d

value_filled : {f : Filling} {m : Map} {g : Sorts} {w whole : World}
    → Fills f m g w whole
    → (M : TermTree)
    → SortedTerm g M
    → term_value w (fill_term f m M) ≡ term_value whole M
unfolding term_value SortedTerm fill_term
value_filled p (t_var index) d = p.value index d
value_filled p (t_pair left right) d = λ j. v_pair (value_filled p left d.0 j) (value_filled p right d.1 j)
value_filled {w = w} p (t_fst pair) d = folded w _ ∙ (λ j. value_or_unit (value_of_fst (value_filled p pair d j)))
value_filled {w = w} p (t_snd pair) d = folded w _ ∙ (λ j. value_or_unit (value_of_snd (value_filled p pair d j)))
value_filled {w = w} p (t_not term) d = folded w _ ∙ (λ j. value_or_unit (value_of_not (value_filled p term d j)))
value_filled {w = w} p (t_bin op left right) d = folded w _ ∙ (λ j. value_or_unit (value_of_op op (value_filled p left d.0 j) (value_filled p right d.1 j)))
value_filled {w = w} p (t_eq mono left right) d =
    folded w _ ∙ (λ j. value_or_unit (value_of_eq (mono_filled p mono d.0 j) (value_filled p left d.1 j) (value_filled p right d.2 j)))
value_filled {w = w} p (t_sel mono test on_true on_false) d =
    folded w _
    ∙ (λ j. value_or_unit (value_of_sel (value_filled p test d.0 j) (value_filled p on_true d.1 j) (value_filled p on_false d.2 j)))
value_filled p (t_at at term) d = value_filled p term d
value_filled p _ d = refl

values_filled : {f : Filling} {m : Map} {g : Sorts} {w whole : World}
    → Fills f m g w whole
    → (Ms : TermTrees)
    → SortedTerms g Ms
    → term_values w (fill_terms f m Ms) ≡ term_values whole Ms
unfolding term_values SortedTerms fill_terms
values_filled p no_terms d = refl
values_filled p (more_terms first others) d = λ j. value_filled p first d.0 j ∷ values_filled p others d.1 j

truth_filled : (R : Recs) (F : FormulaTree) {f : Filling} {m : Map} {g : Sorts} {w whole : World}
    → Fills f m g w whole
    → SortedFormula g F
    → Holds R w (fill_formula f m F) ≡ Holds R whole F
unfolding Holds SortedFormula fill_formula
truth_filled R f_tt p d = refl
truth_filled R f_ff p d = refl
truth_filled R (f_and left right) p d = λ j. truth_filled R left p d.0 j × truth_filled R right p d.1 j
truth_filled R (f_or left right) p d = λ j. NotNot (truth_filled R left p d.0 j ⊎ truth_filled R right p d.1 j)
truth_filled R (f_imp left right) p d = λ j. truth_filled R left p d.0 j → truth_filled R right p d.1 j
truth_filled R (f_all_t mono body) p d =
    λ j. (v : Value) → HasType v (mono_filled p mono d.0 j) → truth_filled R body (fills_next for_value (th_value v) p) d.1 j
truth_filled R (f_ex_t mono body) p d =
    λ j. NotNot ((v : Value) × HasType v (mono_filled p mono d.0 j) × truth_filled R body (fills_next for_value (th_value v) p) d.1 j)
truth_filled R (f_all_h body) p d = λ j. (h : Heap) → IsHeap h → truth_filled R body (fills_next for_heap (th_heap h) p) d j
truth_filled R (f_ex_h body) p d = λ j. NotNot ((h : Heap) × IsHeap h × truth_filled R body (fills_next for_heap (th_heap h) p) d j)
truth_filled R (f_emp heap) p d = λ j. IsEmpty (p.heap heap d j)
truth_filled R (f_cell mono heap place value) p d =
    λ j. IsOnly (p.heap heap d.1 j) (loc_of (value_filled p place d.2 j)) (encoding (value_filled p value d.3 j))
truth_filled R (f_block mono heap place) p d = λ j.
    IsBlock (p.heap heap d.1 j) (loc_of (value_filled p place d.2 j)) (width (mono_filled p mono d.0 j))
truth_filled R (f_join whole left right) p d = λ j. IsJoin (p.heap whole d.0 j) (p.heap left d.1 j) (p.heap right d.2 j)
truth_filled R (f_same left right) p d = λ j. IsSame (p.heap left d.0 j) (p.heap right d.1 j)
truth_filled R (f_eq mono left right) p d = λ j. value_filled p left d.1 j ≡ value_filled p right d.2 j
truth_filled R (f_at at formula) p d = truth_filled R formula p d
truth_filled R (f_rec number heap place arguments) p d =
    λ j. R number (word_of (value_filled p place d.1 j)) (values_filled p arguments d.2 j) (p.heap heap d.0 j)

sort_of : {s t : Sort} → Some s ≡ Some t → s ≡ t
sort_of e = cc

mono_no_value : for_mono ≡ for_value → ⊥
mono_no_value e = cc

mono_no_heap : for_mono ≡ for_heap → ⊥
mono_no_heap e = cc

chosen : (w whole : World) (mono : MonoTree) (x n : ℕ)
    → HasMore x (th_mono (mono_under w mono)) w whole
    → (b : Bool)
    → nat_eq n x ≡ b
    → mono_under w (if b then mono else m_var (closing x n)) ≡ mono_at whole n
chosen w whole mono x n more true e = ap mono_of (sym more.here) ∙ ap (mono_at whole) (sym (eqb-true n x e))
chosen w whole mono x n more false e = ap mono_of (sym (more.others n (λ q. let f : true ≡ false = sym (eq-eqb n x q) ∙ e in cc)))

elsewhere : {x : ℕ} {t : Thing} {w whole : World} (g : Sorts) (n : ℕ) (s : Sort)
    → HasMore x t w whole
    → HasSort g x for_mono
    → (for_mono ≡ s → ⊥)
    → HasSort g n s
    → thing_at w (closing x n) ≡ thing_at whole n
elsewhere g n s more sort apart e = sym (more.others n (λ q. apart (sort_of (sym sort ∙ ap (slice_get g) (sym q) ∙ e))))

put_fills : (mono : MonoTree) (x : ℕ) (g : Sorts) {w whole : World}
    → HasMore x (th_mono (mono_under w mono)) w whole
    → HasSort g x for_mono
    → Fills (put_mono mono x) (closing x) g w whole
unfolding put_mono
put_fills mono x g {w = w} {whole = whole} more sort = record {
  mono = λ n e. chosen w whole mono x n more (nat_eq n x) refl;
  value = λ n e. ap value_of (elsewhere g n for_value more sort mono_no_value e);
  heap = λ n e. ap heap_of (elsewhere g n for_heap more sort mono_no_heap e);
}

pub monotypes : MonotypesReindexTruth
monotypes = record {
  values = λ mono x g more sort M d. value_filled (put_fills mono x g more sort) M d;
  truths = λ table mono x g more sort F d. both_ways (truth_filled (recs_of table) F (put_fills mono x g more sort) d);
}
