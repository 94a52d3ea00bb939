-- A term put for a value variable is reindexing of the world.
use Rattle.std.proofs.Common.{◌≡◌, ◌≢◌, ℕ, zero, suc, ◌∷◌, Some, refl, sym, ap, ◌∙◌, ◌⊎◌}
use Rattle.std.specs.Prelude.{slice_get}
use Rattle.htt_syntax.specs.Trees.{MonoTree, TermTree, TermTrees, FormulaTree, m_word, m_bool, m_loc, m_unit, m_pair, m_var, t_fst, t_snd, t_not, t_bin, t_eq}
use Rattle.htt_syntax.specs.Trees.{t_sel}
use Rattle.theory_renaming.specs.Renaming.{lift, rename_mono}
use Rattle.theory_values.specs.Values.{Value, v_pair, HasType, encoding, width, value_of_op, value_of_not, value_of_eq, value_of_sel, value_of_fst}
use Rattle.theory_values.specs.Values.{value_of_snd}
use Rattle.theory_values.specs.Heaps.{Heap, IsHeap, IsEmpty, IsOnly, IsJoin, IsSame}
use Rattle.theory_truth.specs.Worlds.{Thing, World, th_value, th_heap, thing_at, mono_of, value_of, heap_of, value_at, heap_at, mono_under}
use Rattle.theory_truth.specs.TermValue.{value_or_unit, term_value, term_values, word_of, loc_of}
use Rattle.theory_truth.specs.Truth.{NotNot, IsBlock, Recs, Holds}
use Rattle.theory_truth.specs.Predicates.{recs_of}
use Rattle.theory_truth.proofs.Renamed.{value_renamed, both_ways}
use Rattle.theory_canonical.specs.Skeletons.{Skeleton, sk_o}
use Rattle.theory_substitution.specs.Closing.{closing, up}
use Rattle.theory_logic_sorts.specs.Sorts.{Sort, Sorts, for_mono, for_value, for_heap, HasSort, SortedMono, SortedTerm, SortedTerms, SortedFormula}
use Rattle.theory_logic_axioms_true.proofs.Folded.{folded}
use Rattle.theory_logic_substitution.specs.Reindexing.{HasMore}
use Rattle.theory_substitution.specs.Substitution.{Kept, SubTerm, SubTerms, SubFormula, k_var, k_val, k_made, k_fix, k_app, k_inst, u_kept, u_reduced, u_word}
use Rattle.theory_substitution.specs.Substitution.{u_bool, u_loc, u_unit, u_pair, u_fst, u_snd, u_not, u_bin, u_eq, u_sel, u_lam, u_lam_t, u_do, u_no_terms}
use Rattle.theory_substitution.specs.Substitution.{u_more_terms, u_f_tt, u_f_ff, u_f_and, u_f_or, u_f_imp, u_f_all_t, u_f_ex_t, u_f_all_h, u_f_ex_h, u_f_emp}
use Rattle.theory_substitution.specs.Substitution.{u_f_cell, u_f_block, u_f_join, u_f_same, u_f_eq, u_f_rec}
use Rattle.theory_logic_sorts.proofs.Substituted.{IsVariable, is_variable, reduced_at_o}
use Rattle.theory_logic_substitution.specs.Laws.{TermsReindex}

-- What is known of the variable x, and of the world in which it stands for the value of the new term.
pub record Put (new : TermTree) (x : ℕ) (g : Sorts) (w whole : World) : Type 0 where
  pub more : HasMore x (th_value (term_value w new)) w whole
  pub sort : HasSort g x for_value

pub put_next : {new : TermTree} {x : ℕ} {g : Sorts} {w whole : World} (s : Sort) (y : Thing)
    → Put new x g w whole
    → Put (up new) (suc x) (s ∷ g) (y ∷ w) (y ∷ whole)
unfolding closing lift
put_next {new = new} {x = x} {g = g} {w = w} {whole = whole} s y p = record {
  more = record { here = p.more.here ∙ ap th_value (sym (value_renamed (record { at = λ n. refl }) new)); others = go };
  sort = p.sort;
}
  where
    go : (n : ℕ) → n ≢ suc x → thing_at (y ∷ whole) n ≡ thing_at (y ∷ w) (closing (suc x) n)
    go zero e = refl
    go (suc n) e = p.more.others n (λ q. e (ap suc q))

sort_of : {s t : Sort} → Some s ≡ Some t → s ≡ t
sort_of e = cc

value_no_mono : for_value ≡ for_mono → ⊥
value_no_mono e = cc

value_no_heap : for_value ≡ for_heap → ⊥
value_no_heap e = cc

elsewhere : {new : TermTree} {x : ℕ} {g : Sorts} {w whole : World} (n : ℕ) (s : Sort)
    → Put new x g w whole
    → (for_value ≡ s → ⊥)
    → HasSort g n s
    → thing_at whole n ≡ thing_at w (closing x n)
elsewhere {g = g} n s p apart e = p.more.others n (λ q. apart (sort_of (sym p.sort ∙ ap (slice_get g) (sym q) ∙ e)))

heap_put : {new : TermTree} {x : ℕ} {g : Sorts} {w whole : World} (n : ℕ)
    → Put new x g w whole
    → HasSort g n for_heap
    → heap_at w (closing x n) ≡ heap_at whole n
heap_put n p e = ap heap_of (sym (elsewhere n for_heap p value_no_heap e))

mono_put : {new : TermTree} {x : ℕ} {g : Sorts} {w whole : World}
    → Put new x g w whole
    → (t : MonoTree)
    → SortedMono g t
    → mono_under w (rename_mono (closing x) t) ≡ mono_under whole t
unfolding SortedMono rename_mono
mono_put p m_word d = refl
mono_put p m_bool d = refl
mono_put p m_loc d = refl
mono_put p m_unit d = refl
mono_put p (m_pair left right) d = λ j. m_pair (mono_put p left d.0 j) (mono_put p right d.1 j)
mono_put p (m_var index) d = ap mono_of (sym (elsewhere index for_mono p value_no_mono d))

kept_put : {new : TermTree} {s : Skeleton} {x : ℕ} {g : Sorts} {w whole : World} {M R : TermTree}
    → Put new x g w whole
    → Kept new s x M R
    → term_value w R ≡ term_value whole M
unfolding term_value
kept_put p (k_var {index = index} e) = ap value_of (sym (p.more.others index e))
kept_put p k_val = refl
kept_put p (k_made q) = refl
kept_put p (k_fix q) = refl
kept_put p (k_app k q) = refl
kept_put p (k_inst k) = refl

variable_put : {new : TermTree} {x : ℕ} {g : Sorts} {w whole : World} {M R : TermTree}
    → Put new x g w whole
    → IsVariable x new M R
    → term_value w R ≡ term_value whole M
unfolding term_value
variable_put {whole = whole} p (is_variable e) = ap value_of (sym p.more.here) ∙ ap (value_at whole) (sym e)

pub value_put : {new : TermTree} {s : Skeleton} {x : ℕ} {g : Sorts} {w whole : World} {M R : TermTree}
    → SubTerm new s x M R
    → s ≡ sk_o
    → Put new x g w whole
    → SortedTerm g M
    → term_value w R ≡ term_value whole M
unfolding term_value SortedTerm
value_put (u_kept k) q p d = kept_put p k
value_put (u_reduced r) q p d = variable_put p (reduced_at_o r q).1
value_put u_word q p d = refl
value_put u_bool q p d = refl
value_put u_loc q p d = refl
value_put u_unit q p d = refl
value_put (u_pair a b) q p d = let e = value_put a q p d.0 in let f = value_put b q p d.1 in λ j. v_pair (e j) (f j)
value_put {w = w} (u_fst {pair' = pair'} a) q p d = let e = value_put a q p d in folded w (t_fst pair') ∙ (λ j. value_or_unit (value_of_fst (e j)))
value_put {w = w} (u_snd {pair' = pair'} a) q p d = let e = value_put a q p d in folded w (t_snd pair') ∙ (λ j. value_or_unit (value_of_snd (e j)))
value_put {w = w} (u_not {term' = term'} a) q p d = let e = value_put a q p d in folded w (t_not term') ∙ (λ j. value_or_unit (value_of_not (e j)))
value_put {w = w} (u_bin {op = op} {left' = left'} {right' = right'} a b) q p d =
    let e = value_put a q p d.0 in
    let f = value_put b q p d.1 in folded w (t_bin op left' right') ∙ (λ j. value_or_unit (value_of_op op (e j) (f j)))
value_put {x = x} {w = w} (u_eq {mono = mono} {left' = left'} {right' = right'} a b) q p d =
    let t = mono_put p mono d.0 in
    let e = value_put a q p d.1 in
    let f = value_put b q p d.2 in
    folded w (t_eq (rename_mono (closing x) mono) left' right') ∙ (λ j. value_or_unit (value_of_eq (t j) (e j) (f j)))
value_put {x = x} {w = w} (u_sel {mono = mono} {test' = test'} {on_true' = on_true'} {on_false' = on_false'} a b c) q p d =
    let e = value_put a q p d.0 in
    let f = value_put b q p d.1 in
    let g = value_put c q p d.2 in
    folded w (t_sel (rename_mono (closing x) mono) test' on_true' on_false') ∙ (λ j. value_or_unit (value_of_sel (e j) (f j) (g j)))
value_put (u_lam a) q p d = refl
value_put (u_lam_t a) q p d = refl
value_put (u_do a) q p d = refl

values_put : {new : TermTree} {s : Skeleton} {x : ℕ} {g : Sorts} {w whole : World} {Ms Rs : TermTrees}
    → SubTerms new s x Ms Rs
    → s ≡ sk_o
    → Put new x g w whole
    → SortedTerms g Ms
    → term_values w Rs ≡ term_values whole Ms
unfolding term_values SortedTerms
values_put u_no_terms q p d = refl
values_put (u_more_terms a b) q p d = let e = value_put a q p d.0 in let f = values_put b q p d.1 in λ j. e j ∷ f j

-- truth is equal as a type
pub truth_put : (R : Recs) {new : TermTree} {s : Skeleton} {x : ℕ} {F G : FormulaTree}
    → SubFormula new s x F G
    → {g : Sorts} {w whole : World}
    → s ≡ sk_o
    → Put new x g w whole
    → SortedFormula g F
    → Holds R w G ≡ Holds R whole F
unfolding Holds SortedFormula
truth_put R u_f_tt q p d = refl
truth_put R u_f_ff q p d = refl
truth_put R (u_f_and a b) q p d = λ j. truth_put R a q p d.0 j × truth_put R b q p d.1 j
truth_put R (u_f_or a b) q p d = λ j. NotNot (truth_put R a q p d.0 j ⊎ truth_put R b q p d.1 j)
truth_put R (u_f_imp a b) q p d = λ j. truth_put R a q p d.0 j → truth_put R b q p d.1 j
truth_put R (u_f_all_t {mono = mono} a) q p d = λ j. (v : Value) → HasType v (mono_put p mono d.0 j) → truth_put R a q (put_next for_value (th_value v) p) d.1 j
truth_put R (u_f_ex_t {mono = mono} a) q p d =
    λ j. NotNot ((v : Value) × HasType v (mono_put p mono d.0 j) × truth_put R a q (put_next for_value (th_value v) p) d.1 j)
truth_put R (u_f_all_h a) q p d = λ j. (h : Heap) → IsHeap h → truth_put R a q (put_next for_heap (th_heap h) p) d j
truth_put R (u_f_ex_h a) q p d = λ j. NotNot ((h : Heap) × IsHeap h × truth_put R a q (put_next for_heap (th_heap h) p) d j)
truth_put R (u_f_emp {heap = heap}) q p d = λ j. IsEmpty (heap_put heap p d j)
truth_put R (u_f_cell {mono = mono} {heap = heap} a b) q p d =
    λ j. IsOnly (heap_put heap p d.1 j) (loc_of (value_put a q p d.2 j)) (encoding (value_put b q p d.3 j))
truth_put R (u_f_block {mono = mono} {heap = heap} a) q p d =
    λ j. IsBlock (heap_put heap p d.1 j) (loc_of (value_put a q p d.2 j)) (width (mono_put p mono d.0 j))
truth_put R (u_f_join {whole = k} {left = left} {right = right}) q p d = λ j. IsJoin (heap_put k p d.0 j) (heap_put left p d.1 j) (heap_put right p d.2 j)
truth_put R (u_f_same {left = left} {right = right}) q p d = λ j. IsSame (heap_put left p d.0 j) (heap_put right p d.1 j)
truth_put R (u_f_eq {mono = mono} a b) q p d = λ j. value_put a q p d.1 j ≡ value_put b q p d.2 j
truth_put R (u_f_rec {number = number} {heap = heap} a b) q p d =
    λ j. R number (word_of (value_put a q p d.1 j)) (values_put b q p d.2 j) (heap_put heap p d.0 j)

pub put_first : (new : TermTree) (g : Sorts) (w : World) → Put new zero (for_value ∷ g) w (th_value (term_value w new) ∷ w)
unfolding closing
put_first new g w = record { more = record { here = refl; others = go }; sort = refl }
  where
    go : (n : ℕ) → n ≢ zero → thing_at (th_value (term_value w new) ∷ w) n ≡ thing_at w (closing zero n)
    go zero e = absurd (e refl)
    go (suc n) e = refl

pub terms : TermsReindex
terms = record {
  values = λ new x g more sort M R s d. value_put s refl (record { more = more; sort = sort }) d;
  truths = λ table new x g more sort F R s d. both_ways (truth_put (recs_of table) s refl (record { more = more; sort = sort }) d);
  innermost = λ table new g w F R s d. both_ways (truth_put (recs_of table) s refl (put_first new g w) d);
}
