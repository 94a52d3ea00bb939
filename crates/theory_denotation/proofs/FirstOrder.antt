-- Where all term variables are of monotypes, denotation and truth are those of the world.
use Rattle.std.proofs.Common.{◌≡◌, ℕ, zero, suc, List, [], ◌∷◌, refl, sym, ap, ◌∙◌, subst, ◌⊎◌}
use Rattle.htt_syntax.specs.Trees.{MonoTree, TermTree, TermTrees, FormulaTree, m_word, m_bool, m_loc, m_unit, m_pair, m_var, t_var}
use Rattle.theory_values.specs.Values.{Value, v_pair, HasType, encoding, width, value_of_op, value_of_not, value_of_eq, value_of_sel, value_of_fst}
use Rattle.theory_values.specs.Values.{value_of_snd}
use Rattle.theory_values.specs.Heaps.{Heap, IsHeap, IsEmpty, IsOnly, IsJoin, IsSame}
use Rattle.theory_truth.specs.Worlds.{Thing, World, th_mono, th_value, th_heap, thing_at, mono_of, value_of, heap_of, mono_under, heap_at}
use Rattle.theory_truth.specs.TermValue.{value_or_unit, term_value, term_values, word_of, loc_of}
use Rattle.theory_truth.specs.Truth.{NotNot, IsBlock, Recs, Holds}
use Rattle.theory_truth.specs.Predicates.{recs_of}
use Rattle.theory_truth.proofs.Renamed.{both_ways}
use Rattle.theory_canonical.specs.Skeletons.{Skeleton, sk_o, sk_arrow, sk_all}
use Rattle.theory_canonical.specs.Contexts.{Standing, as_heap, as_term, Stands, here, there, Heads}
use Rattle.theory_canonical.specs.Canonical.{IsCanonical, IsNeutral, IsCanonicalTerms, IsCanonicalFix, IsCanonicalFormula, n_word, n_bool, n_loc, n_unit}
use Rattle.theory_canonical.specs.Canonical.{n_pair, n_fst, n_snd, n_not, n_bin, n_eq, n_sel, n_neutral, e_var, e_val, e_made, e_fix, e_app, e_inst, n_no_terms}
use Rattle.theory_canonical.specs.Canonical.{n_more_terms, n_param, n_body, n_tt, n_ff, n_and, n_or, n_imp, n_all_t, n_ex_t, n_all_h, n_ex_h, n_emp, n_cell}
use Rattle.theory_canonical.specs.Canonical.{n_block, n_join, n_same, n_equal, n_rec}
use Rattle.theory_denotation.specs.Valuations.{entry_at, value_of_entry, mono_of_entry, heap_of_entry, mono_in, heap_in, HeadEntries}
use Rattle.theory_denotation.specs.Denotation.{term_den, terms_den}
use Rattle.theory_denotation.specs.Satisfaction.{Satisfies}
use Rattle.theory_denotation.specs.Valued.{EndsInRun, ends_c, ends_arrow, ends_all, HeadsRun, OnlyValues, entry_of_thing, valuation_of}
use Rattle.theory_denotation.specs.Laws.{FirstOrderAgrees}

thing_stands : (w : World) (n : ℕ) → entry_at (valuation_of w) n ≡ entry_of_thing (thing_at w n)
thing_stands [] n = refl
thing_stands (x ∷ w) zero = refl
thing_stands (x ∷ w) (suc n) = thing_stands w n

value_thing : (x : Thing) → value_of_entry (entry_of_thing x) ≡ value_of x
value_thing (th_mono t) = refl
value_thing (th_value v) = refl
value_thing (th_heap h) = refl

mono_thing : (x : Thing) → mono_of_entry (entry_of_thing x) ≡ mono_of x
mono_thing (th_mono t) = refl
mono_thing (th_value v) = refl
mono_thing (th_heap h) = refl

heap_thing : (x : Thing) → heap_of_entry (entry_of_thing x) ≡ heap_of x
heap_thing (th_mono t) = refl
heap_thing (th_value v) = refl
heap_thing (th_heap h) = refl

pub heap_first : (w : World) (n : ℕ) → heap_in (valuation_of w) n ≡ heap_at w n
heap_first w n = ap heap_of_entry (thing_stands w n) ∙ heap_thing (thing_at w n)

pub mono_first : (w : World) (t : MonoTree) → mono_in (valuation_of w) t ≡ mono_under w t
mono_first w m_word = refl
mono_first w m_bool = refl
mono_first w m_loc = refl
mono_first w m_unit = refl
mono_first w (m_pair t u) = λ j. m_pair (mono_first w t j) (mono_first w u j)
mono_first w (m_var index) = ap mono_of_entry (thing_stands w index) ∙ mono_thing (thing_at w index)

-- A head is a variable of a monotype, or it ends in a computation.
data FirstOrderHead : TermTree → Skeleton → Type 0 where
  head_var : {index : ℕ} → FirstOrderHead (t_var index) sk_o
  head_runs : {term : TermTree} {s : Skeleton} → EndsInRun s → FirstOrderHead term s

fix_runs : {heads : Heads} {g : List Standing} {whole s : Skeleton} {fix : _} → IsCanonicalFix heads g whole fix s → EndsInRun s
fix_runs (n_param ty q others) = ends_arrow (fix_runs others)
fix_runs (n_body spec comp) = ends_c

applied_head : {function : TermTree} {s t : Skeleton} → FirstOrderHead function (sk_arrow s t) → EndsInRun t
applied_head (head_runs (ends_arrow r)) = r

instance_head : {function : TermTree} {s : Skeleton} → FirstOrderHead function (sk_all s) → EndsInRun s
instance_head (head_runs (ends_all r)) = r

first_head : {heads : Heads} {g : List Standing} {term : TermTree} {s : Skeleton}
    → HeadsRun heads
    → OnlyValues g
    → IsNeutral heads g term s
    → FirstOrderHead term s
first_head h o (e_var {index = index} {s = s} d) = subst (λ u. FirstOrderHead (t_var index) u) (sym (o.at index s d)) head_var
first_head h o (e_val {number = number} {s = s} d) = head_runs (h.vals number s d)
first_head h o (e_made {number = number} {s = s} d c) = head_runs (h.made number s d)
first_head h o (e_fix d) = head_runs (fix_runs d)
first_head h o (e_app d c) = head_runs (applied_head (first_head h o d))
first_head h o (e_inst d c) = head_runs (instance_head (first_head h o d))

head_first : {term : TermTree} (e : HeadEntries) (w : World) → FirstOrderHead term sk_o → term_den e (valuation_of w) term sk_o ≡ term_value w term
unfolding term_den term_value
head_first e w (head_var {index = index}) = ap value_of_entry (thing_stands w index) ∙ value_thing (thing_at w index)
head_first e w (head_runs r) = elim r [ ]

pub value_first : {heads : Heads} {g : List Standing} {term : TermTree} (e : HeadEntries) (w : World)
    → HeadsRun heads
    → OnlyValues g
    → IsCanonical heads g term sk_o
    → term_den e (valuation_of w) term sk_o ≡ term_value w term
unfolding term_den term_value
value_first e w h o n_word = refl
value_first e w h o n_bool = refl
value_first e w h o n_loc = refl
value_first e w h o n_unit = refl
value_first e w h o (n_pair a b) = λ j. v_pair (value_first e w h o a j) (value_first e w h o b j)
value_first e w h o (n_fst a q) = λ j. value_or_unit (value_of_fst (value_first e w h o a j))
value_first e w h o (n_snd a q) = λ j. value_or_unit (value_of_snd (value_first e w h o a j))
value_first e w h o (n_not a q) = λ j. value_or_unit (value_of_not (value_first e w h o a j))
value_first e w h o (n_bin {op = op} a b q) = λ j. value_or_unit (value_of_op op (value_first e w h o a j) (value_first e w h o b j))
value_first e w h o (n_eq {mono = mono} t a b q) = λ j. value_or_unit (value_of_eq (mono_first w mono j) (value_first e w h o a j) (value_first e w h o b j))
value_first e w h o (n_sel t a b c q) = λ j. value_or_unit (value_of_sel (value_first e w h o a j) (value_first e w h o b j) (value_first e w h o c j))
value_first e w h o (n_neutral d) = head_first e w (first_head h o d)

pub values_first : {heads : Heads} {g : List Standing} {terms : TermTrees} (e : HeadEntries) (w : World)
    → HeadsRun heads
    → OnlyValues g
    → IsCanonicalTerms heads g terms
    → terms_den e (valuation_of w) terms ≡ term_values w terms
unfolding term_den term_values
values_first e w h o n_no_terms = refl
values_first e w h o (n_more_terms a b) = λ j. value_first e w h o a j ∷ values_first e w h o b j

only_next : {g : List Standing} → OnlyValues g → OnlyValues (as_term sk_o ∷ g)
only_next {g = g} o = record { at = go }
  where
    go : (n : ℕ) (s : Skeleton) → Stands (as_term sk_o ∷ g) n (as_term s) → s ≡ sk_o
    go zero s here = refl
    go (suc n) s (there d) = o.at n s d

only_heap : {g : List Standing} → OnlyValues g → OnlyValues (as_heap ∷ g)
only_heap {g = g} o = record { at = go }
  where
    go : (n : ℕ) (s : Skeleton) → Stands (as_heap ∷ g) n (as_term s) → s ≡ sk_o
    go zero s d = elim d [ ]
    go (suc n) s (there d) = o.at n s d

pub truth_first : (R : Recs) {heads : Heads} {g : List Standing} {formula : FormulaTree} (e : HeadEntries) (w : World)
    → HeadsRun heads
    → OnlyValues g
    → IsCanonicalFormula heads g formula
    → Satisfies R e (valuation_of w) formula ≡ Holds R w formula
unfolding Satisfies Holds
truth_first R e w h o n_tt = refl
truth_first R e w h o n_ff = refl
truth_first R e w h o (n_and a b) = λ j. truth_first R e w h o a j × truth_first R e w h o b j
truth_first R e w h o (n_or a b) = λ j. NotNot (truth_first R e w h o a j ⊎ truth_first R e w h o b j)
truth_first R e w h o (n_imp a b) = λ j. truth_first R e w h o a j → truth_first R e w h o b j
truth_first R e w h o (n_all_t {mono = mono} t a) = λ j. (v : Value) → HasType v (mono_first w mono j) → truth_first R e (th_value v ∷ w) h (only_next o) a j
truth_first R e w h o (n_ex_t {mono = mono} t a) =
    λ j. NotNot ((v : Value) × HasType v (mono_first w mono j) × truth_first R e (th_value v ∷ w) h (only_next o) a j)
truth_first R e w h o (n_all_h a) = λ j. (k : Heap) → IsHeap k → truth_first R e (th_heap k ∷ w) h (only_heap o) a j
truth_first R e w h o (n_ex_h a) = λ j. NotNot ((k : Heap) × IsHeap k × truth_first R e (th_heap k ∷ w) h (only_heap o) a j)
truth_first R e w h o (n_emp {heap = heap} d) = λ j. IsEmpty (heap_first w heap j)
truth_first R e w h o (n_cell {heap = heap} t d a b) = λ j. IsOnly (heap_first w heap j) (loc_of (value_first e w h o a j)) (encoding (value_first e w h o b j))
truth_first R e w h o (n_block {mono = mono} {heap = heap} t d a) =
    λ j. IsBlock (heap_first w heap j) (loc_of (value_first e w h o a j)) (width (mono_first w mono j))
truth_first R e w h o (n_join {whole = whole} {left = left} {right = right} a b c) =
    λ j. IsJoin (heap_first w whole j) (heap_first w left j) (heap_first w right j)
truth_first R e w h o (n_same {left = left} {right = right} a b) = λ j. IsSame (heap_first w left j) (heap_first w right j)
truth_first R e w h o (n_equal t a b) = λ j. value_first e w h o a j ≡ value_first e w h o b j
truth_first R e w h o (n_rec {number = number} {heap = heap} d a b) =
    λ j. R number (word_of (value_first e w h o a j)) (values_first e w h o b j) (heap_first w heap j)

pub agrees : FirstOrderAgrees
agrees = record {
  monos = mono_first;
  values = λ heads e g w term h o d. value_first e w h o d;
  truths = λ table heads e g w formula h o d. both_ways (truth_first (recs_of table) e w h o d);
}
