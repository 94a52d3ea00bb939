-- Where monotypes are put for variables, a canonical formula says what it did.
use Rattle.std.proofs.Common.{◌≡◌, ◌≢◌, ℕ, List, true, false, nat_eq, refl, sym, ap, ◌∙◌, ◌⊎◌, inl, inr, arith}
use Rattle.htt_syntax.specs.Trees.{MonoTree, TripleTree, FormulaTree}
use Rattle.theory_renaming.specs.Renaming.{Map}
use Rattle.theory_values.specs.Values.{Value, HasType, encoding, width}
use Rattle.theory_values.specs.Heaps.{Heap, IsHeap, IsEmpty, IsOnly, IsJoin, IsSame}
use Rattle.theory_truth.specs.TermValue.{word_of, loc_of}
use Rattle.theory_truth.specs.Truth.{NotNot, IsBlock, Recs}
use Rattle.theory_truth.specs.Predicates.{recs_of}
use Rattle.theory_truth.proofs.Renamed.{both_ways}
use Rattle.theory_canonical.specs.Skeletons.{sk_o}
use Rattle.theory_canonical.specs.Contexts.{Standing, as_heap, as_term, Heads}
use Rattle.theory_canonical.specs.Canonical.{IsCanonicalTriple, IsCanonicalFormula, n_triple, n_tt, n_ff, n_and, n_or, n_imp, n_all_t, n_ex_t, n_all_h, n_ex_h}
use Rattle.theory_canonical.specs.Canonical.{n_emp, n_cell, n_block, n_join, n_same, n_equal, n_rec}
use Rattle.theory_substitution.specs.Closing.{closing}
use Rattle.theory_substitution.specs.Monotypes.{Filling, put_mono, fill_triple, fill_formula}
use Rattle.theory_substitution_total.proofs.Places.{place_of}
use Rattle.theory_denotation.specs.Valuations.{den_heap, den_term, Valuation, mono_of_entry, heap_of_entry, entry_at, mono_in, HeadEntries}
use Rattle.theory_denotation.specs.Satisfaction.{Satisfies, PreAt, PostAt, answer_mono}
use Rattle.theory_denotation.specs.Valued.{ContextValued, HeadsValued}
use Rattle.theory_denotation.proofs.HeadsDenote.{valued_term, valued_other}
use Rattle.theory_denotation_renaming.specs.Along.{FillAlong}
use Rattle.theory_denotation_renaming.specs.Laws.{MayFillIn, MonotypesReindex}
use Rattle.theory_denotation_renaming.proofs.Entries.{entry_beside, entry_put}
use Rattle.theory_denotation_renaming.proofs.Filled.{fill_next, mono_filled, term_filled, terms_filled, head_filled, comp_filled}

pub truth_filled : (R : Recs) {heads : Heads} {e : HeadEntries} {formula : FormulaTree} {f : Filling} {m : Map} {g : List Standing}
    {w w' : Valuation}
    → HeadsValued heads e
    → IsCanonicalFormula heads g formula
    → FillAlong f m g w w'
    → ContextValued g w
    → Satisfies R e w' (fill_formula f m formula) ≡ Satisfies R e w formula
unfolding Satisfies fill_formula
truth_filled R h n_tt k z = refl
truth_filled R h n_ff k z = refl
truth_filled R h (n_and a b) k z = λ j. truth_filled R h a k z j × truth_filled R h b k z j
truth_filled R h (n_or a b) k z = λ j. NotNot (truth_filled R h a k z j ⊎ truth_filled R h b k z j)
truth_filled R h (n_imp a b) k z = λ j. truth_filled R h a k z j → truth_filled R h b k z j
truth_filled R h (n_all_t t a) k z = λ j.
    (v : Value) → HasType v (mono_filled t k j) → truth_filled R h a (fill_next (as_term sk_o) (den_term sk_o v) k) (valued_term sk_o v z) j
truth_filled R h (n_ex_t t a) k z = λ j.
    NotNot ((v : Value)
    × HasType v (mono_filled t k j)
    × truth_filled R h a (fill_next (as_term sk_o) (den_term sk_o v) k) (valued_term sk_o v z) j)
truth_filled R h (n_all_h a) k z = λ j. (l : Heap) → IsHeap l → truth_filled R h a (fill_next as_heap (den_heap l) k) (valued_other (den_heap l) z).1 j
truth_filled R h (n_ex_h a) k z = λ j. NotNot ((l : Heap) × IsHeap l × truth_filled R h a (fill_next as_heap (den_heap l) k) (valued_other (den_heap l) z).1 j)
truth_filled R h (n_emp {heap = heap} d) k z = λ j. IsEmpty (heap_of_entry (k.heaps heap d j))
truth_filled R h (n_cell {heap = heap} t d a b) k z =
    λ j. IsOnly (heap_of_entry (k.heaps heap d j)) (loc_of (term_filled h a k z j)) (encoding (term_filled h b k z j))
truth_filled R h (n_block {heap = heap} t d a) k z =
    λ j. IsBlock (heap_of_entry (k.heaps heap d j)) (loc_of (term_filled h a k z j)) (width (mono_filled t k j))
truth_filled R h (n_join {whole = whole} {left = left} {right = right} a b c) k z =
    λ j. IsJoin (heap_of_entry (k.heaps whole a j)) (heap_of_entry (k.heaps left b j)) (heap_of_entry (k.heaps right c j))
truth_filled R h (n_same {left = left} {right = right} a b) k z = λ j. IsSame (heap_of_entry (k.heaps left a j)) (heap_of_entry (k.heaps right b j))
truth_filled R h (n_equal t a b) k z = λ j. term_filled h a k z j ≡ term_filled h b k z j
truth_filled R h (n_rec {number = number} {heap = heap} d a b) k z =
    λ j. R number (word_of (term_filled h a k z j)) (terms_filled h b k z j) (heap_of_entry (k.heaps heap d j))

pub pre_filled : (R : Recs) {heads : Heads} {e : HeadEntries} {spec : TripleTree} {f : Filling} {m : Map} {g : List Standing}
    {w w' : Valuation}
    → HeadsValued heads e
    → IsCanonicalTriple heads g spec
    → FillAlong f m g w w'
    → ContextValued g w
    → (l : Heap)
    → PreAt R e w' (fill_triple f m spec) l ≡ PreAt R e w spec l
unfolding fill_triple
pre_filled R h (n_triple a t b) k z l = truth_filled R h a (fill_next as_heap (den_heap l) k) (valued_other (den_heap l) z).1

pub post_filled : (R : Recs) {heads : Heads} {e : HeadEntries} {spec : TripleTree} {f : Filling} {m : Map} {g : List Standing}
    {w w' : Valuation}
    → HeadsValued heads e
    → IsCanonicalTriple heads g spec
    → FillAlong f m g w w'
    → ContextValued g w
    → (v : Value) (before after : Heap)
    → PostAt R e w' (fill_triple f m spec) v before after ≡ PostAt R e w spec v before after
unfolding fill_triple
post_filled R h (n_triple a t b) k z v before after =
    truth_filled R h b
    (fill_next as_heap (den_heap after) (fill_next as_heap (den_heap before) (fill_next (as_term sk_o) (den_term sk_o v) k)))
    (valued_other (den_heap after) (valued_other (den_heap before) (valued_term sk_o v z)).1).1

pub answer_filled : {heads : Heads} {spec : TripleTree} {f : Filling} {m : Map} {g : List Standing} {w w' : Valuation}
    → IsCanonicalTriple heads g spec
    → FillAlong f m g w w'
    → answer_mono w' (fill_triple f m spec) ≡ answer_mono w spec
unfolding fill_triple
answer_filled (n_triple a t b) k = mono_filled t k

put_at : {x n : ℕ} (mono : MonoTree) (w : Valuation) → n ≡ x → mono_in w (put_mono mono x n) ≡ mono_in w mono
unfolding put_mono
put_at {x = x} {n = n} mono w p = let q : nat_eq n x ≡ true = grind arith in rw q refl

put_beside : {x n : ℕ} (mono : MonoTree) (w : Valuation) → n ≢ x → mono_in w (put_mono mono x n) ≡ mono_of_entry (entry_at w (closing x n))
unfolding put_mono
put_beside {x = x} {n = n} mono w p = let q : nat_eq n x ≡ false = grind arith in rw q refl

-- the monotype is put for x, which is valued so
pub put_along : {heads : Heads} {e : HeadEntries} {mono : MonoTree} {x : ℕ} {g whole : List Standing} {w w' : Valuation}
    → MayFillIn heads e mono x g whole w w'
    → FillAlong (put_mono mono x) (closing x) whole w' w
put_along {mono = mono} {w = w} {w' = w'} p = record {
  monos = λ n d. elim (place_of p.context d) [
    | inl (q, b) ↦ put_at mono w q ∙ sym (ap mono_of_entry (ap (entry_at w') q ∙ entry_put p.valuation))
    | inr (q, b) ↦ put_beside mono w q ∙ ap mono_of_entry (entry_beside p.valuation n q)
  ];
  heaps = λ n d. elim (place_of p.context d) [ inl (q, b) ↦ elim b [ ] | inr (q, b) ↦ entry_beside p.valuation n q ];
  terms = λ n s d. elim (place_of p.context d) [ inl (q, b) ↦ elim b [ ] | inr (q, b) ↦ entry_beside p.valuation n q ];
}

pub reindex : MonotypesReindex
reindex = record {
  terms = λ heads e mono x g whole w w' p term s d. term_filled p.heads_valued d (put_along p) p.valued;
  heads = λ heads e mono x g whole w w' p term s d. head_filled p.heads_valued d (put_along p) p.valued;
  computations = λ heads e mono x g whole w w' p comp d. comp_filled p.heads_valued d (put_along p) p.valued;
  formulas = λ table heads e mono x g whole w w' p formula d. both_ways (truth_filled (recs_of table) p.heads_valued d (put_along p) p.valued);
  preconditions = λ table heads e mono x g whole w w' p spec l d. both_ways (pre_filled (recs_of table) p.heads_valued d (put_along p) p.valued l);
  postconditions = λ table heads e mono x g whole w w' p spec v before after d.
      both_ways (post_filled (recs_of table) p.heads_valued d (put_along p) p.valued v before after);
  answers = λ heads e mono x g whole w w' p spec d. answer_filled d (put_along p);
}
