-- Positions say nothing in formulas and types.
use Rattle.std.proofs.Common.{◌≡◌, ◌∷◌, refl, ◌⊎◌}
use Rattle.htt_syntax.specs.Trees.{MonoTree, TyTree, TripleTree, FormulaTree, triple, y_mono, y_fun, y_all, y_hoare, y_at, f_tt, f_ff, f_and, f_or, f_imp}
use Rattle.htt_syntax.specs.Trees.{f_all_t, f_ex_t, f_all_h, f_ex_h, f_emp, f_cell, f_block, f_join, f_same, f_eq, f_at, f_rec}
use Rattle.theory_values.specs.Values.{Value, HasType, IsClosed, encoding, width}
use Rattle.theory_values.specs.Heaps.{Heap, IsHeap, IsEmpty, IsOnly, IsJoin, IsSame}
use Rattle.theory_truth.specs.TermValue.{word_of, loc_of}
use Rattle.theory_truth.specs.Truth.{NotNot, IsBlock, Recs}
use Rattle.theory_truth.specs.Predicates.{recs_of}
use Rattle.theory_truth.proofs.Renamed.{both_ways}
use Rattle.theory_canonical.specs.Skeletons.{Skeleton, sk_o, sk_c, sk_arrow, sk_all}
use Rattle.theory_typing.specs.Positions.{plain_ty, plain_triple, plain_formula}
use Rattle.theory_denotation.specs.Valuations.{Domain, den_mono, den_heap, den_term, Valuation, mono_in, heap_in, HeadEntries}
use Rattle.theory_denotation.specs.Satisfaction.{Satisfies, PreAt, PostAt, answer_mono}
use Rattle.theory_denotation_shapes.proofs.Reindexed.{shape_plain}
use Rattle.theory_denotation_types.specs.Meeting.{Meets}
use Rattle.theory_denotation_types.specs.Types.{Means}
use Rattle.theory_denotation_positions.specs.Laws.{PositionsSayNothing}
use Rattle.theory_denotation_positions.proofs.Plain.{term_plain, terms_plain, comp_plain}

pub truth_plain : (R : Recs) (e : HeadEntries) (F : FormulaTree) (w : Valuation) → Satisfies R e w (plain_formula F) ≡ Satisfies R e w F
unfolding Satisfies plain_ty
truth_plain R e f_tt w = refl
truth_plain R e f_ff w = refl
truth_plain R e (f_and left right) w = λ j. truth_plain R e left w j × truth_plain R e right w j
truth_plain R e (f_or left right) w = λ j. NotNot (truth_plain R e left w j ⊎ truth_plain R e right w j)
truth_plain R e (f_imp left right) w = λ j. truth_plain R e left w j → truth_plain R e right w j
truth_plain R e (f_all_t mono body) w = λ j. (v : Value) → HasType v (mono_in w mono) → truth_plain R e body (den_term sk_o v ∷ w) j
truth_plain R e (f_ex_t mono body) w = λ j. NotNot ((v : Value) × HasType v (mono_in w mono) × truth_plain R e body (den_term sk_o v ∷ w) j)
truth_plain R e (f_all_h body) w = λ j. (h : Heap) → IsHeap h → truth_plain R e body (den_heap h ∷ w) j
truth_plain R e (f_ex_h body) w = λ j. NotNot ((h : Heap) × IsHeap h × truth_plain R e body (den_heap h ∷ w) j)
truth_plain R e (f_emp heap) w = λ j. IsEmpty (heap_in w heap)
truth_plain R e (f_cell mono heap place value) w = λ j. IsOnly (heap_in w heap) (loc_of (term_plain e place w sk_o j)) (encoding (term_plain e value w sk_o j))
truth_plain R e (f_block mono heap place) w =
    λ j. IsBlock (heap_in w heap) (loc_of (term_plain e place w sk_o j)) (width (mono_in w mono))
truth_plain R e (f_join whole left right) w = λ j. IsJoin (heap_in w whole) (heap_in w left) (heap_in w right)
truth_plain R e (f_same left right) w = λ j. IsSame (heap_in w left) (heap_in w right)
truth_plain R e (f_eq mono left right) w = λ j. term_plain e left w sk_o j ≡ term_plain e right w sk_o j
truth_plain R e (f_at at formula) w = truth_plain R e formula w
truth_plain R e (f_rec number heap place arguments) w = λ j. R number (word_of (term_plain e place w sk_o j)) (terms_plain e arguments w j) (heap_in w heap)

pub pre_plain : (R : Recs) (e : HeadEntries) (spec : TripleTree) (w : Valuation) → (h : Heap) → PreAt R e w (plain_triple spec) h ≡ PreAt R e w spec h
unfolding plain_ty
pre_plain R e (triple pre mono post) w h = truth_plain R e pre (den_heap h ∷ w)

pub post_plain : (R : Recs) (e : HeadEntries) (spec : TripleTree) (w : Valuation)
    → (v : Value) (before after : Heap)
    → PostAt R e w (plain_triple spec) v before after ≡ PostAt R e w spec v before after
unfolding plain_ty
post_plain R e (triple pre mono post) w v before after = truth_plain R e post (den_heap after ∷ den_heap before ∷ den_term sk_o v ∷ w)

pub answer_plain : (spec : TripleTree) (w : Valuation) → answer_mono w (plain_triple spec) ≡ answer_mono w spec
unfolding plain_ty
answer_plain (triple pre mono post) w = refl

pub means_plain : (R : Recs) (e : HeadEntries) (ty : TyTree) (w : Valuation) (s : Skeleton) (d : Domain s) → Means R e w (plain_ty ty) s d ≡ Means R e w ty s d
unfolding Means plain_ty
means_plain R e (y_mono mono) w s d = refl
means_plain R e (y_fun argument answer) w (sk_arrow s t) d =
    λ j.
    shape_plain (y_fun argument answer) w (sk_arrow s t) d j
    × ((x : Domain s) → means_plain R e argument w s x j → means_plain R e answer (den_term s x ∷ w) t (d x) j)
means_plain R e (y_all body) w (sk_all s) d = λ j. (t : MonoTree) → IsClosed t → means_plain R e body (den_mono t ∷ w) s (d t) j
means_plain R e (y_hoare spec) w sk_c d = λ j. Meets (λ h. pre_plain R e spec w h j) (answer_plain spec w j) (λ v b k. post_plain R e spec w v b k j) d
means_plain R e (y_at at ty) w s d = means_plain R e ty w s d
means_plain R e _ w s d = refl

pub nothing : PositionsSayNothing
nothing = record {
  terms = λ e w term s. term_plain e term w s;
  computations = λ e w comp. comp_plain e comp w;
  formulas = λ table e w formula. both_ways (truth_plain (recs_of table) e formula w);
  types = λ table e w ty s d. both_ways (means_plain (recs_of table) e ty w s d);
}
