-- A renamed formula says in one valuation what it says in the other.
use Rattle.std.proofs.Common.{◌≡◌, refl, ◌⊎◌}
use Rattle.htt_syntax.specs.Trees.{TripleTree, FormulaTree, triple, f_tt, f_ff, f_and, f_or, f_imp, f_all_t, f_ex_t, f_all_h, f_ex_h, f_emp, f_cell, f_block}
use Rattle.htt_syntax.specs.Trees.{f_join, f_same, f_eq, f_at, f_rec}
use Rattle.theory_renaming.specs.Renaming.{Map, rename_triple, rename_formula}
use Rattle.theory_values.specs.Values.{Value, HasType, encoding, width}
use Rattle.theory_values.specs.Heaps.{Heap, IsHeap, IsEmpty, IsOnly, IsJoin, IsSame}
use Rattle.theory_truth.specs.TermValue.{word_of, loc_of}
use Rattle.theory_truth.specs.Truth.{NotNot, IsBlock, Recs}
use Rattle.theory_truth.specs.Predicates.{recs_of}
use Rattle.theory_truth.proofs.Renamed.{both_ways}
use Rattle.theory_canonical.specs.Skeletons.{sk_o}
use Rattle.theory_denotation.specs.Valuations.{den_heap, den_term, Valuation, heap_of_entry, HeadEntries}
use Rattle.theory_denotation.specs.Satisfaction.{Satisfies, PreAt, PostAt, answer_mono}
use Rattle.theory_denotation_renaming.specs.Along.{AgreeAlong}
use Rattle.theory_denotation_renaming.specs.Laws.{RenamingReindexes}
use Rattle.theory_denotation_renaming.proofs.Renamed.{agree_next, mono_renamed, term_renamed, terms_renamed, head_renamed, comp_renamed}

pub truth_renamed : (R : Recs) (e : HeadEntries) (F : FormulaTree) {m : Map} {w w' : Valuation}
    → AgreeAlong m w w'
    → Satisfies R e w' (rename_formula m F) ≡ Satisfies R e w F
unfolding Satisfies rename_formula
truth_renamed R e f_tt a = refl
truth_renamed R e f_ff a = refl
truth_renamed R e (f_and left right) a = λ j. truth_renamed R e left a j × truth_renamed R e right a j
truth_renamed R e (f_or left right) a = λ j. NotNot (truth_renamed R e left a j ⊎ truth_renamed R e right a j)
truth_renamed R e (f_imp left right) a = λ j. truth_renamed R e left a j → truth_renamed R e right a j
truth_renamed R e (f_all_t mono body) a = λ j. (v : Value) → HasType v (mono_renamed a mono j) → truth_renamed R e body (agree_next (den_term sk_o v) a) j
truth_renamed R e (f_ex_t mono body) a =
    λ j. NotNot ((v : Value) × HasType v (mono_renamed a mono j) × truth_renamed R e body (agree_next (den_term sk_o v) a) j)
truth_renamed R e (f_all_h body) a = λ j. (h : Heap) → IsHeap h → truth_renamed R e body (agree_next (den_heap h) a) j
truth_renamed R e (f_ex_h body) a = λ j. NotNot ((h : Heap) × IsHeap h × truth_renamed R e body (agree_next (den_heap h) a) j)
truth_renamed R e (f_emp heap) a = λ j. IsEmpty (heap_of_entry (a.at heap j))
truth_renamed R e (f_cell mono heap place value) a =
    λ j. IsOnly (heap_of_entry (a.at heap j)) (loc_of (term_renamed e place a sk_o j)) (encoding (term_renamed e value a sk_o j))
truth_renamed R e (f_block mono heap place) a = λ j.
    IsBlock (heap_of_entry (a.at heap j)) (loc_of (term_renamed e place a sk_o j)) (width (mono_renamed a mono j))
truth_renamed R e (f_join whole left right) a = λ j. IsJoin (heap_of_entry (a.at whole j)) (heap_of_entry (a.at left j)) (heap_of_entry (a.at right j))
truth_renamed R e (f_same left right) a = λ j. IsSame (heap_of_entry (a.at left j)) (heap_of_entry (a.at right j))
truth_renamed R e (f_eq mono left right) a = λ j. term_renamed e left a sk_o j ≡ term_renamed e right a sk_o j
truth_renamed R e (f_at at formula) a = truth_renamed R e formula a
truth_renamed R e (f_rec number heap place arguments) a =
    λ j. R number (word_of (term_renamed e place a sk_o j)) (terms_renamed e arguments a j) (heap_of_entry (a.at heap j))

pub pre_renamed : (R : Recs) (e : HeadEntries) (spec : TripleTree) {m : Map} {w w' : Valuation}
    → AgreeAlong m w w'
    → (h : Heap)
    → PreAt R e w' (rename_triple m spec) h ≡ PreAt R e w spec h
unfolding rename_triple
pre_renamed R e (triple pre mono post) a h = truth_renamed R e pre (agree_next (den_heap h) a)

pub post_renamed : (R : Recs) (e : HeadEntries) (spec : TripleTree) {m : Map} {w w' : Valuation}
    → AgreeAlong m w w'
    → (v : Value) (before after : Heap)
    → PostAt R e w' (rename_triple m spec) v before after ≡ PostAt R e w spec v before after
unfolding rename_triple
post_renamed R e (triple pre mono post) a v before after =
    truth_renamed R e post (agree_next (den_heap after) (agree_next (den_heap before) (agree_next (den_term sk_o v) a)))

pub answer_renamed : (spec : TripleTree) {m : Map} {w w' : Valuation} → AgreeAlong m w w' → answer_mono w' (rename_triple m spec) ≡ answer_mono w spec
unfolding rename_triple
answer_renamed (triple pre mono post) a = mono_renamed a mono

pub reindexes : RenamingReindexes
reindexes = record {
  monos = mono_renamed;
  terms = λ e a term s. term_renamed e term a s;
  heads = λ e a term. head_renamed e term a;
  computations = λ e a comp. comp_renamed e comp a;
  formulas = λ table e a F. both_ways (truth_renamed (recs_of table) e F a);
  preconditions = λ table e a spec h. both_ways (pre_renamed (recs_of table) e spec a h);
  postconditions = λ table e a spec v before after. both_ways (post_renamed (recs_of table) e spec a v before after);
  answers = λ a spec. answer_renamed spec a;
}
