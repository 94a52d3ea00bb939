-- Substitution in formulas is an equality of what they say.
use Rattle.std.proofs.Common.{◌≡◌, ℕ, List, refl, sym, ◌⊎◌}
use Rattle.htt_syntax.specs.Trees.{TripleTree, TermTree, FormulaTree}
use Rattle.theory_values.specs.Values.{Value, HasType, encoding, width}
use Rattle.theory_values.specs.Heaps.{Heap, IsHeap, IsEmpty, IsOnly, IsJoin, IsSame}
use Rattle.theory_truth.specs.TermValue.{word_of, loc_of}
use Rattle.theory_truth.specs.Truth.{NotNot, IsBlock, Recs}
use Rattle.theory_truth.specs.Predicates.{recs_of}
use Rattle.theory_truth.proofs.Renamed.{both_ways}
use Rattle.theory_canonical.specs.Skeletons.{Skeleton, sk_o, sk_arrow}
use Rattle.theory_canonical.specs.Contexts.{Standing, Heads}
use Rattle.theory_canonical.specs.Canonical.{IsCanonical, IsCanonicalTriple, IsCanonicalFormula, n_triple, n_and, n_or, n_imp, n_all_t, n_ex_t, n_all_h, n_ex_h}
use Rattle.theory_canonical.specs.Canonical.{n_emp, n_cell, n_block, n_join, n_same, n_equal, n_rec}
use Rattle.theory_substitution.specs.Substitution.{App, SubTriple, SubFormula, applied, u_triple, u_f_tt, u_f_ff, u_f_and, u_f_or, u_f_imp, u_f_all_t, u_f_ex_t}
use Rattle.theory_substitution.specs.Substitution.{u_f_all_h, u_f_ex_h, u_f_emp, u_f_cell, u_f_block, u_f_join, u_f_same, u_f_eq, u_f_rec}
use Rattle.theory_denotation.specs.Valuations.{Valuation, heap_of_entry, HeadEntries}
use Rattle.theory_denotation.specs.Denotation.{term_den}
use Rattle.theory_denotation.specs.Valued.{ContextValued, HeadsValued}
use Rattle.theory_denotation.specs.Satisfaction.{Satisfies, PreAt, PostAt, answer_mono}
use Rattle.theory_denotation_substitution.specs.Put.{MayPutIn}
use Rattle.theory_denotation_substitution.specs.Laws.{SubstitutionIsValuation, HeadsAreKept, ApplicationIsApplication, SplicingIsSequence}
use Rattle.theory_denotation_substitution.proofs.Results.{lam_body, family_body}
use Rattle.theory_denotation_substitution.proofs.Placing.{put_term, put_heap, put_here, mono_beside, heap_beside}
use Rattle.theory_denotation_substitution.proofs.Terms.{term_put, terms_put, head_put, redex_put, comp_put, spliced, family_put}

pub formula_put : (R : Recs) {heads : Heads} {e : HeadEntries} {new : TermTree} {s : Skeleton} {x : ℕ} {formula r : FormulaTree}
    {g whole : List Standing} {w w' : Valuation}
    → SubFormula new s x formula r
    → IsCanonicalFormula heads whole formula
    → MayPutIn heads e new s x g whole w w'
    → Satisfies R e w r ≡ Satisfies R e w' formula
unfolding Satisfies
formula_put R u_f_tt c p = refl
formula_put R u_f_ff c p = refl
formula_put R (u_f_and a b) (n_and c d) p = λ j. formula_put R a c p j × formula_put R b d p j
formula_put R (u_f_or a b) (n_or c d) p = λ j. NotNot (formula_put R a c p j ⊎ formula_put R b d p j)
formula_put R (u_f_imp a b) (n_imp c d) p = λ j. formula_put R a c p j → formula_put R b d p j
formula_put R (u_f_all_t a) (n_all_t m c) p =
    λ j. (v : Value) → HasType v (mono_beside m p.may.inserted p.valuation j) → formula_put R a c (put_term sk_o v p) j
formula_put R (u_f_ex_t a) (n_ex_t m c) p =
    λ j. NotNot ((v : Value) × HasType v (mono_beside m p.may.inserted p.valuation j) × formula_put R a c (put_term sk_o v p) j)
formula_put R (u_f_all_h a) (n_all_h c) p = λ j. (h : Heap) → IsHeap h → formula_put R a c (put_heap h p) j
formula_put R (u_f_ex_h a) (n_ex_h c) p = λ j. NotNot ((h : Heap) × IsHeap h × formula_put R a c (put_heap h p) j)
formula_put R u_f_emp (n_emp d) p = λ j. IsEmpty (heap_of_entry (heap_beside d p.may.inserted p.valuation j))
formula_put R (u_f_cell a b) (n_cell m d c f) p =
    λ j. IsOnly (heap_of_entry (heap_beside d p.may.inserted p.valuation j)) (loc_of (term_put a c p j)) (encoding (term_put b f p j))
formula_put R (u_f_block a) (n_block m d c) p = λ j.
    IsBlock (heap_of_entry (heap_beside d p.may.inserted p.valuation j)) (loc_of (term_put a c p j))
    (width (mono_beside m p.may.inserted p.valuation j))
formula_put R u_f_join (n_join a b c) p = λ j.
    IsJoin (heap_of_entry (heap_beside a p.may.inserted p.valuation j)) (heap_of_entry (heap_beside b p.may.inserted p.valuation j))
    (heap_of_entry (heap_beside c p.may.inserted p.valuation j))
formula_put R u_f_same (n_same a b) p =
    λ j. IsSame (heap_of_entry (heap_beside a p.may.inserted p.valuation j)) (heap_of_entry (heap_beside b p.may.inserted p.valuation j))
formula_put R (u_f_eq a b) (n_equal m c d) p = λ j. term_put a c p j ≡ term_put b d p j
formula_put R (u_f_rec {number = number} a b) (n_rec d c f) p =
    λ j. R number (word_of (term_put a c p j)) (terms_put b f p j) (heap_of_entry (heap_beside d p.may.inserted p.valuation j))

pub pre_put : (R : Recs) {heads : Heads} {e : HeadEntries} {new : TermTree} {s : Skeleton} {x : ℕ} {spec r : TripleTree}
    {g whole : List Standing} {w w' : Valuation}
    → SubTriple new s x spec r
    → IsCanonicalTriple heads whole spec
    → MayPutIn heads e new s x g whole w w'
    → (h : Heap)
    → PreAt R e w r h ≡ PreAt R e w' spec h
pre_put R (u_triple a b) (n_triple c m d) p h = formula_put R a c (put_heap h p)

pub post_put : (R : Recs) {heads : Heads} {e : HeadEntries} {new : TermTree} {s : Skeleton} {x : ℕ} {spec r : TripleTree}
    {g whole : List Standing} {w w' : Valuation}
    → SubTriple new s x spec r
    → IsCanonicalTriple heads whole spec
    → MayPutIn heads e new s x g whole w w'
    → (v : Value) (before after : Heap)
    → PostAt R e w r v before after ≡ PostAt R e w' spec v before after
post_put R (u_triple a b) (n_triple c m d) p v before after = formula_put R b d (put_heap after (put_heap before (put_term sk_o v p)))

pub answer_put : {heads : Heads} {e : HeadEntries} {new : TermTree} {s : Skeleton} {x : ℕ} {spec r : TripleTree} {g whole : List Standing}
    {w w' : Valuation}
    → SubTriple new s x spec r
    → IsCanonicalTriple heads whole spec
    → MayPutIn heads e new s x g whole w w'
    → answer_mono w r ≡ answer_mono w' spec
answer_put (u_triple a b) (n_triple c m d) p = mono_beside m p.may.inserted p.valuation

pub valuation : SubstitutionIsValuation
valuation = record {
  terms = λ heads e new s x g whole w w' p term r t a c. term_put a c p;
  computations = λ heads e new s x g whole w w' p comp r a c. comp_put a c p;
  formulas = λ table heads e new s x g whole w w' p formula r a c. both_ways (formula_put (recs_of table) a c p);
  preconditions = λ table heads e new s x g whole w w' p spec r a c h. both_ways (pre_put (recs_of table) a c p h);
  postconditions = λ table heads e new s x g whole w w' p spec r a c v before after. both_ways (post_put (recs_of table) a c p v before after);
  answers = λ heads e new s x g whole w w' p spec r a c. answer_put a c p;
}

pub heads_kept : HeadsAreKept
heads_kept = record {
  kept = λ heads e new s x g whole w w' p term r t a c. head_put a c p;
  reduced = λ heads e new s x g whole w w' p term r t u a c. sym (redex_put a c p);
}

applied_put : {heads : Heads} {e : HeadEntries} {g : List Standing} {w : Valuation} {function argument r : TermTree} {s t : Skeleton}
    → HeadsValued heads e
    → ContextValued g w
    → App function s argument r
    → IsCanonical heads g function (sk_arrow s t)
    → IsCanonical heads g argument s
    → term_den e w r t ≡ term_den e w function (sk_arrow s t) (term_den e w argument s)
unfolding term_den
applied_put h z (applied a) c d = term_put a (lam_body c) (put_here h z d)

pub application : ApplicationIsApplication
unfolding term_den
application = record {
  terms = λ heads e g w h z function argument r s t a c d. applied_put h z a c d;
  monotypes = λ heads e g w h z body mono s c m. family_put mono h z (family_body c);
}

pub sequence : SplicingIsSequence
sequence heads e g w h z comp others r a c d = spliced a c d h z
