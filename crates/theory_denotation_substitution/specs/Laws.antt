-- Hereditary substitution is an equality of denotations: what is put for a variable is what the
-- valuation gives for it, an application is one of functions, and splicing is running in sequence.
use Rattle.std.specs.Prelude.{◌≡◌, ◌↔◌, ℕ, zero, List, ◌∷◌}
use Rattle.htt_syntax.specs.Trees.{MonoTree, TripleTree, TermTree, CompTree, FormulaTree, t_lam_t}
use Rattle.theory_values.specs.Values.{Value}
use Rattle.theory_values.specs.Heaps.{Heap}
use Rattle.theory_truth.specs.Predicates.{RecTree, recs_of}
use Rattle.theory_canonical.specs.Skeletons.{Skeleton, sk_o, sk_arrow, sk_all}
use Rattle.theory_canonical.specs.Contexts.{Standing, as_term, Heads}
use Rattle.theory_canonical.specs.Canonical.{IsCanonical, IsNeutral, IsCanonicalMono, IsCanonicalComp}
use Rattle.theory_canonical.specs.Canonical.{IsCanonicalTriple, IsCanonicalFormula}
use Rattle.theory_substitution.specs.Monotypes.{put_mono_term}
use Rattle.theory_substitution.specs.Substitution.{Kept, Reduced, SubTerm, SubComp, SubTriple, SubFormula, App, Bind}
use Rattle.theory_denotation.specs.Outcomes.{in_sequence}
use Rattle.theory_denotation.specs.Valuations.{den_term, Valuation, mono_in, HeadEntries}
use Rattle.theory_denotation.specs.Denotation.{term_den, head_den, comp_den}
use Rattle.theory_denotation.specs.Satisfaction.{Satisfies, PreAt, PostAt, answer_mono}
use Rattle.theory_denotation.specs.Valued.{ContextValued, HeadsValued}
use Rattle.theory_denotation_substitution.specs.Put.{MayPutIn}

-- The result denotes what the tree denotes where the variable is valued as the new term.
pub record SubstitutionIsValuation : Type 0 where
  pub terms : (heads : Heads) (e : HeadEntries) (new : TermTree) (s : Skeleton) (x : ℕ) (g whole : List Standing)
      (w w' : Valuation)
      → MayPutIn heads e new s x g whole w w'
      → (term r : TermTree) (t : Skeleton)
      → SubTerm new s x term r
      → IsCanonical heads whole term t
      → term_den e w r t ≡ term_den e w' term t
  pub computations : (heads : Heads) (e : HeadEntries) (new : TermTree) (s : Skeleton) (x : ℕ) (g whole : List Standing)
      (w w' : Valuation)
      → MayPutIn heads e new s x g whole w w'
      → (comp r : CompTree)
      → SubComp new s x comp r
      → IsCanonicalComp heads whole comp
      → comp_den e w r ≡ comp_den e w' comp
  pub formulas : (table : List RecTree) (heads : Heads) (e : HeadEntries) (new : TermTree) (s : Skeleton) (x : ℕ)
      (g whole : List Standing) (w w' : Valuation)
      → MayPutIn heads e new s x g whole w w'
      → (formula r : FormulaTree)
      → SubFormula new s x formula r
      → IsCanonicalFormula heads whole formula
      → Satisfies (recs_of table) e w r ↔ Satisfies (recs_of table) e w' formula
  pub preconditions : (table : List RecTree) (heads : Heads) (e : HeadEntries) (new : TermTree) (s : Skeleton) (x : ℕ)
      (g whole : List Standing) (w w' : Valuation)
      → MayPutIn heads e new s x g whole w w'
      → (spec r : TripleTree)
      → SubTriple new s x spec r
      → IsCanonicalTriple heads whole spec
      → (h : Heap)
      → PreAt (recs_of table) e w r h ↔ PreAt (recs_of table) e w' spec h
  pub postconditions : (table : List RecTree) (heads : Heads) (e : HeadEntries) (new : TermTree) (s : Skeleton) (x : ℕ)
      (g whole : List Standing) (w w' : Valuation)
      → MayPutIn heads e new s x g whole w w'
      → (spec r : TripleTree)
      → SubTriple new s x spec r
      → IsCanonicalTriple heads whole spec
      → (v : Value) (before after : Heap)
      → PostAt (recs_of table) e w r v before after ↔ PostAt (recs_of table) e w' spec v before after
  pub answers : (heads : Heads) (e : HeadEntries) (new : TermTree) (s : Skeleton) (x : ℕ) (g whole : List Standing)
      (w w' : Valuation)
      → MayPutIn heads e new s x g whole w w'
      → (spec r : TripleTree)
      → SubTriple new s x spec r
      → IsCanonicalTriple heads whole spec
      → answer_mono w r ≡ answer_mono w' spec

-- A head that stays denotes the same entry, and one that is reduced denotes what its result does.
pub record HeadsAreKept : Type 0 where
  pub kept : (heads : Heads) (e : HeadEntries) (new : TermTree) (s : Skeleton) (x : ℕ) (g whole : List Standing)
      (w w' : Valuation)
      → MayPutIn heads e new s x g whole w w'
      → (term r : TermTree) (t : Skeleton)
      → Kept new s x term r
      → IsNeutral heads whole term t
      → head_den e w r ≡ head_den e w' term
  pub reduced : (heads : Heads) (e : HeadEntries) (new : TermTree) (s : Skeleton) (x : ℕ) (g whole : List Standing)
      (w w' : Valuation)
      → MayPutIn heads e new s x g whole w w'
      → (term r : TermTree) (t u : Skeleton)
      → Reduced new s x term r u
      → IsNeutral heads whole term t
      → den_term t (term_den e w r t) ≡ head_den e w' term

-- A function that is applied denotes its denotation at that of the argument, and an instance of a
-- family the family at the monotype.
pub record ApplicationIsApplication : Type 0 where
  pub terms : (heads : Heads) (e : HeadEntries) (g : List Standing) (w : Valuation)
      → HeadsValued heads e
      → ContextValued g w
      → (function argument r : TermTree) (s t : Skeleton)
      → App function s argument r
      → IsCanonical heads g function (sk_arrow s t)
      → IsCanonical heads g argument s
      → term_den e w r t ≡ term_den e w function (sk_arrow s t) (term_den e w argument s)
  pub monotypes : (heads : Heads) (e : HeadEntries) (g : List Standing) (w : Valuation)
      → HeadsValued heads e
      → ContextValued g w
      → (body : TermTree) (mono : MonoTree) (s : Skeleton)
      → IsCanonical heads g (t_lam_t body) (sk_all s)
      → IsCanonicalMono g mono
      → term_den e w (put_mono_term mono zero body) s ≡ term_den e w (t_lam_t body) (sk_all s) (mono_in w mono)

-- One computation spliced before another is run before it.
abbrev pub SplicingIsSequence : Type 0
SplicingIsSequence =
    (heads : Heads) (e : HeadEntries) (g : List Standing) (w : Valuation)
    → HeadsValued heads e
    → ContextValued g w
    → (comp others r : CompTree)
    → Bind comp others r
    → IsCanonicalComp heads g comp
    → IsCanonicalComp heads (as_term sk_o ∷ g) others
    → comp_den e w r ≡ in_sequence (comp_den e w comp) (λ v. comp_den e (den_term sk_o v ∷ w) others)
