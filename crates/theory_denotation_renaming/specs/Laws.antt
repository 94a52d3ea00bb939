-- Renaming, folding, monotypes that are put for variables, and eta-expansion keep denotations.
use Rattle.std.specs.Prelude.{◌≡◌, ◌↔◌, ℕ, List}
use Rattle.htt_syntax.specs.Trees.{MonoTree, TyTree, TripleTree, TermTree, CompTree, FormulaTree}
use Rattle.theory_renaming.specs.Renaming.{Map, rename_mono, rename_triple, rename_term, rename_comp, rename_formula}
use Rattle.theory_values.specs.Values.{Value}
use Rattle.theory_values.specs.Heaps.{Heap}
use Rattle.theory_truth.specs.Predicates.{RecTree, recs_of}
use Rattle.theory_canonical.specs.Skeletons.{Skeleton, sk_o, skeleton}
use Rattle.theory_canonical.specs.Folding.{folding}
use Rattle.theory_canonical.specs.Eta.{eta}
use Rattle.theory_canonical.specs.Contexts.{Standing, as_mono, Heads}
use Rattle.theory_canonical.specs.Canonical.{IsCanonical, IsNeutral, IsCanonicalComp, IsCanonicalTriple}
use Rattle.theory_canonical.specs.Canonical.{IsCanonicalFormula}
use Rattle.theory_substitution.specs.Monotypes.{put_mono, put_mono_term, put_mono_comp, put_mono_formula, fill_triple}
use Rattle.theory_substitution.specs.Closing.{closing}
use Rattle.theory_substitution_total.specs.Insertion.{Inserted}
use Rattle.theory_denotation.specs.Valuations.{den_mono, den_term, Valuation, mono_in, HeadEntries}
use Rattle.theory_denotation.specs.Denotation.{term_den, head_den, comp_den}
use Rattle.theory_denotation.specs.Satisfaction.{Satisfies, PreAt, PostAt, answer_mono}
use Rattle.theory_denotation.specs.Valued.{ContextValued, HeadsValued}
use Rattle.theory_denotation_renaming.specs.Along.{AgreeAlong}
use Rattle.theory_denotation_renaming.specs.Insertion.{InsertedEntry}

-- A renamed tree denotes in the one valuation what the tree denotes in the other.
pub record RenamingReindexes : Type 0 where
  pub monos : {m : Map} {w w' : Valuation}
      → AgreeAlong m w w'
      → (t : MonoTree)
      → mono_in w' (rename_mono m t) ≡ mono_in w t
  pub terms : (e : HeadEntries) {m : Map} {w w' : Valuation}
      → AgreeAlong m w w'
      → (term : TermTree) (s : Skeleton)
      → term_den e w' (rename_term m term) s ≡ term_den e w term s
  pub heads : (e : HeadEntries) {m : Map} {w w' : Valuation}
      → AgreeAlong m w w'
      → (term : TermTree)
      → head_den e w' (rename_term m term) ≡ head_den e w term
  pub computations : (e : HeadEntries) {m : Map} {w w' : Valuation}
      → AgreeAlong m w w'
      → (comp : CompTree)
      → comp_den e w' (rename_comp m comp) ≡ comp_den e w comp
  pub formulas : (table : List RecTree) (e : HeadEntries) {m : Map} {w w' : Valuation}
      → AgreeAlong m w w'
      → (formula : FormulaTree)
      → Satisfies (recs_of table) e w' (rename_formula m formula) ↔ Satisfies (recs_of table) e w formula
  pub preconditions : (table : List RecTree) (e : HeadEntries) {m : Map} {w w' : Valuation}
      → AgreeAlong m w w'
      → (spec : TripleTree) (h : Heap)
      → PreAt (recs_of table) e w' (rename_triple m spec) h ↔ PreAt (recs_of table) e w spec h
  pub postconditions : (table : List RecTree) (e : HeadEntries) {m : Map} {w w' : Valuation}
      → AgreeAlong m w w'
      → (spec : TripleTree) (v : Value) (before after : Heap)
      → PostAt (recs_of table) e w' (rename_triple m spec) v before after
      ↔ PostAt (recs_of table) e w spec v before after
  pub answers : {m : Map} {w w' : Valuation}
      → AgreeAlong m w w'
      → (spec : TripleTree)
      → answer_mono w' (rename_triple m spec) ≡ answer_mono w spec

-- Folding keeps a term's value.
abbrev pub FoldingKeepsDenotations : Type 0
FoldingKeepsDenotations =
    (e : HeadEntries) (w : Valuation) (term : TermTree) → term_den e w (folding term) sk_o ≡ term_den e w term sk_o

-- The eta-expansion of a neutral term denotes what the term denotes.
abbrev pub ExpansionKeepsHeads : Type 0
ExpansionKeepsHeads =
    (heads : Heads) (e : HeadEntries) (g : List Standing) (w : Valuation)
    → HeadsValued heads e
    → ContextValued g w
    → (term : TermTree) (ty : TyTree)
    → IsNeutral heads g term (skeleton ty)
    → head_den e w term ≡ den_term (skeleton ty) (term_den e w (eta term ty) (skeleton ty))

-- The whole context is g with the monotype variable x, and the valuation of the whole gives for x what
-- the monotype is under the other.
pub record MayFillIn (heads :
    Heads) (e : HeadEntries) (mono : MonoTree) (x : ℕ) (g whole : List Standing) (w w' : Valuation) : Type 0 where
  pub context : Inserted x as_mono g whole
  pub valuation : InsertedEntry x (den_mono (mono_in w mono)) w w'
  pub valued : ContextValued whole w'
  pub heads_valued : HeadsValued heads e

-- Where a monotype is put for a variable, the tree denotes what it did where the variable was valued so.
pub record MonotypesReindex : Type 0 where
  pub terms : (heads : Heads) (e : HeadEntries) (mono : MonoTree) (x : ℕ) (g whole : List Standing) (w w' : Valuation)
      → MayFillIn heads e mono x g whole w w'
      → (term : TermTree) (s : Skeleton)
      → IsCanonical heads whole term s
      → term_den e w (put_mono_term mono x term) s ≡ term_den e w' term s
  pub heads : (heads : Heads) (e : HeadEntries) (mono : MonoTree) (x : ℕ) (g whole : List Standing) (w w' : Valuation)
      → MayFillIn heads e mono x g whole w w'
      → (term : TermTree) (s : Skeleton)
      → IsNeutral heads whole term s
      → head_den e w (put_mono_term mono x term) ≡ head_den e w' term
  pub computations : (heads : Heads) (e : HeadEntries) (mono : MonoTree) (x : ℕ) (g whole : List Standing)
      (w w' : Valuation)
      → MayFillIn heads e mono x g whole w w'
      → (comp : CompTree)
      → IsCanonicalComp heads whole comp
      → comp_den e w (put_mono_comp mono x comp) ≡ comp_den e w' comp
  pub formulas : (table : List RecTree) (heads : Heads) (e : HeadEntries) (mono : MonoTree) (x : ℕ)
      (g whole : List Standing) (w w' : Valuation)
      → MayFillIn heads e mono x g whole w w'
      → (formula : FormulaTree)
      → IsCanonicalFormula heads whole formula
      → Satisfies (recs_of table) e w (put_mono_formula mono x formula) ↔ Satisfies (recs_of table) e w' formula
  pub preconditions : (table : List RecTree) (heads : Heads) (e : HeadEntries) (mono : MonoTree) (x : ℕ)
      (g whole : List Standing) (w w' : Valuation)
      → MayFillIn heads e mono x g whole w w'
      → (spec : TripleTree) (h : Heap)
      → IsCanonicalTriple heads whole spec
      → PreAt (recs_of table) e w (fill_triple (put_mono mono x) (closing x) spec) h ↔ PreAt (recs_of table) e w' spec h
  pub postconditions : (table : List RecTree) (heads : Heads) (e : HeadEntries) (mono : MonoTree) (x : ℕ)
      (g whole : List Standing) (w w' : Valuation)
      → MayFillIn heads e mono x g whole w w'
      → (spec : TripleTree) (v : Value) (before after : Heap)
      → IsCanonicalTriple heads whole spec
      → PostAt (recs_of table) e w (fill_triple (put_mono mono x) (closing x) spec) v before after
      ↔ PostAt (recs_of table) e w' spec v before after
  pub answers : (heads : Heads) (e : HeadEntries) (mono : MonoTree) (x : ℕ) (g whole : List Standing) (w w' : Valuation)
      → MayFillIn heads e mono x g whole w w'
      → (spec : TripleTree)
      → IsCanonicalTriple heads whole spec
      → answer_mono w (fill_triple (put_mono mono x) (closing x) spec) ≡ answer_mono w' spec
