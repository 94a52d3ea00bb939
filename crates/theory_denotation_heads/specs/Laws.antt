-- A canonical tree denotes the same for all entries that agree on its heads.
use Rattle.std.specs.Prelude.{◌≡◌, ℕ, List, [], Some, slice_get}
use Rattle.htt_syntax.specs.Trees.{TermTree, CompTree}
use Rattle.theory_canonical.specs.Skeletons.{Skeleton}
use Rattle.theory_canonical.specs.Contexts.{Standing, Heads}
use Rattle.theory_canonical.specs.Canonical.{IsCanonical, IsNeutral, IsCanonicalComp}
use Rattle.theory_denotation.specs.Valuations.{den_term, Valuation, HeadEntries}
use Rattle.theory_denotation.specs.Denotation.{term_den, head_den, comp_den, ValTree, heads_of_vals}
use Rattle.theory_denotation.specs.Valued.{ContextValued, HeadsValued}
use Rattle.theory_denotation_relations.specs.Files.{AreVals}
use Rattle.theory_denotation_heads.specs.Agreeing.{HeadsAgree}

pub record UsedHeadsCount : Type 0 where
  pub terms : (heads : Heads) (e e' : HeadEntries)
      → HeadsValued heads e
      → HeadsAgree heads e e'
      → (g : List Standing) (w : Valuation)
      → ContextValued g w
      → (term : TermTree) (s : Skeleton)
      → IsCanonical heads g term s
      → term_den e' w term s ≡ term_den e w term s
  pub neutrals : (heads : Heads) (e e' : HeadEntries)
      → HeadsValued heads e
      → HeadsAgree heads e e'
      → (g : List Standing) (w : Valuation)
      → ContextValued g w
      → (term : TermTree) (s : Skeleton)
      → IsNeutral heads g term s
      → head_den e' w term ≡ head_den e w term
  pub computations : (heads : Heads) (e e' : HeadEntries)
      → HeadsValued heads e
      → HeadsAgree heads e e'
      → (g : List Standing) (w : Valuation)
      → ContextValued g w
      → (comp : CompTree)
      → IsCanonicalComp heads g comp
      → comp_den e' w comp ≡ comp_den e w comp

-- The entry of each value of a file is what its term denotes where all values of the file are the heads.
abbrev pub FileEntriesDenote : Type 0
FileEntriesDenote =
    (vs : List ValTree)
    → AreVals [] vs
    → (n : ℕ) (v : ValTree)
    → slice_get vs n ≡ Some v
    → (heads_of_vals vs).vals n ≡ den_term v.skeleton (term_den (heads_of_vals vs) [] v.term v.skeleton)
