-- A recursive function unfolds: without fuel it is out of fuel, and with fuel n + 1 it does what its body does
-- with fuel n, where the recursion variable is the recursive function itself.
use Rattle.std.specs.Prelude.{ℕ, List}
use Rattle.htt_syntax.specs.Trees.{TermTree, FixTree, CompTree}
use Rattle.theory_canonical.specs.Skeletons.{Skeleton, sk_c}
use Rattle.theory_canonical.specs.Contexts.{Standing, Heads}
use Rattle.theory_canonical.specs.Canonical.{IsCanonical, IsCanonicalFix, IsCanonicalComp}
use Rattle.theory_denotation.specs.Valuations.{Domain, den_term, Valuation, HeadEntries}
use Rattle.theory_denotation.specs.Recursion.{entered, recursion}
use Rattle.theory_denotation.specs.Denotation.{term_den, fix_den, comp_den}
use Rattle.theory_denotation_unfolding.specs.Agreement.{AgreeBelow, ValuationsAgree, HeadEntriesAgree, IsSteady}
use Rattle.theory_denotation_unfolding.specs.Agreement.{SteadyValuation, SteadyHeads, SameSteadily}

-- Canonical trees denote alike where heads and variables do; so they are steady where those are.
pub record CanonicalIsSteady : Type 0 where
  pub terms : (bound : ℕ) (heads : Heads) (e e' : HeadEntries) (g : List Standing) (w w' : Valuation)
      → HeadEntriesAgree bound heads e e'
      → ValuationsAgree bound g w w'
      → (term : TermTree) (s : Skeleton)
      → IsCanonical heads g term s
      → AgreeBelow bound s (term_den e w term s) (term_den e' w' term s)
  pub computations : (bound : ℕ) (heads : Heads) (e e' : HeadEntries) (g : List Standing) (w w' : Valuation)
      → HeadEntriesAgree bound heads e e'
      → ValuationsAgree bound g w w'
      → (comp : CompTree)
      → IsCanonicalComp heads g comp
      → AgreeBelow bound sk_c (comp_den e w comp) (comp_den e' w' comp)
  pub steady : (heads : Heads) (e : HeadEntries) (g : List Standing) (w : Valuation)
      → SteadyHeads heads e
      → SteadyValuation g w
      → (term : TermTree) (s : Skeleton)
      → IsCanonical heads g term s
      → IsSteady s (term_den e w term s)

-- What the function becomes of its own denotation.
abbrev pub turn : HeadEntries → Valuation → FixTree → (s : Skeleton) → Domain s → Domain s
turn e w fix s own = fix_den e w (den_term s own) fix s

abbrev pub RecursionsUnfold : Type 0
RecursionsUnfold =
    (heads : Heads) (e : HeadEntries) (g : List Standing) (w : Valuation)
    → SteadyHeads heads e
    → SteadyValuation g w
    → (fix : FixTree) (s : Skeleton)
    → IsCanonicalFix heads g s fix s
    → SameSteadily s (recursion s (turn e w fix s)) (entered s (turn e w fix s (recursion s (turn e w fix s))))
