-- What holds of every canonical computation: more fuel keeps an outcome, and choices that aren't used
-- are handed on.
use Rattle.std.specs.Prelude.{◌≡◌, ◌≢◌, ℕ, ◌+◌, List, [], ◌++◌}
use Rattle.htt_syntax.specs.Trees.{TermTree, CompTree}
use Rattle.theory_values.specs.Heaps.{Heap}
use Rattle.theory_canonical.specs.Skeletons.{Skeleton}
use Rattle.theory_canonical.specs.Contexts.{Standing, Heads}
use Rattle.theory_canonical.specs.Canonical.{IsCanonical, IsCanonicalComp}
use Rattle.theory_denotation.specs.Outcomes.{Outcome, Running, ended, out_of_fuel, asking, wrong}
use Rattle.theory_denotation.specs.Valuations.{Valuation, HeadEntries}
use Rattle.theory_denotation.specs.Denotation.{term_den, comp_den, ValTree, heads_of_vals}
use Rattle.theory_denotation.specs.Valued.{HeadsValued, HeadsRun}
use Rattle.theory_denotation_relations.specs.Relating.{Related, RelatedValuations, RelatedHeads}
use Rattle.theory_denotation_relations.specs.Files.{AreVals, heads_of_file}

-- What f comes to, g comes to with as much fuel and more, unless f wants fuel.
pub record KeptByFuel (f g : Running) : Type 0 where
  pub at : (n more : ℕ) (h : Heap) (cs : List ℕ) → f n h cs ≢ out_of_fuel → g (n + more) h cs ≡ f n h cs

abbrev pub outcome_with_more : List ℕ → Outcome → Outcome
outcome_with_more more (ended v h cs) = ended v h (cs ++ more)
outcome_with_more more out_of_fuel = out_of_fuel
outcome_with_more more asking = asking
outcome_with_more more wrong = wrong

-- f comes to the same with further choices, which it hands on, unless it asks.
pub record HandsOn (f g : Running) : Type 0 where
  pub at : (n : ℕ) (h : Heap) (cs more : List ℕ)
      → f n h cs ≢ asking
      → f n h (cs ++ more) ≡ outcome_with_more more (f n h cs)

pub record MoreFuelKeepsOutcomes : Type 0 where
  -- where heads and variables are so, terms and computations are
  pub terms : (heads : Heads) (e : HeadEntries) (g : List Standing) (w : Valuation)
      → RelatedHeads KeptByFuel heads e e
      → RelatedValuations KeptByFuel g w w
      → (term : TermTree) (s : Skeleton)
      → IsCanonical heads g term s
      → Related KeptByFuel s (term_den e w term s) (term_den e w term s)
  pub computations : (heads : Heads) (e : HeadEntries) (g : List Standing) (w : Valuation)
      → RelatedHeads KeptByFuel heads e e
      → RelatedValuations KeptByFuel g w w
      → (comp : CompTree)
      → IsCanonicalComp heads g comp
      → KeptByFuel (comp_den e w comp) (comp_den e w comp)
  -- and the values of a file are so
  pub files : (vs : List ValTree)
      → AreVals [] vs
      → RelatedHeads KeptByFuel (heads_of_file vs) (heads_of_vals vs) (heads_of_vals vs)

pub record OutcomesHandOnChoices : Type 0 where
  pub terms : (heads : Heads) (e : HeadEntries) (g : List Standing) (w : Valuation)
      → RelatedHeads HandsOn heads e e
      → RelatedValuations HandsOn g w w
      → (term : TermTree) (s : Skeleton)
      → IsCanonical heads g term s
      → Related HandsOn s (term_den e w term s) (term_den e w term s)
  pub computations : (heads : Heads) (e : HeadEntries) (g : List Standing) (w : Valuation)
      → RelatedHeads HandsOn heads e e
      → RelatedValuations HandsOn g w w
      → (comp : CompTree)
      → IsCanonicalComp heads g comp
      → HandsOn (comp_den e w comp) (comp_den e w comp)
  pub files : (vs : List ValTree)
      → AreVals [] vs
      → RelatedHeads HandsOn (heads_of_file vs) (heads_of_vals vs) (heads_of_vals vs)

-- The values of a file denote at their skeletons, which end in computations.
pub record FilesAreValued : Type 0 where
  pub valued : (vs : List ValTree) → AreVals [] vs → HeadsValued (heads_of_file vs) (heads_of_vals vs)
  pub runs : (vs : List ValTree) → AreVals [] vs → HeadsRun (heads_of_file vs)
