-- The laws of the meaning.
use Rattle.std.specs.Prelude.{◌≡◌, ◌≢◌, ◌+◌, ℕ, List, ◌++◌}
use Rattle.htt_syntax.specs.Trees.{TermTree, CompTree}
use Rattle.theory_values.specs.Heaps.{Heap}
use Rattle.theory_meaning.specs.Closures.{RunValue, Env, lacks_fuel, done, no_fuel, fault, Items}
use Rattle.theory_meaning.specs.Meaning.{pure, run}

-- A result other than want of fuel stays the same with more fuel.
pub record MoreFuelKeeps : Type 0 where
  pub pure_stays : (items : Items) (n more : ℕ) (e : Env) (term : TermTree)
      → pure items n e term ≢ lacks_fuel
      → pure items (n + more) e term ≡ pure items n e term
  pub run_stays : (items : Items) (n more : ℕ) (e : Env) (comp : CompTree) (h : Heap) (cs : List ℕ)
      → run items n e comp h cs ≢ no_fuel
      → run items (n + more) e comp h cs ≡ run items n e comp h cs

-- A run that ends without asking ends so with more choices, and hands the further ones on.
pub record ChoicesAreHandedOn : Type 0 where
  pub when_done : (items : Items) (n : ℕ) (e : Env) (comp : CompTree) (h : Heap) (cs more : List ℕ) (v : RunValue)
      (k : Heap) (rest : List ℕ)
      → run items n e comp h cs ≡ done v k rest
      → run items n e comp h (cs ++ more) ≡ done v k (rest ++ more)
  pub when_fault : (items : Items) (n : ℕ) (e : Env) (comp : CompTree) (h : Heap) (cs more : List ℕ)
      → run items n e comp h cs ≡ fault
      → run items n e comp h (cs ++ more) ≡ fault
  pub when_no_fuel : (items : Items) (n : ℕ) (e : Env) (comp : CompTree) (h : Heap) (cs more : List ℕ)
      → run items n e comp h cs ≡ no_fuel
      → run items n e comp h (cs ++ more) ≡ no_fuel
