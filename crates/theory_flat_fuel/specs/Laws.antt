-- Fuel is depth: what a flat body comes to, other than want of fuel, it comes to with more fuel too.
use Rattle.std.specs.Prelude.{◌≡◌, ◌≢◌, ℕ, ◌+◌, List}
use Rattle.theory_values.specs.Values.{Value}
use Rattle.theory_values.specs.Heaps.{Heap}
use Rattle.theory_denotation.specs.Outcomes.{out_of_fuel}
use Rattle.theory_flat.specs.Flat.{Instance}
use Rattle.theory_flat.specs.Reading.{calling, flat_run}

pub record MoreFuelKeepsFlat : Type 0 where
  pub calls : (instances : List Instance) (n more number : ℕ) (vs : List Value) (h : Heap) (cs : List ℕ)
      → calling instances n number vs h cs ≢ out_of_fuel
      → calling instances (n + more) number vs h cs ≡ calling instances n number vs h cs
  pub bodies : (instances : List Instance) (n more number : ℕ) (vs : List Value) (h : Heap) (cs : List ℕ)
      → flat_run instances n number vs h cs ≢ out_of_fuel
      → flat_run instances (n + more) number vs h cs ≡ flat_run instances n number vs h cs
