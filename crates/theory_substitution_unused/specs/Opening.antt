-- The map that leaves the variable x free: a tree renamed by it doesn't hold x.
use Rattle.std.specs.Prelude.{ℕ, zero, suc}
use Rattle.theory_renaming.specs.Renaming.{Map, lift}

unfoldable pub opening : ℕ → Map
opening zero = suc
opening (suc x) = lift (opening x)
