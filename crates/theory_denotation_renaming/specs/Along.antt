-- When two valuations agree along a map of the variables, and along a filling of monotype variables.
use Rattle.std.specs.Prelude.{◌≡◌, ℕ, List}
use Rattle.theory_renaming.specs.Renaming.{Map}
use Rattle.theory_canonical.specs.Skeletons.{Skeleton}
use Rattle.theory_canonical.specs.Contexts.{Standing, as_mono, as_heap, as_term, Stands}
use Rattle.theory_substitution.specs.Monotypes.{Filling}
use Rattle.theory_denotation.specs.Valuations.{Valuation, entry_at, mono_of_entry, mono_in}

-- Each entry of w stands in w' where the map sends its index.
pub record AgreeAlong (m : Map) (w w' : Valuation) : Type 0 where
  pub at : (n : ℕ) → entry_at w' (m n) ≡ entry_at w n

-- The variables of the context, which w values, are filled and renamed for w'.
pub record FillAlong (f : Filling) (m : Map) (g : List Standing) (w w' : Valuation) : Type 0 where
  pub monos : (n : ℕ) → Stands g n as_mono → mono_in w' (f n) ≡ mono_of_entry (entry_at w n)
  pub heaps : (n : ℕ) → Stands g n as_heap → entry_at w' (m n) ≡ entry_at w n
  pub terms : (n : ℕ) (s : Skeleton) → Stands g n (as_term s) → entry_at w' (m n) ≡ entry_at w n
