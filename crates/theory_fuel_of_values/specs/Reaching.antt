-- What one computation comes to another comes to with some fuel. At functions this is said of arguments whose right
-- side comes to the same with more fuel: so the fuel of two uses can be joined, and that of a recursion's turns.
use Rattle.std.specs.Prelude.{◌≡◌, ◌≢◌, ℕ, List}
use Rattle.htt_syntax.specs.Trees.{MonoTree}
use Rattle.theory_values.specs.Values.{Value}
use Rattle.theory_values.specs.Heaps.{Heap}
use Rattle.theory_canonical.specs.Skeletons.{Skeleton, sk_o, sk_c, sk_arrow, sk_all}
use Rattle.theory_canonical.specs.Contexts.{Standing, as_mono, as_term, Stands, Heads, HasSkeleton}
use Rattle.theory_denotation.specs.Outcomes.{Running, out_of_fuel}
use Rattle.theory_denotation.specs.Valuations.{Domain, ValuationEntry, den_term, Valuation, entry_at, mono_of_entry}
use Rattle.theory_denotation.specs.Valuations.{HeadEntries}
use Rattle.theory_denotation_relations.specs.Relating.{Related, RelatedValuations, RelatedHeads}
use Rattle.theory_denotation_relations.specs.Laws.{KeptByFuel}

-- What f comes to, g comes to with some fuel, unless f wants fuel.
pub record ReachedBy (f g : Running) : Type 0 where
  pub at : (n : ℕ) (h : Heap) (cs : List ℕ) → f n h cs ≢ out_of_fuel → (m : ℕ) × (g m h cs ≡ f n h cs)

abbrev pub Reached : (s : Skeleton) → Domain s → Domain s → Type 0
Reached sk_o v u = v ≡ u
Reached sk_c f g = ReachedBy f g
Reached (sk_arrow s t) f g = (d c : Domain s) → Reached s d c → Related KeptByFuel s c c → Reached t (f d) (g c)
Reached (sk_all s) f g = (t : MonoTree) → Reached s (f t) (g t)

-- Two entries are denotations at the skeleton, and the right one reaches what the left one comes to.
pub record ReachedEntries (s : Skeleton) (x y : ValuationEntry) : Type 0 where
  pub left : Domain s
  pub right : Domain s
  pub is_left : x ≡ den_term s left
  pub is_right : y ≡ den_term s right
  pub reached : Reached s left right

pub record ReachedValuations (g : List Standing) (w w' : Valuation) : Type 0 where
  pub terms : (n : ℕ) (s : Skeleton) → Stands g n (as_term s) → ReachedEntries s (entry_at w n) (entry_at w' n)
  pub monos : (n : ℕ) → Stands g n as_mono → mono_of_entry (entry_at w n) ≡ mono_of_entry (entry_at w' n)
  pub kept : RelatedValuations KeptByFuel g w' w'

pub record ReachedHeads (heads : Heads) (e e' : HeadEntries) : Type 0 where
  pub vals : (n : ℕ) (s : Skeleton) → HasSkeleton heads.vals n s → ReachedEntries s (e.vals n) (e'.vals n)
  pub made : (n : ℕ) (s : Skeleton) (values : List Value)
      → HasSkeleton heads.made n s
      → ReachedEntries s (e.made n values) (e'.made n values)
  pub kept : RelatedHeads KeptByFuel heads e' e'
