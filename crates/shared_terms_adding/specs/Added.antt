-- What is in a list of parts when a tree was added: the tree stands there with all that is in it, and nothing else is new.
use Rattle.std.specs.Prelude.{◌≡◌, ℕ, ◌<◌, ◌≤◌, List, length, Option, Some, None}
use Rattle.shared_terms_rows.specs.Parts.{Part}
use Rattle.shared_terms_rows.specs.Rows.{at, Extends}
use Rattle.shared_terms_adding.specs.Roots.{root_of}

-- the one is the other, or in one of its slots, or in that of what is in one
pub data IsIn (q : Part) : Part → Type 0 where
  itself : IsIn q q
  in_first : {p r : Part} → (root_of p).first ≡ Some r → IsIn q r → IsIn q p
  in_second : {p r : Part} → (root_of p).second ≡ Some r → IsIn q r → IsIn q p
  in_third : {p r : Part} → (root_of p).third ≡ Some r → IsIn q r → IsIn q p
  in_fourth : {p r : Part} → (root_of p).fourth ≡ Some r → IsIn q r → IsIn q p

-- what stands somewhere stays there, and what is new is the tree or in it
pub record GrowsBy (p : Part) (old new : List Part) : Type 0 where
  pub kept : Extends old new
  pub only : (k : ℕ) → length old ≤ k → k < length new → IsIn (at new k) p

-- the tree stands at the place, and all that is in it stands somewhere
pub record StandsWhole (parts : List Part) (p : Part) (place : ℕ) : Type 0 where
  pub within : place < length parts
  pub here : at parts place ≡ p
  pub whole : (q : Part) → IsIn q p → (k : ℕ) × (k < length parts) × (at parts k ≡ q)

-- the same for what may stand in a slot
abbrev pub GrowsBySlot : Option Part → List Part → List Part → Type 0
GrowsBySlot None old new = new ≡ old
GrowsBySlot (Some p) old new = GrowsBy p old new

abbrev pub StandsInSlot : List Part → Option Part → ℕ → Type 0
StandsInSlot parts None place = place ≡ 0
StandsInSlot parts (Some p) place = StandsWhole parts p place
