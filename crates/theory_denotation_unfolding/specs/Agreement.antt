-- Denotations that agree below a bound of fuel. A function gives answers that agree below each lower bound
-- for arguments that do, so agreement below a bound is agreement below each lower one.
use Rattle.std.specs.Prelude.{◌≡◌, ◌<◌, ◌≤◌, ℕ, List}
use Rattle.htt_syntax.specs.Trees.{MonoTree}
use Rattle.theory_values.specs.Values.{Value}
use Rattle.theory_values.specs.Heaps.{Heap}
use Rattle.theory_canonical.specs.Skeletons.{Skeleton, sk_o, sk_c, sk_arrow, sk_all}
use Rattle.theory_canonical.specs.Contexts.{Standing, as_mono, as_term, Stands, Heads, HasSkeleton}
use Rattle.theory_denotation.specs.Valuations.{Domain, ValuationEntry, den_term, Valuation, entry_at, mono_of_entry}
use Rattle.theory_denotation.specs.Valuations.{HeadEntries}

abbrev pub AgreeBelow : ℕ → (s : Skeleton) → Domain s → Domain s → Type 0
AgreeBelow bound sk_o v u = v ≡ u
AgreeBelow bound sk_c f g = (n : ℕ) (h : Heap) (cs : List ℕ) → n < bound → f n h cs ≡ g n h cs
AgreeBelow bound (sk_arrow s t) f g =
    (lower : ℕ) → lower ≤ bound → (d c : Domain s) → AgreeBelow lower s d c → AgreeBelow lower t (f d) (g c)
AgreeBelow bound (sk_all s) f g = (t : MonoTree) → AgreeBelow bound s (f t) (g t)

-- Two entries are denotations at the skeleton that agree.
pub record EntriesAgree (bound : ℕ) (s : Skeleton) (x y : ValuationEntry) : Type 0 where
  pub left : Domain s
  pub right : Domain s
  pub is_left : x ≡ den_term s left
  pub is_right : y ≡ den_term s right
  pub agree : AgreeBelow bound s left right

pub record ValuationsAgree (bound : ℕ) (g : List Standing) (w w' : Valuation) : Type 0 where
  pub terms : (n : ℕ) (s : Skeleton) → Stands g n (as_term s) → EntriesAgree bound s (entry_at w n) (entry_at w' n)
  pub monos : (n : ℕ) → Stands g n as_mono → mono_of_entry (entry_at w n) ≡ mono_of_entry (entry_at w' n)

pub record HeadEntriesAgree (bound : ℕ) (heads : Heads) (e e' : HeadEntries) : Type 0 where
  pub vals : (n : ℕ) (s : Skeleton) → HasSkeleton heads.vals n s → EntriesAgree bound s (e.vals n) (e'.vals n)
  pub made : (n : ℕ) (s : Skeleton) (values : List Value)
      → HasSkeleton heads.made n s
      → EntriesAgree bound s (e.made n values) (e'.made n values)

-- A denotation is steady where below each bound it can't tell apart what agrees below it.
abbrev pub IsSteady : (s : Skeleton) → Domain s → Type 0
IsSteady s d = (bound : ℕ) → AgreeBelow bound s d d

abbrev pub SteadyValuation : List Standing → Valuation → Type 0
SteadyValuation g w = (bound : ℕ) → ValuationsAgree bound g w w

abbrev pub SteadyHeads : Heads → HeadEntries → Type 0
SteadyHeads heads e = (bound : ℕ) → HeadEntriesAgree bound heads e e

-- Two denotations that come to the same with all fuel, where what they are given is steady.
abbrev pub SameSteadily : (s : Skeleton) → Domain s → Domain s → Type 0
SameSteadily sk_o v u = v ≡ u
SameSteadily sk_c f g = f ≡ g
SameSteadily (sk_arrow s t) f g = (d : Domain s) → IsSteady s d → SameSteadily t (f d) (g d)
SameSteadily (sk_all s) f g = (t : MonoTree) → SameSteadily s (f t) (g t)
