-- What canonical terms denote at each skeleton, and what a valuation gives for the variables.
use Rattle.std.specs.Prelude.{ℕ, zero, suc, List, [], ◌∷◌}
use Rattle.htt_syntax.specs.Trees.{MonoTree, m_word, m_bool, m_loc, m_unit, m_pair, m_var}
use Rattle.theory_values.specs.Values.{Value, v_unit}
use Rattle.theory_values.specs.Heaps.{Heap, empty_heap}
use Rattle.theory_canonical.specs.Skeletons.{Skeleton, sk_o, sk_c, sk_arrow, sk_all}
use Rattle.theory_denotation.specs.Outcomes.{Running, wrong}

-- A value, a computation, a function, or a family over monotypes.
abbrev pub Domain : Skeleton → Type 0
Domain sk_o = Value
Domain sk_c = Running
Domain (sk_arrow s t) = Domain s → Domain t
Domain (sk_all s) = MonoTree → Domain s

pub data ValuationEntry : Type 0 where
  den_mono : MonoTree → ValuationEntry
  den_heap : Heap → ValuationEntry
  den_term : (s : Skeleton) → Domain s → ValuationEntry

-- The innermost entry comes first.
abbrev pub Valuation : Type 0
Valuation = List ValuationEntry

-- An index without an entry, and a phrase that isn't canonical at its skeleton, has a harmless
-- denotation on which nothing rests.
abbrev pub no_entry : ValuationEntry
no_entry = den_term sk_o v_unit

abbrev pub nothing_at : (s : Skeleton) → Domain s
nothing_at sk_o = v_unit
nothing_at sk_c = λ n h cs. wrong
nothing_at (sk_arrow s t) = λ d. nothing_at t
nothing_at (sk_all s) = λ t. nothing_at s

abbrev pub entry_at : Valuation → ℕ → ValuationEntry
entry_at [] n = no_entry
entry_at (x ∷ w) zero = x
entry_at (x ∷ w) (suc n) = entry_at w n

abbrev pub mono_of_entry : ValuationEntry → MonoTree
mono_of_entry (den_mono t) = t
mono_of_entry _ = m_unit

abbrev pub heap_of_entry : ValuationEntry → Heap
heap_of_entry (den_heap h) = h
heap_of_entry _ = empty_heap

abbrev pub value_of_entry : ValuationEntry → Value
value_of_entry (den_term sk_o v) = v
value_of_entry _ = v_unit

abbrev pub running_of_entry : ValuationEntry → Running
running_of_entry (den_term sk_c f) = f
running_of_entry _ = λ n h cs. wrong

-- A function at an argument, which is given at each skeleton.
abbrev pub applied_entry : ValuationEntry → ((s : Skeleton) → Domain s) → ValuationEntry
applied_entry (den_term (sk_arrow s t) f) x = den_term t (f (x s))
applied_entry _ x = no_entry

abbrev pub instance_entry : ValuationEntry → MonoTree → ValuationEntry
instance_entry (den_term (sk_all s) f) t = den_term s (f t)
instance_entry _ t = no_entry

abbrev pub at_skeleton : Value → (s : Skeleton) → Domain s
at_skeleton v sk_o = v
at_skeleton v s = nothing_at s

-- A monotype under a valuation.
abbrev pub mono_in : Valuation → MonoTree → MonoTree
mono_in w m_word = m_word
mono_in w m_bool = m_bool
mono_in w m_loc = m_loc
mono_in w m_unit = m_unit
mono_in w (m_pair t u) = m_pair (mono_in w t) (mono_in w u)
mono_in w (m_var index) = mono_of_entry (entry_at w index)

abbrev pub heap_in : Valuation → ℕ → Heap
heap_in w n = heap_of_entry (entry_at w n)

-- What the values of the file denote, and the made functions with their captured values.
pub record HeadEntries : Type 0 where
  pub vals : ℕ → ValuationEntry
  pub made : ℕ → List Value → ValuationEntry
