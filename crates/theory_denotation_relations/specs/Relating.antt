-- A relation of computations, carried to each skeleton: values are equal, and functions give related
-- answers for related arguments.
use Rattle.std.specs.Prelude.{◌≡◌, ℕ, suc, ◌+◌, List}
use Rattle.htt_syntax.specs.Trees.{MonoTree}
use Rattle.theory_values.specs.Values.{Value}
use Rattle.theory_canonical.specs.Skeletons.{Skeleton, sk_o, sk_c, sk_arrow, sk_all}
use Rattle.theory_canonical.specs.Contexts.{Standing, as_mono, as_term, Stands, Heads, HasSkeleton}
use Rattle.theory_denotation.specs.Outcomes.{Running, ended, out_of_fuel, in_sequence, alloc_outcome, get_outcome}
use Rattle.theory_denotation.specs.Outcomes.{set_outcome, free_outcome, branch_outcome}
use Rattle.theory_denotation.specs.Valuations.{Domain, ValuationEntry, den_term, Valuation, entry_at, mono_of_entry}
use Rattle.theory_denotation.specs.Valuations.{HeadEntries}
use Rattle.theory_denotation.specs.Recursion.{entered_running}

abbrev pub Relation : Type 1
Relation = Running → Running → Type 0

abbrev pub Related : Relation → (s : Skeleton) → Domain s → Domain s → Type 0
Related Q sk_o v u = v ≡ u
Related Q sk_c f g = Q f g
Related Q (sk_arrow s t) f g = (d c : Domain s) → Related Q s d c → Related Q t (f d) (g c)
Related Q (sk_all s) f g = (t : MonoTree) → Related Q s (f t) (g t)

-- The relation is kept by all of which computations are made.
pub record IsKept (Q : Relation) : Type 0 where
  pub ending : (v : Value) → Q (λ n h cs. ended v h cs) (λ n h cs. ended v h cs)
  pub alloc : (v : Value) → Q (λ n h cs. alloc_outcome v h cs) (λ n h cs. alloc_outcome v h cs)
  pub get : (t : MonoTree) (v : Value) → Q (λ n h cs. get_outcome t v h cs) (λ n h cs. get_outcome t v h cs)
  pub set : (t : MonoTree) (v u : Value) → Q (λ n h cs. set_outcome t v u h cs) (λ n h cs. set_outcome t v u h cs)
  pub free : (t : MonoTree) (v : Value) → Q (λ n h cs. free_outcome t v h cs) (λ n h cs. free_outcome t v h cs)
  pub branch : (v : Value) (f g a b : Running)
      → Q f g
      → Q a b
      → Q (λ n h cs. branch_outcome v (f n h cs) (a n h cs)) (λ n h cs. branch_outcome v (g n h cs) (b n h cs))
  pub sequence : (f g : Running) (a b : Value → Running)
      → Q f g
      → ((v : Value) → Q (a v) (b v))
      → Q (in_sequence f a) (in_sequence g b)
  pub unentered : (f : Running) → Q (λ n h cs. out_of_fuel) f
  pub entered : (f g : Running) → Q f g → Q (entered_running f) (entered_running g)
  -- a recursion, where fewer turns are related to more
  pub by_fuel : (f g : ℕ → Running)
      → ((m more : ℕ) → Q (f m) (g (m + more)))
      → Q (λ n h cs. f (suc n) n h cs) (λ n h cs. g (suc n) n h cs)

-- Two entries are related denotations at the skeleton.
pub record RelatedEntries (Q : Relation) (s : Skeleton) (x y : ValuationEntry) : Type 0 where
  pub left : Domain s
  pub right : Domain s
  pub is_left : x ≡ den_term s left
  pub is_right : y ≡ den_term s right
  pub related : Related Q s left right

pub record RelatedValuations (Q : Relation) (g : List Standing) (w w' : Valuation) : Type 0 where
  pub terms : (n : ℕ) (s : Skeleton) → Stands g n (as_term s) → RelatedEntries Q s (entry_at w n) (entry_at w' n)
  pub monos : (n : ℕ) → Stands g n as_mono → mono_of_entry (entry_at w n) ≡ mono_of_entry (entry_at w' n)

pub record RelatedHeads (Q : Relation) (heads : Heads) (e e' : HeadEntries) : Type 0 where
  pub vals : (n : ℕ) (s : Skeleton) → HasSkeleton heads.vals n s → RelatedEntries Q s (e.vals n) (e'.vals n)
  pub made : (n : ℕ) (s : Skeleton) (values : List Value)
      → HasSkeleton heads.made n s
      → RelatedEntries Q s (e.made n values) (e'.made n values)
