-- When a value of the text does what a denotation does, at a type and up to a bound on fuel. The text
-- may want fuel where the denotation doesn't; else both come to the same.
use Rattle.std.specs.Prelude.{◌≡◌, ◌<◌, ◌≤◌, ℕ, List, [], ◌∷◌, Some, slice_get}
use Rattle.htt_syntax.specs.Trees.{MonoTree, TyTree, TermTree, m_word, m_bool, m_loc, m_unit, m_pair, y_mono, y_fun}
use Rattle.htt_syntax.specs.Trees.{y_all, y_hoare, y_at}
use Rattle.theory_values.specs.Values.{Value, v_word, v_bool, v_loc, v_unit, v_pair}
use Rattle.theory_values.specs.Heaps.{Heap}
use Rattle.theory_meaning.specs.Closures.{RunValue, base, Env, nothing, with_mono, with_value, PureResult, gives}
use Rattle.theory_meaning.specs.Closures.{lacks_fuel, faults, RunResult, done, no_fuel, asks, fault, Items}
use Rattle.theory_meaning.specs.Meaning.{item_result, application_result, instance_result, inner_result, start_result}
use Rattle.theory_meaning.specs.Meaning.{runner_of}
use Rattle.theory_canonical.specs.Skeletons.{Skeleton, sk_o, sk_c, sk_arrow, sk_all, skeleton}
use Rattle.theory_typing.specs.Contexts.{Context, Environment, en_mono, en_term}
use Rattle.theory_denotation.specs.Outcomes.{Outcome, ended, asking, wrong}
use Rattle.theory_denotation.specs.Valuations.{Domain, den_mono, den_term, Valuation, mono_in, HeadEntries}
use Rattle.theory_denotation.specs.Denotation.{term_den}
use Rattle.theory_denotation.specs.Satisfaction.{answer_mono}

-- A value of the form of a monotype, where words and locations have no bound.
abbrev pub Shaped : Value → MonoTree → Type 0
Shaped (v_word n) m_word = Unit {0}
Shaped (v_bool b) m_bool = Unit {0}
Shaped (v_loc n) m_loc = Unit {0}
Shaped v_unit m_unit = Unit {0}
Shaped (v_pair x y) (m_pair t u) = Shaped x t × Shaped y u
Shaped _ _ = ⊥

-- An evaluation gives a value that is so, unless it lacks fuel.
abbrev pub GivesSo : PureResult → (RunValue → Type 0) → Type 0
GivesSo (gives u) P = P u
GivesSo lacks_fuel P = Unit {0}
GivesSo faults P = ⊥

-- A run of the text comes to an outcome, with a value of the form of a monotype.
abbrev pub AlikeOutcomes : MonoTree → RunResult → Outcome → Type 0
AlikeOutcomes t (done u h cs) (ended v k ds) = (u ≡ base v) × Shaped v t × (h ≡ k) × (cs ≡ ds)
AlikeOutcomes t no_fuel o = Unit {0}
AlikeOutcomes t asks asking = Unit {0}
AlikeOutcomes t fault wrong = Unit {0}
AlikeOutcomes t _ _ = ⊥

unfoldable pub Does : Items → Valuation → TyTree → (s : Skeleton) → ℕ → RunValue → Domain s → Type 0
Does items w (y_mono mono) sk_o k u v = (u ≡ base v) × Shaped v (mono_in w mono)
Does items w (y_fun argument answer) (sk_arrow s t) k u f =
    (m : ℕ)
    → m ≤ k
    → (x : RunValue) (d : Domain s)
    → Does items w argument s m x d
    → (i : ℕ)
    → GivesSo (application_result (inner_result items i) u x) (λ y. Does items (den_term s d ∷ w) answer t m y (f d))
Does items w (y_all body) (sk_all s) k u f =
    (t : MonoTree) (i : ℕ)
    → GivesSo (instance_result (inner_result items i) u (Some t)) (λ y. Does items (den_mono t ∷ w) body s k y (f t))
Does items w (y_hoare spec) sk_c k u f =
    (j n : ℕ)
    → j < k
    → j ≤ n
    → (h : Heap) (cs : List ℕ)
    → AlikeOutcomes (answer_mono w spec) (start_result (runner_of items j) u h cs) (f n h cs)
Does items w (y_at at ty) s k u d = Does items w ty s k u d
Does items w _ s k u d = ⊥

-- An environment of the text and a valuation, for a context without heaps.
pub data Matches (items : Items) (k : ℕ) : Context → Env → Valuation → Type 0 where
  match_none : Matches items k [] nothing []
  match_mono : {g : Context} {e : Env} {w : Valuation} {t : MonoTree}
      → Matches items k g e w
      → Matches items k (en_mono ∷ g) (with_mono t e) (den_mono t ∷ w)
  match_value : {g : Context} {e : Env} {w : Valuation} {ty : TyTree} {u : RunValue} {d : Domain (skeleton ty)}
      → Does items w ty (skeleton ty) k u d
      → Matches items k g e w
      → Matches items k (en_term ty ∷ g) (with_value u e) (den_term (skeleton ty) d ∷ w)

-- The written value of this number does what its entry denotes.
pub record ValDoes (items : Items) (e : HeadEntries) (n : ℕ) (ty : TyTree) : Type 0 where
  pub of : Domain (skeleton ty)
  pub is : e.vals n ≡ den_term (skeleton ty) of
  pub does : (k i : ℕ)
      → GivesSo (item_result (inner_result items i) (slice_get items.vals n))
      (λ u. Does items [] ty (skeleton ty) k u of)

pub record ItemsDo (items : Items) (env : Environment) (e : HeadEntries) : Type 0 where
  pub vals : (n : ℕ) (ty : TyTree) → slice_get env.vals n ≡ Some ty → ValDoes items e n ty
  pub defs : (n : ℕ) (definition : TyTree × TermTree)
      → slice_get env.defs n ≡ Some definition
      → (k i : ℕ)
      → GivesSo (item_result (inner_result items i) (slice_get items.defs n)) (λ u.
      Does items [] (definition.0) (skeleton (definition.0)) k u
      (term_den e [] (definition.1) (skeleton (definition.0))))
