-- When a value of the text realises a denotation, at a type: what the denotation comes to, the text
-- comes to as well, from some fuel on. Only want of fuel in the denotation leaves the text free.
use Rattle.std.specs.Prelude.{◌≡◌, ◌≢◌, ◌≤◌, ℕ, List, [], ◌∷◌, Some, slice_get}
use Rattle.htt_syntax.specs.Trees.{MonoTree, TyTree, TermTree, y_mono, y_fun, y_all, y_hoare, y_at}
use Rattle.theory_values.specs.Heaps.{Heap}
use Rattle.theory_meaning.specs.Closures.{RunValue, base, Env, nothing, with_mono, with_value, PureResult, gives}
use Rattle.theory_meaning.specs.Closures.{RunResult, Items}
use Rattle.theory_meaning.specs.Meaning.{item_result, application_result, instance_result, inner_result, start_result}
use Rattle.theory_meaning.specs.Meaning.{runner_of}
use Rattle.theory_canonical.specs.Skeletons.{Skeleton, sk_o, sk_c, sk_arrow, sk_all, skeleton}
use Rattle.theory_typing.specs.Contexts.{Context, Environment, en_mono, en_term}
use Rattle.theory_denotation.specs.Outcomes.{Outcome, ended, out_of_fuel}
use Rattle.theory_denotation.specs.Valuations.{Domain, den_mono, den_term, Valuation, mono_in, HeadEntries}
use Rattle.theory_denotation.specs.Denotation.{term_den}
use Rattle.theory_denotation.specs.Satisfaction.{answer_mono}
use Rattle.theory_denotation.specs.Laws.{run_result}
use Rattle.theory_meaning_simulation.specs.Simulation.{Shaped}

-- From some fuel on an evaluation gives one value, which is so.
pub record EventuallyGives (r : ℕ → PureResult) (P : RunValue → Type 0) : Type 0 where
  pub fuel : ℕ
  pub value : RunValue
  pub given : (i : ℕ) → fuel ≤ i → r i ≡ gives value
  pub so : P value

-- Where it is the end, its value has the form of the monotype.
abbrev pub EndsShaped : MonoTree → Outcome → Type 0
EndsShaped t (ended v h cs) = Shaped v t
EndsShaped t _ = Unit {0}

-- From some fuel on a run of the text comes to the outcome.
pub record EventuallyComes (t : MonoTree) (r : ℕ → RunResult) (o : Outcome) : Type 0 where
  pub fuel : ℕ
  pub comes : (j : ℕ) → fuel ≤ j → r j ≡ run_result o
  pub shaped : EndsShaped t o

-- So it does, unless the outcome is want of fuel.
abbrev pub Reaches : MonoTree → (ℕ → RunResult) → Outcome → Type 0
Reaches t r o = o ≢ out_of_fuel → EventuallyComes t r o

unfoldable pub Realises : Items → Valuation → TyTree → (s : Skeleton) → RunValue → Domain s → Type 0
Realises items w (y_mono mono) sk_o u v = (u ≡ base v) × Shaped v (mono_in w mono)
Realises items w (y_fun argument answer) (sk_arrow s t) u f =
    (x : RunValue) (d : Domain s)
    → Realises items w argument s x d
    → EventuallyGives (λ i. application_result (inner_result items i) u x)
    (λ y. Realises items (den_term s d ∷ w) answer t y (f d))
Realises items w (y_all body) (sk_all s) u f =
    (t : MonoTree)
    → EventuallyGives (λ i. instance_result (inner_result items i) u (Some t))
    (λ y. Realises items (den_mono t ∷ w) body s y (f t))
Realises items w (y_hoare spec) sk_c u f =
    (n : ℕ) (h : Heap) (cs : List ℕ)
    → Reaches (answer_mono w spec) (λ j. start_result (runner_of items j) u h cs) (f n h cs)
Realises items w (y_at at ty) s u d = Realises items w ty s u d
Realises items w _ s u d = ⊥

-- An environment of the text realises a valuation, for a context without heaps.
pub data Realised (items : Items) : Context → Env → Valuation → Type 0 where
  realised_none : Realised items [] nothing []
  realised_mono : {g : Context} {e : Env} {w : Valuation} {t : MonoTree}
      → Realised items g e w
      → Realised items (en_mono ∷ g) (with_mono t e) (den_mono t ∷ w)
  realised_value : {g : Context} {e : Env} {w : Valuation} {ty : TyTree} {u : RunValue} {d : Domain (skeleton ty)}
      → Realises items w ty (skeleton ty) u d
      → Realised items g e w
      → Realised items (en_term ty ∷ g) (with_value u e) (den_term (skeleton ty) d ∷ w)

-- The written value of this number realises its entry.
pub record ValRealises (items : Items) (e : HeadEntries) (n : ℕ) (ty : TyTree) : Type 0 where
  pub of : Domain (skeleton ty)
  pub is : e.vals n ≡ den_term (skeleton ty) of
  pub realises :
      EventuallyGives (λ i. item_result (inner_result items i) (slice_get items.vals n))
      (λ u. Realises items [] ty (skeleton ty) u of)

-- The written values realise their entries, and the written definitions what their forms denote.
pub record ItemsRealise (items : Items) (env : Environment) (e : HeadEntries) : Type 0 where
  pub vals : (n : ℕ) (ty : TyTree) → slice_get env.vals n ≡ Some ty → ValRealises items e n ty
  pub defs : (n : ℕ) (definition : TyTree × TermTree)
      → slice_get env.defs n ≡ Some definition
      → EventuallyGives (λ i. item_result (inner_result items i) (slice_get items.defs n)) (λ u.
      Realises items [] (definition.0) (skeleton (definition.0)) u
      (term_den e [] (definition.1) (skeleton (definition.0))))
