-- A recursive function of the text does what the recursion denotes.
use Rattle.std.proofs.Common.{◌≤◌, ℕ, zero, suc, List, ◌∷◌, arith}
use Rattle.htt_syntax.specs.Trees.{TyTree, FixTree, y_mono, y_fun, y_all, y_hoare, y_at}
use Rattle.theory_meaning.specs.Closures.{RunValue, fix_of, Env, with_value, Items}
use Rattle.theory_meaning.specs.Meaning.{application_result, inner_result}
use Rattle.theory_canonical.specs.Skeletons.{skeleton}
use Rattle.theory_typing.specs.Contexts.{Context, Environment, Obligation, EndsInHoare}
use Rattle.theory_typing.specs.Typing.{FitsFix, fix_param, fix_body}
use Rattle.theory_denotation.specs.Valuations.{Domain, den_mono, den_term, Valuation}
use Rattle.theory_denotation.specs.Recursion.{entered, turns, by_fuel}
use Rattle.theory_meaning_simulation.specs.Simulation.{Does}
use Rattle.theory_meaning_simulation.proofs.Results.{gives_more, gives_each}
use Rattle.theory_meaning_simulation.proofs.Matching.{does_down}

-- One of the levels up to a bound, and a number of turns that is no less.
pub record Level (k : ℕ) : Type 0 where
  pub at : ℕ
  pub turn : ℕ
  pub below : at ≤ k
  pub enough : at ≤ turn

module _ (items : Items) where
  -- what each of the turns does at its levels, the recursion does
  pub does_by_fuel : (ty : TyTree)
      → EndsInHoare ty
      → (w : Valuation) (k : ℕ) (u : RunValue) (g : ℕ → Domain (skeleton ty))
      → ((l : Level k) → Does items w ty (skeleton ty) l.at u (g l.turn))
      → Does items w ty (skeleton ty) k u (by_fuel (skeleton ty) g)
  unfolding Does skeleton
  does_by_fuel (y_mono mono) r w k u g f = absurd r
  does_by_fuel (y_fun argument answer) r w k u g f = λ m le x d h i.
      gives_more (application_result (inner_result items i) u x)
      (λ y. (l : Level m) → Does items (den_term (skeleton argument) d ∷ w) answer (skeleton answer) l.at y (g l.turn d))
      (λ y. Does items (den_term (skeleton argument) d ∷ w) answer (skeleton answer) m y (by_fuel (skeleton answer) (λ n. g n d)))
      (λ y a. does_by_fuel answer r (den_term (skeleton argument) d ∷ w) m y (λ n. g n d) a)
      (gives_each (application_result (inner_result items i) u x)
      (λ (l : Level m) y. Does items (den_term (skeleton argument) d ∷ w) answer (skeleton answer) l.at y (g l.turn d))
      (record { at = m; turn = m; below = omega arith; enough = omega arith })
      (λ l.
      f (record { at = l.at; turn = l.turn; below = omega (arith, l.below, le); enough = l.enough }) l.at (omega arith) x d
      (does_down items argument w (skeleton argument) m l.at x d l.below h) i))
  does_by_fuel (y_all body) r w k u g f = λ t i.
      gives_more _ (λ y. (l : Level k) → Does items (den_mono t ∷ w) body (skeleton body) l.at y (g l.turn t))
      (λ y. Does items (den_mono t ∷ w) body (skeleton body) k y (by_fuel (skeleton body) (λ n. g n t)))
      (λ y a. does_by_fuel body r (den_mono t ∷ w) k y (λ n. g n t) a)
      (gives_each _ (λ (l : Level k) y. Does items (den_mono t ∷ w) body (skeleton body) l.at y (g l.turn t))
      (record { at = k; turn = k; below = omega arith; enough = omega arith }) (λ l. f l t i))
  does_by_fuel (y_hoare spec) r w k u g f = λ j n below le h cs.
      f (record { at = suc j; turn = suc n; below = omega (arith, below); enough = omega (arith, le) }) j n (omega arith) le h cs
  does_by_fuel (y_at at ty) r w k u g f = absurd r

  -- at level 0 nothing is run
  pub does_at_zero : {env : Environment} {g : Context} {whole ty : TyTree} {fix r : FixTree} {o : List Obligation}
      → FitsFix env g whole fix ty r o
      → (w : Valuation) (m : ℕ)
      → m ≤ 0
      → (e0 e : Env) (fix0 : FixTree) (d : Domain (skeleton ty))
      → Does items w ty (skeleton ty) m (fix_of e0 fix0 e fix) d
  unfolding Does skeleton
  does_at_zero (fix_param {argument' = argument'} a) w m le e0 e fix0 f =
      λ n below x d h i. does_at_zero a (den_term (skeleton argument') d ∷ w) n (omega (arith, below, le)) e0 (with_value x e) fix0 (f d)
  does_at_zero (fix_body a) w m le e0 e fix0 f = λ j n below more h cs. absurd (omega (arith, below, le))

  -- each of the turns does what the function does, at the levels below its number
  pub turns_do : (ty : TyTree) (w : Valuation) (u : RunValue) (f : Domain (skeleton ty) → Domain (skeleton ty)) (k : ℕ)
      → ((m : ℕ) → Does items w ty (skeleton ty) 0 u (turns (skeleton ty) f m))
      → ((l m : ℕ) → suc l ≤ k → Does items w ty (skeleton ty) l u (turns (skeleton ty) f m) →
      Does items w ty (skeleton ty) (suc l) u (entered (skeleton ty) (f (turns (skeleton ty) f m))))
      → (l m : ℕ)
      → l ≤ m
      → l ≤ k
      → Does items w ty (skeleton ty) l u (turns (skeleton ty) f m)
  turns_do ty w u f k base step zero m le below = base m
  turns_do ty w u f k base step (suc l) zero le below = absurd (omega (arith, le))
  turns_do ty w u f k base step (suc l) (suc m) le below = step l m below (turns_do ty w u f k base step l m (omega (arith, le)) (omega (arith, below)))
