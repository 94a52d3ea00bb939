-- A recursion of what keeps a type is of the type, for all fuel.
use Rattle.std.proofs.Common.{ℕ, zero, suc, List, ◌∷◌}
use Rattle.std.specs.Prelude.{All}
use Rattle.htt_syntax.specs.Trees.{MonoTree, TyTree, y_mono, y_fun, y_all, y_hoare, y_at}
use Rattle.theory_values.specs.Values.{IsWord}
use Rattle.theory_values.specs.Heaps.{Heap, IsHeap, IsJoin}
use Rattle.theory_truth.specs.Truth.{Recs}
use Rattle.theory_truth.specs.Predicates.{recs_of}
use Rattle.theory_canonical.specs.Skeletons.{skeleton}
use Rattle.theory_typing.specs.Contexts.{EndsInHoare}
use Rattle.theory_denotation.specs.Outcomes.{Running}
use Rattle.theory_denotation.specs.Valuations.{Domain, den_mono, den_term, Valuation, HeadEntries}
use Rattle.theory_denotation.specs.Recursion.{entered_running, entered, unentered, turns, by_fuel, recursion}
use Rattle.theory_denotation_shapes.proofs.Reindexed.{ending_shaped}
use Rattle.theory_denotation_types.specs.Meeting.{Post, EndsWell, Meets}
use Rattle.theory_denotation_types.specs.Types.{Means}
use Rattle.theory_denotation_types.specs.Laws.{RecursionMeans}

module _ (R : Recs) (e : HeadEntries) where
  unentered_means : (ty : TyTree) → EndsInHoare ty → (w : Valuation) → Means R e w ty (skeleton ty) (unentered (skeleton ty))
  unfolding Means skeleton
  unentered_means (y_mono mono) r w = absurd r
  unentered_means (y_fun argument answer) r w = (
    ending_shaped w (y_fun argument answer) r (skeleton (y_fun argument answer)) (unentered (skeleton (y_fun argument answer))),
    λ d m. unentered_means answer r (den_term (skeleton argument) d ∷ w),
  )
  unentered_means (y_all body) r w = λ t c. unentered_means body r (den_mono t ∷ w)
  unentered_means (y_hoare spec) r w = record { at = λ n before frame whole cs i j a p. tt }
  unentered_means (y_at at ty) r w = absurd r

  entered_meets : {pre : Heap → Type 0} {mono : MonoTree} {post : Post} {f : Running}
      → Meets pre mono post f
      → (n : ℕ) (before frame whole : Heap) (cs : List ℕ)
      → IsHeap whole
      → IsJoin whole before frame
      → All IsWord cs
      → pre before
      → EndsWell mono post before frame (entered_running f n whole cs)
  entered_meets m zero before frame whole cs i j a p = tt
  entered_meets m (suc n) before frame whole cs i j a p = m.at n before frame whole cs i j a p

  pub entered_means : (ty : TyTree)
      → EndsInHoare ty
      → (w : Valuation) (d : Domain (skeleton ty))
      → Means R e w ty (skeleton ty) d
      → Means R e w ty (skeleton ty) (entered (skeleton ty) d)
  unfolding Means skeleton
  entered_means (y_mono mono) r w d m = absurd r
  entered_means (y_fun argument answer) r w d m = (
    ending_shaped w (y_fun argument answer) r (skeleton (y_fun argument answer)) (entered (skeleton (y_fun argument answer)) d),
    λ x mx. entered_means answer r (den_term (skeleton argument) x ∷ w) (d x) (m.1 x mx),
  )
  entered_means (y_all body) r w d m = λ t c. entered_means body r (den_mono t ∷ w) (d t) (m t c)
  entered_means (y_hoare spec) r w d m = record { at = entered_meets m }
  entered_means (y_at at ty) r w d m = absurd r

  fuel_means : (ty : TyTree)
      → EndsInHoare ty
      → (w : Valuation) (g : ℕ → Domain (skeleton ty))
      → ((k : ℕ) → Means R e w ty (skeleton ty) (g k))
      → Means R e w ty (skeleton ty) (by_fuel (skeleton ty) g)
  unfolding Means skeleton
  fuel_means (y_mono mono) r w g m = absurd r
  fuel_means (y_fun argument answer) r w g m = (
    ending_shaped w (y_fun argument answer) r (skeleton (y_fun argument answer)) (by_fuel (skeleton (y_fun argument answer)) g),
    λ x mx. fuel_means answer r (den_term (skeleton argument) x ∷ w) (λ k. g k x) (λ k. (m k).1 x mx),
  )
  fuel_means (y_all body) r w g m = λ t c. fuel_means body r (den_mono t ∷ w) (λ k. g k t) (λ k. m k t c)
  fuel_means (y_hoare spec) r w g m = record { at = λ n before frame whole cs i j a p. (m (suc n)).at n before frame whole cs i j a p }
  fuel_means (y_at at ty) r w g m = absurd r

  turns_means : (ty : TyTree)
      → EndsInHoare ty
      → (w : Valuation) (f : Domain (skeleton ty) → Domain (skeleton ty))
      → ((d : Domain (skeleton ty)) → Means R e w ty (skeleton ty) d → Means R e w ty (skeleton ty) (f d))
      → (k : ℕ)
      → Means R e w ty (skeleton ty) (turns (skeleton ty) f k)
  turns_means ty r w f m zero = unentered_means ty r w
  turns_means ty r w f m (suc k) = entered_means ty r w (f (turns (skeleton ty) f k)) (m (turns (skeleton ty) f k) (turns_means ty r w f m k))

  pub recursion_means : (ty : TyTree)
      → EndsInHoare ty
      → (w : Valuation) (f : Domain (skeleton ty) → Domain (skeleton ty))
      → ((d : Domain (skeleton ty)) → Means R e w ty (skeleton ty) d → Means R e w ty (skeleton ty) (f d))
      → Means R e w ty (skeleton ty) (recursion (skeleton ty) f)
  recursion_means ty r w f m = fuel_means ty r w (turns (skeleton ty) f) (turns_means ty r w f m)

pub recursions : RecursionMeans
recursions = record {
  entering = λ table e w ty r d m. entered_means (recs_of table) e ty r w d m;
  recursing = λ table e w ty r f m. recursion_means (recs_of table) e ty r w f m;
}
