-- What is closed denotes, and means, the same in every valuation; and the heads of an environment are
-- valued.
use Rattle.std.proofs.Common.{◌≡◌, ℕ, zero, suc, List, [], ◌∷◌, Some, slice_get, map, refl, sym, ap, ◌∙◌, subst}
use Rattle.htt_syntax.specs.Trees.{TyTree, TermTree, m_var}
use Rattle.theory_renaming.proofs.Identity.{ty_stays, term_stays}
use Rattle.theory_truth.specs.Truth.{Recs}
use Rattle.theory_truth.specs.Predicates.{RecTree}
use Rattle.theory_canonical.specs.Skeletons.{Skeleton, skeleton}
use Rattle.theory_canonical.specs.Contexts.{Heads, HasSkeleton, first_head, later_head}
use Rattle.theory_canonical.specs.Canonical.{IsCanonical, IsCanonicalTy}
use Rattle.theory_substitution.specs.Monotypes.{fill_ty, fill_term}
use Rattle.theory_substitution_unused.proofs.FilledBack.{Undoes, ty_filled as ty_back, term_filled as term_back}
use Rattle.theory_typing.specs.Contexts.{Environment}
use Rattle.theory_typing_canonical.specs.Environments.{heads_of}
use Rattle.theory_denotation.specs.Valuations.{Domain, Valuation, HeadEntries}
use Rattle.theory_denotation.specs.Denotation.{term_den}
use Rattle.theory_denotation.specs.Valued.{IsOf, ContextValued, HeadsValued}
use Rattle.theory_denotation_renaming.specs.Along.{FillAlong}
use Rattle.theory_denotation_renaming.proofs.Filled.{term_filled}
use Rattle.theory_denotation_types.specs.Types.{Means}
use Rattle.theory_denotation_types.proofs.Reindexed.{means_filled}
use Rattle.theory_typing_sound.specs.Environments.{ValMeans, EnvironmentMeans}

nothing_undone : Undoes m_var (λ n. n) (λ n. n)
nothing_undone = record { monos = λ n. refl; indices = λ n. refl }

pub nothing_valued : ContextValued [] []
nothing_valued = record { at = λ n s d. elim d [ ] }

pub nothing_along : (w : Valuation) → FillAlong m_var (λ n. n) [] [] w
nothing_along w = record { monos = λ n d. elim d [ ]; heaps = λ n d. elim d [ ]; terms = λ n s d. elim d [ ] }

pub ty_same : {heads : Heads} {ty : TyTree} → IsCanonicalTy heads [] ty → fill_ty m_var (λ n. n) ty ≡ ty
ty_same {ty = ty} c = ap (fill_ty m_var (λ n. n)) (sym (ty_stays (λ n. n) (λ n. refl) ty)) ∙ ty_back nothing_undone c

term_same : {heads : Heads} {term : TermTree} {s : Skeleton} → IsCanonical heads [] term s → fill_term m_var (λ n. n) term ≡ term
term_same {term = term} c = ap (fill_term m_var (λ n. n)) (sym (term_stays (λ n. n) (λ n. refl) term)) ∙ term_back nothing_undone c

pub closed_means : (R : Recs) {heads : Heads} {e : HeadEntries} (ty : TyTree) (w : Valuation)
    → HeadsValued heads e
    → IsCanonicalTy heads [] ty
    → (d : Domain (skeleton ty))
    → Means R e [] ty (skeleton ty) d
    → Means R e w ty (skeleton ty) d
closed_means R {e = e} ty w h c d m =
    subst (λ t. Means R e w t (skeleton ty) d) (ty_same c)
    (subst (λ (T : Type 0). T) (sym (means_filled R ty h c (nothing_along w) nothing_valued (skeleton ty) refl d)) m)

pub closed_den : {heads : Heads} {e : HeadEntries} {term : TermTree} {s : Skeleton} (w : Valuation)
    → HeadsValued heads e
    → IsCanonical heads [] term s
    → term_den e w term s ≡ term_den e [] term s
closed_den {e = e} {s = s} w h c = ap (λ t. term_den e w t s) (sym (term_same c)) ∙ term_filled h c (nothing_along w) nothing_valued

-- the type of a head of these skeletons
pub record TypeAt (types : List TyTree) (n : ℕ) (s : Skeleton) : Type 0 where
  pub ty : TyTree
  pub found : slice_get types n ≡ Some ty
  pub is : skeleton ty ≡ s

pub type_at : (types : List TyTree) (n : ℕ) (s : Skeleton) → HasSkeleton (map skeleton types) n s → TypeAt types n s
type_at [] n s d = elim d [ ]
type_at (u ∷ types) zero s first_head = record { ty = u; found = refl; is = refl }
type_at (u ∷ types) (suc n) s (later_head d) = let o = type_at types n s d in record { ty = o.ty; found = o.found; is = o.is }

val_is_of : {table : List RecTree} {e : HeadEntries} {n : ℕ} {ty : TyTree} {s : Skeleton} → ValMeans table e n ty → skeleton ty ≡ s → IsOf s (e.vals n)
val_is_of {e = e} {n = n} v q = subst (λ u. IsOf u (e.vals n)) q (record { of = v.of; is = v.is })

pub heads_valued : {table : List RecTree} {env : Environment} {e : HeadEntries} → EnvironmentMeans table env e → HeadsValued (heads_of env) e
heads_valued {env = env} m =
    record { vals = λ n s d. let o = type_at env.vals n s d in val_is_of (m.vals n o.ty o.found) o.is; made = λ n s values d. elim d [ ] }
