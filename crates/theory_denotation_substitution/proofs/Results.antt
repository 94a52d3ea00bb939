-- The result of a reduced head: its skeleton is that of the head, and it is canonical there. And what
-- is canonical of the parts of a canonical tree.
use Rattle.std.proofs.Common.{◌≡◌, List, ◌∷◌, refl, sym, subst, inl, inr, ℕ}
use Rattle.htt_syntax.specs.Trees.{TermTree, CompTree, FixTree, t_lam, t_lam_t, t_do, t_pair}
use Rattle.theory_canonical.specs.Skeletons.{Skeleton, sk_o, sk_c, sk_arrow, sk_all}
use Rattle.theory_canonical.specs.Contexts.{Standing, as_term, as_mono, Heads}
use Rattle.theory_canonical.specs.Canonical.{IsCanonical, IsNeutral, IsCanonicalComp, n_pair, n_lam, n_lam_t, n_do, n_neutral, e_var, e_app, e_inst}
use Rattle.theory_substitution.specs.Substitution.{Kept, Reduced, SubFix, k_var, k_val, k_made, k_fix, k_app, k_inst, r_var, r_app, r_inst, u_x_param, u_x_body}
use Rattle.theory_substitution.proofs.Skeletons.{skeleton_kept}
use Rattle.theory_substitution_total.specs.Insertion.{ins_here}
use Rattle.theory_substitution_total.specs.Laws.{MayBePut}
use Rattle.theory_substitution_total.proofs.Filled.{term_filled}
use Rattle.theory_substitution_total.proofs.Places.{place_of, skeleton_at, mono_closed, put_fills}
use Rattle.theory_substitution_total.proofs.Results.{term_result, app_result}
use Rattle.theory_denotation.specs.Denotation.{fix_skeleton}

pub arrow_parts : {s t u v : Skeleton} → sk_arrow s t ≡ sk_arrow u v → (s ≡ u) × (t ≡ v)
arrow_parts q = (cc, cc)

pub all_part : {s t : Skeleton} → sk_all s ≡ sk_all t → s ≡ t
all_part q = cc

pub pair_parts : {heads : Heads} {g : List Standing} {left right : TermTree} {s : Skeleton}
    → IsCanonical heads g (t_pair left right) s
    → IsCanonical heads g left sk_o × IsCanonical heads g right sk_o
pair_parts (n_pair a b) = (a, b)
pair_parts (n_neutral d) = elim d [ ]

pub lam_body : {heads : Heads} {g : List Standing} {body : TermTree} {s t : Skeleton}
    → IsCanonical heads g (t_lam body) (sk_arrow s t)
    → IsCanonical heads (as_term s ∷ g) body t
lam_body (n_lam a) = a

pub family_body : {heads : Heads} {g : List Standing} {body : TermTree} {s : Skeleton}
    → IsCanonical heads g (t_lam_t body) (sk_all s)
    → IsCanonical heads (as_mono ∷ g) body s
family_body (n_lam_t a) = a

pub do_comp : {heads : Heads} {g : List Standing} {comp : CompTree} → IsCanonical heads g (t_do comp) sk_c → IsCanonicalComp heads g comp
do_comp (n_do a) = a

-- A canonical head at a monotype.
pub data HeadAt (heads : Heads) (g : List Standing) (term : TermTree) : Skeleton → Type 0 where
  head_at : IsNeutral heads g term sk_o → HeadAt heads g term sk_o

pub kept_head : {heads : Heads} {g : List Standing} {new : TermTree} {s t : Skeleton} {x : ℕ} {term r : TermTree}
    → Kept new s x term r
    → IsCanonical heads g term t
    → HeadAt heads g term t
kept_head (k_var q) (n_neutral d) = head_at d
kept_head k_val (n_neutral d) = head_at d
kept_head (k_made a) (n_neutral d) = head_at d
kept_head (k_fix a) (n_neutral d) = head_at d
kept_head (k_app k a) (n_neutral d) = head_at d
kept_head (k_inst k) (n_neutral d) = head_at d

pub reduced_head : {heads : Heads} {g : List Standing} {new : TermTree} {s t u : Skeleton} {x : ℕ} {term r : TermTree}
    → Reduced new s x term r u
    → IsCanonical heads g term t
    → HeadAt heads g term t
reduced_head (r_var q) (n_neutral d) = head_at d
reduced_head (r_app k a b) (n_neutral d) = head_at d
reduced_head (r_inst k) (n_neutral d) = head_at d

pub fix_skeleton_put : {new : TermTree} {s : Skeleton} {x : ℕ} {fix r : FixTree} → SubFix new s x fix r → fix_skeleton r ≡ fix_skeleton fix
unfolding fix_skeleton
fix_skeleton_put (u_x_param a b) = λ j. sk_arrow (skeleton_kept a j) (fix_skeleton_put b j)
fix_skeleton_put (u_x_body a b) = refl

pub reduced_result : {heads : Heads} {new : TermTree} {s t u : Skeleton} {x : ℕ} {term r : TermTree} {g whole : List Standing}
    → Reduced new s x term r u
    → MayBePut heads new s x g whole
    → IsNeutral heads whole term t
    → (u ≡ t) × IsCanonical heads g r t
reduced_result {heads = heads} {new = new} {g = g} (r_var q) m (e_var d) = elim (place_of m.inserted d) [
  | inl (p, b) ↦ (skeleton_at b, subst (λ v. IsCanonical heads g new v) (skeleton_at b) m.canonical)
  | inr (p, b) ↦ absurd (p q)
]
reduced_result {heads = heads} {g = g} (r_app {left = left} {function' = function'} {argument' = argument'} k a b) m (e_app {t = t} d c) =
    let h = reduced_result k m d in
    let e = arrow_parts h.0 in (
      e.1,
      app_result (subst (λ v. IsCanonical heads g function' (sk_arrow v t)) (sym e.0) h.1)
          (subst (λ v. IsCanonical heads g argument' v) (sym e.0) (term_result m c a)) b,
    )
reduced_result (r_inst k) m (e_inst d c) =
    let h = reduced_result k m d in (all_part h.0, term_filled (family_body h.1) (put_fills ins_here (mono_closed c m.inserted)))
