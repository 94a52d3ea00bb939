-- A head with its arguments has one result, which is the term's; and its parts have results, by which it stays or is
-- reduced.
use Rattle.std.proofs.Common.{◌≡◌, ℕ, zero, true, Option, Some, None, refl, arith}
use Rattle.htt_syntax.specs.Trees.{MonoTree, TermTree, t_app, t_inst, t_lam, t_lam_t}
use Rattle.theory_renaming.specs.Renaming.{rename_mono}
use Rattle.theory_canonical.specs.Skeletons.{Skeleton, sk_arrow, sk_all}
use Rattle.theory_substitution.specs.Closing.{closing}
use Rattle.theory_substitution.specs.Monotypes.{put_mono_term}
use Rattle.theory_substitution.specs.Substitution.{Kept, Reduced, App, SubTerm, k_var, k_val, k_made, k_fix, k_app, k_inst, r_var, r_app, r_inst, applied}
use Rattle.theory_substitution.specs.Substitution.{u_kept, u_reduced}
use Rattle.theory_substitution.proofs.Once.{kept_once, reduced_once, term_once}
use Rattle.theory_rows_heads.specs.Heads.{SubHead, stays, gives, is_head, is_fixed_head}
use Rattle.theory_rows_heads.specs.Laws.{ApplicationParts, Redex, FamilyRedex}

-- a head is the variable or another, never both
pub never_both : {new : TermTree} {s left : Skeleton} {x : ℕ} {t r q : TermTree} → Kept new s x t r → Reduced new s x t q left → ⊥
never_both (k_var e) (r_var f) = e f
never_both (k_app k p) (r_app r q a) = never_both k r
never_both (k_inst k) (r_inst r) = never_both k r
never_both k_val r = elim r [ ]
never_both (k_made p) r = elim r [ ]
never_both (k_fix p) r = elim r [ ]

pub head_once : {new : TermTree} {s : Skeleton} {x : ℕ} {t r q : TermTree} {k l : Option Skeleton}
    → SubHead new s x t r k
    → SubHead new s x t q l
    → (r ≡ q) × (k ≡ l)
head_once (stays a) (stays b) = (kept_once a b, refl)
head_once (stays a) (gives b) = absurd (never_both a b)
head_once (gives a) (stays b) = absurd (never_both b a)
head_once (gives a) (gives b) = ((reduced_once a b).0, λ j. Some ((reduced_once a b).1 j))

pub head_is_term : {new : TermTree} {s : Skeleton} {x : ℕ} {t r : TermTree} {k : Option Skeleton}
    → SubHead new s x t r k
    → SubTerm new s x t r
head_is_term (stays a) = u_kept a
head_is_term (gives a) = u_reduced a

pub term_has_head : {new : TermTree} {s : Skeleton} {x : ℕ} {t r : TermTree}
    → is_head t ≡ true
    → SubTerm new s x t r
    → (k : Option Skeleton) × SubHead new s x t r k
unfolding is_head
term_has_head e (u_kept a) = (None, stays a)
term_has_head e (u_reduced {left = left} a) = (Some left, gives a)
term_has_head e h = absurd (grind arith)

pub fixed_head_stays : {new : TermTree} {s : Skeleton} {x : ℕ} (t : TermTree) {r : TermTree}
    → is_fixed_head t ≡ true
    → SubTerm new s x t r
    → SubHead new s x t r None
unfolding is_fixed_head
fixed_head_stays t e (u_kept a) = stays a
fixed_head_stays t e (u_reduced (r_var f)) = absurd (grind arith)
fixed_head_stays t e (u_reduced (r_app a b c)) = absurd (grind arith)
fixed_head_stays t e (u_reduced (r_inst a)) = absurd (grind arith)
fixed_head_stays t e h = absurd (grind arith)

pub application_has_parts : {new : TermTree} {s : Skeleton} {x : ℕ} {f a r : TermTree} {k : Option Skeleton}
    → SubHead new s x (t_app f a) r k
    → ApplicationParts new s x f a
application_has_parts (stays (k_app {function' = g} {argument' = b} k p)) =
    record { head = g; left = None; of_function = stays k; value = b; of_argument = p }
application_has_parts (gives (r_app {left = left} {right = right} {function' = g} {argument' = b} r p a)) =
    record { head = g; left = Some (sk_arrow left right); of_function = gives r; value = b; of_argument = p }

pub application_stays : {new : TermTree} {s : Skeleton} {x : ℕ} {f a g b : TermTree}
    → SubHead new s x f g None
    → SubTerm new s x a b
    → SubHead new s x (t_app f a) (t_app g b) None
application_stays (stays k) p = stays (k_app k p)

pub application_gives : {new : TermTree} {s left right : Skeleton} {x : ℕ} {f a body b r : TermTree}
    → SubHead new s x f (t_lam body) (Some (sk_arrow left right))
    → SubTerm new s x a b
    → SubTerm b left zero body r
    → SubHead new s x (t_app f a) r (Some right)
application_gives (gives h) p q = gives (r_app h p (applied q))

-- an application whose function is told
applied_redex : {f b r : TermTree} {l u v : Skeleton} {k : Option Skeleton}
    → l ≡ sk_arrow u v
    → k ≡ Some v
    → App f u b r
    → Redex f b l r k
applied_redex {u = u} {v = v} e h (applied {body = body} q) =
    record { from = u; to = v; body = body; arrow = e; function = refl; put = q; rest = h }

redex_moved : {f f' b b' r : TermTree} {l l' : Skeleton} {k : Option Skeleton}
    → f ≡ f'
    → b ≡ b'
    → l ≡ l'
    → Redex f' b' l' r k
    → Redex f b l r k
redex_moved {r = r} {k = k} e g h d = rw (e, g, h) d

pub application_is_redex : {new : TermTree} {s left : Skeleton} {x : ℕ} {f a g b r : TermTree} {k : Option Skeleton}
    → SubHead new s x (t_app f a) r k
    → SubHead new s x f g (Some left)
    → SubTerm new s x a b
    → Redex g b left r k
application_is_redex (stays (k_app h p)) (gives m) q = absurd (never_both h m)
application_is_redex (gives (r_app h p a)) (gives m) q =
    let e = reduced_once m h in
    redex_moved (e.0) (term_once q p) (e.1) (applied_redex refl refl a)

pub instance_has_head : {new : TermTree} {s : Skeleton} {x : ℕ} {f : TermTree} {mono : MonoTree} {r : TermTree} {k : Option Skeleton}
    → SubHead new s x (t_inst f mono) r k
    → (head : TermTree) × (left : Option Skeleton) × SubHead new s x f head left
instance_has_head (stays (k_inst {function' = g} h)) = (g, None, stays h)
instance_has_head (gives (r_inst {left = left} {body = body} h)) = (t_lam_t body, Some (sk_all left), gives h)

pub instance_stays : {new : TermTree} {s : Skeleton} {x : ℕ} {f g : TermTree} {mono : MonoTree}
    → SubHead new s x f g None
    → SubHead new s x (t_inst f mono) (t_inst g (rename_mono (closing x) mono)) None
instance_stays (stays h) = stays (k_inst h)

pub instance_gives : {new : TermTree} {s left : Skeleton} {x : ℕ} {f body : TermTree} {mono : MonoTree}
    → SubHead new s x f (t_lam_t body) (Some (sk_all left))
    → SubHead new s x (t_inst f mono) (put_mono_term (rename_mono (closing x) mono) zero body) (Some left)
instance_gives (gives h) = gives (r_inst h)

family_redex : {f body : TermTree} {mono : MonoTree} {l left : Skeleton}
    → f ≡ t_lam_t body
    → l ≡ sk_all left
    → FamilyRedex f mono l (put_mono_term mono zero body) (Some left)
family_redex {body = body} {left = left} e h = record { to = left; body = body; all = h; family = e; put = refl; rest = refl }

pub instance_is_redex : {new : TermTree} {s left : Skeleton} {x : ℕ} {f g : TermTree} {mono : MonoTree} {r : TermTree} {k : Option Skeleton}
    → SubHead new s x (t_inst f mono) r k
    → SubHead new s x f g (Some left)
    → FamilyRedex g (rename_mono (closing x) mono) left r k
instance_is_redex (stays (k_inst h)) (gives m) = absurd (never_both h m)
instance_is_redex (gives (r_inst h)) (gives m) = let e = reduced_once m h in family_redex (e.0) (e.1)
