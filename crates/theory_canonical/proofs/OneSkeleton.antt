-- A neutral term has at most one skeleton.
use Rattle.std.proofs.Common.{◌≡◌, ℕ, List, refl, ◌∙◌, sym}
use Rattle.htt_syntax.specs.Trees.{TermTree, FixTree}
use Rattle.theory_canonical.specs.Skeletons.{Skeleton, sk_arrow, sk_all}
use Rattle.theory_canonical.specs.Contexts.{Standing, as_term, Stands, here, open_term, there, Heads, HasSkeleton, first_head, later_head}
use Rattle.theory_canonical.specs.Canonical.{IsNeutral, IsCanonicalFix, n_param, n_body, e_var, e_val, e_made, e_fix, e_app, e_inst}

entry_once : {g : List Standing} {n : ℕ} {s t : Skeleton} → Stands g n (as_term s) → Stands g n (as_term t) → s ≡ t
entry_once here here = refl
entry_once open_term open_term = refl
entry_once (there d) (there e) = entry_once d e

head_once : {list : List Skeleton} {n : ℕ} {s t : Skeleton} → HasSkeleton list n s → HasSkeleton list n t → s ≡ t
head_once first_head first_head = refl
head_once (later_head d) (later_head e) = head_once d e

fix_once : {heads : Heads} {g h : List Standing} {fix : FixTree} {whole over s t : Skeleton}
    → IsCanonicalFix heads g whole fix s
    → IsCanonicalFix heads h over fix t
    → s ≡ t
fix_once (n_param d p e) (n_param a q b) = λ j. sk_arrow ((sym p ∙ q) j) (fix_once e b j)
fix_once (n_body d e) (n_body a b) = refl

arrow_right : {s t u v : Skeleton} → sk_arrow s t ≡ sk_arrow u v → t ≡ v
arrow_right e = cc

all_body : {s t : Skeleton} → sk_all s ≡ sk_all t → s ≡ t
all_body e = cc

pub neutral_once : {heads : Heads} {g : List Standing} {term : TermTree} {s t : Skeleton} → IsNeutral heads g term s → IsNeutral heads g term t → s ≡ t
neutral_once (e_var d) (e_var e) = entry_once d e
neutral_once (e_val d) (e_val e) = head_once d e
neutral_once (e_made d a) (e_made e b) = head_once d e
neutral_once (e_fix d) (e_fix e) = fix_once d e
neutral_once (e_app d a) (e_app e b) = arrow_right (neutral_once d e)
neutral_once (e_inst d a) (e_inst e b) = all_body (neutral_once d e)
