-- A head with its arguments denotes at its skeleton.
use Rattle.std.proofs.Common.{◌≡◌, ℕ, zero, suc, List, ◌∷◌, refl, ap, subst}
use Rattle.htt_syntax.specs.Trees.{MonoTree, TermTree, FixTree, t_fix, x_param, x_body}
use Rattle.theory_canonical.specs.Skeletons.{Skeleton, sk_o, sk_arrow, sk_all}
use Rattle.theory_canonical.specs.Contexts.{Standing, as_mono, as_heap, as_term, Stands, here, there, Heads}
use Rattle.theory_canonical.specs.Canonical.{IsNeutral, IsCanonicalFix, e_var, e_val, e_made, e_fix, e_app, e_inst, n_param, n_body}
use Rattle.theory_denotation.specs.Valuations.{Domain, ValuationEntry, den_term, Valuation, entry_at, value_of_entry, applied_entry, instance_entry, mono_in}
use Rattle.theory_denotation.specs.Valuations.{HeadEntries}
use Rattle.theory_denotation.specs.Denotation.{fix_skeleton, term_den, terms_den, head_den, fix_den}
use Rattle.theory_denotation.specs.Recursion.{recursion}
use Rattle.theory_denotation.specs.Valued.{IsOf, ContextValued, HeadsValued}
use Rattle.theory_denotation.specs.Laws.{HeadsDenote}

-- a canonical recursive function is of its own skeleton
pub fix_is_of : {heads : Heads} {g : List Standing} {whole s : Skeleton} {fix : FixTree} → IsCanonicalFix heads g whole fix s → fix_skeleton fix ≡ s
unfolding fix_skeleton
fix_is_of (n_param ty q others) = λ j. sk_arrow (q j) (fix_is_of others j)
fix_is_of (n_body spec comp) = refl

pub is_applied : {x : ValuationEntry} {s t : Skeleton} (d : (u : Skeleton) → Domain u) → IsOf (sk_arrow s t) x → IsOf t (applied_entry x d)
is_applied {s = s} d o = record { of = o.of (d s); is = ap (λ y. applied_entry y d) o.is }

pub is_instance : {x : ValuationEntry} {s : Skeleton} (t : MonoTree) → IsOf (sk_all s) x → IsOf s (instance_entry x t)
is_instance t o = record { of = o.of t; is = ap (λ y. instance_entry y t) o.is }

pub is_itself : (s : Skeleton) (d : Domain s) → IsOf s (den_term s d)
is_itself s d = record { of = d; is = refl }

pub head_is_of : {heads : Heads} {e : HeadEntries} {g : List Standing} {w : Valuation} {term : TermTree} {s : Skeleton}
    → HeadsValued heads e
    → ContextValued g w
    → IsNeutral heads g term s
    → IsOf s (head_den e w term)
unfolding term_den
head_is_of h f (e_var {index = index} {s = s} d) = f.at index s d
head_is_of h f (e_val {number = number} {s = s} d) = h.vals number s d
head_is_of {e = e} {w = w} h f (e_made {number = number} {values = values} {s = s} d c) = h.made number s (terms_den e w values) d
head_is_of {e = e} {w = w} h f (e_fix {at = at} {fix = fix} d) =
    subst (λ s. IsOf s (head_den e w (t_fix at fix))) (fix_is_of d)
    (is_itself (fix_skeleton fix)
    (recursion (fix_skeleton fix) (λ own. fix_den e w (den_term (fix_skeleton fix) own) fix (fix_skeleton fix))))
head_is_of {e = e} {w = w} h f (e_app {argument = argument} d c) = is_applied (term_den e w argument) (head_is_of h f d)
head_is_of {w = w} h f (e_inst {mono = mono} d c) = is_instance (mono_in w mono) (head_is_of h f d)

-- a recursive function is no value
pub fix_value : (e : HeadEntries) (w : Valuation) (at : ℕ) (fix : FixTree) → term_den e w (t_fix at fix) sk_o ≡ value_of_entry (head_den e w (t_fix at fix))
unfolding term_den fix_skeleton
fix_value e w at (x_param ty others) = refl
fix_value e w at (x_body spec comp) = refl

pub head_value : {heads : Heads} {g : List Standing} (e : HeadEntries) (w : Valuation) {term : TermTree} {s : Skeleton}
    → IsNeutral heads g term s
    → term_den e w term sk_o ≡ value_of_entry (head_den e w term)
unfolding term_den
head_value e w (e_var d) = refl
head_value e w (e_val d) = refl
head_value e w (e_made d c) = refl
head_value e w (e_fix {at = at} {fix = fix} d) = fix_value e w at fix
head_value e w (e_app d c) = refl
head_value e w (e_inst d c) = refl

-- one more entry
pub valued_term : {g : List Standing} {w : Valuation} (s : Skeleton) (d : Domain s) → ContextValued g w → ContextValued (as_term s ∷ g) (den_term s d ∷ w)
valued_term {g = g} {w = w} s d f = record { at = go }
  where
    go : (n : ℕ) (t : Skeleton) → Stands (as_term s ∷ g) n (as_term t) → IsOf t (entry_at (den_term s d ∷ w) n)
    go zero t here = is_itself s d
    go (suc n) t (there a) = f.at n t a

pub valued_other : {g : List Standing} {w : Valuation} (x : ValuationEntry)
    → ContextValued g w
    → (ContextValued (as_mono ∷ g) (x ∷ w)) × (ContextValued (as_heap ∷ g) (x ∷ w))
valued_other {g = g} {w = w} x f = (record { at = mono }, record { at = heap })
  where
    mono : (n : ℕ) (t : Skeleton) → Stands (as_mono ∷ g) n (as_term t) → IsOf t (entry_at (x ∷ w) n)
    mono zero t d = elim d [ ]
    mono (suc n) t (there a) = f.at n t a

    heap : (n : ℕ) (t : Skeleton) → Stands (as_heap ∷ g) n (as_term t) → IsOf t (entry_at (x ∷ w) n)
    heap zero t d = elim d [ ]
    heap (suc n) t (there a) = f.at n t a

pub denote : HeadsDenote
denote = record { at_skeleton = λ heads e g w term s h f d. head_is_of h f d; value = λ heads e g w term d. head_value e w d }
