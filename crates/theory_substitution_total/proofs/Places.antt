-- What becomes of the entries of a context when one of them is taken out.
use Rattle.std.proofs.Common.{◌≡◌, ◌≢◌, ℕ, zero, suc, List, [], ◌∷◌, true, false, nat_eq, ◌⊎◌, inl, inr, refl, ap, arith}
use Rattle.htt_syntax.specs.Trees.{MonoTree}
use Rattle.theory_renaming.specs.Renaming.{lift, rename_mono}
use Rattle.theory_canonical.specs.Skeletons.{Skeleton}
use Rattle.theory_canonical.specs.Contexts.{Standing, as_mono, as_heap, as_term, Stands, here, open_mono, open_heap, open_term, there}
use Rattle.theory_canonical.specs.Canonical.{IsCanonicalMono, n_m_word, n_m_bool, n_m_loc, n_m_unit, n_m_pair, n_m_var}
use Rattle.theory_substitution.specs.Closing.{closing}
use Rattle.theory_substitution.specs.Monotypes.{put_mono}
use Rattle.theory_substitution_total.specs.Insertion.{Inserted, ins_here, ins_next}
use Rattle.theory_substitution_total.proofs.Filled.{Fills}

-- a variable is x, or another that may be used as before
pub place_of : {x n : ℕ} {entry found : Standing} {g whole : List Standing}
    → Inserted x entry g whole
    → Stands whole n found
    → ((n ≡ x) × Stands (entry ∷ []) zero found) ⊎ ((n ≢ x) × Stands g (closing x n) found)
unfolding closing lift
place_of ins_here here = inl (refl, here)
place_of ins_here open_mono = inl (refl, open_mono)
place_of ins_here open_heap = inl (refl, open_heap)
place_of ins_here open_term = inl (refl, open_term)
place_of ins_here (there {n = n} d) = inr ((λ e. omega (arith, e)), d)
place_of (ins_next i) here = inr ((λ e. omega (arith, e)), here)
place_of (ins_next i) open_mono = inr ((λ e. omega (arith, e)), open_mono)
place_of (ins_next i) open_heap = inr ((λ e. omega (arith, e)), open_heap)
place_of (ins_next i) open_term = inr ((λ e. omega (arith, e)), open_term)
place_of (ins_next i) (there d) = elim (place_of i d) [ inl (p, q) ↦ inl (ap suc p, q) | inr (p, b) ↦ inr ((λ e. p (omega (arith, e))), there b) ]

pub skeleton_at : {s t : Skeleton} → Stands (as_term s ∷ []) zero (as_term t) → s ≡ t
skeleton_at here = refl

-- where a term is put for x, the monotypes and heaps are other variables
pub mono_stays : {x n : ℕ} {s : Skeleton} {g whole : List Standing} → Inserted x (as_term s) g whole → Stands whole n as_mono → Stands g (closing x n) as_mono
mono_stays i d = elim (place_of i d) [ inl (p, q) ↦ elim q [ ] | inr (p, b) ↦ b ]

pub heap_stays : {x n : ℕ} {s : Skeleton} {g whole : List Standing} → Inserted x (as_term s) g whole → Stands whole n as_heap → Stands g (closing x n) as_heap
heap_stays i d = elim (place_of i d) [ inl (p, q) ↦ elim q [ ] | inr (p, b) ↦ b ]

pub mono_closed : {t : MonoTree} {x : ℕ} {s : Skeleton} {g whole : List Standing}
    → IsCanonicalMono whole t
    → Inserted x (as_term s) g whole
    → IsCanonicalMono g (rename_mono (closing x) t)
unfolding rename_mono
mono_closed n_m_word i = n_m_word
mono_closed n_m_bool i = n_m_bool
mono_closed n_m_loc i = n_m_loc
mono_closed n_m_unit i = n_m_unit
mono_closed (n_m_pair d e) i = n_m_pair (mono_closed d i) (mono_closed e i)
mono_closed (n_m_var d) i = n_m_var (mono_stays i d)

put_at : {x n : ℕ} {mono : MonoTree} {g : List Standing} → n ≡ x → IsCanonicalMono g mono → IsCanonicalMono g (put_mono mono x n)
unfolding put_mono
put_at {x = x} {n = n} {mono = mono} {g = g} p d = let e : nat_eq n x ≡ true = grind arith in rw e d

put_beside : {x n : ℕ} {g : List Standing} (mono : MonoTree) → n ≢ x → Stands g (closing x n) as_mono → IsCanonicalMono g (put_mono mono x n)
unfolding put_mono
put_beside {x = x} {n = n} mono p d = let e : nat_eq n x ≡ false = grind arith in rw e (n_m_var d)

pub put_fills : {x : ℕ} {mono : MonoTree} {g whole : List Standing}
    → Inserted x as_mono g whole
    → IsCanonicalMono g mono
    → Fills (put_mono mono x) (closing x) whole g
put_fills {mono = mono} i d = record {
  monos = λ n a. elim (place_of i a) [ inl (p, q) ↦ put_at p d | inr (p, b) ↦ put_beside mono p b ];
  heaps = λ n a. elim (place_of i a) [ inl (p, q) ↦ elim q [ ] | inr (p, b) ↦ b ];
  terms = λ n s a. elim (place_of i a) [ inl (p, q) ↦ elim q [ ] | inr (p, b) ↦ b ];
}
