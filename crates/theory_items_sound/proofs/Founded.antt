-- The recursive atoms of a formed body are of predicates that the environment has.
use Rattle.std.proofs.Common.{◌≡◌, ℕ, zero, suc, ◌<◌, List, [], ◌∷◌, ◌++◌, length, Some, arith, refl, ap, subst, ◌⊎◌, inl, inr}
use Rattle.std.specs.Prelude.{slice_get}
use Rattle.htt_syntax.specs.Trees.{TermTree, FormulaTree, f_and, f_or, f_imp, f_all_t, f_ex_t, f_all_h, f_ex_h, f_at, f_rec}
use Rattle.theory_truth.specs.Predicates.{RecTree}
use Rattle.theory_truth.specs.Atoms.{AtomsMeet, IsEarlier, IsEarlierOrLess}
use Rattle.theory_typing.specs.Contexts.{Context, Environment}
use Rattle.theory_typing.specs.Typing.{FormsFormula, forms_tt, forms_ff, forms_and, forms_or, forms_imp, forms_all_t, forms_ex_t, forms_all_h, forms_ex_h}
use Rattle.theory_typing.specs.Typing.{forms_emp, forms_cell, forms_block, forms_join, forms_same, forms_eq, forms_rec, forms_formula_at}
use Rattle.theory_items.specs.Items.{with_rec, OwnAtIndex}
use Rattle.theory_items.proofs.Lists.{no_element}

pub found_is_below : {A : Type 0} (xs : List A) (n : ℕ) (x : A) → slice_get xs n ≡ Some x → n < length xs
found_is_below [] n x e = absurd (no_element e)
found_is_below (y ∷ xs) zero x e = omega arith
found_is_below (y ∷ xs) (suc n) x e = let l = found_is_below xs n x e in omega (arith, l)

abbrev IsBelow : ℕ → ℕ → ℕ → TermTree → Type 0
IsBelow k d number place = number < k

-- under however many binders
atoms_below : {env : Environment} {g : Context} {F G : FormulaTree} → FormsFormula env g F G → (d : ℕ) → AtomsMeet (IsBelow (length env.recs)) d G
unfolding AtomsMeet
atoms_below forms_tt d = tt
atoms_below forms_ff d = tt
atoms_below (forms_and p q) d = (atoms_below p d, atoms_below q d)
atoms_below (forms_or p q) d = (atoms_below p d, atoms_below q d)
atoms_below (forms_imp p q) d = (atoms_below p d, atoms_below q d)
atoms_below (forms_all_t m p) d = atoms_below p (suc d)
atoms_below (forms_ex_t m p) d = atoms_below p (suc d)
atoms_below (forms_all_h p) d = atoms_below p (suc d)
atoms_below (forms_ex_h p) d = atoms_below p (suc d)
atoms_below (forms_emp h) d = tt
atoms_below (forms_cell m h p q) d = tt
atoms_below (forms_block m h p) d = tt
atoms_below (forms_join h k l) d = tt
atoms_below (forms_same h k) d = tt
atoms_below (forms_eq m p q) d = tt
atoms_below {env = env} (forms_rec {number = number} {r = r} e h p many ps) d = found_is_below env.recs number r e
atoms_below (forms_formula_at p) d = atoms_below p d

pub earlier_atoms : {env : Environment} {g : Context} {F G : FormulaTree} → FormsFormula env g F G → AtomsMeet (IsEarlier (length env.recs)) 0 G
earlier_atoms p = atoms_below p 0

-- what two conditions together give holds of the atoms that meet both
both_met : (P Q R : ℕ → ℕ → TermTree → Type 0)
    → ((d number : ℕ) (place : TermTree) → P d number place → Q d number place → R d number place)
    → (F : FormulaTree) (d : ℕ)
    → AtomsMeet P d F
    → AtomsMeet Q d F
    → AtomsMeet R d F
unfolding AtomsMeet
both_met P Q R f (f_and left right) d p q = (both_met P Q R f left d p.0 q.0, both_met P Q R f right d p.1 q.1)
both_met P Q R f (f_or left right) d p q = (both_met P Q R f left d p.0 q.0, both_met P Q R f right d p.1 q.1)
both_met P Q R f (f_imp left right) d p q = (both_met P Q R f left d p.0 q.0, both_met P Q R f right d p.1 q.1)
both_met P Q R f (f_all_t mono body) d p q = both_met P Q R f body (suc d) p q
both_met P Q R f (f_ex_t mono body) d p q = both_met P Q R f body (suc d) p q
both_met P Q R f (f_all_h body) d p q = both_met P Q R f body (suc d) p q
both_met P Q R f (f_ex_h body) d p q = both_met P Q R f body (suc d) p q
both_met P Q R f (f_at at formula) d p q = both_met P Q R f formula d p q
both_met P Q R f (f_rec number heap place arguments) d p q = f d number place p q
both_met P Q R f _ d p q = tt

-- the number of an atom of one more predicate
pub more_length : {A : Type 0} (xs : List A) (x : A) → length (xs ++ x ∷ []) ≡ suc (length xs)
more_length [] x = refl
more_length (y ∷ xs) x = ap suc (more_length xs x)

below_or_same : (n k : ℕ) → n < suc k → (n < k) ⊎ (n ≡ k)
below_or_same zero zero l = inr refl
below_or_same zero (suc k) l = inl (omega arith)
below_or_same (suc n) zero l = absurd (omega (arith, l))
below_or_same (suc n) (suc k) l = elim (below_or_same n k (omega (arith, l))) [ inl b ↦ inl (omega (arith, b)) | inr e ↦ inr (ap suc e) ]

earlier_or_own : (k params d number : ℕ) (place : TermTree) → number < suc k → OwnAtIndex k params d number place → IsEarlierOrLess k params d number place
earlier_or_own k params d number place l own = elim (below_or_same number k l) [ inl b ↦ inl b | inr e ↦ inr (e, own e) ]

-- the second body of one more predicate
pub next_atoms : (env : Environment) (r : RecTree) {g : Context} {F G : FormulaTree}
    → FormsFormula (with_rec env r) g F G
    → (params : ℕ)
    → AtomsMeet (OwnAtIndex (length env.recs) params) 0 G
    → AtomsMeet (IsEarlierOrLess (length env.recs) params) 0 G
next_atoms env r {G = G} p params own =
    let k = length env.recs in
    both_met (IsBelow (suc k)) (OwnAtIndex k params) (IsEarlierOrLess k params) (earlier_or_own k params) G 0
    (subst (λ (n : ℕ). AtomsMeet (IsBelow n) 0 G) (more_length env.recs r) (atoms_below p 0)) own
