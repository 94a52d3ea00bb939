-- A text before a mark and from it on.
use Rattle.std.proofs.Common.{◌≡◌, ◌≢◌, ℕ, ◌≤◌, List, [], ◌∷◌, ◌++◌, length, refl, sym, ap, ◌∙◌, subst, arith, ⊎_elim}
use Rattle.std.specs.Prelude.{⊤}
use Rattle.std.proofs.lemmas.Bool.{cases_eq}
use Rattle.std.proofs.lemmas.Bool.Decides.{nat_tests}
use Rattle.heap_model_text.specs.Cutting.{before_mark, from_mark}

-- no byte of the text is the mark
abbrev pub IsFree : ℕ → List ℕ → Type 0
IsFree m [] = ⊤
IsFree m (x ∷ xs) = (x ≢ m) × IsFree m xs

-- the text is empty or begins with the mark
abbrev pub IsStopped : ℕ → List ℕ → Type 0
IsStopped m [] = ⊤
IsStopped m (x ∷ xs) = x ≡ m

pub free_append : (m : ℕ) (a b : List ℕ) → IsFree m a → IsFree m b → IsFree m (a ++ b)
free_append m [] b f g = g
free_append m (x ∷ xs) b f g = (f.0, free_append m xs b f.1 g)

before_stop : (m : ℕ) (r : List ℕ) → IsStopped m r → (before_mark m r ≡ []) × (from_mark m r ≡ r)
before_stop m [] s = (refl, refl)
before_stop m (x ∷ xs) s = (grind (arith, nat_tests), grind (arith, nat_tests))

-- a text without the mark is what stands before it
pub cut_at : (m : ℕ) (a r : List ℕ) → IsFree m a → IsStopped m r → (before_mark m (a ++ r) ≡ a) × (from_mark m (a ++ r) ≡ r)
cut_at m [] r f s = before_stop m r s
cut_at m (x ∷ xs) r f s = let c = cut_at m xs r f.1 s in let d = f.0 in (let e = c.0 in grind (arith, nat_tests), let e = c.1 in grind (arith, nat_tests))

-- so two texts that go on alike at the mark are the same
pub same_parts : (m : ℕ) (a b r s : List ℕ) → IsFree m a → IsFree m b → IsStopped m r → IsStopped m s → a ++ r ≡ b ++ s → (a ≡ b) × (r ≡ s)
same_parts m a b r s f g p q e =
    let c = cut_at m a r f p in
    let d = cut_at m b s g q in
    (sym c.0 ∙ ap (before_mark m) e ∙ d.0, sym c.1 ∙ ap (from_mark m) e ∙ d.1)

-- the two parts are the whole, without the mark and from it on
pub parts_join : (m : ℕ) (xs : List ℕ) → xs ≡ before_mark m xs ++ from_mark m xs
parts_join m [] = refl
parts_join m (x ∷ xs) = ⊎_elim (λ (e : x ≡ m). grind (arith, nat_tests)) (λ (d : x ≡ m → ⊥). let r = parts_join m xs in grind (arith, nat_tests)) (cases_eq x m)

-- what stands from the mark on begins with it
pub from_stops : (m : ℕ) (xs : List ℕ) → IsStopped m (from_mark m xs)
from_stops m [] = tt
from_stops m (x ∷ xs) =
    let r = from_stops m xs in
    ⊎_elim
    (λ (e : x ≡ m). let f : from_mark m (x ∷ xs) ≡ x ∷ xs = grind (arith, nat_tests) in subst (λ (t : List ℕ). IsStopped m t) (sym f) e)
    (λ (d : x ≡ m → ⊥).
    let f : from_mark m (x ∷ xs) ≡ from_mark m xs = grind (arith, nat_tests) in subst (λ (t : List ℕ). IsStopped m t) (sym f) r)
    (cases_eq x m)

pub from_begins : (m y : ℕ) (xs ys : List ℕ) → from_mark m xs ≡ y ∷ ys → y ≡ m
from_begins m y xs ys e = let s = from_stops m xs in rw e at s

pub from-length : (m : ℕ) (xs : List ℕ) → length (from_mark m xs) ≤ length xs
from-length m [] = omega arith
from-length m (x ∷ xs) =
    let r = from-length m xs in
    ⊎_elim (λ (e : x ≡ m). let f : from_mark m (x ∷ xs) ≡ x ∷ xs = grind (arith, nat_tests) in rw f (omega arith))
    (λ (d : x ≡ m → ⊥). let f : from_mark m (x ∷ xs) ≡ from_mark m xs = grind (arith, nat_tests) in rw f (omega (arith, r))) (cases_eq x m)

pub nothing_left : (xs : List ℕ) → length xs ≡ 0 → xs ≡ []
nothing_left [] e = refl
nothing_left (x ∷ xs) e = absurd (omega (arith, e))
