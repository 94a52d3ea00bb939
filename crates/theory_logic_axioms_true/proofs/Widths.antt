-- Monotypes with as many words, and as many of each variable, are equally wide in each world.
use Rattle.std.proofs.Common.{◌≡◌, ℕ, zero, suc, ◌+◌, ◌*◌, ◌<◌, ◌≤◌, refl, sym, ap, ◌∙◌, arith, ⊎_elim}
use Rattle.std.proofs.Math.Nat.{add-mul, zero-mul, one-mul}
use Rattle.std.proofs.lemmas.Bool.{cases_eq}
use Rattle.std.proofs.lemmas.Bool.Decides.{nat_tests}
use Rattle.htt_syntax.specs.Trees.{MonoTree, m_word, m_bool, m_loc, m_unit, m_pair, m_var}
use Rattle.theory_values.specs.Values.{width}
use Rattle.theory_truth.specs.Worlds.{World, mono_at, mono_under}
use Rattle.theory_logic_axioms.specs.Table.{count_of_words, uses_of, SameWidth}

-- The sum of what stands at 0, .., n - 1.
abbrev total : ℕ → (ℕ → ℕ) → ℕ
total zero f = 0
total (suc n) f = total n f + f n

total_same : (n : ℕ) (f g : ℕ → ℕ) → ((i : ℕ) → f i ≡ g i) → total n f ≡ total n g
total_same zero f g e = refl
total_same (suc n) f g e = λ j. total_same n f g e j + e n j

total_sum : (n : ℕ) (f g : ℕ → ℕ) → total n (λ i. f i + g i) ≡ total n f + total n g
total_sum zero f g = refl
total_sum (suc n) f g = omega (arith, total_sum n f g)

total_none : (n : ℕ) (f : ℕ → ℕ) → ((i : ℕ) → i < n → f i ≡ 0) → total n f ≡ 0
total_none zero f e = refl
total_none (suc n) f e = omega (arith, total_none n f (λ i l. e i (omega (arith, l))), e n (omega arith))

-- of these only the one at k isn't 0
total_one : (n k : ℕ) (f : ℕ → ℕ) → k < n → ((i : ℕ) → (i ≡ k → ⊥) → f i ≡ 0) → total n f ≡ f k
total_one zero k f l e = absurd (omega (arith, l))
total_one (suc n) k f l e =
    ⊎_elim (λ (q : n ≡ k). total_last n k f q e) (λ (q : n ≡ k → ⊥). omega (arith, total_one n k f (omega (arith, l, q)) e, e n q))
    (cases_eq n k)
  where
    total_last : (n k : ℕ) (f : ℕ → ℕ) → n ≡ k → ((i : ℕ) → (i ≡ k → ⊥) → f i ≡ 0) → total n f + f n ≡ f k
    total_last n k f q e = let z = total_none n f (λ i l. e i (λ s. omega (arith, l, s, q))) in let s : f n ≡ f k = ap f q in omega (arith, z, s)

-- above each variable of the monotype
abbrev bound : MonoTree → ℕ
bound (m_pair left right) = bound left + bound right
bound (m_var index) = suc index
bound _ = 0

-- what the variables of a monotype take together, where v says what each takes
abbrev weight : (ℕ → ℕ) → MonoTree → ℕ → ℕ
weight v t i = uses_of i t * v i

-- a monotype without variables
no_variables : (k n : ℕ) (v : ℕ → ℕ) (t : MonoTree) → ((i : ℕ) → uses_of i t ≡ 0) → k ≡ k + total n (weight v t)
no_variables k n v t e = omega (arith, total_none n (weight v t) (λ i l. ap (λ u. u * v i) (e i) ∙ zero-mul (v i)))

-- the variables of a pair are those of its parts
pair_weights : (n : ℕ) (v : ℕ → ℕ) (left right : MonoTree) → total n (weight v (m_pair left right)) ≡ total n (weight v left) + total n (weight v right)
unfolding uses_of
pair_weights n v left right = total_same n _ _ (λ i. add-mul (uses_of i left) (uses_of i right) (v i)) ∙ total_sum n (weight v left) (weight v right)

used_once : (index i : ℕ) → (i ≡ index → ⊥) → uses_of i (m_var index) ≡ 0
unfolding uses_of
used_once index i n = grind (arith, nat_tests)

used_here : (index : ℕ) → uses_of index (m_var index) ≡ 1
unfolding uses_of
used_here index = grind (arith, nat_tests)

variable_weight : (n index : ℕ) (v : ℕ → ℕ) → index < n → v index ≡ total n (weight v (m_var index))
variable_weight n index v l =
    let here : uses_of index (m_var index) * v index ≡ v index = ap (λ u. u * v index) (used_here index) ∙ one-mul (v index) in
    sym (total_one n index (weight v (m_var index)) l (λ i d. ap (λ u. u * v i) (used_once index i d) ∙ zero-mul (v i)) ∙ here)

width_split : (w : World) (t : MonoTree) (n : ℕ) → bound t ≤ n → width (mono_under w t) ≡ count_of_words t + total n (weight (λ i. width (mono_at w i)) t)
unfolding count_of_words uses_of
width_split w m_word n l = no_variables 1 n (λ i. width (mono_at w i)) m_word (λ i. refl)
width_split w m_bool n l = no_variables 1 n (λ i. width (mono_at w i)) m_bool (λ i. refl)
width_split w m_loc n l = no_variables 1 n (λ i. width (mono_at w i)) m_loc (λ i. refl)
width_split w m_unit n l = no_variables 0 n (λ i. width (mono_at w i)) m_unit (λ i. refl)
width_split w (m_pair left right) n l =
    omega (
      arith,
      width_split w left n (omega (arith, l)),
      width_split w right n (omega (arith, l)),
      pair_weights n (λ i. width (mono_at w i)) left right,
    )
width_split w (m_var index) n l = let e = variable_weight n index (λ i. width (mono_at w i)) l in omega (arith, e)

pub same_width : (w : World) (t s : MonoTree) → SameWidth t s → width (mono_under w t) ≡ width (mono_under w s)
same_width w t s e =
    let n = bound t + bound s in
    let v = λ (i : ℕ). width (mono_at w i) in
    let same = total_same n (weight v t) (weight v s) (λ i. ap (λ k. k * v i) (e.same_variables i)) in
    let left = width_split w t n (omega arith) in
    let right = width_split w s n (omega arith) in
    left ∙ (λ j. e.same_words j + same j) ∙ sym right
