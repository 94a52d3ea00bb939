-- Which monotypes `eq` compares, and that it is enough to look at the variables that two monotypes have.
use Rattle.std.proofs.Common.{◌≡◌, ◌↔◌, ℕ, zero, suc, ◌+◌, Bool, true, false, cond, ◌&&◌, nat_eq, IsTrue, refl, sym, ◌∙◌, ap, subst, arith}
use Rattle.std.proofs.lemmas.Bool.Decides.{nat_tests}
use Rattle.htt_syntax.specs.declared.mono.Mono.{Mono}
use Rattle.htt_syntax.specs.declared.mono.Mono.TheVariants as vmono
use Rattle.htt_syntax.specs.Trees.{MonoTree, m_word, m_bool, m_loc, m_unit, m_pair, m_var}
use Rattle.htt_syntax.specs.Views.{mono_tree}
use Rattle.htt_syntax.specs.Levels.{mono_word, mono_bool, mono_loc}
use Rattle.theory_typing.specs.Contexts.{IsComparable, compares_word, compares_bool, compares_loc}
use Rattle.theory_logic_axioms.specs.Table.{SameWidth, count_of_words, uses_of}
use Rattle.logic_axioms_shapes.specs.Widths.{are_used_alike, are_as_wide}

compared : (t u : MonoTree) → t ≡ u → IsComparable u → IsTrue true ↔ IsComparable t
compared t u e d = (λ _. subst IsComparable (sym e) d, λ _. refl)

pub compares_words : (t : Mono) → t ≡ vmono.Word → IsTrue true ↔ IsComparable (mono_tree t)
compares_words t e = compared (mono_tree t) m_word (ap mono_tree e ∙ mono_word) compares_word

pub compares_truths : (t : Mono) → t ≡ vmono.Bool → IsTrue true ↔ IsComparable (mono_tree t)
compares_truths t e = compared (mono_tree t) m_bool (ap mono_tree e ∙ mono_bool) compares_bool

pub compares_places : (t : Mono) → t ≡ vmono.Loc → IsTrue true ↔ IsComparable (mono_tree t)
compares_places t e = compared (mono_tree t) m_loc (ap mono_tree e ∙ mono_loc) compares_loc

-- ---- variables

by_sum : (n m : ℕ) (P : Type 0) → (n + m ≡ 0 → ⊥) → ((n ≡ 0 → ⊥) → P) → ((m ≡ 0 → ⊥) → P) → P
by_sum zero m P h left right = right (λ e. h (omega arith))
by_sum (suc n) m P h left right = left (λ e. omega arith)

either_used : (n m : ℕ) → ((n ≡ 0 → ⊥) → n ≡ m) → ((m ≡ 0 → ⊥) → n ≡ m) → n ≡ m
either_used zero zero left right = refl
either_used zero (suc m) left right = right (λ e. omega arith)
either_used (suc n) m left right = left (λ e. omega arith)

same_numbers : (n m : ℕ) → nat_eq n m ≡ true → n ≡ m
same_numbers n m e = grind (arith, nat_tests)

numbers_test : (n m : ℕ) → n ≡ m → nat_eq n m ≡ true
numbers_test n m e = grind (arith, nat_tests)

-- a variable that is used in another's place is that one
index_is : (index other : ℕ) (test : Bool) → nat_eq index other ≡ test → (cond {A = ℕ} test 1 0 ≡ 0 → ⊥) → index ≡ other
index_is index other true e used = same_numbers index other e
index_is index other false e used = absurd (used refl)

both_true : (x y : Bool) → (x && y) ≡ true → (x ≡ true) × (y ≡ true)
both_true true y h = (refl, h)
both_true false y h = cc

-- what tests alike is used alike, if it is used in the monotype that was looked at
alike_at : (among t s : MonoTree) → are_used_alike among t s ≡ true → (index : ℕ) → (uses_of index among ≡ 0 → ⊥) → uses_of index t ≡ uses_of index s
unfolding are_used_alike uses_of
alike_at (m_pair left right) t s h index used =
    let both = both_true (are_used_alike left t s) (are_used_alike right t s) h in
    by_sum (uses_of index left) (uses_of index right) (uses_of index t ≡ uses_of index s) used
    (alike_at left t s both.0 index) (alike_at right t s both.1 index)
alike_at (m_var other) t s h index used =
    let it = index_is index other (nat_eq index other) refl used in
    rw it (same_numbers (uses_of other t) (uses_of other s) h)
alike_at m_word t s h index used = absurd (used refl)
alike_at m_bool t s h index used = absurd (used refl)
alike_at m_loc t s h index used = absurd (used refl)
alike_at m_unit t s h index used = absurd (used refl)

used_alike : (among t s : MonoTree) → ((index : ℕ) → uses_of index t ≡ uses_of index s) → are_used_alike among t s ≡ true
unfolding are_used_alike
used_alike (m_pair left right) t s h = rw (used_alike left t s h) (used_alike right t s h)
used_alike (m_var index) t s h = numbers_test (uses_of index t) (uses_of index s) (h index)
used_alike m_word t s h = refl
used_alike m_bool t s h = refl
used_alike m_loc t s h = refl
used_alike m_unit t s h = refl

as_wide : (t s : MonoTree) → are_as_wide t s ≡ true → SameWidth t s
unfolding are_as_wide
as_wide t s h =
    let all = both_true (nat_eq (count_of_words t) (count_of_words s)) (are_used_alike t t s && are_used_alike s t s) h in
    let alike = both_true (are_used_alike t t s) (are_used_alike s t s) all.1 in
    record {
      same_words = same_numbers (count_of_words t) (count_of_words s) all.0;
      same_variables = λ index. either_used (uses_of index t) (uses_of index s) (alike_at t t s alike.0 index) (alike_at s t s alike.1 index);
    }

told_as_wide : (t s : MonoTree) → SameWidth t s → are_as_wide t s ≡ true
unfolding are_as_wide
told_as_wide t s w =
    rw (numbers_test (count_of_words t) (count_of_words s) w.same_words, used_alike t t s w.same_variables, used_alike s t s w.same_variables)
    refl

pub as_wide_exactly : (wide : Bool) (t s : MonoTree) → wide ≡ are_as_wide t s → IsTrue wide ↔ SameWidth t s
as_wide_exactly wide t s e = (λ h. as_wide t s (sym e ∙ h), λ w. e ∙ told_as_wide t s w)
