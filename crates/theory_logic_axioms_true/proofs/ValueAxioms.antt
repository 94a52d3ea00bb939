-- The axioms of truth values, pairs, `()` and `eq` are true.
use Rattle.std.proofs.Common.{◌≡◌, ℕ, refl, sym, ap, ◌∙◌, subst, ◌⊎◌, inl, inr, arith}
use Rattle.std.specs.Prelude.{Bool, true, false, nat_eq}
use Rattle.std.proofs.lemmas.Bool.Decides.{nat_tests}
use Rattle.htt_syntax.specs.Trees.{MonoTree, TermTree, m_word, m_bool, m_loc, m_unit, m_pair, m_var, t_fst, t_snd, t_eq}
use Rattle.theory_values.specs.Values.{Value, v_word, v_bool, v_loc, v_pair, HasType, is_word, is_bool, is_loc, value_of_eq, value_of_fst, value_of_snd}
use Rattle.theory_values.specs.Values.{bool_eq}
use Rattle.theory_canonical.specs.Folding.{folding}
use Rattle.theory_truth.specs.Worlds.{World, mono_under}
use Rattle.theory_truth.specs.TermValue.{value_or_unit, term_value}
use Rattle.theory_truth.specs.Truth.{NotNot}
use Rattle.theory_typing.specs.Contexts.{IsComparable, compares_word, compares_bool, compares_loc}
use Rattle.theory_logic_axioms_true.proofs.Folded.{folded}
use Rattle.theory_logic_axioms_true.proofs.Values.{as_bool, as_pair}

number_equal : (x y : ℕ) → nat_eq x y ≡ true → x ≡ y
number_equal x y e = grind (arith, nat_tests)

number_equals : (x y : ℕ) → x ≡ y → nat_eq x y ≡ true
number_equals x y e = grind (arith, nat_tests)

truth_equal : (a b : Bool) → bool_eq a b ≡ true → a ≡ b
truth_equal true true e = refl
truth_equal false false e = refl
truth_equal true false e = cc
truth_equal false true e = cc

truth_equals : (a : Bool) → bool_eq a a ≡ true
truth_equals true = refl
truth_equals false = refl

truth_of : {a b : Bool} → v_bool a ≡ v_bool b → a ≡ b
truth_of e = cc

-- values of a monotype that is compared are equal exactly where `eq` says true
compared : (w : World) (t : MonoTree) {x y : Value}
    → IsComparable t
    → HasType x (mono_under w t)
    → HasType y (mono_under w t)
    → value_or_unit (value_of_eq (mono_under w t) x y) ≡ v_bool true
    → x ≡ y
compared w m_word compares_word (is_word {n = n} l) (is_word {n = m} k) e = ap v_word (number_equal n m (truth_of e))
compared w m_bool compares_bool (is_bool {b = a}) (is_bool {b = b}) e = ap v_bool (truth_equal a b (truth_of e))
compared w m_loc compares_loc (is_loc {n = n} l) (is_loc {n = m} k) e = ap v_loc (number_equal n m (truth_of e))
compared w m_unit c p q e = elim c [ ]
compared w (m_pair t u) c p q e = elim c [ ]
compared w (m_var i) c p q e = elim c [ ]

compares_itself : (w : World) (t : MonoTree) {x : Value}
    → IsComparable t
    → HasType x (mono_under w t)
    → value_or_unit (value_of_eq (mono_under w t) x x) ≡ v_bool true
compares_itself w m_word compares_word (is_word {n = n} l) = ap v_bool (number_equals n n refl)
compares_itself w m_bool compares_bool (is_bool {b = a}) = ap v_bool (truth_equals a)
compares_itself w m_loc compares_loc (is_loc {n = n} l) = ap v_bool (number_equals n n refl)
compares_itself w m_unit c p = elim c [ ]
compares_itself w (m_pair t u) c p = elim c [ ]
compares_itself w (m_var i) c p = elim c [ ]

pub equal_where_yes : (w : World) (t : MonoTree) (m n : TermTree)
    → IsComparable t
    → HasType (term_value w m) (mono_under w t)
    → HasType (term_value w n) (mono_under w t)
    → term_value w (folding (t_eq t m n)) ≡ v_bool true
    → term_value w m ≡ term_value w n
unfolding term_value
equal_where_yes w t m n c p q e = compared w t c p q (sym (folded w (t_eq t m n)) ∙ e)

pub yes_where_equal : (w : World) (t : MonoTree) (m n : TermTree)
    → IsComparable t
    → HasType (term_value w m) (mono_under w t)
    → HasType (term_value w n) (mono_under w t)
    → term_value w m ≡ term_value w n
    → term_value w (folding (t_eq t m n)) ≡ v_bool true
unfolding term_value
yes_where_equal w t m n c p q e =
    folded w (t_eq t m n) ∙ ap (λ v. value_or_unit (value_of_eq (mono_under w t) (term_value w m) v)) (sym e) ∙ compares_itself w t c p

one_of_two : (a : Bool) → NotNot ((v_bool a ≡ v_bool true) ⊎ (v_bool a ≡ v_bool false))
one_of_two true deny = deny (inl refl)
one_of_two false deny = deny (inr refl)

pub true_or_false : (w : World) (b : TermTree) → HasType (term_value w b) m_bool → NotNot ((term_value w b ≡ v_bool true) ⊎ (term_value w b ≡ v_bool false))
true_or_false w b p = let a = as_bool p in subst (λ v. NotNot ((v ≡ v_bool true) ⊎ (v ≡ v_bool false))) (sym a.same) (one_of_two a.truth)

pub not_the_other : v_bool true ≡ v_bool false → ⊥
not_the_other e = cc

pub parts_of_pair : (w : World) (t s : MonoTree) (p : TermTree)
    → HasType (term_value w p) (m_pair t s)
    → v_pair (term_value w (folding (t_fst p))) (term_value w (folding (t_snd p))) ≡ term_value w p
unfolding term_value
parts_of_pair w t s p d =
    let a = as_pair d in
    let left = folded w (t_fst p) ∙ ap (λ v. value_or_unit (value_of_fst v)) a.same in
    let right = folded w (t_snd p) ∙ ap (λ v. value_or_unit (value_of_snd v)) a.same in
    (λ j. v_pair (left j) (right j)) ∙ sym a.same
