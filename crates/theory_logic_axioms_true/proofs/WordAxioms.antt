-- The axioms of words are true.
use Rattle.std.proofs.Common.{◌≡◌, sym, ap, ◌∙◌, ◌⊎◌, inl, inr, ⊎_elim}
use Rattle.std.specs.Prelude.{true, false}
use Rattle.htt_syntax.specs.declared.mono.Op.TheVariants.{Add, Sub, Mul, And, Or, Xor, Shl, Lt}
use Rattle.htt_syntax.specs.Trees.{TermTree, m_word, t_word}
use Rattle.theory_values.specs.Values.{v_word, v_bool, HasType}
use Rattle.theory_truth.specs.Worlds.{World}
use Rattle.theory_truth.specs.TermValue.{term_value}
use Rattle.theory_truth.specs.Truth.{NotNot}
use Rattle.theory_logic_axioms.specs.Table.{op_of, plus, minus, times}
use Rattle.theory_logic_axioms_true.specs.WordLaws.{IsBelow}
use Rattle.theory_logic_axioms_true.proofs.Sums.{sums}
use Rattle.theory_logic_axioms_true.proofs.Order.{order}
use Rattle.theory_logic_axioms_true.proofs.Bits.{bits}
use Rattle.theory_logic_axioms_true.proofs.Values.{as_word, op_given, literal_at, sum_at, difference_at, product_at}

-- The term has a word as its value.
abbrev pub Word : World → TermTree → Type 0
Word w x = HasType (term_value w x) m_word

-- Two terms have one value, and the first is below the other or isn't.
abbrev pub Same : World → TermTree → TermTree → Type 0
Same w x y = term_value w x ≡ term_value w y

abbrev pub Below : World → TermTree → TermTree → Type 0
Below w x y = term_value w (op_of Lt x y) ≡ v_bool true

abbrev pub NotBelow : World → TermTree → TermTree → Type 0
NotBelow w x y = term_value w (op_of Lt x y) ≡ v_bool false

pub sum_commutes : (w : World) (x y : TermTree) → Word w x → Word w y → Same w (plus x y) (plus y x)
sum_commutes w x y p q =
    let a = as_word w x p in
    let b = as_word w y q in op_given w Add a.at b.at ∙ sums.sum_commutes a.number b.number ∙ sym (op_given w Add b.at a.at)

pub product_commutes : (w : World) (x y : TermTree) → Word w x → Word w y → Same w (times x y) (times y x)
product_commutes w x y p q =
    let a = as_word w x p in
    let b = as_word w y q in op_given w Mul a.at b.at ∙ sums.product_commutes a.number b.number ∙ sym (op_given w Mul b.at a.at)

pub sum_regroups : (w : World) (x y z : TermTree) → Word w x → Word w y → Word w z → Same w (plus (plus x y) z) (plus x (plus y z))
sum_regroups w x y z p q r =
    let a = as_word w x p in
    let b = as_word w y q in
    let c = as_word w z r in
    op_given w Add (sum_at w a.at b.at) c.at ∙ sums.sum_regroups a.number b.number c.number ∙ sym (op_given w Add a.at (sum_at w b.at c.at))

pub product_regroups : (w : World) (x y z : TermTree) → Word w x → Word w y → Word w z → Same w (times (times x y) z) (times x (times y z))
product_regroups w x y z p q r =
    let a = as_word w x p in
    let b = as_word w y q in
    let c = as_word w z r in
    op_given w Mul (product_at w a.at b.at) c.at
    ∙ sums.product_regroups a.number b.number c.number
    ∙ sym (op_given w Mul a.at (product_at w b.at c.at))

pub zero_added : (w : World) (x : TermTree) → Word w x → Same w (plus x (t_word 0)) x
zero_added w x p = let a = as_word w x p in op_given w Add a.at (literal_at w 0) ∙ sums.zero_added a.number a.word ∙ sym a.at.same

pub times_one : (w : World) (x : TermTree) → Word w x → Same w (times x (t_word 1)) x
times_one w x p = let a = as_word w x p in op_given w Mul a.at (literal_at w 1) ∙ sums.times_one a.number a.word ∙ sym a.at.same

pub times_zero : (w : World) (x : TermTree) → Word w x → Same w (times x (t_word 0)) (t_word 0)
times_zero w x p = let a = as_word w x p in op_given w Mul a.at (literal_at w 0) ∙ sums.times_zero a.number ∙ sym (literal_at w 0).same

pub product_of_sum : (w : World) (x y z : TermTree) → Word w x → Word w y → Word w z → Same w (times x (plus y z)) (plus (times x y) (times x z))
product_of_sum w x y z p q r =
    let a = as_word w x p in
    let b = as_word w y q in
    let c = as_word w z r in
    op_given w Mul a.at (sum_at w b.at c.at)
    ∙ sums.product_of_sum a.number b.number c.number
    ∙ sym (op_given w Add (product_at w a.at b.at) (product_at w a.at c.at))

pub difference_and_sum : (w : World) (x y : TermTree) → Word w x → Word w y → Same w (plus (minus x y) y) x
difference_and_sum w x y p q =
    let a = as_word w x p in
    let b = as_word w y q in
    op_given w Add (difference_at w a.at b.at) b.at ∙ sums.difference_and_sum a.number b.number a.word b.word ∙ sym a.at.same

pub sum_and_difference : (w : World) (x y : TermTree) → Word w x → Word w y → Same w (minus (plus x y) y) x
sum_and_difference w x y p q =
    let a = as_word w x p in
    let b = as_word w y q in
    op_given w Sub (sum_at w a.at b.at) b.at ∙ sums.sum_and_difference a.number b.number a.word b.word ∙ sym a.at.same

-- what a comparison of two terms says of their words
below_words : (w : World) (x y : TermTree) (p : Word w x) (q : Word w y) → Below w x y → IsBelow (as_word w x p).number (as_word w y q).number
below_words w x y p q h = sym (op_given w Lt (as_word w x p).at (as_word w y q).at) ∙ h

pub not_below_itself : (w : World) (x : TermTree) → Word w x → NotBelow w x x
not_below_itself w x p = let a = as_word w x p in op_given w Lt a.at a.at ∙ order.not_below_itself a.number

pub not_below_zero : (w : World) (x : TermTree) → Word w x → NotBelow w x (t_word 0)
not_below_zero w x p = let a = as_word w x p in op_given w Lt a.at (literal_at w 0) ∙ order.not_below_zero a.number

pub transitive : (w : World) (x y z : TermTree) → Word w x → Word w y → Word w z → Below w x y → Below w y z → Below w x z
transitive w x y z p q r h k =
    let a = as_word w x p in
    let b = as_word w y q in
    let c = as_word w z r in
    op_given w Lt a.at c.at ∙ order.transitive a.number b.number c.number (below_words w x y p q h) (below_words w y z q r k)

pub total : (w : World) (x y : TermTree) → Word w x → Word w y → NotNot (Below w x y ⊎ NotNot (Same w x y ⊎ Below w y x))
total w x y p q deny =
    let a = as_word w x p in
    let b = as_word w y q in
    ⊎_elim (λ (l : IsBelow a.number b.number). deny (inl (op_given w Lt a.at b.at ∙ l)))
    (λ (r : (a.number ≡ b.number) ⊎ IsBelow b.number a.number).
    deny (inr (λ n.
    ⊎_elim (λ (e : a.number ≡ b.number). n (inl (a.at.same ∙ ap v_word e ∙ sym b.at.same)))
    (λ (l : IsBelow b.number a.number). n (inr (op_given w Lt b.at a.at ∙ l))) r))) (order.total a.number b.number)

pub below_next : (w : World) (x y : TermTree) → Word w x → Word w y → Below w x y → Below w x (plus x (t_word 1))
below_next w x y p q h =
    let a = as_word w x p in
    let b = as_word w y q in
    op_given w Lt a.at (sum_at w a.at (literal_at w 1)) ∙ order.below_next a.number b.number b.word (below_words w x y p q h)

pub nothing_between : (w : World) (x y : TermTree) → Word w x → Word w y → Below w x y → NotBelow w y (plus x (t_word 1))
nothing_between w x y p q h =
    let a = as_word w x p in
    let b = as_word w y q in
    op_given w Lt b.at (sum_at w a.at (literal_at w 1)) ∙ order.nothing_between a.number b.number b.word (below_words w x y p q h)

pub before_is_below : (w : World) (x : TermTree) → Word w x → (Same w x (t_word 0) → ⊥) → Below w (minus x (t_word 1)) x
before_is_below w x p n =
    let a = as_word w x p in
    op_given w Lt (difference_at w a.at (literal_at w 1)) a.at
    ∙ order.before_is_below a.number a.word (λ e. n (a.at.same ∙ ap v_word e ∙ sym (literal_at w 0).same))

pub bits_with_zero : (w : World) (x : TermTree) → Word w x → Same w (op_of And x (t_word 0)) (t_word 0)
bits_with_zero w x p = let a = as_word w x p in op_given w And a.at (literal_at w 0) ∙ bits.and_zero a.number ∙ sym (literal_at w 0).same

pub bits_or_zero : (w : World) (x : TermTree) → Word w x → Same w (op_of Or x (t_word 0)) x
bits_or_zero w x p = let a = as_word w x p in op_given w Or a.at (literal_at w 0) ∙ bits.or_zero a.number ∙ sym a.at.same

pub xor_itself : (w : World) (x : TermTree) → Word w x → Same w (op_of Xor x x) (t_word 0)
xor_itself w x p = let a = as_word w x p in op_given w Xor a.at a.at ∙ bits.xor_itself a.number ∙ sym (literal_at w 0).same

pub left_by_one : (w : World) (x : TermTree) → Word w x → Same w (op_of Shl x (t_word 1)) (plus x x)
left_by_one w x p = let a = as_word w x p in op_given w Shl a.at (literal_at w 1) ∙ bits.left_by_one a.number ∙ sym (op_given w Add a.at a.at)
