-- The laws of words, over the value that an operation gives for two words.
use Rattle.std.specs.Prelude.{◌≡◌, ℕ, List, ◌∷◌, true, false, ◌⊎◌}
use Rattle.htt_syntax.specs.declared.mono.Op.{Op}
use Rattle.htt_syntax.specs.declared.mono.Op.TheVariants.{Add, Sub, Mul, And, Or, Xor, Shl, Shr, Lt}
use Rattle.theory_values.specs.Values.{v_word, v_bool, IsWord, op_value}
use Rattle.htt_syntax.specs.Trees.{FormulaTree}
use Rattle.theory_truth.specs.Worlds.{World, th_value}
use Rattle.theory_truth.specs.TermValue.{word_of}
use Rattle.theory_truth.specs.Truth.{Holds}
use Rattle.theory_truth.specs.Predicates.{RecTree, recs_of}

-- The word that an operation gives.
abbrev pub word_op : Op → ℕ → ℕ → ℕ
word_op op x y = word_of (op_value op x y)

-- x is below y.
abbrev pub IsBelow : ℕ → ℕ → Type 0
IsBelow x y = op_value Lt x y ≡ v_bool true

pub record SumsAndProducts : Type 0 where
  pub sum_commutes : (x y : ℕ) → op_value Add x y ≡ op_value Add y x
  pub product_commutes : (x y : ℕ) → op_value Mul x y ≡ op_value Mul y x
  pub sum_regroups : (x y z : ℕ) → op_value Add (word_op Add x y) z ≡ op_value Add x (word_op Add y z)
  pub product_regroups : (x y z : ℕ) → op_value Mul (word_op Mul x y) z ≡ op_value Mul x (word_op Mul y z)
  pub zero_added : (x : ℕ) → IsWord x → op_value Add x 0 ≡ v_word x
  pub times_one : (x : ℕ) → IsWord x → op_value Mul x 1 ≡ v_word x
  pub times_zero : (x : ℕ) → op_value Mul x 0 ≡ v_word 0
  pub product_of_sum : (x y z : ℕ) → op_value Mul x (word_op Add y z) ≡ op_value Add (word_op Mul x y) (word_op Mul x z)
  pub difference_and_sum : (x y : ℕ) → IsWord x → IsWord y → op_value Add (word_op Sub x y) y ≡ v_word x
  pub sum_and_difference : (x y : ℕ) → IsWord x → IsWord y → op_value Sub (word_op Add x y) y ≡ v_word x

pub record UnsignedOrder : Type 0 where
  pub not_below_itself : (x : ℕ) → op_value Lt x x ≡ v_bool false
  pub not_below_zero : (x : ℕ) → op_value Lt x 0 ≡ v_bool false
  pub transitive : (x y z : ℕ) → IsBelow x y → IsBelow y z → IsBelow x z
  pub total : (x y : ℕ) → IsBelow x y ⊎ (x ≡ y) ⊎ IsBelow y x
  -- a word below another is below its next word, which isn't above the other
  pub below_next : (x y : ℕ) → IsWord y → IsBelow x y → IsBelow x (word_op Add x 1)
  pub nothing_between : (x y : ℕ) → IsWord y → IsBelow x y → op_value Lt y (word_op Add x 1) ≡ v_bool false
  pub before_is_below : (x : ℕ) → IsWord x → (x ≡ 0 → ⊥) → IsBelow (word_op Sub x 1) x

pub record BitsAndShifts : Type 0 where
  pub and_zero : (x : ℕ) → op_value And x 0 ≡ v_word 0
  pub or_zero : (x : ℕ) → op_value Or x 0 ≡ v_word x
  pub xor_zero : (x : ℕ) → op_value Xor x 0 ≡ v_word x
  pub and_itself : (x : ℕ) → op_value And x x ≡ v_word x
  pub or_itself : (x : ℕ) → op_value Or x x ≡ v_word x
  pub xor_itself : (x : ℕ) → op_value Xor x x ≡ v_word 0
  pub left_by_zero : (x : ℕ) → IsWord x → op_value Shl x 0 ≡ v_word x
  pub right_by_zero : (x : ℕ) → op_value Shr x 0 ≡ v_word x
  pub left_by_one : (x : ℕ) → op_value Shl x 1 ≡ op_value Add x x

-- A formula that is true of 0, and of the next word of each word below the greatest of which it is true,
-- is true of each word.
abbrev pub InductionOnWords : Type 0
InductionOnWords =
    (table : List RecTree) (w : World) (F : FormulaTree)
    → Holds (recs_of table) (th_value (v_word 0) ∷ w) F
    → ((y : ℕ) → IsBelow y 18446744073709551615 → Holds (recs_of table) (th_value (v_word y) ∷ w) F →
    Holds (recs_of table) (th_value (v_word (word_op Add y 1)) ∷ w) F)
    → (n : ℕ)
    → IsWord n
    → Holds (recs_of table) (th_value (v_word n) ∷ w) F
