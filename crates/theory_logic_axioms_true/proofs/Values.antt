-- The values of terms of a monotype, and of an operation on two words.
use Rattle.std.proofs.Common.{◌≡◌, ℕ, refl, ◌∙◌}
use Rattle.std.specs.Prelude.{Bool}
use Rattle.htt_syntax.specs.declared.mono.Op.{Op}
use Rattle.htt_syntax.specs.declared.mono.Op.TheVariants.{Add, Sub, Mul}
use Rattle.htt_syntax.specs.Trees.{MonoTree, TermTree, m_word, m_bool, m_loc, m_unit, m_pair, t_word, t_bin}
use Rattle.theory_values.specs.Values.{Value, v_word, v_bool, v_loc, v_unit, v_pair, IsWord, HasType, is_word, is_bool, is_loc, is_unit, is_pair, op_value}
use Rattle.theory_values.specs.Values.{value_of_op}
use Rattle.theory_truth.specs.Worlds.{World}
use Rattle.theory_truth.specs.TermValue.{value_or_unit, term_value}
use Rattle.theory_logic_axioms.specs.Table.{op_of}
use Rattle.theory_logic_axioms_true.specs.WordLaws.{word_op}
use Rattle.theory_logic_axioms_true.proofs.Folded.{folded}

-- The term has this word as its value.
pub record WordAt (w : World) (x : TermTree) (n : ℕ) : Type 0 where
  pub same : term_value w x ≡ v_word n

-- A term of `word`, a value of `bool`, of `loc`, and of a pair.
pub record WordTerm (w : World) (x : TermTree) : Type 0 where
  pub number : ℕ
  pub word : IsWord number
  pub at : WordAt w x number

pub record AsBool (v : Value) : Type 0 where
  pub truth : Bool
  pub same : v ≡ v_bool truth

pub record AsLoc (v : Value) : Type 0 where
  pub place : ℕ
  pub word : IsWord place
  pub same : v ≡ v_loc place

pub record AsPair (v : Value) : Type 0 where
  pub left : Value
  pub right : Value
  pub same : v ≡ v_pair left right

word_in : {v : Value} → HasType v m_word → (n : ℕ) × IsWord n × (v ≡ v_word n)
word_in (is_word {n = n} l) = (n, l, refl)

pub as_word : (w : World) (x : TermTree) → HasType (term_value w x) m_word → WordTerm w x
as_word w x p = let r = word_in p in record { number = r.0; word = r.1; at = record { same = r.2 } }

pub as_bool : {v : Value} → HasType v m_bool → AsBool v
as_bool (is_bool {b = b}) = record { truth = b; same = refl }

pub as_loc : {v : Value} → HasType v m_loc → AsLoc v
as_loc (is_loc {n = n} l) = record { place = n; word = l; same = refl }

pub as_pair : {v : Value} {t u : MonoTree} → HasType v (m_pair t u) → AsPair v
as_pair (is_pair {x = x} {y = y} p q) = record { left = x; right = y; same = refl }

pub as_unit : {v : Value} → HasType v m_unit → v ≡ v_unit
as_unit is_unit = refl

pub op_given : (w : World) (op : Op) {x y : TermTree} {m n : ℕ} → WordAt w x m → WordAt w y n → term_value w (op_of op x y) ≡ op_value op m n
unfolding term_value
op_given w op {x = x} {y = y} p q = folded w (t_bin op x y) ∙ (λ j. value_or_unit (value_of_op op (p.same j) (q.same j)))

pub literal_at : (w : World) (n : ℕ) → WordAt w (t_word n) n
unfolding term_value
literal_at w n = record { same = refl }

pub sum_at : (w : World) {x y : TermTree} {m n : ℕ} → WordAt w x m → WordAt w y n → WordAt w (op_of Add x y) (word_op Add m n)
sum_at w p q = record { same = op_given w Add p q }

pub difference_at : (w : World) {x y : TermTree} {m n : ℕ} → WordAt w x m → WordAt w y n → WordAt w (op_of Sub x y) (word_op Sub m n)
difference_at w p q = record { same = op_given w Sub p q }

pub product_at : (w : World) {x y : TermTree} {m n : ℕ} → WordAt w x m → WordAt w y n → WordAt w (op_of Mul x y) (word_op Mul m n)
product_at w p q = record { same = op_given w Mul p q }
