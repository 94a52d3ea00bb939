-- What the operations of the machine give for the words of values.
use Rattle.std.proofs.Common.{◌≡◌, ℕ, List, [], ◌∷◌, length, Bool, true, false, nat_eq, nat_lt, if◌then◌else◌, refl, ap, ◌∙◌, arith, length-append}
use Rattle.htt_syntax.specs.declared.mono.Op.{Op}
use Rattle.htt_syntax.specs.declared.mono.Op.TheVariants.{Add, Sub, Mul, And, Or, Xor, Shl, Shr, Lt}
use Rattle.htt_syntax.specs.Trees.{MonoTree, m_word, m_bool}
use Rattle.theory_values.specs.Values.{Value, v_bool, HasType, is_word, is_bool, is_loc, is_unit, is_pair, width, encoding, op_value, op_mono}
use Rattle.theory_values.specs.Values.{value_of_op, value_of_not, value_of_eq, value_of_sel}
use Rattle.theory_truth.specs.Worlds.{World, mono_under}
use Rattle.theory_truth.specs.TermValue.{value_or_unit}
use Rattle.theory_typing.specs.Contexts.{IsComparable, compares_word, compares_bool, compares_loc}
use Rattle.word_loader_code.specs.Machine.{local_at, words_at, value_as_word, operation_result}
use Rattle.theory_emission.specs.Terms.{number_of_op, eq_number}
use Rattle.word_loader_code.specs.Valid.{not_number}
use Rattle.theory_emitted_words.proofs.Words.{one}
use Rattle.theory_emitted_terms.specs.Layouts.{HasLayout, lays_word, lays_bool, lays_loc, lays_unit, lays_pair}

pub typed_layout : {v : Value} {t : MonoTree} → HasType v t → HasLayout v t
typed_layout (is_word l) = lays_word
typed_layout is_bool = lays_bool
typed_layout (is_loc l) = lays_loc
typed_layout is_unit = lays_unit
typed_layout (is_pair p q) = lays_pair (typed_layout p) (typed_layout q)

pub layout_width : {v : Value} {t : MonoTree} → HasLayout v t → length (encoding v) ≡ width t
layout_width lays_word = refl
layout_width (lays_bool {b = true}) = refl
layout_width (lays_bool {b = false}) = refl
layout_width lays_loc = refl
layout_width lays_unit = refl
layout_width (lays_pair {x = x} {y = y} p q) = omega (arith, length-append (encoding x) (encoding y), layout_width p, layout_width q)

bool_words : (b : Bool) → value_as_word (v_bool b) ∷ [] ≡ encoding (v_bool b)
bool_words true = refl
bool_words false = refl

op_layout : (op : Op) (x y : ℕ) → HasLayout (op_value op x y) (op_mono op)
op_layout Add x y = lays_word
op_layout Sub x y = lays_word
op_layout Mul x y = lays_word
op_layout And x y = lays_word
op_layout Or x y = lays_word
op_layout Xor x y = lays_word
op_layout Shl x y = lays_word
op_layout Shr x y = lays_word
op_layout Lt x y = lays_bool

op_words : (op : Op) (x y : ℕ) → operation_result (number_of_op op) x y ∷ [] ≡ encoding (op_value op x y)
op_words Add x y = refl
op_words Sub x y = refl
op_words Mul x y = refl
op_words And x y = refl
op_words Or x y = refl
op_words Xor x y = refl
op_words Shl x y = refl
op_words Shr x y = refl
op_words Lt x y = bool_words (nat_lt x y)

pub op_wide : (op : Op) → width (op_mono op) ≡ 1
op_wide Add = refl
op_wide Sub = refl
op_wide Mul = refl
op_wide And = refl
op_wide Or = refl
op_wide Xor = refl
op_wide Shl = refl
op_wide Shr = refl
op_wide Lt = refl

-- a result of an operation, with the word that the machine computes
pub record Computed (word : ℕ) (v : Value) (t : MonoTree) : Type 0 where
  pub layout : HasLayout v t
  pub words : word ∷ [] ≡ encoding v

module _ (locals : List ℕ) (a b : ℕ) where
  pub op_done : (op : Op) {x y : Value}
      → HasLayout x m_word
      → HasLayout y m_word
      → words_at locals a 1 ≡ encoding x
      → words_at locals b 1 ≡ encoding y
      → Computed (operation_result (number_of_op op) (local_at locals a) (local_at locals b)) (value_or_unit (value_of_op op x y)) (op_mono op)
  op_done op (lays_word {n = n}) (lays_word {n = k}) p q =
      record {
        layout = op_layout op n k;
        words = (λ j. operation_result (number_of_op op) (one locals a n p j) (one locals b k q j) ∷ []) ∙ op_words op n k;
      }

  -- what is read are two words, whose equality is that of the values
  eq_read : (n k : ℕ) (e : Bool)
      → words_at locals a 1 ≡ n ∷ []
      → words_at locals b 1 ≡ k ∷ []
      → nat_eq n k ≡ e
      → Computed (operation_result eq_number (local_at locals a) (local_at locals b)) (v_bool e) m_bool
  eq_read n k e p q r =
      record {
        layout = lays_bool;
        words = (λ j. operation_result eq_number (one locals a n p j) (one locals b k q j) ∷ []) ∙ bool_words (nat_eq n k)
            ∙ ap (λ c. encoding (v_bool c)) r;
      }

  pub eq_done : (w : World) {t : MonoTree} {x y : Value}
      → IsComparable t
      → HasLayout x t
      → HasLayout y t
      → words_at locals a (width t) ≡ encoding x
      → words_at locals b (width t) ≡ encoding y
      → Computed (operation_result eq_number (local_at locals a) (local_at locals b)) (value_or_unit (value_of_eq (mono_under w t) x y)) m_bool
  eq_done w compares_word (lays_word {n = n}) (lays_word {n = k}) p q = eq_read n k (nat_eq n k) p q refl
  eq_done w compares_loc (lays_loc {n = n}) (lays_loc {n = k}) p q = eq_read n k (nat_eq n k) p q refl
  eq_done w compares_bool (lays_bool {b = true}) (lays_bool {b = true}) p q = eq_read 1 1 true p q refl
  eq_done w compares_bool (lays_bool {b = true}) (lays_bool {b = false}) p q = eq_read 1 0 false p q refl
  eq_done w compares_bool (lays_bool {b = false}) (lays_bool {b = true}) p q = eq_read 0 1 false p q refl
  eq_done w compares_bool (lays_bool {b = false}) (lays_bool {b = false}) p q = eq_read 0 0 true p q refl

pub not_done : (locals : List ℕ) (a : ℕ) {x : Value}
    → HasLayout x m_bool
    → words_at locals a 1 ≡ encoding x
    → Computed (operation_result not_number (local_at locals a) (local_at locals a)) (value_or_unit (value_of_not x)) m_bool
not_done locals a (lays_bool {b = true}) p =
    record { layout = lays_bool; words = λ j. operation_result not_number (one locals a 1 p j) (one locals a 1 p j) ∷ [] }
not_done locals a (lays_bool {b = false}) p =
    record { layout = lays_bool; words = λ j. operation_result not_number (one locals a 0 p j) (one locals a 0 p j) ∷ [] }

-- a selection
pub record Selected (words : List ℕ) (v : Value) (t : MonoTree) : Type 0 where
  pub layout : HasLayout v t
  pub words_are : words ≡ encoding v

pub sel_done : (locals : List ℕ) (c : ℕ) (ys zs : List ℕ) {x y z : Value} {t : MonoTree}
    → HasLayout x m_bool
    → HasLayout y t
    → HasLayout z t
    → words_at locals c 1 ≡ encoding x
    → ys ≡ encoding y
    → zs ≡ encoding z
    → Selected (if nat_eq (local_at locals c) 0 then zs else ys) (value_or_unit (value_of_sel x y z)) t
sel_done locals c ys zs (lays_bool {b = true}) ly lz p q r =
    record { layout = ly; words_are = ap (λ n. if nat_eq n 0 then zs else ys) (one locals c 1 p) ∙ q }
sel_done locals c ys zs (lays_bool {b = false}) ly lz p q r =
    record { layout = lz; words_are = ap (λ n. if nat_eq n 0 then zs else ys) (one locals c 0 p) ∙ r }
