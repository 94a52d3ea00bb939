-- The values of closed monotypes, how wide they are, how a block holds them, and what the operations
-- give for them.
use Rattle.std.specs.Prelude.{ℕ, ◌+◌, ◌-◌, ◌*◌, ◌/◌, ◌%◌, ◌^◌, ◌<◌, List, [], ◌∷◌, ◌++◌, take, drop, Bool, true, false}
use Rattle.std.specs.Prelude.{not, Option, Some, None, option_map, nat_eq, nat_lt, bit_and, bit_or, bit_xor}
use Rattle.std.specs.Prelude.{if◌then◌else◌}
use Rattle.htt_syntax.specs.declared.mono.Op.{Op}
use Rattle.htt_syntax.specs.declared.mono.Op.TheVariants.{Add, Sub, Mul, And, Or, Xor, Shl, Shr, Lt}
use Rattle.htt_syntax.specs.Trees.{MonoTree, m_word, m_bool, m_loc, m_unit, m_pair, m_var}

pub data Value : Type 0 where
  v_word : ℕ → Value
  v_bool : Bool → Value
  v_loc : ℕ → Value
  v_unit : Value
  v_pair : Value → Value → Value
  deriving Discrete as value_discrete

abbrev pub IsWord : ℕ → Type 0
IsWord n = n < 2 ^ 64

-- A value of a monotype. A monotype variable has none.
pub data HasType : Value → MonoTree → Type 0 where
  is_word : {n : ℕ} → IsWord n → HasType (v_word n) m_word
  is_bool : {b : Bool} → HasType (v_bool b) m_bool
  is_loc : {n : ℕ} → IsWord n → HasType (v_loc n) m_loc
  is_unit : HasType v_unit m_unit
  is_pair : {x y : Value} {t u : MonoTree} → HasType x t → HasType y u → HasType (v_pair x y) (m_pair t u)

-- A monotype without a variable.
pub data IsClosed : MonoTree → Type 0 where
  closed_word : IsClosed m_word
  closed_bool : IsClosed m_bool
  closed_loc : IsClosed m_loc
  closed_unit : IsClosed m_unit
  closed_pair : {t u : MonoTree} → IsClosed t → IsClosed u → IsClosed (m_pair t u)

-- How many words a value of a monotype takes.
abbrev pub width : MonoTree → ℕ
width m_word = 1
width m_bool = 1
width m_loc = 1
width m_unit = 0
width (m_pair t u) = width t + width u
width (m_var index) = 0

-- The words of a value.
abbrev pub encoding : Value → List ℕ
encoding (v_word n) = n ∷ []
encoding (v_bool false) = 0 ∷ []
encoding (v_bool true) = 1 ∷ []
encoding (v_loc n) = n ∷ []
encoding v_unit = []
encoding (v_pair x y) = encoding x ++ encoding y

abbrev pub word_of_number : ℕ → Option ℕ
word_of_number n = if nat_lt n (2 ^ 64) then Some n else None

abbrev pub bool_of_number : ℕ → Option Bool
bool_of_number n = if nat_eq n 0 then Some false else if nat_eq n 1 then Some true else None

abbrev pub pair_of : Option Value → Option Value → Option Value
pair_of (Some x) (Some y) = Some (v_pair x y)
pair_of _ _ = None

-- The value of a monotype that has these words, where one has them.
abbrev pub value_of_words : MonoTree → List ℕ → Option Value
value_of_words m_word (n ∷ []) = option_map v_word (word_of_number n)
value_of_words m_bool (n ∷ []) = option_map v_bool (bool_of_number n)
value_of_words m_loc (n ∷ []) = option_map v_loc (word_of_number n)
value_of_words m_unit [] = Some v_unit
value_of_words (m_pair t u) words =
    pair_of (value_of_words t (take (width t) words)) (value_of_words u (drop (width t) words))
value_of_words _ _ = None

-- What an operation gives for two words.
abbrev pub op_value : Op → ℕ → ℕ → Value
op_value Add x y = v_word ((x + y) % 2 ^ 64)
op_value Sub x y = v_word ((x + (2 ^ 64 - y)) % 2 ^ 64)
op_value Mul x y = v_word ((x * y) % 2 ^ 64)
op_value And x y = v_word (bit_and x y)
op_value Or x y = v_word (bit_or x y)
op_value Xor x y = v_word (bit_xor x y)
op_value Shl x y = v_word ((x * 2 ^ (y % 64)) % 2 ^ 64)
op_value Shr x y = v_word (x / 2 ^ (y % 64))
op_value Lt x y = v_bool (nat_lt x y)

abbrev pub op_mono : Op → MonoTree
op_mono Lt = m_bool
op_mono _ = m_word

abbrev pub bool_eq : Bool → Bool → Bool
bool_eq true b = b
bool_eq false b = not b

-- The operations on values. None stands where the values aren't those that the operation takes.
abbrev pub value_of_op : Op → Value → Value → Option Value
value_of_op op (v_word x) (v_word y) = Some (op_value op x y)
value_of_op op _ _ = None

abbrev pub value_of_not : Value → Option Value
value_of_not (v_bool b) = Some (v_bool (not b))
value_of_not _ = None

abbrev pub value_of_eq : MonoTree → Value → Value → Option Value
value_of_eq m_word (v_word x) (v_word y) = Some (v_bool (nat_eq x y))
value_of_eq m_bool (v_bool x) (v_bool y) = Some (v_bool (bool_eq x y))
value_of_eq m_loc (v_loc x) (v_loc y) = Some (v_bool (nat_eq x y))
value_of_eq _ _ _ = None

abbrev pub value_of_sel : Value → Value → Value → Option Value
value_of_sel (v_bool true) x y = Some x
value_of_sel (v_bool false) x y = Some y
value_of_sel _ x y = None

abbrev pub value_of_fst : Value → Option Value
value_of_fst (v_pair x y) = Some x
value_of_fst _ = None

abbrev pub value_of_snd : Value → Option Value
value_of_snd (v_pair x y) = Some y
value_of_snd _ = None
