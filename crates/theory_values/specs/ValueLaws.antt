-- The laws of values.
use Rattle.std.specs.Prelude.{◌≡◌, ℕ, List, ◌++◌, length, All, Some}
use Rattle.htt_syntax.specs.declared.mono.Op.{Op}
use Rattle.htt_syntax.specs.Trees.{MonoTree}
use Rattle.theory_values.specs.Values.{Value, IsWord, HasType, IsClosed, width, encoding, value_of_words, op_value}
use Rattle.theory_values.specs.Values.{op_mono}

pub record ValueLaws : Type 0 where
  -- only a closed monotype has values, and each of them has one
  pub typed_is_closed : {v : Value} {t : MonoTree} → HasType v t → IsClosed t
  pub closed_has_value : {t : MonoTree} → IsClosed t → (v : Value) × HasType v t
  -- the encoding is words, as many as the monotype is wide
  pub encoding_is_as_wide : {v : Value} {t : MonoTree} → HasType v t → length (encoding v) ≡ width t
  pub encoding_is_words : {v : Value} {t : MonoTree} → HasType v t → All IsWord (encoding v)
  -- encodings in a row split in one way only, and an encoding tells its value of one
  -- monotype
  pub encodings_split : {v u : Value} {t : MonoTree}
      → HasType v t
      → HasType u t
      → (xs ys : List ℕ)
      → encoding v ++ xs ≡ encoding u ++ ys
      → (v ≡ u) × (xs ≡ ys)
  pub encoding_tells : {v u : Value} {t : MonoTree} → HasType v t → HasType u t → encoding v ≡ encoding u → v ≡ u
  -- what is decoded is exactly the value that has these words as its encoding
  pub decoded_is_typed : (t : MonoTree) (words : List ℕ) (v : Value) → value_of_words t words ≡ Some v → HasType v t
  pub decoded_is_encoded : (t : MonoTree) (words : List ℕ) (v : Value)
      → value_of_words t words ≡ Some v
      → encoding v ≡ words
  pub encoding_is_decoded : {v : Value} {t : MonoTree} → HasType v t → value_of_words t (encoding v) ≡ Some v
  -- an operation on words gives a value of its monotype
  pub op_is_typed : (op : Op) (x y : ℕ) → IsWord x → IsWord y → HasType (op_value op x y) (op_mono op)
