-- An operation on words gives a value of its monotype.
use Rattle.std.proofs.Common.{ℕ, ◌+◌, ◌*◌, ◌-◌, arith}
use Rattle.std.specs.Prelude.{◌^◌, ◌%◌}
use Rattle.std.proofs.Math.Nat.{mod-lt, div-le_self}
use Rattle.std.specs.Int.Bits.{and_lt}
use Rattle.std.proofs.lemmas.Nat.{or_lt, xor_lt}
use Rattle.htt_syntax.specs.declared.mono.Op.{Op}
use Rattle.htt_syntax.specs.declared.mono.Op.TheVariants.{Add, Sub, Mul, And, Or, Xor, Shl, Shr, Lt}
use Rattle.theory_values.specs.Values.{IsWord, HasType, is_word, is_bool, op_value, op_mono}

wraps : (n : ℕ) → IsWord (n % 2 ^ 64)
wraps n = mod-lt n (omega arith)

pub op_is_typed : (op : Op) (x y : ℕ) → IsWord x → IsWord y → HasType (op_value op x y) (op_mono op)
op_is_typed Add x y p q = is_word (wraps (x + y))
op_is_typed Sub x y p q = is_word (wraps (x + (2 ^ 64 - y)))
op_is_typed Mul x y p q = is_word (wraps (x * y))
op_is_typed And x y p q = is_word (and_lt 64 x y p q)
op_is_typed Or x y p q = is_word (or_lt 64 x y p q)
op_is_typed Xor x y p q = is_word (xor_lt 64 x y p q)
op_is_typed Shl x y p q = is_word (wraps (x * 2 ^ (y % 64)))
op_is_typed Shr x y p q = is_word (omega (arith, p, div-le_self x (2 ^ (y % 64))))
op_is_typed Lt x y p q = is_bool
