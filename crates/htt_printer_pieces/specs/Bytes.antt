-- The bytes that are printed of monotypes, signs and places of the heap.
use Rattle.std.specs.Prelude.{ℕ, List}
use Rattle.htt_syntax.specs.declared.mono.Op.{Op}
use Rattle.htt_syntax.specs.Trees.{MonoTree}
use Rattle.theory_printing.specs.Pieces.{bytes_of, between}
use Rattle.theory_printing.specs.Names.{PrintScope}
use Rattle.theory_printing.specs.Brackets.{an_operand, mono_in}
use Rattle.theory_printing.specs.Phrases.{mono, op_sign, literal_place}

unfoldable pub mono_bytes : PrintScope → MonoTree → List ℕ
mono_bytes s t = bytes_of (mono s t)

-- as an operand
unfoldable pub mono_operand_bytes : PrintScope → MonoTree → List ℕ
mono_operand_bytes s t = bytes_of (mono_in an_operand t (mono s t))

-- an operation's sign, with its spaces
unfoldable pub sign_bytes : Op → List ℕ
sign_bytes op = bytes_of (between (op_sign op))

unfoldable pub place_bytes : ℕ → List ℕ
place_bytes n = bytes_of (literal_place n)
