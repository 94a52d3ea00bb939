-- The table of instructions: bytes, kinds of operands, and an instruction taken apart.
use Rattle.std.specs.Prelude.{ℕ, List, [], ◌∷◌, Bool, true, false, Option, slice_get}
use Rattle.std.specs.List.{list_any}
use Rattle.word_loader_code.specs.declared.code.Instr.{Instr}
use Rattle.word_loader_code.specs.declared.code.Instr.TheVariants as instrs
use Rattle.word_loader_format.specs.declared.table.Opcode.{Opcode}
use Rattle.word_loader_format.specs.declared.table.Opcode.TheVariants.{Const, Mov, Op, Sel, Alloc, Get, Set, Free, Jump}
use Rattle.word_loader_format.specs.declared.table.Opcode.TheVariants.{Jz, Call, Ret, Tail}
use Rattle.word_loader_format.specs.declared.table.Operand.{Operand}
use Rattle.word_loader_format.specs.declared.table.Operand.TheVariants.{Place, Second, Count, Word, Operation, Target}
use Rattle.word_loader_format.specs.declared.table.Operand.TheVariants.{Callee, Successor}
use Rattle.word_loader_format.specs.declared.table.Words.TheVariants.{One, Counted, Params, Result, Own}

-- the byte with which an instruction begins
abbrev pub byte_of : Opcode → ℕ
byte_of Const = 0
byte_of Mov = 1
byte_of Op = 2
byte_of Sel = 3
byte_of Alloc = 4
byte_of Get = 5
byte_of Set = 6
byte_of Free = 7
byte_of Jump = 8
byte_of Jz = 9
byte_of Call = 10
byte_of Ret = 11
byte_of Tail = 12

-- the instructions in the order of their bytes, and the instruction that begins with a byte
abbrev pub opcodes : List Opcode
opcodes = Const ∷ Mov ∷ Op ∷ Sel ∷ Alloc ∷ Get ∷ Set ∷ Free ∷ Jump ∷ Jz ∷ Call ∷ Ret ∷ Tail ∷ []

abbrev pub opcode_at : ℕ → Option Opcode
opcode_at byte = slice_get opcodes byte

-- the kinds of its operands, in order
abbrev pub operands_of : Opcode → List Operand
operands_of Const = Place One ∷ Word ∷ []
operands_of Mov = Place Counted ∷ Place Counted ∷ Count ∷ []
operands_of Op = Place One ∷ Operation ∷ Place One ∷ Second ∷ []
operands_of Sel = Place Counted ∷ Place One ∷ Place Counted ∷ Place Counted ∷ Count ∷ []
operands_of Alloc = Place One ∷ Place Counted ∷ Count ∷ []
operands_of Get = Place Counted ∷ Place One ∷ Count ∷ []
operands_of Set = Place One ∷ Place Counted ∷ Count ∷ []
operands_of Free = Place One ∷ Count ∷ []
operands_of Jump = Target ∷ []
operands_of Jz = Place One ∷ Target ∷ []
operands_of Call = Callee ∷ Place Params ∷ Place Result ∷ []
operands_of Ret = Place Own ∷ []
operands_of Tail = Successor ∷ Place Params ∷ []

-- the number of an operand's bytes
abbrev pub width_of : Operand → ℕ
width_of (Place words) = 2
width_of Second = 2
width_of Count = 2
width_of Word = 8
width_of Operation = 1
width_of Target = 4
width_of Callee = 4
width_of Successor = 4

-- the number of words of some place stands later than the place
abbrev pub is_counted : Operand → Bool
is_counted (Place Counted) = true
is_counted _ = false

abbrev pub is_read_whole : Opcode → Bool
is_read_whole op = list_any is_counted (operands_of op)

-- an instruction after which no next one is done
abbrev pub leaves : Opcode → Bool
leaves Jump = true
leaves Ret = true
leaves Tail = true
leaves _ = false

-- an instruction taken apart: what it is, and its operands in order
abbrev pub opcode_of : Instr → Opcode
opcode_of (instrs.Const d v) = Const
opcode_of (instrs.Mov d s n) = Mov
opcode_of (instrs.Op d o a b) = Op
opcode_of (instrs.Sel d c a b n) = Sel
opcode_of (instrs.Alloc d s n) = Alloc
opcode_of (instrs.Get d p n) = Get
opcode_of (instrs.Set p s n) = Set
opcode_of (instrs.Free p n) = Free
opcode_of (instrs.Jump target) = Jump
opcode_of (instrs.Jz c target) = Jz
opcode_of (instrs.Call f a d) = Call
opcode_of (instrs.Ret s) = Ret
opcode_of (instrs.Tail f a) = Tail

abbrev pub numbers_of : Instr → List ℕ
numbers_of (instrs.Const d v) = d ∷ v ∷ []
numbers_of (instrs.Mov d s n) = d ∷ s ∷ n ∷ []
numbers_of (instrs.Op d o a b) = d ∷ o ∷ a ∷ b ∷ []
numbers_of (instrs.Sel d c a b n) = d ∷ c ∷ a ∷ b ∷ n ∷ []
numbers_of (instrs.Alloc d s n) = d ∷ s ∷ n ∷ []
numbers_of (instrs.Get d p n) = d ∷ p ∷ n ∷ []
numbers_of (instrs.Set p s n) = p ∷ s ∷ n ∷ []
numbers_of (instrs.Free p n) = p ∷ n ∷ []
numbers_of (instrs.Jump target) = target ∷ []
numbers_of (instrs.Jz c target) = c ∷ target ∷ []
numbers_of (instrs.Call f a d) = f ∷ a ∷ d ∷ []
numbers_of (instrs.Ret s) = s ∷ []
numbers_of (instrs.Tail f a) = f ∷ a ∷ []
