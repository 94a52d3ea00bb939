-- The code that the fields of a file say, where the file is refused by no row.
use Rattle.std.specs.Prelude.{ℕ, zero, suc, ◌+◌, ◌%◌, List, [], ◌∷◌, length, Option, Some, None, slice_index}
use Rattle.word_loader_code.specs.declared.code.Code.{Code}
use Rattle.word_loader_code.specs.declared.code.Function.{Function}
use Rattle.word_loader_code.specs.declared.code.Instr.{Instr}
use Rattle.word_loader_code.specs.declared.code.Instr.TheVariants as instrs
use Rattle.word_loader_format.specs.declared.rows.Header.{Header}
use Rattle.word_loader_format.specs.declared.table.Opcode.{Opcode}
use Rattle.word_loader_format.specs.declared.table.Opcode.TheVariants.{Const, Mov, Op, Sel, Alloc, Get, Set, Free, Jump}
use Rattle.word_loader_format.specs.declared.table.Opcode.TheVariants.{Jz, Call, Ret, Tail}
use Rattle.word_loader_format.specs.Table.{operands_of}
use Rattle.word_loader_format.specs.Rows.{opcode_in, numbers_at, after_instr, after_body, version_of, headers_of}
use Rattle.word_loader_format.specs.Rows.{first_body}

-- the i-th operand, in 8, 16, 32 and 64 bits
abbrev pub byte_operand : List ℕ → ℕ → ℕ
byte_operand numbers i = slice_index numbers i % 256

abbrev pub place_operand : List ℕ → ℕ → ℕ
place_operand numbers i = slice_index numbers i % 65536

abbrev pub index_operand : List ℕ → ℕ → ℕ
index_operand numbers i = slice_index numbers i % 4294967296

abbrev pub word_operand : List ℕ → ℕ → ℕ
word_operand numbers i = slice_index numbers i

-- the instruction of these operands
abbrev pub instr_of : Opcode → List ℕ → Instr
instr_of Const ns = instrs.Const (place_operand ns 0) (word_operand ns 1)
instr_of Mov ns = instrs.Mov (place_operand ns 0) (place_operand ns 1) (place_operand ns 2)
instr_of Op ns = instrs.Op (place_operand ns 0) (byte_operand ns 1) (place_operand ns 2) (place_operand ns 3)
instr_of Sel ns =
    instrs.Sel (place_operand ns 0) (place_operand ns 1) (place_operand ns 2) (place_operand ns 3) (place_operand ns 4)
instr_of Alloc ns = instrs.Alloc (place_operand ns 0) (place_operand ns 1) (place_operand ns 2)
instr_of Get ns = instrs.Get (place_operand ns 0) (place_operand ns 1) (place_operand ns 2)
instr_of Set ns = instrs.Set (place_operand ns 0) (place_operand ns 1) (place_operand ns 2)
instr_of Free ns = instrs.Free (place_operand ns 0) (place_operand ns 1)
instr_of Jump ns = instrs.Jump (index_operand ns 0)
instr_of Jz ns = instrs.Jz (place_operand ns 0) (index_operand ns 1)
instr_of Call ns = instrs.Call (index_operand ns 0) (place_operand ns 1) (place_operand ns 2)
instr_of Ret ns = instrs.Ret (place_operand ns 0)
instr_of Tail ns = instrs.Tail (index_operand ns 0) (place_operand ns 1)

abbrev pub instr_by : Option Opcode → List ℕ → ℕ → Instr
instr_by None file at = instrs.Ret 0
instr_by (Some op) file at = instr_of op (numbers_at file at (operands_of op))

unfoldable pub instr_in : List ℕ → ℕ → ℕ → Instr
instr_in file version at = instr_by (opcode_in file version at) file (at + 1)

unfoldable pub body_in : List ℕ → ℕ → ℕ → ℕ → List Instr
body_in file version at zero = []
body_in file version at (suc n) = instr_in file version at ∷ body_in file version (after_instr file version at) n

abbrev pub function_at : List ℕ → ℕ → ℕ → Header → Function
function_at file version at header =
    record {
      params = header.params;
      locals = header.locals;
      result = header.result;
      body = body_in file version at header.count;
    }

unfoldable pub functions_at : List ℕ → ℕ → ℕ → List Header → List Function
functions_at file version at [] = []
functions_at file version at (header ∷ headers) =
    function_at file version at header ∷ functions_at file version (after_body file version at header.count) headers

abbrev pub header_of : Function → Header
header_of f = record { params = f.params; locals = f.locals; result = f.result; count = length f.body }

abbrev pub code_in : List ℕ → Code
code_in file = record {
  version = version_of file;
  functions = functions_at file (version_of file) (first_body file) (headers_of file);
}
