-- The layout: the fields of code in the order in which they are written, and its bytes.
use Rattle.std.specs.Prelude.{◌≡◌, ℕ, ◌<◌, ◌^◌, List, [], ◌∷◌, ◌++◌, length, All}
use Rattle.std.specs.List.{flat_map}
use Rattle.word_loader_code.specs.declared.code.Code.{Code}
use Rattle.word_loader_code.specs.declared.code.Function.{Function}
use Rattle.word_loader_code.specs.declared.code.Instr.{Instr}
use Rattle.word_loader_code.specs.Valid.{IsValid}
use Rattle.word_loader_format.specs.declared.table.Operand.{Operand}
use Rattle.word_loader_format.specs.Numbers.{little_endian}
use Rattle.word_loader_format.specs.Table.{byte_of, operands_of, width_of, opcode_of, numbers_of}

-- a number that is written in so many bytes
pub record Field : Type 0 where
  pub width : ℕ
  pub value : ℕ

abbrev pub field : ℕ → ℕ → Field
field width value = record { width = width; value = value }

abbrev pub field_bytes : Field → List ℕ
field_bytes f = little_endian f.width f.value

-- `HTTW`: the bytes 48 54 54 57
abbrev pub magic : ℕ
magic = 0x57545448

abbrev pub operand_fields : List Operand → List ℕ → List Field
operand_fields (kind ∷ kinds) (n ∷ numbers) = field (width_of kind) n ∷ operand_fields kinds numbers
operand_fields _ _ = []

abbrev pub instr_fields : Instr → List Field
instr_fields i = field 1 (byte_of (opcode_of i)) ∷ operand_fields (operands_of (opcode_of i)) (numbers_of i)

abbrev pub header_fields : Function → List Field
header_fields f = field 2 f.params ∷ field 2 f.locals ∷ field 2 f.result ∷ field 4 (length f.body) ∷ []

abbrev pub body_fields : Function → List Field
body_fields f = flat_map instr_fields f.body

abbrev pub opening_fields : Code → List Field
opening_fields code = field 4 magic ∷ field 1 code.version ∷ field 4 (length code.functions) ∷ []

-- the opening, all headers, all instructions
abbrev pub code_fields : Code → List Field
code_fields code = opening_fields code ++ (flat_map header_fields code.functions ++ flat_map body_fields code.functions)

abbrev pub code_bytes : Code → List ℕ
code_bytes code = flat_map field_bytes (code_fields code)

-- a number that has no more bytes than its field
abbrev pub FitsField : Field → Type 0
FitsField f = f.value < 256 ^ f.width

-- the code format: b is the layout of this code, which is valid
pub record Bytes (b : List ℕ) (code : Code) : Type 0 where
  pub valid : IsValid code
  pub within : All FitsField (code_fields code)
  pub layout : b ≡ code_bytes code
