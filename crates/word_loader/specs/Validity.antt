-- The tests of code without its bytes, at place 0.
use Rattle.std.specs.Prelude.{ℕ, ◌+◌, List, [], ◌∷◌, ◌++◌, length, Bool, true, false, ◌&&◌, ◌||◌, ◌==◌, nat_le, Some}
use Rattle.std.specs.Prelude.{slice_get, slice_index}
use Rattle.std.specs.Option.{option_map}
use Rattle.word_loader_code.specs.declared.code.Code.{Code}
use Rattle.word_loader_code.specs.declared.code.Function.{Function}
use Rattle.word_loader_code.specs.declared.code.Instr.{Instr}
use Rattle.word_loader_format.specs.declared.table.Operand.{Operand}
use Rattle.word_loader_format.specs.Table.{operands_of, opcode_of, numbers_of}
use Rattle.word_loader_format.specs.Rows as rows
use Rattle.word_loader_format.specs.Rows.{Test, rule, header_tests, opcode_tests, in_version, operand_tests}
use Rattle.word_loader_format.specs.Reading.{header_of}
use Rattle.word_loader_code.specs.Valid.{function_limit}

unfoldable pub code_headers_tests : Bool → ℕ → List Function → List Test
code_headers_tests is_first before [] = []
code_headers_tests is_first before (f ∷ fs) =
    header_tests 0 is_first before (header_of f) ++ code_headers_tests false (before + length f.body) fs

abbrev pub site_of : Code → Function → Instr → rows.Site
site_of code f i =
    record {
      own = header_of f;
      callee = option_map header_of (slice_get code.functions (slice_index (numbers_of i) 0));
      numbers = numbers_of i;
    }

unfoldable pub code_parts_tests : rows.Site → List Operand → List ℕ → List Test
code_parts_tests site (kind ∷ kinds) (n ∷ ns) = operand_tests site 0 kind n ++ code_parts_tests site kinds ns
code_parts_tests site _ _ = []

abbrev pub code_instr_tests : Code → Function → Bool → Instr → List Test
code_instr_tests code f is_last i =
    opcode_tests 0 is_last (in_version code.version (Some (opcode_of i))) ++
    code_parts_tests (site_of code f i) (operands_of (opcode_of i)) (numbers_of i)

unfoldable pub code_body_tests : Code → Function → List Instr → List Test
code_body_tests code f [] = []
code_body_tests code f (i ∷ is) = code_instr_tests code f (length is == 0) i ++ code_body_tests code f is

unfoldable pub code_bodies_tests : Code → List Function → List Test
code_bodies_tests code [] = []
code_bodies_tests code (f ∷ fs) = code_body_tests code f f.body ++ code_bodies_tests code fs

abbrev pub code_tests : Code → List Test
code_tests code =
    rule 2 0 (code.version == 1 || code.version == 2) ∷
    rule 3 0 (nat_le 1 (length code.functions) && nat_le (length code.functions) function_limit) ∷
    (code_headers_tests true 0 code.functions ++ code_bodies_tests code code.functions)
