-- The rows of the format: what a file is tested for, in the order of testing.
use Rattle.std.specs.Prelude.{◌≡◌, ℕ, zero, suc, ◌+◌, ◌*◌, ◌-◌, List, [], ◌∷◌, ◌++◌, length, Bool, true, false, ◌&&◌}
use Rattle.std.specs.Prelude.{◌||◌, not, ◌==◌, nat_lt, nat_le, Option, Some, None, is_some, Result, Ok, Err}
use Rattle.std.specs.Prelude.{if◌then◌else◌, slice_get, slice_index}
use Rattle.word_loader_format.specs.declared.rows.Fault.{Fault}
use Rattle.word_loader_format.specs.declared.rows.Header.{Header}
use Rattle.word_loader_format.specs.declared.table.Opcode.{Opcode}
use Rattle.word_loader_format.specs.declared.table.Opcode.TheVariants.{Tail}
use Rattle.word_loader_format.specs.declared.table.Operand.{Operand}
use Rattle.word_loader_format.specs.declared.table.Operand.TheVariants.{Place, Second, Count, Word, Operation, Target}
use Rattle.word_loader_format.specs.declared.table.Operand.TheVariants.{Callee, Successor}
use Rattle.word_loader_format.specs.declared.table.Words.{Words}
use Rattle.word_loader_format.specs.declared.table.Words.TheVariants as words
use Rattle.word_loader_code.specs.Valid.{not_number}
use Rattle.word_loader_format.specs.Numbers.{number_in_file}
use Rattle.word_loader_format.specs.Table.{opcode_at, operands_of, width_of, is_read_whole, leaves}
use Rattle.word_loader_format.specs.Layout.{magic}
use Rattle.word_loader_code.specs.Valid.{function_limit, word_limit, instr_limit}

-- a test: its row, the first byte of the field that it blames, and whether it is met
pub record Test : Type 0 where
  pub row : ℕ
  pub at : ℕ
  pub holds : Bool

abbrev pub rule : ℕ → ℕ → Bool → Test
rule row at holds = record { row = row; at = at; holds = holds }

-- the bytes of a field are there; where they aren't, the file ends too early
abbrev pub is_there : List ℕ → ℕ → ℕ → Test
is_there file at width = rule 0 (length file) (nat_le (at + width) (length file))

-- the first test that isn't met, if one isn't
abbrev pub checked : List Test → Result (Unit {0}) Fault
checked [] = Ok tt
checked (test ∷ tests) = if test.holds then checked tests else Err (record { at = test.at; row = test.row })

-- ---- rows 1 to 3: the magic, the version and the count of functions

abbrev pub opening_tests : List ℕ → List Test
opening_tests file =
    is_there file 0 4 ∷ rule 1 0 (number_in_file file 0 4 == magic) ∷
    is_there file 4 1 ∷ rule 2 4 (number_in_file file 4 1 == 1 || number_in_file file 4 1 == 2) ∷
    is_there file 5 4 ∷
    rule 3 5 (nat_le 1 (number_in_file file 5 4) && nat_le (number_in_file file 5 4) function_limit) ∷ []

-- ---- rows 4 to 6: a header, behind others with so many instructions

abbrev pub header_tests : ℕ → Bool → ℕ → Header → List Test
header_tests at is_first before header =
    rule 4 (at + 2) (nat_le header.locals word_limit) ∷
    rule 4 at (nat_le header.params header.locals) ∷
    rule 6 at (not is_first || header.params == 0) ∷
    rule 4 (at + 4) (nat_le header.result word_limit) ∷
    rule 5 (at + 6) (nat_le 1 header.count && nat_le (before + header.count) instr_limit) ∷ []

-- ---- rows 7 to 11 and 13: an instruction

-- the instruction of a byte; `tail` stands in version 2 alone
abbrev pub in_version : ℕ → Option Opcode → Option Opcode
in_version version (Some Tail) = if version == 2 then Some Tail else None
in_version version op = op

abbrev pub leaves_by : Option Opcode → Bool
leaves_by None = false
leaves_by (Some op) = leaves op

abbrev pub opcode_tests : ℕ → Bool → Option Opcode → List Test
opcode_tests at is_last op = rule 7 at (is_some op) ∷ rule 11 at (not is_last || leaves_by op) ∷ []

abbrev pub params_of : Option Header → ℕ
params_of None = 0
params_of (Some header) = header.params

abbrev pub header_result : Option Header → ℕ
header_result None = 0
header_result (Some header) = header.result

-- what an instruction's operands are tested against: its function, the function that it calls if there is one, and
-- the operands themselves
pub record Site : Type 0 where
  pub own : Header
  pub callee : Option Header
  pub numbers : List ℕ

-- the number of words from a place on
abbrev pub words_from : Site → Words → ℕ
words_from site words.One = 1
words_from site words.Counted = slice_index site.numbers (length site.numbers - 1)
words_from site words.Params = params_of site.callee
words_from site words.Result = header_result site.callee
words_from site words.Own = site.own.result

abbrev pub place_test : Site → ℕ → ℕ → ℕ → Test
place_test site at place n = rule 8 at (nat_le (place + n) site.own.locals)

-- an operand at a place of the file; the second place of an operation is the first again where the operation is `not`
abbrev pub operand_tests : Site → ℕ → Operand → ℕ → List Test
operand_tests site at (Place words) n = place_test site at n (words_from site words) ∷ []
operand_tests site at Second n =
    rule 7 at (not (slice_index site.numbers 1 == not_number) || n == slice_index site.numbers 2) ∷
    place_test site at n 1 ∷ []
operand_tests site at Count n = []
operand_tests site at Word n = []
operand_tests site at Operation n = rule 7 at (nat_le n not_number) ∷ []
operand_tests site at Target n = rule 9 at (nat_lt n site.own.count) ∷ []
operand_tests site at Callee n = rule 10 at (is_some site.callee) ∷ []
operand_tests site at Successor n =
    rule 10 at (is_some site.callee) ∷ rule 13 at (header_result site.callee == site.own.result) ∷ []

-- the operands of an instruction, without a file
abbrev pub parts_tests : Site → ℕ → List Operand → List ℕ → List Test
parts_tests site at (kind ∷ kinds) (n ∷ ns) =
    operand_tests site at kind n ++ parts_tests site (at + width_of kind) kinds ns
parts_tests site at _ _ = []

-- ---- the file

abbrev pub header_at : List ℕ → ℕ → Header
header_at file at =
    record {
      params = number_in_file file at 2;
      locals = number_in_file file (at + 2) 2;
      result = number_in_file file (at + 4) 2;
      count = number_in_file file (at + 6) 4;
    }

-- n headers from a place on
unfoldable pub headers_at : List ℕ → ℕ → ℕ → List Header
headers_at file at zero = []
headers_at file at (suc n) = header_at file at ∷ headers_at file (at + 10) n

unfoldable pub headers_tests : List ℕ → ℕ → Bool → ℕ → ℕ → List Test
headers_tests file at is_first before zero = []
headers_tests file at is_first before (suc n) =
    is_there file at 10 ∷ header_tests at is_first before (header_at file at)
    ++ headers_tests file (at + 10) false (before + (header_at file at).count) n

-- operands of these kinds from a place on
unfoldable pub numbers_at : List ℕ → ℕ → List Operand → List ℕ
numbers_at file at [] = []
numbers_at file at (kind ∷ kinds) = number_in_file file at (width_of kind) ∷ numbers_at file (at + width_of kind) kinds

unfoldable pub operands_tests : List ℕ → Site → ℕ → List Operand → List Test
operands_tests file site at [] = []
operands_tests file site at (kind ∷ kinds) =
    is_there file at (width_of kind) ∷ operand_tests site at kind (number_in_file file at (width_of kind))
    ++ operands_tests file site (at + width_of kind) kinds

abbrev pub opcode_in : List ℕ → ℕ → ℕ → Option Opcode
opcode_in file version at = in_version version (opcode_at (number_in_file file at 1))

-- the number of bytes of operands
abbrev pub width_all : List Operand → ℕ
width_all [] = 0
width_all (kind ∷ kinds) = width_of kind + width_all kinds

-- the operands of an instruction; one with a place whose number of words stands later is read whole first
abbrev pub site_at : List ℕ → List Header → Header → ℕ → Opcode → Site
site_at file headers own at op =
    let numbers = numbers_at file at (operands_of op) in
    record { own = own; callee = slice_get headers (slice_index numbers 0); numbers = numbers }

abbrev pub whole_test : List ℕ → ℕ → Opcode → List Test
whole_test file at op = if is_read_whole op then is_there file at (width_all (operands_of op)) ∷ [] else []

abbrev pub tests_by : List ℕ → List Header → Header → ℕ → Option Opcode → List Test
tests_by file headers own at None = []
tests_by file headers own at (Some op) =
    whole_test file at op ++ operands_tests file (site_at file headers own at op) at (operands_of op)

unfoldable pub instr_tests : List ℕ → ℕ → List Header → Header → Bool → ℕ → List Test
instr_tests file version headers own is_last at =
    is_there file at 1 ∷ opcode_tests at is_last (opcode_in file version at)
    ++ tests_by file headers own (at + 1) (opcode_in file version at)

-- the place after an instruction, and after n of them
abbrev pub width_by : Option Opcode → ℕ
width_by None = 0
width_by (Some op) = width_all (operands_of op)

unfoldable pub after_instr : List ℕ → ℕ → ℕ → ℕ
after_instr file version at = at + 1 + width_by (opcode_in file version at)

unfoldable pub after_body : List ℕ → ℕ → ℕ → ℕ → ℕ
after_body file version at zero = at
after_body file version at (suc n) = after_body file version (after_instr file version at) n

-- n instructions of a function from a place on
unfoldable pub body_tests : List ℕ → ℕ → List Header → Header → ℕ → ℕ → List Test
body_tests file version headers own at zero = []
body_tests file version headers own at (suc n) =
    instr_tests file version headers own (n == 0) at ++
    body_tests file version headers own (after_instr file version at) n

-- the bodies of functions with these headers, and the place after them
unfoldable pub bodies_tests : List ℕ → ℕ → List Header → ℕ → List Header → List Test
bodies_tests file version headers at [] = []
bodies_tests file version headers at (own ∷ others) =
    body_tests file version headers own at own.count
    ++ bodies_tests file version headers (after_body file version at own.count) others

unfoldable pub after_bodies : List ℕ → ℕ → ℕ → List Header → ℕ
after_bodies file version at [] = at
after_bodies file version at (own ∷ others) = after_bodies file version (after_body file version at own.count) others

-- row 12: no byte follows
abbrev pub end_tests : List ℕ → ℕ → List Test
end_tests file at = rule 12 at (at == length file) ∷ []

abbrev pub version_of : List ℕ → ℕ
version_of file = number_in_file file 4 1

abbrev pub headers_of : List ℕ → List Header
headers_of file = headers_at file 9 (number_in_file file 5 4)

abbrev pub first_body : List ℕ → ℕ
first_body file = 9 + 10 * number_in_file file 5 4

-- all that a file is tested for
unfoldable pub file_tests : List ℕ → List Test
file_tests file =
    opening_tests file
    ++ headers_tests file 9 true 0 (number_in_file file 5 4)
    ++ bodies_tests file (version_of file) (headers_of file) (first_body file) (headers_of file)
    ++ end_tests file (after_bodies file (version_of file) (first_body file) (headers_of file))

-- a file is refused at its first field whose test isn't met, by the row of that test
abbrev pub IsRefused : List ℕ → ℕ → ℕ → Type 0
IsRefused file at row = checked (file_tests file) ≡ Err (record { at = at; row = row })
