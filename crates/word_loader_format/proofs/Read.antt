-- Where the tests of an instruction or a body are met, it stands in the file as it was read, and is valid.
use Rattle.std.proofs.Common.{◌≡◌, ℕ, zero, suc, ◌+◌, ◌≤◌, Bool, true, false, cond, List, [], ◌∷◌, ◌++◌, length, map, Option, Some, None, refl, sym, ap, ◌∙◌}
use Rattle.std.proofs.Common.{subst, arith}
use Rattle.std.specs.Prelude.{slice_get, slice_index, ◌==◌, ◌||◌, not}
use Rattle.std.specs.List.{AllByRecursion, flat_map}
use Rattle.std.proofs.lemmas.Bool.{leb-true}
use Rattle.std.proofs.lemmas.Option.{same_Some}
use Rattle.std.proofs.lemmas.List.Elements.{All-from_recursion}
use Rattle.word_loader_code.specs.declared.code.Code.{Code}
use Rattle.word_loader_code.specs.declared.code.Function.{Function}
use Rattle.word_loader_code.specs.declared.code.Instr.{Instr}
use Rattle.word_loader_code.specs.Valid.{IsValidInstr, IsValidFunction, NeverFallsThrough, LastLeaves}
use Rattle.word_loader_format.specs.declared.rows.Header.{Header}
use Rattle.word_loader_format.specs.declared.table.Opcode.{Opcode}
use Rattle.word_loader_format.specs.declared.table.Opcode.TheVariants.{Tail}
use Rattle.word_loader_format.specs.declared.table.Operand.{Operand}
use Rattle.word_loader_format.specs.Numbers.{number_in_file}
use Rattle.word_loader_format.specs.Table.{byte_of, opcode_at, operands_of, width_of, leaves, opcode_of, numbers_of}
use Rattle.word_loader_format.specs.Layout.{operand_fields, instr_fields, body_fields}
use Rattle.word_loader_format.specs.Rows.{Site, Test, is_there, in_version, opcode_tests, operand_tests, parts_tests, operands_tests, width_all, site_at}
use Rattle.word_loader_format.specs.Rows.{whole_test, tests_by, numbers_at, opcode_in, instr_tests, after_instr, after_body, body_tests, bodies_tests}
use Rattle.word_loader_format.specs.Rows.{after_bodies}
use Rattle.word_loader_format.specs.Reading.{instr_of, instr_by, instr_in, body_in, function_at, functions_at, header_of}
use Rattle.word_loader_format.specs.Laws.{AreBytes}
use Rattle.word_loader_format.proofs.Fields.{Stand, width_sum, width_sum-append, stand_both}
use Rattle.word_loader_format.proofs.Tests.{AreMet, met_both, met_left, met_right}
use Rattle.word_loader_format.proofs.Instrs.{site_of, parts_alike, opcode_of-instr_of, numbers_of-instr_of, byte_of-opcode_at, Leaves_from, valid_from}
use Rattle.word_loader_format.proofs.Written.{width_sum-operands, site_stands}

-- ---- an instruction

stand_numbers : (file : List ℕ) (site : Site) (kinds : List Operand) (at : ℕ)
    → AreMet (operands_tests file site at kinds)
    → Stand file at (operand_fields kinds (numbers_at file at kinds))
unfolding operands_tests numbers_at
stand_numbers file site [] at m = tt
stand_numbers file site (kind ∷ kinds) at m = (
  leb-true _ _ m.0,
  (
    refl,
    stand_numbers file site kinds (at + width_of kind)
        (met_right (operand_tests site at kind (number_in_file file at (width_of kind)))
        (operands_tests file site (at + width_of kind) kinds) m.1),
  ),
)

parts_from : (file : List ℕ) (site : Site) (kinds : List Operand) (at : ℕ)
    → AreMet (operands_tests file site at kinds)
    → AreMet (parts_tests site at kinds (numbers_at file at kinds))
unfolding operands_tests numbers_at
parts_from file site [] at m = tt
parts_from file site (kind ∷ kinds) at m =
    let here : List Test = operand_tests site at kind (number_in_file file at (width_of kind)) in
    let rest : List Test = operands_tests file site (at + width_of kind) kinds in
    met_both here (parts_tests site (at + width_of kind) kinds (numbers_at file (at + width_of kind) kinds)) (met_left here rest m.1)
    (parts_from file site kinds (at + width_of kind) (met_right here rest m.1))

tail_known : (version : ℕ) (b : Bool) (op : Opcode)
    → (version == 2) ≡ b
    → cond b (Some Tail) None ≡ Some op
    → (Some Tail ≡ Some op) × (in_version version (Some op) ≡ Some op)
tail_known version true op is e = (e, subst (λ (o : Opcode). in_version version (Some o) ≡ Some o) (same_Some Tail op e) (rw is refl))
tail_known version false op is e = absurd cc

known_from : (version : ℕ) (o : Option Opcode) (op : Opcode) → in_version version o ≡ Some op → (o ≡ Some op) × (in_version version (Some op) ≡ Some op)
known_from version None op e = absurd cc
known_from version (Some Tail) op e = tail_known version (version == 2) op refl e
known_from version (Some other) op e = (e, subst (λ (o : Opcode). in_version version (Some o) ≡ Some o) (same_Some other op e) refl)

last_from : (is_last : Bool) (op : Opcode) → (not is_last || leaves op) ≡ true → is_last ≡ true → leaves op ≡ true
last_from true op m e = m
last_from false op m e = absurd cc

-- the instruction stands at the place, is valid, and leaves if it is the last
pub record InstrIs (code : Code) (f : Function) (file : List ℕ) (is_last : Bool) (at : ℕ) (i : Instr) : Type 0 where
  pub stands : Stand file at (instr_fields i)
  pub valid : IsValidInstr code f i
  pub last : is_last ≡ true → NeverFallsThrough i
  pub after : after_instr file code.version at ≡ at + width_sum (instr_fields i)

-- the tests of the operands of an instruction taken apart
abbrev tests_of_parts : Code → Function → ℕ → Opcode → List ℕ → List Test
tests_of_parts code f at op ns = parts_tests (site_of f (slice_get code.functions (slice_index ns 0)) ns) at (operands_of op) ns

instr_by_opcode : (code : Code) (f : Function) (file : List ℕ)
    → AreBytes file
    → (is_last : Bool) (at : ℕ) (o : Option Opcode)
    → opcode_in file code.version at ≡ o
    → AreMet (is_there file at 1 ∷ opcode_tests at is_last o ++ tests_by file (map header_of code.functions) (header_of f) (at + 1) o)
    → InstrIs code f file is_last at (instr_in file code.version at)
unfolding instr_in after_instr
instr_by_opcode code f file bytes is_last at None e m = absurd (let h = m.1.0 in cc)
instr_by_opcode code f file bytes is_last at (Some op) e m =
    let headers : List Header = map header_of code.functions in
    let ns : List ℕ = numbers_at file (at + 1) (operands_of op) in
    let i : Instr = instr_of op ns in
    let ops : opcode_of i ≡ op = opcode_of-instr_of op ns in
    let nums : numbers_of i ≡ ns = numbers_of-instr_of file (at + 1) op bytes in
    let known = known_from code.version (opcode_at (number_in_file file at 1)) op e in
    let byte : number_in_file file at 1 ≡ byte_of op = byte_of-opcode_at (number_in_file file at 1) op known.0 in
    let operands =
    met_right (whole_test file (at + 1) op) (operands_tests file (site_at file headers (header_of f) (at + 1) op) (at + 1) (operands_of op))
    m.1.1.1 in
    let site : Site = site_of f (slice_get code.functions (slice_index ns 0)) ns in
    let met : AreMet (operands_tests file site (at + 1) (operands_of op)) =
    subst (λ (x : Site). AreMet (operands_tests file x (at + 1) (operands_of op))) (site_stands file code.functions f (at + 1) op ns refl) operands in
    let stands : Stand file (at + 1) (operand_fields (operands_of (opcode_of i)) (numbers_of i)) =
    subst (λ (o : Opcode). Stand file (at + 1) (operand_fields (operands_of o) (numbers_of i))) (sym ops)
    (subst (λ (ms : List ℕ). Stand file (at + 1) (operand_fields (operands_of op) ms)) (sym nums) (stand_numbers file site (operands_of op) (at + 1) met)) in
    let parts : AreMet (tests_of_parts code f (at + 1) (opcode_of i) (numbers_of i)) =
    subst (λ (o : Opcode). AreMet (tests_of_parts code f (at + 1) o (numbers_of i))) (sym ops)
    (subst (λ (ms : List ℕ). AreMet (tests_of_parts code f (at + 1) op ms)) (sym nums) (parts_from file site (operands_of op) (at + 1) met)) in
    let width : width_sum (operand_fields (operands_of (opcode_of i)) (numbers_of i)) ≡ width_all (operands_of op) =
    width_sum-operands (operands_of (opcode_of i)) (numbers_of i) (parts_alike i) ∙ ap (λ (o : Opcode). width_all (operands_of o)) ops in
    let it : InstrIs code f file is_last at i = record {
      stands = (leb-true _ _ m.0, (byte ∙ ap byte_of (sym ops), stands));
      valid = valid_from code f (at + 1) i (subst (λ (o : Opcode). in_version code.version (Some o) ≡ Some o) (sym ops) known.1) parts;
      last = λ l. Leaves_from i (ap leaves ops ∙ last_from is_last op m.1.1.0 l);
      after = rw e (omega (arith, width));
    } in
    subst (InstrIs code f file is_last at) (ap (λ o. instr_by o file (at + 1)) (sym e)) it

instr_read : (code : Code) (f : Function) (file : List ℕ)
    → AreBytes file
    → (is_last : Bool) (at : ℕ)
    → AreMet (instr_tests file code.version (map header_of code.functions) (header_of f) is_last at)
    → InstrIs code f file is_last at (instr_in file code.version at)
unfolding instr_tests
instr_read code f file bytes is_last at m = instr_by_opcode code f file bytes is_last at (opcode_in file code.version at) refl m

-- ---- a body

pub record BodyIs (code : Code) (f : Function) (file : List ℕ) (at n : ℕ) (is : List Instr) : Type 0 where
  pub stands : Stand file at (flat_map instr_fields is)
  pub valid : AllByRecursion (IsValidInstr code f) is
  pub last : 1 ≤ n → LastLeaves is
  pub after : after_body file code.version at n ≡ at + width_sum (flat_map instr_fields is)

last_one : (code : Code) (f : Function) (file : List ℕ) (at n after : ℕ) (i : Instr)
    → ((n == 0) ≡ true → NeverFallsThrough i)
    → (1 ≤ n → LastLeaves (body_in file code.version after n))
    → LastLeaves (i ∷ body_in file code.version after n)
unfolding body_in
last_one code f file at zero after i here others = here refl
last_one code f file at (suc n) after i here others = others (omega arith)

pub body_read : (code : Code) (f : Function) (file : List ℕ)
    → AreBytes file
    → (n at : ℕ)
    → AreMet (body_tests file code.version (map header_of code.functions) (header_of f) at n)
    → BodyIs code f file at n (body_in file code.version at n)
unfolding body_tests body_in after_body
body_read code f file bytes zero at m = record { stands = tt; valid = tt; last = λ h. absurd (omega (arith, h)); after = omega arith }
body_read code f file bytes (suc n) at m =
    let next : ℕ = after_instr file code.version at in
    let headers : List Header = map header_of code.functions in
    let i : Instr = instr_in file code.version at in
    let is : List Instr = body_in file code.version next n in
    let here : InstrIs code f file (n == 0) at i =
    instr_read code f file bytes (n == 0) at
    (met_left (instr_tests file code.version headers (header_of f) (n == 0) at) (body_tests file code.version headers (header_of f) next n)
    m) in
    let others : BodyIs code f file next n is =
    body_read code f file bytes n next
    (met_right (instr_tests file code.version headers (header_of f) (n == 0) at) (body_tests file code.version headers (header_of f) next n)
    m) in
    record {
      stands =
          stand_both file at (instr_fields i) (flat_map instr_fields is) here.stands
          (subst (λ (a : ℕ). Stand file a (flat_map instr_fields is)) here.after others.stands);
      valid = (here.valid, others.valid);
      last = λ h. last_one code f file at n next i here.last others.last;
      after =
          others.after
          ∙ ap (λ a. a + width_sum (flat_map instr_fields is)) here.after
          ∙ omega (arith, width_sum-append (instr_fields i) (flat_map instr_fields is));
    }

pub length-body_at : (file : List ℕ) (version at n : ℕ) → length (body_in file version at n) ≡ n
unfolding body_in
length-body_at file version at zero = refl
length-body_at file version at (suc n) = ap suc (length-body_at file version (after_instr file version at) n)

-- ---- bodies of functions

pub header_of-function_at : (file : List ℕ) (version at : ℕ) (h : Header) → header_of (function_at file version at h) ≡ h
header_of-function_at file version at h =
    ap (λ (n : ℕ). record { params = h.params; locals = h.locals; result = h.result; count = n }) (length-body_at file version at h.count)

pub header_of-functions_at : (file : List ℕ) (version at : ℕ) (hs : List Header) → map header_of (functions_at file version at hs) ≡ hs
unfolding functions_at
header_of-functions_at file version at [] = refl
header_of-functions_at file version at (h ∷ hs) =
    ap (λ (g : Header). g ∷ map header_of (functions_at file version (after_body file version at h.count) hs)) (header_of-function_at file version at h)
    ∙ ap (λ gs. h ∷ gs) (header_of-functions_at file version (after_body file version at h.count) hs)

-- a header that meets rows 4 and 5
pub record IsGood (h : Header) : Type 0 where
  pub locals : h.locals ≤ 4096
  pub params : h.params ≤ h.locals
  pub result : h.result ≤ 4096
  pub some : 1 ≤ h.count

pub record BodiesAre (code : Code) (file : List ℕ) (at : ℕ) (hs : List Header) (fs : List Function) : Type 0 where
  pub stands : Stand file at (flat_map body_fields fs)
  pub valid : AllByRecursion (IsValidFunction code) fs
  pub after : after_bodies file code.version at hs ≡ at + width_sum (flat_map body_fields fs)

pub bodies_read : (code : Code) (file : List ℕ)
    → AreBytes file
    → (hs : List Header) (at : ℕ)
    → AllByRecursion IsGood hs
    → AreMet (bodies_tests file code.version (map header_of code.functions) at hs)
    → BodiesAre code file at hs (functions_at file code.version at hs)
unfolding bodies_tests functions_at after_bodies
bodies_read code file bytes [] at good m = record { stands = tt; valid = tt; after = omega arith }
bodies_read code file bytes (h ∷ hs) at good m =
    let headers : List Header = map header_of code.functions in
    let next : ℕ = after_body file code.version at h.count in
    let f : Function = function_at file code.version at h in
    let fs : List Function = functions_at file code.version next hs in
    let here : BodyIs code f file at h.count f.body =
    body_read code f file bytes h.count at
    (subst (λ (g : Header). AreMet (body_tests file code.version headers g at h.count)) (sym (header_of-function_at file code.version at h))
    (met_left (body_tests file code.version headers h at h.count) (bodies_tests file code.version headers next hs) m)) in
    let others : BodiesAre code file next hs fs =
    bodies_read code file bytes hs next good.1
    (met_right (body_tests file code.version headers h at h.count) (bodies_tests file code.version headers next hs) m) in
    let valid : IsValidFunction code f = record {
      locals = good.0.locals;
      params = good.0.params;
      result = good.0.result;
      instrs = All-from_recursion (IsValidInstr code f) f.body here.valid;
      last = here.last good.0.some;
    } in
    record {
      stands =
          stand_both file at (body_fields f) (flat_map body_fields fs) here.stands
          (subst (λ (a : ℕ). Stand file a (flat_map body_fields fs)) here.after others.stands);
      valid = (valid, others.valid);
      after =
          others.after
          ∙ ap (λ a. a + width_sum (flat_map body_fields fs)) here.after
          ∙ omega (arith, width_sum-append (body_fields f) (flat_map body_fields fs));
    }
