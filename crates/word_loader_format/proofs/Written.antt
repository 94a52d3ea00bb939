-- Where valid code was written, all tests are met, and the fields say that code.
use Rattle.std.proofs.Common.{◌≡◌, ℕ, ◌+◌, ◌≤◌, Bool, true, false, cond, List, [], ◌∷◌, ◌++◌, length, map, Option, Some, refl, sym, ap, ◌∙◌, subst, arith}
use Rattle.std.specs.Prelude.{slice_get, slice_index, ◌==◌, ◌||◌, not}
use Rattle.std.specs.List.{AllByRecursion, flat_map}
use Rattle.std.proofs.lemmas.Bool.{le-leb, eqb-true}
use Rattle.std.proofs.lemmas.Option.{slice_get-map}
use Rattle.std.proofs.lemmas.List.Elements.{recursion_from_All}
use Rattle.word_loader_code.specs.declared.code.Code.{Code}
use Rattle.word_loader_code.specs.declared.code.Function.{Function}
use Rattle.word_loader_code.specs.declared.code.Instr.{Instr}
use Rattle.word_loader_code.specs.Valid.{IsValidInstr, IsValidFunction, NeverFallsThrough, LastLeaves}
use Rattle.word_loader_format.specs.declared.rows.Header.{Header}
use Rattle.word_loader_format.specs.declared.table.Opcode.{Opcode}
use Rattle.word_loader_format.specs.declared.table.Operand.{Operand}
use Rattle.word_loader_format.specs.Numbers.{number_in_file}
use Rattle.word_loader_format.specs.Table.{opcode_at, operands_of, width_of, is_read_whole, leaves, opcode_of, numbers_of}
use Rattle.word_loader_format.specs.Layout.{Field, FitsField, operand_fields, instr_fields, body_fields}
use Rattle.word_loader_format.specs.Rows.{Site, Test, is_there, in_version, opcode_tests, operand_tests, parts_tests, operands_tests, width_all, site_at}
use Rattle.word_loader_format.specs.Rows.{whole_test, tests_by, numbers_at, opcode_in, instr_tests, after_instr, after_body, body_tests, bodies_tests}
use Rattle.word_loader_format.specs.Rows.{after_bodies}
use Rattle.word_loader_format.specs.Reading.{instr_of, instr_by, instr_in, body_in, functions_at, header_of}
use Rattle.word_loader_format.proofs.Fields.{Stand, width_sum, width_sum-append, stand_left, stand_right, stand_within}
use Rattle.word_loader_format.proofs.Tests.{AreMet, met_both, met_left, met_right}
use Rattle.word_loader_format.proofs.Instrs.{site_of, parts_alike, instr_of-parts, opcode_at-byte_of, leaves_from, valid_is_known, valid_meets}

pub all_left : (P : Field → Type 0) (xs ys : List Field) → AllByRecursion P (xs ++ ys) → AllByRecursion P xs
all_left P [] ys a = tt
all_left P (x ∷ xs) ys a = (a.0, all_left P xs ys a.1)

pub all_right : (P : Field → Type 0) (xs ys : List Field) → AllByRecursion P (xs ++ ys) → AllByRecursion P ys
all_right P [] ys a = a
all_right P (x ∷ xs) ys a = all_right P xs ys a.1

-- ---- an instruction

pub numbers_stand : (file : List ℕ) (kinds : List Operand) (ns : List ℕ) (at : ℕ)
    → length kinds ≡ length ns
    → Stand file at (operand_fields kinds ns)
    → numbers_at file at kinds ≡ ns
unfolding numbers_at
numbers_stand file [] [] at e s = refl
numbers_stand file [] (n ∷ ns) at e s = absurd (omega (arith, e))
numbers_stand file (kind ∷ kinds) [] at e s = absurd (omega (arith, e))
numbers_stand file (kind ∷ kinds) (n ∷ ns) at e s =
    rw s.1.0 (ap (λ t. n ∷ t) (numbers_stand file kinds ns (at + width_of kind) (omega (arith, e)) s.1.1))

operands_met : (file : List ℕ) (site : Site) (kinds : List Operand) (ns : List ℕ) (at : ℕ)
    → length kinds ≡ length ns
    → Stand file at (operand_fields kinds ns)
    → AreMet (parts_tests site at kinds ns)
    → AreMet (operands_tests file site at kinds)
unfolding operands_tests
operands_met file site [] [] at e s m = tt
operands_met file site [] (n ∷ ns) at e s m = tt
operands_met file site (kind ∷ kinds) [] at e s m = absurd (omega (arith, e))
operands_met file site (kind ∷ kinds) (n ∷ ns) at e s m =
    let here : AreMet (operand_tests site at kind (number_in_file file at (width_of kind))) =
    subst (λ (k : ℕ). AreMet (operand_tests site at kind k)) (sym s.1.0)
    (met_left (operand_tests site at kind n) (parts_tests site (at + width_of kind) kinds ns) m) in
    let others =
    operands_met file site kinds ns (at + width_of kind) (omega (arith, e)) s.1.1
    (met_right (operand_tests site at kind n) (parts_tests site (at + width_of kind) kinds ns) m) in (
      le-leb _ _ s.0,
      met_both (operand_tests site at kind (number_in_file file at (width_of kind))) (operands_tests file site (at + width_of kind) kinds)
          here others,
    )

pub width_sum-operands : (kinds : List Operand) (ns : List ℕ) → length kinds ≡ length ns → width_sum (operand_fields kinds ns) ≡ width_all kinds
width_sum-operands [] [] e = refl
width_sum-operands [] (n ∷ ns) e = refl
width_sum-operands (kind ∷ kinds) [] e = absurd (omega (arith, e))
width_sum-operands (kind ∷ kinds) (n ∷ ns) e = ap (λ w. width_of kind + w) (width_sum-operands kinds ns (omega (arith, e)))

maybe_met : (b : Bool) (test : Test) → test.holds ≡ true → AreMet (cond b (test ∷ []) [])
maybe_met true test h = (h, tt)
maybe_met false test h = tt

pub last_met : (is_last : Bool) (i : Instr) → (is_last ≡ true → NeverFallsThrough i) → (not is_last || leaves (opcode_of i)) ≡ true
last_met true i h = leaves_from i (h refl)
last_met false i h = refl

opcode_stands : (file : List ℕ) (version at : ℕ) (i : Instr)
    → in_version version (Some (opcode_of i)) ≡ Some (opcode_of i)
    → Stand file at (instr_fields i)
    → opcode_in file version at ≡ Some (opcode_of i)
opcode_stands file version at i known s =
    ap (λ b. in_version version (opcode_at b)) s.1.0 ∙ ap (in_version version) (opcode_at-byte_of (opcode_of i)) ∙ known

instr_stands : (file : List ℕ) (version at : ℕ) (i : Instr)
    → in_version version (Some (opcode_of i)) ≡ Some (opcode_of i)
    → AllByRecursion FitsField (instr_fields i)
    → Stand file at (instr_fields i)
    → instr_in file version at ≡ i
unfolding instr_in
instr_stands file version at i known within s =
    ap (λ o. instr_by o file (at + 1)) (opcode_stands file version at i known s)
    ∙ ap (instr_of (opcode_of i)) (numbers_stand file (operands_of (opcode_of i)) (numbers_of i) (at + 1) (parts_alike i) s.1.1) ∙ instr_of-parts i within

after_stands : (file : List ℕ) (version at : ℕ) (i : Instr)
    → in_version version (Some (opcode_of i)) ≡ Some (opcode_of i)
    → Stand file at (instr_fields i)
    → after_instr file version at ≡ at + width_sum (instr_fields i)
unfolding after_instr
after_stands file version at i known s =
    rw (opcode_stands file version at i known s) (omega (arith, width_sum-operands (operands_of (opcode_of i)) (numbers_of i) (parts_alike i)))

pub site_stands : (file : List ℕ) (functions : List Function) (f : Function) (at : ℕ) (op : Opcode) (ns : List ℕ)
    → numbers_at file at (operands_of op) ≡ ns
    → site_at file (map header_of functions) (header_of f) at op ≡ site_of f (slice_get functions (slice_index ns 0)) ns
site_stands file functions f at op ns e =
    ap (λ (ms : List ℕ). record { own = header_of f; callee = slice_get (map header_of functions) (slice_index ms 0); numbers = ms }) e
    ∙ ap (λ (c : Option Header). record { own = header_of f; callee = c; numbers = ns }) (slice_get-map header_of functions (slice_index ns 0))

instr_met : (code : Code) (f : Function) (file : List ℕ) (is_last : Bool) (at : ℕ) (i : Instr)
    → at ≤ length file
    → IsValidInstr code f i
    → (is_last ≡ true → NeverFallsThrough i)
    → Stand file at (instr_fields i)
    → AreMet (instr_tests file code.version (map header_of code.functions) (header_of f) is_last at)
unfolding instr_tests
instr_met code f file is_last at i room valid last s =
    let headers : List Header = map header_of code.functions in
    let own : Header = header_of f in
    let op : Opcode = opcode_of i in
    let ns : List ℕ = numbers_of i in
    let read : numbers_at file (at + 1) (operands_of op) ≡ ns = numbers_stand file (operands_of op) ns (at + 1) (parts_alike i) s.1.1 in
    let width = width_sum-operands (operands_of op) ns (parts_alike i) in
    let whole : AreMet (whole_test file (at + 1) op) =
    maybe_met (is_read_whole op) (is_there file (at + 1) (width_all (operands_of op)))
    (le-leb _ _ (omega (arith, width, stand_within file at (instr_fields i) room s))) in
    let site : Site = site_of f (slice_get code.functions (slice_index ns 0)) ns in
    let parts : AreMet (operands_tests file site (at + 1) (operands_of op)) =
    operands_met file site (operands_of op) ns (at + 1) (parts_alike i) s.1.1 (valid_meets code f (at + 1) i valid) in
    let operands : AreMet (operands_tests file (site_at file headers own (at + 1) op) (at + 1) (operands_of op)) =
    subst (λ (x : Site). AreMet (operands_tests file x (at + 1) (operands_of op))) (sym (site_stands file code.functions f (at + 1) op ns read)) parts in
    let all : AreMet (is_there file at 1 ∷ opcode_tests at is_last (Some op) ++ tests_by file headers own (at + 1) (Some op)) = (
      le-leb _ _ s.0,
      (
        refl,
        (
          last_met is_last i last,
          met_both (whole_test file (at + 1) op) (operands_tests file (site_at file headers own (at + 1) op) (at + 1) (operands_of op))
              whole operands,
        ),
      ),
    ) in
    subst (λ (o : Option Opcode). AreMet (is_there file at 1 ∷ opcode_tests at is_last o ++ tests_by file headers own (at + 1) o))
    (sym (opcode_stands file code.version at i (valid_is_known code f i valid) s)) all

-- ---- a body

-- the bytes from a place on say these instructions
record BodyIs (file : List ℕ) (version at : ℕ) (is : List Instr) : Type 0 where
  body : body_in file version at (length is) ≡ is
  after : after_body file version at (length is) ≡ at + width_sum (flat_map instr_fields is)

body_stands : (code : Code) (f : Function) (file : List ℕ) (is : List Instr) (at : ℕ)
    → AllByRecursion (IsValidInstr code f) is
    → AllByRecursion FitsField (flat_map instr_fields is)
    → Stand file at (flat_map instr_fields is)
    → BodyIs file code.version at is
unfolding body_in after_body
body_stands code f file [] at valid within s = record { body = refl; after = omega arith }
body_stands code f file (i ∷ is) at valid within s =
    let known = valid_is_known code f i valid.0 in
    let here : Stand file at (instr_fields i) = stand_left file at (instr_fields i) (flat_map instr_fields is) s in
    let next : after_instr file code.version at ≡ at + width_sum (instr_fields i) = after_stands file code.version at i known here in
    let others =
    body_stands code f file is (at + width_sum (instr_fields i)) valid.1
    (all_right FitsField (instr_fields i) (flat_map instr_fields is) within)
    (stand_right file at (instr_fields i) (flat_map instr_fields is) s) in
    record {
      body =
          ap (λ j. j ∷ body_in file code.version (after_instr file code.version at) (length is))
          (instr_stands file code.version at i known (all_left FitsField (instr_fields i) (flat_map instr_fields is) within) here)
          ∙ ap (λ a. i ∷ body_in file code.version a (length is)) next ∙ ap (λ t. i ∷ t) others.body;
      after =
          ap (λ a. after_body file code.version a (length is)) next
          ∙ others.after
          ∙ omega (arith, width_sum-append (instr_fields i) (flat_map instr_fields is));
    }

body_met : (code : Code) (f : Function) (file : List ℕ) (is : List Instr) (at : ℕ)
    → at ≤ length file
    → AllByRecursion (IsValidInstr code f) is
    → LastLeaves is
    → Stand file at (flat_map instr_fields is)
    → AreMet (body_tests file code.version (map header_of code.functions) (header_of f) at (length is))
unfolding body_tests
body_met code f file [] at room valid last s = absurd last
body_met code f file (i ∷ []) at room valid last s =
    met_both (instr_tests file code.version (map header_of code.functions) (header_of f) true at) []
    (instr_met code f file true at i room valid.0 (λ _. last) (stand_left file at (instr_fields i) [] s)) tt
body_met code f file (i ∷ j ∷ is) at room valid last s =
    let here : Stand file at (instr_fields i) = stand_left file at (instr_fields i) (flat_map instr_fields (j ∷ is)) s in
    let next : after_instr file code.version at ≡ at + width_sum (instr_fields i) =
    after_stands file code.version at i (valid_is_known code f i valid.0) here in
    let others =
    body_met code f file (j ∷ is) (at + width_sum (instr_fields i)) (stand_within file at (instr_fields i) room here) valid.1 last
    (stand_right file at (instr_fields i) (flat_map instr_fields (j ∷ is)) s) in
    met_both (instr_tests file code.version (map header_of code.functions) (header_of f) (length (j ∷ is) == 0) at)
    (body_tests file code.version (map header_of code.functions) (header_of f) (after_instr file code.version at) (length (j ∷ is)))
    (instr_met code f file (length (j ∷ is) == 0) at i room valid.0
    (λ e. absurd (let z = eqb-true (length (j ∷ is)) 0 e in omega (arith, z))) here)
    (subst (λ (a : ℕ). AreMet (body_tests file code.version (map header_of code.functions) (header_of f) a (length (j ∷ is)))) (sym next)
    others)

-- ---- bodies of functions

pub record BodiesAre (file : List ℕ) (version at : ℕ) (fs : List Function) : Type 0 where
  pub functions : functions_at file version at (map header_of fs) ≡ fs
  pub after : after_bodies file version at (map header_of fs) ≡ at + width_sum (flat_map body_fields fs)

pub bodies_stand : (code : Code) (file : List ℕ) (fs : List Function) (at : ℕ)
    → AllByRecursion (IsValidFunction code) fs
    → AllByRecursion FitsField (flat_map body_fields fs)
    → Stand file at (flat_map body_fields fs)
    → BodiesAre file code.version at fs
unfolding functions_at after_bodies
bodies_stand code file [] at valid within s = record { functions = refl; after = omega arith }
bodies_stand code file (f ∷ fs) at valid within s =
    let here =
    body_stands code f file f.body at (recursion_from_All (IsValidInstr code f) f.body valid.0.instrs)
    (all_left FitsField (body_fields f) (flat_map body_fields fs) within)
    (stand_left file at (body_fields f) (flat_map body_fields fs) s) in
    let others =
    bodies_stand code file fs (at + width_sum (body_fields f)) valid.1
    (all_right FitsField (body_fields f) (flat_map body_fields fs) within)
    (stand_right file at (body_fields f) (flat_map body_fields fs) s) in
    record {
      functions =
          ap (λ (b : List Instr).
          record { params = f.params; locals = f.locals; result = f.result; body = b } ∷
          functions_at file code.version (after_body file code.version at (length f.body)) (map header_of fs)) here.body
          ∙ ap (λ a. f ∷ functions_at file code.version a (map header_of fs)) here.after ∙ ap (λ t. f ∷ t) others.functions;
      after =
          ap (λ a. after_bodies file code.version a (map header_of fs)) here.after
          ∙ others.after
          ∙ omega (arith, width_sum-append (body_fields f) (flat_map body_fields fs));
    }

pub bodies_met : (code : Code) (file : List ℕ) (fs : List Function) (at : ℕ)
    → at ≤ length file
    → AllByRecursion (IsValidFunction code) fs
    → AllByRecursion FitsField (flat_map body_fields fs)
    → Stand file at (flat_map body_fields fs)
    → AreMet (bodies_tests file code.version (map header_of code.functions) at (map header_of fs))
unfolding bodies_tests
bodies_met code file [] at room valid within s = tt
bodies_met code file (f ∷ fs) at room valid within s =
    let here : Stand file at (body_fields f) = stand_left file at (body_fields f) (flat_map body_fields fs) s in
    let instrs = recursion_from_All (IsValidInstr code f) f.body valid.0.instrs in
    let next = body_stands code f file f.body at instrs (all_left FitsField (body_fields f) (flat_map body_fields fs) within) here in
    let others =
    bodies_met code file fs (at + width_sum (body_fields f)) (stand_within file at (body_fields f) room here) valid.1
    (all_right FitsField (body_fields f) (flat_map body_fields fs) within)
    (stand_right file at (body_fields f) (flat_map body_fields fs) s) in
    met_both (body_tests file code.version (map header_of code.functions) (header_of f) at (length f.body))
    (bodies_tests file code.version (map header_of code.functions) (after_body file code.version at (length f.body)) (map header_of fs))
    (body_met code f file f.body at room instrs valid.0.last here)
    (subst (λ (a : ℕ). AreMet (bodies_tests file code.version (map header_of code.functions) a (map header_of fs))) (sym next.after) others)
