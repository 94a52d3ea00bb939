-- Code meets its tests exactly where it is valid.
use Rattle.std.proofs.Common.{◌≡◌, ℕ, ◌+◌, ◌≤◌, Bool, true, false, cond, List, [], ◌∷◌, ◌++◌, length, Option, Some, None, Result, Ok, Err, refl, sym, ◌∙◌}
use Rattle.std.proofs.Common.{subst, arith, inl, inr, ⊎_elim}
use Rattle.std.specs.Prelude.{sum_by, nat_le, is_some, is_ok, IsTrue, ◌==◌, ◌||◌, not, ◌⊎◌, ◌↔◌}
use Rattle.std.specs.List.{AllByRecursion}
use Rattle.std.proofs.lemmas.Bool.{le-leb, leb-true, eq-eqb, eqb-true, and_parts, and_from, or_left, or_right, or_cases}
use Rattle.std.proofs.lemmas.List.Sums.{sum_by-cons}
use Rattle.std.proofs.lemmas.List.Elements.{recursion_from_All, All-from_recursion}
use Rattle.word_loader_code.specs.declared.code.Code.{Code}
use Rattle.word_loader_code.specs.declared.code.Function.{Function}
use Rattle.word_loader_code.specs.declared.code.Instr.{Instr}
use Rattle.word_loader_code.specs.Valid.{IsValidInstr, IsValidFunction, IsValid, IsEntered, NeverFallsThrough, LastLeaves}
use Rattle.word_loader_format.specs.declared.rows.Fault.{Fault}
use Rattle.word_loader_format.specs.declared.table.Opcode.{Opcode}
use Rattle.word_loader_format.specs.declared.table.Opcode.TheVariants.{Tail}
use Rattle.word_loader_format.specs.declared.table.Operand.{Operand}
use Rattle.word_loader_format.specs.declared.table.Operand.TheVariants.{Place, Second, Count, Word, Operation, Target, Callee, Successor}
use Rattle.word_loader_format.specs.Table.{operands_of, width_of, leaves, opcode_of, numbers_of}
use Rattle.word_loader_format.specs.Rows as rows
use Rattle.word_loader_format.specs.Rows.{Site, Test, checked, header_tests, opcode_tests, operand_tests, in_version}
use Rattle.word_loader_format.specs.Reading.{header_of}
use Rattle.word_loader_format.proofs.Tests.{AreMet, met_from_ok, ok_from_met, met_both, met_left, met_right}
use Rattle.word_loader_format.proofs.Instrs.{valid_is_known, valid_meets, valid_from, leaves_from, Leaves_from}
use Rattle.word_loader.specs.Validity.{code_headers_tests, site_of, code_parts_tests, code_instr_tests, code_body_tests, code_bodies_tests, code_tests}
use Rattle.word_loader_format.proofs.WrittenFile.{version_met, some_function, some_instr}
use Rattle.word_loader_format.proofs.ReadFile.{version_from}
use Rattle.word_loader_format.proofs.Written.{last_met}

-- ---- the place of a test doesn't matter

met_anywhere : (site : Site) (a b : ℕ) (kind : Operand) (n : ℕ) → AreMet (operand_tests site a kind n) → AreMet (operand_tests site b kind n)
met_anywhere site a b (Place words) n m = m
met_anywhere site a b Second n m = m
met_anywhere site a b Count n m = m
met_anywhere site a b Word n m = m
met_anywhere site a b Operation n m = m
met_anywhere site a b Target n m = m
met_anywhere site a b Callee n m = m
met_anywhere site a b Successor n m = m

parts_met : (site : Site) (at : ℕ) (kinds : List Operand) (ns : List ℕ) → AreMet (rows.parts_tests site at kinds ns) → AreMet (code_parts_tests site kinds ns)
unfolding code_parts_tests
parts_met site at [] ns m = tt
parts_met site at (kind ∷ kinds) [] m = tt
parts_met site at (kind ∷ kinds) (n ∷ ns) m =
    let here : List Test = operand_tests site at kind n in
    let rest : List Test = rows.parts_tests site (at + width_of kind) kinds ns in
    met_both (operand_tests site 0 kind n) (code_parts_tests site kinds ns) (met_anywhere site at 0 kind n (met_left here rest m))
    (parts_met site (at + width_of kind) kinds ns (met_right here rest m))

parts_from : (site : Site) (at : ℕ) (kinds : List Operand) (ns : List ℕ) → AreMet (code_parts_tests site kinds ns) → AreMet (rows.parts_tests site at kinds ns)
unfolding code_parts_tests
parts_from site at [] ns m = tt
parts_from site at (kind ∷ kinds) [] m = tt
parts_from site at (kind ∷ kinds) (n ∷ ns) m =
    let here : List Test = operand_tests site 0 kind n in
    let rest : List Test = code_parts_tests site kinds ns in
    met_both (operand_tests site at kind n) (rows.parts_tests site (at + width_of kind) kinds ns)
    (met_anywhere site 0 at kind n (met_left here rest m)) (parts_from site (at + width_of kind) kinds ns (met_right here rest m))

-- ---- an instruction

last_from : (is_last : Bool) (i : Instr) → (not is_last || leaves (opcode_of i)) ≡ true → is_last ≡ true → NeverFallsThrough i
last_from true i m e = Leaves_from i m
last_from false i m e = absurd cc

instr_met : (code : Code) (f : Function) (is_last : Bool) (i : Instr)
    → IsValidInstr code f i
    → (is_last ≡ true → NeverFallsThrough i)
    → AreMet (code_instr_tests code f is_last i)
instr_met code f is_last i valid last =
    let parts : List Test = code_parts_tests (site_of code f i) (operands_of (opcode_of i)) (numbers_of i) in
    let known : AreMet (opcode_tests 0 is_last (Some (opcode_of i)) ++ parts) =
    (refl, (last_met is_last i last, parts_met (site_of code f i) 0 (operands_of (opcode_of i)) (numbers_of i) (valid_meets code f 0 i valid))) in
    subst (λ (o : Option Opcode). AreMet (opcode_tests 0 is_last o ++ parts)) (sym (valid_is_known code f i valid)) known

tail_known : (version : ℕ) (b : Bool) → (version == 2) ≡ b → is_some (cond b (Some Tail) None) ≡ true → in_version version (Some Tail) ≡ Some Tail
tail_known version true is e = rw is refl
tail_known version false is e = absurd cc

known_from : (version : ℕ) (op : Opcode) → is_some (in_version version (Some op)) ≡ true → in_version version (Some op) ≡ Some op
known_from version Tail e = tail_known version (version == 2) refl e
known_from version op e = refl

instr_from : (code : Code) (f : Function) (is_last : Bool) (i : Instr)
    → AreMet (code_instr_tests code f is_last i)
    → IsValidInstr code f i × (is_last ≡ true → NeverFallsThrough i)
instr_from code f is_last i m =
    let parts : List Test = code_parts_tests (site_of code f i) (operands_of (opcode_of i)) (numbers_of i) in
    let known : in_version code.version (Some (opcode_of i)) ≡ Some (opcode_of i) = known_from code.version (opcode_of i) m.0 in
    let met : AreMet (opcode_tests 0 is_last (Some (opcode_of i)) ++ parts) =
    subst (λ (o : Option Opcode). AreMet (opcode_tests 0 is_last o ++ parts)) known m in
    (valid_from code f 0 i known (parts_from (site_of code f i) 0 (operands_of (opcode_of i)) (numbers_of i) met.1.1), last_from is_last i met.1.0)

-- ---- bodies

body_met : (code : Code) (f : Function) (is : List Instr) → AllByRecursion (IsValidInstr code f) is → LastLeaves is → AreMet (code_body_tests code f is)
unfolding code_body_tests
body_met code f [] valid last = absurd last
body_met code f (i ∷ []) valid last = met_both (code_instr_tests code f true i) [] (instr_met code f true i valid.0 (λ _. last)) tt
body_met code f (i ∷ j ∷ is) valid last =
    met_both (code_instr_tests code f (length (j ∷ is) == 0) i) (code_body_tests code f (j ∷ is))
    (instr_met code f (length (j ∷ is) == 0) i valid.0 (λ e. absurd (let z = eqb-true (length (j ∷ is)) 0 e in omega (arith, z))))
    (body_met code f (j ∷ is) valid.1 last)

record BodyIsValid (code : Code) (f : Function) (is : List Instr) : Type 0 where
  valid : AllByRecursion (IsValidInstr code f) is
  last : 1 ≤ length is → LastLeaves is

last_one : (i : Instr) (is : List Instr) → ((length is == 0) ≡ true → NeverFallsThrough i) → (1 ≤ length is → LastLeaves is) → LastLeaves (i ∷ is)
last_one i [] here others = here refl
last_one i (j ∷ is) here others = others (omega arith)

body_from : (code : Code) (f : Function) (is : List Instr) → AreMet (code_body_tests code f is) → BodyIsValid code f is
unfolding code_body_tests
body_from code f [] m = record { valid = tt; last = λ h. absurd (omega (arith, h)) }
body_from code f (i ∷ is) m =
    let here = instr_from code f (length is == 0) i (met_left (code_instr_tests code f (length is == 0) i) (code_body_tests code f is) m) in
    let others = body_from code f is (met_right (code_instr_tests code f (length is == 0) i) (code_body_tests code f is) m) in
    record { valid = (here.0, others.valid); last = λ h. last_one i is here.1 others.last }

bodies_met : (code : Code) (fs : List Function) → AllByRecursion (IsValidFunction code) fs → AreMet (code_bodies_tests code fs)
unfolding code_bodies_tests
bodies_met code [] valid = tt
bodies_met code (f ∷ fs) valid =
    met_both (code_body_tests code f f.body) (code_bodies_tests code fs)
    (body_met code f f.body (recursion_from_All (IsValidInstr code f) f.body valid.0.instrs) valid.0.last) (bodies_met code fs valid.1)

-- ---- headers

first_met : (is_first : Bool) (n : ℕ) → (is_first ≡ true → n ≡ 0) → (not is_first || n == 0) ≡ true
first_met true n h = eq-eqb n 0 (h refl)
first_met false n h = refl

first_from : (is_first : Bool) (n : ℕ) → (not is_first || n == 0) ≡ true → is_first ≡ true → n ≡ 0
first_from true n m e = eqb-true n 0 m
first_from false n m e = absurd cc

abbrev counts : List Function → ℕ
counts fs = sum_by (λ (f : Function). length f.body) fs

headers_met : (code : Code) (fs : List Function) (is_first : Bool) (before : ℕ)
    → AllByRecursion (IsValidFunction code) fs
    → (is_first ≡ true → IsEntered fs)
    → before + counts fs ≤ 1000000
    → AreMet (code_headers_tests is_first before fs)
unfolding code_headers_tests
headers_met code [] is_first before valid entered few = tt
headers_met code (f ∷ fs) is_first before valid entered few =
    let v = valid.0 in
    let sum = sum_by-cons (λ (g : Function). length g.body) f fs in
    let rest : (before + length f.body) + counts fs ≤ 1000000 = omega (arith, sum, few) in
    let here : AreMet (header_tests 0 is_first before (header_of f)) = (
      le-leb _ _ v.locals,
      (
        le-leb _ _ v.params,
        (
          first_met is_first f.params (λ e. entered e),
          (le-leb _ _ v.result, (and_from _ _ (le-leb _ _ (some_instr f.body v.last)) (le-leb _ _ (omega (arith, rest))), tt)),
        ),
      ),
    ) in
    met_both (header_tests 0 is_first before (header_of f)) (code_headers_tests false (before + length f.body) fs) here
    (headers_met code fs false (before + length f.body) valid.1 (λ e. absurd cc) rest)

record HeadersAreValid (code : Code) (is_first : Bool) (before : ℕ) (fs : List Function) : Type 0 where
  valid : AllByRecursion (IsValidFunction code) fs
  few : before + counts fs ≤ 1000000
  entered : is_first ≡ true → 1 ≤ length fs → IsEntered fs

headers_from : (code : Code) (fs : List Function) (is_first : Bool) (before : ℕ)
    → before ≤ 1000000
    → AreMet (code_headers_tests is_first before fs)
    → AreMet (code_bodies_tests code fs)
    → HeadersAreValid code is_first before fs
unfolding code_headers_tests code_bodies_tests
headers_from code [] is_first before few m b = record { valid = tt; few = omega (arith, few); entered = λ e h. absurd (omega (arith, h)) }
headers_from code (f ∷ fs) is_first before few m b =
    let here : AreMet (header_tests 0 is_first before (header_of f)) =
    met_left (header_tests 0 is_first before (header_of f)) (code_headers_tests false (before + length f.body) fs) m in
    let rest = met_right (header_tests 0 is_first before (header_of f)) (code_headers_tests false (before + length f.body) fs) m in
    let sums = and_parts _ _ here.1.1.1.1.0 in
    let few_here : before + length f.body ≤ 1000000 = leb-true _ _ sums.1 in
    let some : 1 ≤ length f.body = leb-true _ _ sums.0 in
    let others = headers_from code fs false (before + length f.body) few_here rest (met_right (code_body_tests code f f.body) (code_bodies_tests code fs) b) in
    let body = body_from code f f.body (met_left (code_body_tests code f f.body) (code_bodies_tests code fs) b) in
    let sum = sum_by-cons (λ (g : Function). length g.body) f fs in
    record {
      valid = (
        record {
          locals = leb-true _ _ here.0;
          params = leb-true _ _ here.1.0;
          result = leb-true _ _ here.1.1.1.0;
          instrs = All-from_recursion (IsValidInstr code f) f.body body.valid;
          last = body.last some;
        },
        others.valid,
      );
      few = omega (arith, others.few, sum);
      entered = λ e _. first_from is_first f.params here.1.1.0 e;
    }

-- ---- code

pub ok_from_valid : (code : Code) → IsValid code → checked (code_tests code) ≡ Ok tt
ok_from_valid code v =
    let fs : List Function = code.functions in
    let valid = recursion_from_All (IsValidFunction code) fs v.functions in
    ok_from_met (code_tests code) (
      version_met code.version v.version,
      (
        and_from _ _ (le-leb _ _ (some_function fs v.entered)) (le-leb _ _ v.count),
        met_both (code_headers_tests true 0 fs) (code_bodies_tests code fs)
            (headers_met code fs true 0 valid (λ _. v.entered) (omega (arith, v.instrs))) (bodies_met code fs valid),
      ),
    )

pub valid_from_ok : (code : Code) → checked (code_tests code) ≡ Ok tt → IsValid code
valid_from_ok code e =
    let fs : List Function = code.functions in
    let m = met_from_ok (code_tests code) e in
    let count = and_parts (nat_le 1 (length fs)) (nat_le (length fs) 4096) m.1.0 in
    let heads =
    headers_from code fs true 0 (omega arith) (met_left (code_headers_tests true 0 fs) (code_bodies_tests code fs) m.1.1)
    (met_right (code_headers_tests true 0 fs) (code_bodies_tests code fs) m.1.1) in
    record {
      version = version_from code.version m.0;
      entered = heads.entered refl (leb-true _ _ count.0);
      count = leb-true _ _ count.1;
      instrs = omega (arith, heads.few);
      functions = All-from_recursion (IsValidFunction code) fs heads.valid;
    }

pub exactly_valid : (code : Code) (r : Result (Unit {0}) Fault) (b : Bool) → r ≡ checked (code_tests code) → b ≡ is_ok r → IsTrue b ↔ IsValid code
exactly_valid code (Ok u) b e f = (λ _. valid_from_ok code (sym e), λ _. f)
exactly_valid code (Err x) b e f = (λ t. absurd (let k = sym f ∙ t in cc), λ v. absurd (let k = e ∙ ok_from_valid code v in cc))
