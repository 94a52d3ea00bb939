-- An instruction that is read: what its operands are tested against, and what it is.
use Rattle.std.proofs.Common.{◌≡◌, ℕ, ◌+◌, ◌-◌, ◌≤◌, Bool, List, [], ◌∷◌, ◌++◌, length, get_or, take, replicate, Option, Some, Result, Ok, Err, refl, sym, ap}
use Rattle.std.proofs.Common.{◌∙◌}
use Rattle.std.specs.Prelude.{slice_get, slice_index}
use Rattle.std.proofs.lemmas.List.{take_at}
use Rattle.word_loader_code.specs.declared.code.Instr.{Instr}
use Rattle.word_loader_format.specs.declared.rows.Fault.{Fault}
use Rattle.word_loader_format.specs.declared.rows.Header.{Header}
use Rattle.word_loader_format.specs.declared.table.Opcode.{Opcode}
use Rattle.word_loader_format.specs.declared.table.Opcode.TheVariants.{Const, Mov, Op, Sel, Alloc, Get, Set, Free, Jump, Jz, Call, Ret, Tail}
use Rattle.word_loader_format.specs.declared.table.Operand.{Operand}
use Rattle.word_loader_format.specs.Table.{operands_of}
use Rattle.word_loader_format.specs.Rows.{Site, Test, checked, is_there, opcode_tests, opcode_in, operands_tests, numbers_at, site_at, tests_by, instr_tests}
use Rattle.word_loader_format.specs.Rows.{after_instr, width_all, width_by}
use Rattle.word_loader_format.specs.Reading.{instr_of, instr_by, instr_in}
use Rattle.word_loader.specs.Parts.{padded}
use Rattle.word_loader.specs.Answers.{AnswersTests}
use Rattle.word_loader.specs.Loads.{IsInstrAt}
use Rattle.word_loader.proofs.PartLemmas.{length-numbers_at}
use Rattle.word_loader.proofs.Steps.{IsDecidedBy, Cut, passed}

first_padded : (ns : List ℕ) → get_or (padded ns) 0 0 ≡ slice_index ns 0
first_padded [] = refl
first_padded (n ∷ ns) = refl

-- the site of an instruction whose operands were put into an array
site_same : (file : List ℕ) (headers : List Header) (own : Header) (at : ℕ) (op : Opcode) (ops : List Operand) (arr : List ℕ)
    (callee : Option Header)
    → ops ≡ operands_of op
    → arr ≡ padded (numbers_at file at ops)
    → callee ≡ slice_get headers (get_or arr 0 0)
    → ◌≡◌ {A = Site} (record { own = own; callee = callee; numbers = take (length ops) arr }) (site_at file headers own at op)
site_same file headers own at op ops arr callee kinds made called =
    let ns : List ℕ = numbers_at file at (operands_of op) in
    let made2 : arr ≡ padded ns = made ∙ ap (λ os. padded (numbers_at file at os)) kinds in
    let size : length ns ≡ length ops = length-numbers_at file at (operands_of op) ∙ ap length (sym kinds) in
    let front : take (length ops) arr ≡ ns = ap (take (length ops)) made2 ∙ take_at ns (replicate {A = ℕ} (5 - length ns) 0) (length ops) size in
    let called2 : callee ≡ slice_get headers (slice_index ns 0) = called ∙ ap (slice_get headers) (ap (λ (a : List ℕ). get_or a 0 0) made2 ∙ first_padded ns) in
    ap (λ (c : Option Header). record { own = own; callee = c; numbers = take (length ops) arr }) called2
    ∙ ap (λ (ms : List ℕ). record { own = own; callee = slice_get headers (slice_index ns 0); numbers = ms }) front

pub operands_same : (file : List ℕ) (headers : List Header) (own : Header) (at : ℕ) (op : Opcode) (ops : List Operand) (arr : List ℕ)
    (callee : Option Header)
    → ops ≡ operands_of op
    → arr ≡ padded (numbers_at file at ops)
    → callee ≡ slice_get headers (get_or arr 0 0)
    → operands_tests file (record { own = own; callee = callee; numbers = take (length ops) arr }) at ops
    ≡ operands_tests file (site_at file headers own at op) at (operands_of op)
operands_same file headers own at op ops arr callee kinds made called =
    ap (λ (s : Site). operands_tests file s at ops) (site_same file headers own at op ops arr callee kinds made called)
    ∙ ap (operands_tests file (site_at file headers own at op) at) kinds

instr_of-padded : (file : List ℕ) (at : ℕ) (op : Opcode)
    → instr_of op (padded (numbers_at file at (operands_of op))) ≡ instr_of op (numbers_at file at (operands_of op))
unfolding numbers_at
instr_of-padded file at Const = refl
instr_of-padded file at Mov = refl
instr_of-padded file at Op = refl
instr_of-padded file at Sel = refl
instr_of-padded file at Alloc = refl
instr_of-padded file at Get = refl
instr_of-padded file at Set = refl
instr_of-padded file at Free = refl
instr_of-padded file at Jump = refl
instr_of-padded file at Jz = refl
instr_of-padded file at Call = refl
instr_of-padded file at Ret = refl
instr_of-padded file at Tail = refl

pub instr_same : (file : List ℕ) (at : ℕ) (op : Opcode) (ops : List Operand) (arr : List ℕ)
    → ops ≡ operands_of op
    → arr ≡ padded (numbers_at file at ops)
    → instr_of op arr ≡ instr_of op (numbers_at file at (operands_of op))
instr_same file at op ops arr kinds made = ap (instr_of op) (made ∙ ap (λ os. padded (numbers_at file at os)) kinds) ∙ instr_of-padded file at op

-- ---- an instruction's tests are those of its byte and those of its operands

pub itself : (all : List Test) → IsDecidedBy all all
itself all = record { same = refl }

abbrev pub opcode_part : List ℕ → ℕ → Bool → ℕ → List Test
opcode_part file version is_last at = is_there file at 1 ∷ opcode_tests at is_last (opcode_in file version at)

pub after_opcode : (file : List ℕ) (version : ℕ) (headers : List Header) (own : Header) (is_last : Bool) (at : ℕ)
    → Cut (instr_tests file version headers own is_last at) (opcode_part file version is_last at)
    (tests_by file headers own (at + 1) (opcode_in file version at))
unfolding instr_tests
after_opcode file version headers own is_last at = record { split = refl }

pub after_known : (file : List ℕ) (version : ℕ) (headers : List Header) (own : Header) (is_last : Bool) (at : ℕ) (op : Opcode)
    → opcode_in file version at ≡ Some op
    → Cut (instr_tests file version headers own is_last at) (opcode_part file version is_last at)
    (tests_by file headers own (at + 1) (Some op))
after_known file version headers own is_last at op e =
    record {
      split =
          (after_opcode file version headers own is_last at).split
          ∙ ap (λ o. opcode_part file version is_last at ++ tests_by file headers own (at + 1) o) e;
    }

-- the instruction and the place after it
abbrev pub IsRead : List ℕ → ℕ → Opcode → Instr × ℕ → Type 0
IsRead file at op x =
    (x.0 ≡ instr_of op (numbers_at file at (operands_of op))) × (x.1 ≡ at + width_all (operands_of op)) × (x.1 ≤ length file)

read_is : (file : List ℕ) (version at : ℕ) (op : Opcode) (x : Instr × ℕ)
    → opcode_in file version at ≡ Some op
    → IsRead file (at + 1) op x
    → IsInstrAt file version at x
unfolding instr_in after_instr
read_is file version at op x e r =
    record {
      instr = r.0 ∙ ap (λ o. instr_by o file (at + 1)) (sym e);
      next = r.1 ∙ ap (λ o. at + 1 + width_by o) (sym e);
      within = r.2;
    }

pub whole_instr : (file : List ℕ) (version : ℕ) (headers : List Header) (own : Header) (is_last : Bool) (at : ℕ) (op : Opcode)
    (r : Result (Instr × ℕ) Fault)
    → opcode_in file version at ≡ Some op
    → checked (opcode_part file version is_last at) ≡ Ok tt
    → AnswersTests r (tests_by file headers own (at + 1) (Some op)) (IsRead file (at + 1) op)
    → AnswersTests r (instr_tests file version headers own is_last at) (IsInstrAt file version at)
whole_instr file version headers own is_last at op (Ok x) e ok a = (
  (passed (itself (instr_tests file version headers own is_last at)) (after_known file version headers own is_last at op e) ok).same ∙ a.0,
  read_is file version at op x e a.1,
)
whole_instr file version headers own is_last at op (Err f) e ok a =
    (passed (itself (instr_tests file version headers own is_last at)) (after_known file version headers own is_last at op e) ok).same ∙ a
