-- An instruction and its parts: it is put together again as it was taken apart, and it is valid exactly where the tests
-- of its operands are met.
use Rattle.std.proofs.Common.{◌≡◌, ℕ, zero, suc, ◌+◌, ◌%◌, ◌<◌, Bool, true, false, List, [], ◌∷◌, length, Option, Some, None, refl, ap, inl, inr}
use Rattle.std.specs.Prelude.{◌==◌, ◌||◌, not, slice_get, slice_index}
use Rattle.std.proofs.Math.Nat.{mod-eq_of_lt}
use Rattle.std.specs.List.{AllByRecursion}
use Rattle.std.specs.Option.{option_map}
use Rattle.std.proofs.lemmas.Bool.{le-leb, leb-true, lt-ltb, ltb-true, eq-eqb, eqb-true, ne_eqb, cases_eq}
use Rattle.std.proofs.lemmas.Option.{same_Some}
use Rattle.word_loader_code.specs.declared.code.Code.{Code}
use Rattle.word_loader_code.specs.declared.code.Function.{Function}
use Rattle.word_loader_code.specs.declared.code.Instr.{Instr}
use Rattle.word_loader_code.specs.declared.code.Instr.TheVariants as instrs
use Rattle.word_loader_code.specs.Valid.{IsOperation, Takes, ResultFitsAt, ReturnsAs, IsValidInstr, NeverFallsThrough}
use Rattle.word_loader_format.specs.declared.table.Opcode.{Opcode}
use Rattle.word_loader_format.specs.declared.table.Opcode.TheVariants.{Const, Mov, Op, Sel, Alloc, Get, Set, Free, Jump, Jz, Call, Ret, Tail}
use Rattle.word_loader_format.specs.Numbers.{number_in_file}
use Rattle.word_loader_format.specs.Table.{byte_of, opcode_at, operands_of, leaves, opcode_of, numbers_of}
use Rattle.word_loader_format.specs.Layout.{FitsField, instr_fields}
use Rattle.word_loader_format.specs.Rows.{Site, Test, numbers_at, parts_tests, in_version}
use Rattle.word_loader_format.specs.Reading.{instr_of, header_of}
use Rattle.word_loader_format.specs.Laws.{AreBytes}
use Rattle.word_loader_format.proofs.Numbers.{number_at-below}
use Rattle.word_loader_format.proofs.Tests.{AreMet}

low : (m n : ℕ) → n < m → n % m ≡ n
low m n h = mod-eq_of_lt h

-- ---- bytes

pub opcode_at-byte_of : (op : Opcode) → opcode_at (byte_of op) ≡ Some op
opcode_at-byte_of Const = refl
opcode_at-byte_of Mov = refl
opcode_at-byte_of Op = refl
opcode_at-byte_of Sel = refl
opcode_at-byte_of Alloc = refl
opcode_at-byte_of Get = refl
opcode_at-byte_of Set = refl
opcode_at-byte_of Free = refl
opcode_at-byte_of Jump = refl
opcode_at-byte_of Jz = refl
opcode_at-byte_of Call = refl
opcode_at-byte_of Ret = refl
opcode_at-byte_of Tail = refl

pub byte_of-opcode_at : (b : ℕ) (op : Opcode) → opcode_at b ≡ Some op → b ≡ byte_of op
byte_of-opcode_at zero op e = ap byte_of (same_Some Const op e)
byte_of-opcode_at (suc zero) op e = ap byte_of (same_Some Mov op e)
byte_of-opcode_at (suc (suc zero)) op e = ap byte_of (same_Some Op op e)
byte_of-opcode_at (suc (suc (suc zero))) op e = ap byte_of (same_Some Sel op e)
byte_of-opcode_at (suc (suc (suc (suc zero)))) op e = ap byte_of (same_Some Alloc op e)
byte_of-opcode_at (suc (suc (suc (suc (suc zero))))) op e = ap byte_of (same_Some Get op e)
byte_of-opcode_at (suc (suc (suc (suc (suc (suc zero)))))) op e = ap byte_of (same_Some Set op e)
byte_of-opcode_at (suc (suc (suc (suc (suc (suc (suc zero))))))) op e = ap byte_of (same_Some Free op e)
byte_of-opcode_at (suc (suc (suc (suc (suc (suc (suc (suc zero)))))))) op e = ap byte_of (same_Some Jump op e)
byte_of-opcode_at (suc (suc (suc (suc (suc (suc (suc (suc (suc zero))))))))) op e = ap byte_of (same_Some Jz op e)
byte_of-opcode_at (suc (suc (suc (suc (suc (suc (suc (suc (suc (suc zero)))))))))) op e = ap byte_of (same_Some Call op e)
byte_of-opcode_at (suc (suc (suc (suc (suc (suc (suc (suc (suc (suc (suc zero))))))))))) op e = ap byte_of (same_Some Ret op e)
byte_of-opcode_at (suc (suc (suc (suc (suc (suc (suc (suc (suc (suc (suc (suc zero)))))))))))) op e = ap byte_of (same_Some Tail op e)
byte_of-opcode_at (suc (suc (suc (suc (suc (suc (suc (suc (suc (suc (suc (suc (suc b))))))))))))) op e = absurd cc

-- ---- an instruction and its parts

pub parts_alike : (i : Instr) → length (operands_of (opcode_of i)) ≡ length (numbers_of i)
parts_alike (instrs.Const d v) = refl
parts_alike (instrs.Mov d s n) = refl
parts_alike (instrs.Op d o a b) = refl
parts_alike (instrs.Sel d c a b n) = refl
parts_alike (instrs.Alloc d s n) = refl
parts_alike (instrs.Get d p n) = refl
parts_alike (instrs.Set p s n) = refl
parts_alike (instrs.Free p n) = refl
parts_alike (instrs.Jump t) = refl
parts_alike (instrs.Jz c t) = refl
parts_alike (instrs.Call g a d) = refl
parts_alike (instrs.Ret s) = refl
parts_alike (instrs.Tail g a) = refl

pub instr_of-parts : (i : Instr) → AllByRecursion FitsField (instr_fields i) → instr_of (opcode_of i) (numbers_of i) ≡ i
instr_of-parts (instrs.Const d v) h = rw (low 65536 d h.1.0) refl
instr_of-parts (instrs.Mov d s n) h = rw (low 65536 d h.1.0, low 65536 s h.1.1.0, low 65536 n h.1.1.1.0) refl
instr_of-parts (instrs.Op d o a b) h = rw (low 65536 d h.1.0, low 256 o h.1.1.0, low 65536 a h.1.1.1.0, low 65536 b h.1.1.1.1.0) refl
instr_of-parts (instrs.Sel d c a b n) h =
    rw (low 65536 d h.1.0, low 65536 c h.1.1.0, low 65536 a h.1.1.1.0, low 65536 b h.1.1.1.1.0, low 65536 n h.1.1.1.1.1.0) refl
instr_of-parts (instrs.Alloc d s n) h = rw (low 65536 d h.1.0, low 65536 s h.1.1.0, low 65536 n h.1.1.1.0) refl
instr_of-parts (instrs.Get d p n) h = rw (low 65536 d h.1.0, low 65536 p h.1.1.0, low 65536 n h.1.1.1.0) refl
instr_of-parts (instrs.Set p s n) h = rw (low 65536 p h.1.0, low 65536 s h.1.1.0, low 65536 n h.1.1.1.0) refl
instr_of-parts (instrs.Free p n) h = rw (low 65536 p h.1.0, low 65536 n h.1.1.0) refl
instr_of-parts (instrs.Jump t) h = rw (low 4294967296 t h.1.0) refl
instr_of-parts (instrs.Jz c t) h = rw (low 65536 c h.1.0, low 4294967296 t h.1.1.0) refl
instr_of-parts (instrs.Call g a d) h = rw (low 4294967296 g h.1.0, low 65536 a h.1.1.0, low 65536 d h.1.1.1.0) refl
instr_of-parts (instrs.Ret s) h = rw (low 65536 s h.1.0) refl
instr_of-parts (instrs.Tail g a) h = rw (low 4294967296 g h.1.0, low 65536 a h.1.1.0) refl

pub opcode_of-instr_of : (op : Opcode) (ns : List ℕ) → opcode_of (instr_of op ns) ≡ op
opcode_of-instr_of Const ns = refl
opcode_of-instr_of Mov ns = refl
opcode_of-instr_of Op ns = refl
opcode_of-instr_of Sel ns = refl
opcode_of-instr_of Alloc ns = refl
opcode_of-instr_of Get ns = refl
opcode_of-instr_of Set ns = refl
opcode_of-instr_of Free ns = refl
opcode_of-instr_of Jump ns = refl
opcode_of-instr_of Jz ns = refl
opcode_of-instr_of Call ns = refl
opcode_of-instr_of Ret ns = refl
opcode_of-instr_of Tail ns = refl

pub numbers_of-instr_of : (file : List ℕ) (at : ℕ) (op : Opcode)
    → AreBytes file
    → numbers_of (instr_of op (numbers_at file at (operands_of op))) ≡ numbers_at file at (operands_of op)
unfolding numbers_at
numbers_of-instr_of file at Const h = rw (low 65536 (number_in_file file (at) 2) (number_at-below file (at) 2 h)) refl
numbers_of-instr_of file at Mov h =
    rw (
      low 65536 (number_in_file file (at) 2) (number_at-below file (at) 2 h),
      low 65536 (number_in_file file (at + 2) 2) (number_at-below file (at + 2) 2 h),
      low 65536 (number_in_file file (at + 2 + 2) 2) (number_at-below file (at + 2 + 2) 2 h),
    ) refl
numbers_of-instr_of file at Op h =
    rw (
      low 65536 (number_in_file file (at) 2) (number_at-below file (at) 2 h),
      low 256 (number_in_file file (at + 2) 1) (number_at-below file (at + 2) 1 h),
      low 65536 (number_in_file file (at + 2 + 1) 2) (number_at-below file (at + 2 + 1) 2 h),
      low 65536 (number_in_file file (at + 2 + 1 + 2) 2) (number_at-below file (at + 2 + 1 + 2) 2 h),
    ) refl
numbers_of-instr_of file at Sel h =
    rw (
      low 65536 (number_in_file file (at) 2) (number_at-below file (at) 2 h),
      low 65536 (number_in_file file (at + 2) 2) (number_at-below file (at + 2) 2 h),
      low 65536 (number_in_file file (at + 2 + 2) 2) (number_at-below file (at + 2 + 2) 2 h),
      low 65536 (number_in_file file (at + 2 + 2 + 2) 2) (number_at-below file (at + 2 + 2 + 2) 2 h),
      low 65536 (number_in_file file (at + 2 + 2 + 2 + 2) 2) (number_at-below file (at + 2 + 2 + 2 + 2) 2 h),
    ) refl
numbers_of-instr_of file at Alloc h =
    rw (
      low 65536 (number_in_file file (at) 2) (number_at-below file (at) 2 h),
      low 65536 (number_in_file file (at + 2) 2) (number_at-below file (at + 2) 2 h),
      low 65536 (number_in_file file (at + 2 + 2) 2) (number_at-below file (at + 2 + 2) 2 h),
    ) refl
numbers_of-instr_of file at Get h =
    rw (
      low 65536 (number_in_file file (at) 2) (number_at-below file (at) 2 h),
      low 65536 (number_in_file file (at + 2) 2) (number_at-below file (at + 2) 2 h),
      low 65536 (number_in_file file (at + 2 + 2) 2) (number_at-below file (at + 2 + 2) 2 h),
    ) refl
numbers_of-instr_of file at Set h =
    rw (
      low 65536 (number_in_file file (at) 2) (number_at-below file (at) 2 h),
      low 65536 (number_in_file file (at + 2) 2) (number_at-below file (at + 2) 2 h),
      low 65536 (number_in_file file (at + 2 + 2) 2) (number_at-below file (at + 2 + 2) 2 h),
    ) refl
numbers_of-instr_of file at Free h =
    rw (
      low 65536 (number_in_file file (at) 2) (number_at-below file (at) 2 h),
      low 65536 (number_in_file file (at + 2) 2) (number_at-below file (at + 2) 2 h),
    ) refl
numbers_of-instr_of file at Jump h = rw (low 4294967296 (number_in_file file (at) 4) (number_at-below file (at) 4 h)) refl
numbers_of-instr_of file at Jz h =
    rw (
      low 65536 (number_in_file file (at) 2) (number_at-below file (at) 2 h),
      low 4294967296 (number_in_file file (at + 2) 4) (number_at-below file (at + 2) 4 h),
    ) refl
numbers_of-instr_of file at Call h =
    rw (
      low 4294967296 (number_in_file file (at) 4) (number_at-below file (at) 4 h),
      low 65536 (number_in_file file (at + 4) 2) (number_at-below file (at + 4) 2 h),
      low 65536 (number_in_file file (at + 4 + 2) 2) (number_at-below file (at + 4 + 2) 2 h),
    ) refl
numbers_of-instr_of file at Ret h = rw (low 65536 (number_in_file file (at) 2) (number_at-below file (at) 2 h)) refl
numbers_of-instr_of file at Tail h =
    rw (
      low 4294967296 (number_in_file file (at) 4) (number_at-below file (at) 4 h),
      low 65536 (number_in_file file (at + 4) 2) (number_at-below file (at + 4) 2 h),
    ) refl

pub leaves_from : (i : Instr) → NeverFallsThrough i → leaves (opcode_of i) ≡ true
leaves_from (instrs.Const d v) h = absurd h
leaves_from (instrs.Mov d s n) h = absurd h
leaves_from (instrs.Op d o a b) h = absurd h
leaves_from (instrs.Sel d c a b n) h = absurd h
leaves_from (instrs.Alloc d s n) h = absurd h
leaves_from (instrs.Get d p n) h = absurd h
leaves_from (instrs.Set p s n) h = absurd h
leaves_from (instrs.Free p n) h = absurd h
leaves_from (instrs.Jump t) h = refl
leaves_from (instrs.Jz c t) h = absurd h
leaves_from (instrs.Call g a d) h = absurd h
leaves_from (instrs.Ret s) h = refl
leaves_from (instrs.Tail g a) h = refl

pub Leaves_from : (i : Instr) → leaves (opcode_of i) ≡ true → NeverFallsThrough i
Leaves_from (instrs.Const d v) h = absurd cc
Leaves_from (instrs.Mov d s n) h = absurd cc
Leaves_from (instrs.Op d o a b) h = absurd cc
Leaves_from (instrs.Sel d c a b n) h = absurd cc
Leaves_from (instrs.Alloc d s n) h = absurd cc
Leaves_from (instrs.Get d p n) h = absurd cc
Leaves_from (instrs.Set p s n) h = absurd cc
Leaves_from (instrs.Free p n) h = absurd cc
Leaves_from (instrs.Jump t) h = tt
Leaves_from (instrs.Jz c t) h = absurd cc
Leaves_from (instrs.Call g a d) h = absurd cc
Leaves_from (instrs.Ret s) h = tt
Leaves_from (instrs.Tail g a) h = tt

-- ---- valid instructions

abbrev pub site_of : Function → Option Function → List ℕ → Site
site_of f callee ns = record { own = header_of f; callee = option_map header_of callee; numbers = ns }

abbrev pub parts_of_tests : Code → Function → ℕ → Instr → List Test
parts_of_tests code f at i =
    parts_tests (site_of f (slice_get code.functions (slice_index (numbers_of i) 0)) (numbers_of i)) at (operands_of (opcode_of i))
    (numbers_of i)

second_met : (o a b : ℕ) → IsOperation o a b → (not (o == 10) || b == a) ≡ true
second_met o a b h =
    elim (cases_eq o 10) [
      | inl e ↦ rw (eq-eqb o 10 e, eq-eqb b a (h.one_place e)) refl
      | inr ne ↦ rw (ne_eqb o 10 ne) refl
    ]

second_from : (o a b : ℕ) → (not (o == 10) || b == a) ≡ true → o ≡ 10 → b ≡ a
second_from o a b h e = eqb-true b a (rw (eq-eqb o 10 e) at h)

call_met : (f : Function) (callee : Option Function) (g a d at : ℕ)
    → Takes f callee a
    → ResultFitsAt f callee d
    → AreMet (parts_tests (site_of f callee (g ∷ a ∷ d ∷ [])) at (operands_of Call) (g ∷ a ∷ d ∷ []))
call_met f None g a d at t r = absurd t
call_met f (Some h) g a d at t r = (refl, (le-leb _ _ t, (le-leb _ _ r, tt)))

call_from : (f : Function) (callee : Option Function) (g a d at : ℕ)
    → AreMet (parts_tests (site_of f callee (g ∷ a ∷ d ∷ [])) at (operands_of Call) (g ∷ a ∷ d ∷ []))
    → Takes f callee a × ResultFitsAt f callee d
call_from f None g a d at m = absurd (let h = m.0 in cc)
call_from f (Some h) g a d at m = (leb-true _ _ m.1.0, leb-true _ _ m.1.1.0)

tail_met : (f : Function) (callee : Option Function) (g a at : ℕ)
    → Takes f callee a
    → ReturnsAs f callee
    → AreMet (parts_tests (site_of f callee (g ∷ a ∷ [])) at (operands_of Tail) (g ∷ a ∷ []))
tail_met f None g a at t r = absurd t
tail_met f (Some h) g a at t r = (refl, (eq-eqb _ _ r, (le-leb _ _ t, tt)))

tail_from : (f : Function) (callee : Option Function) (g a at : ℕ)
    → AreMet (parts_tests (site_of f callee (g ∷ a ∷ [])) at (operands_of Tail) (g ∷ a ∷ []))
    → Takes f callee a × ReturnsAs f callee
tail_from f None g a at m = absurd (let h = m.0 in cc)
tail_from f (Some h) g a at m = (leb-true _ _ m.1.1.0, eqb-true _ _ m.1.0)

version_from : (version : ℕ) (b : Bool) → (version == 2) ≡ b → in_version version (Some Tail) ≡ Some Tail → version ≡ 2
version_from version true e h = eqb-true version 2 e
version_from version false e h = absurd (let k = rw e at h in cc)

pub valid_is_known : (code : Code) (f : Function) (i : Instr) → IsValidInstr code f i → in_version code.version (Some (opcode_of i)) ≡ Some (opcode_of i)
valid_is_known code f (instrs.Const d v) h = refl
valid_is_known code f (instrs.Mov d s n) h = refl
valid_is_known code f (instrs.Op d o a b) h = refl
valid_is_known code f (instrs.Sel d c a b n) h = refl
valid_is_known code f (instrs.Alloc d s n) h = refl
valid_is_known code f (instrs.Get d p n) h = refl
valid_is_known code f (instrs.Set p s n) h = refl
valid_is_known code f (instrs.Free p n) h = refl
valid_is_known code f (instrs.Jump t) h = refl
valid_is_known code f (instrs.Jz c t) h = refl
valid_is_known code f (instrs.Call g a d) h = refl
valid_is_known code f (instrs.Ret s) h = refl
valid_is_known code f (instrs.Tail g a) h = rw (eq-eqb code.version 2 h.0) refl

-- the tests that a valid instruction meets, and from which it is valid
pub valid_meets : (code : Code) (f : Function) (at : ℕ) (i : Instr) → IsValidInstr code f i → AreMet (parts_of_tests code f at i)
valid_meets code f at (instrs.Const d v) h = (le-leb _ _ h, tt)
valid_meets code f at (instrs.Mov d s n) h = (le-leb _ _ h.0, (le-leb _ _ h.1, tt))
valid_meets code f at (instrs.Op d o a b) h = (le-leb _ _ h.0, (le-leb _ _ h.1.known, (le-leb _ _ h.2, (second_met o a b h.1, (le-leb _ _ h.3, tt)))))
valid_meets code f at (instrs.Sel d c a b n) h = (le-leb _ _ h.0, (le-leb _ _ h.1, (le-leb _ _ h.2, (le-leb _ _ h.3, tt))))
valid_meets code f at (instrs.Alloc d s n) h = (le-leb _ _ h.0, (le-leb _ _ h.1, tt))
valid_meets code f at (instrs.Get d p n) h = (le-leb _ _ h.0, (le-leb _ _ h.1, tt))
valid_meets code f at (instrs.Set p s n) h = (le-leb _ _ h.0, (le-leb _ _ h.1, tt))
valid_meets code f at (instrs.Free p n) h = (le-leb _ _ h, tt)
valid_meets code f at (instrs.Jump t) h = (lt-ltb _ _ h, tt)
valid_meets code f at (instrs.Jz c t) h = (le-leb _ _ h.0, (lt-ltb _ _ h.1, tt))
valid_meets code f at (instrs.Call g a d) h = call_met f (slice_get code.functions g) g a d at h.0 h.1
valid_meets code f at (instrs.Ret s) h = (le-leb _ _ h, tt)
valid_meets code f at (instrs.Tail g a) h = tail_met f (slice_get code.functions g) g a at h.1 h.2

pub valid_from : (code : Code) (f : Function) (at : ℕ) (i : Instr)
    → in_version code.version (Some (opcode_of i)) ≡ Some (opcode_of i)
    → AreMet (parts_of_tests code f at i)
    → IsValidInstr code f i
valid_from code f at (instrs.Const d v) e m = leb-true _ _ m.0
valid_from code f at (instrs.Mov d s n) e m = (leb-true _ _ m.0, leb-true _ _ m.1.0)
valid_from code f at (instrs.Op d o a b) e m = (
  leb-true _ _ m.0,
  record { known = leb-true _ _ m.1.0; one_place = second_from o a b m.1.1.1.0 },
  leb-true _ _ m.1.1.0,
  leb-true _ _ m.1.1.1.1.0,
)
valid_from code f at (instrs.Sel d c a b n) e m = (leb-true _ _ m.0, leb-true _ _ m.1.0, leb-true _ _ m.1.1.0, leb-true _ _ m.1.1.1.0)
valid_from code f at (instrs.Alloc d s n) e m = (leb-true _ _ m.0, leb-true _ _ m.1.0)
valid_from code f at (instrs.Get d p n) e m = (leb-true _ _ m.0, leb-true _ _ m.1.0)
valid_from code f at (instrs.Set p s n) e m = (leb-true _ _ m.0, leb-true _ _ m.1.0)
valid_from code f at (instrs.Free p n) e m = leb-true _ _ m.0
valid_from code f at (instrs.Jump t) e m = ltb-true _ _ m.0
valid_from code f at (instrs.Jz c t) e m = (leb-true _ _ m.0, ltb-true _ _ m.1.0)
valid_from code f at (instrs.Call g a d) e m = call_from f (slice_get code.functions g) g a d at m
valid_from code f at (instrs.Ret s) e m = leb-true _ _ m.0
valid_from code f at (instrs.Tail g a) e m =
    let t = tail_from f (slice_get code.functions g) g a at m in (version_from code.version (code.version == 2) refl e, t.0, t.1)
