-- What holds of the format for every file and every code.
use Rattle.std.specs.Prelude.{◌≡◌, ℕ, ◌<◌, ◌⊎◌, List, [], ◌∷◌, ◌++◌, take, slice_index}
use Rattle.word_loader_code.specs.declared.code.Code.{Code}
use Rattle.word_loader_code.specs.declared.code.Instr.TheVariants.{Const, Ret, Tail}
use Rattle.word_loader_format.specs.Layout.{code_bytes, Bytes}
use Rattle.word_loader_format.specs.Rows.{IsRefused}

-- a file has one code at most
abbrev pub OneCode : Type 0
OneCode = (b : List ℕ) (code other : Code) → Bytes b code → Bytes b other → code ≡ other

abbrev pub AreBytes : List ℕ → Type 0
AreBytes b = (i : ℕ) → slice_index b i < 256

-- a file of bytes has a code, or it is refused
abbrev pub CodedOrRefused : Type 0
CodedOrRefused =
    (b : List ℕ) → AreBytes b → ((code : Code) × Bytes b code) ⊎ ((at : ℕ) × (row : ℕ) × IsRefused b at row)

-- a file that has a code isn't refused
abbrev pub CodedIsntRefused : Type 0
CodedIsntRefused = (b : List ℕ) (code : Code) (at row : ℕ) → Bytes b code → IsRefused b at row → ⊥

-- a file is refused at one place, by one row
abbrev pub OneCodeRefusal : Type 0
OneCodeRefusal =
    (b : List ℕ) (at row other_at other_row : ℕ)
    → IsRefused b at row
    → IsRefused b other_at other_row
    → (at ≡ other_at) × (row ≡ other_row)

-- ---- worked files: each is found by hand

-- `const 0 5`, `ret 0` with one local, in version 2
abbrev pub five : Code
five = record {
  version = 2;
  functions = record { params = 0; locals = 1; result = 1; body = Const 0 5 ∷ Ret 0 ∷ [] } ∷ [];
}

abbrev pub five_bytes : List ℕ
five_bytes =
    72 ∷ 84 ∷ 84 ∷ 87 ∷ 2 ∷ 1 ∷ 0 ∷ 0 ∷ 0 ∷ 0 ∷ 0 ∷ 1 ∷ 0 ∷ 1 ∷ 0 ∷ 2 ∷ 0 ∷ 0 ∷ 0 ∷
    0 ∷ 0 ∷ 0 ∷ 5 ∷ 0 ∷ 0 ∷ 0 ∷ 0 ∷ 0 ∷ 0 ∷ 0 ∷ 11 ∷ 0 ∷ 0 ∷ []

-- `tail 1 0`, and a function with `const 0 7`, `ret 0`
abbrev pub tail_to_seven : Code
tail_to_seven =
    record {
      version = 2;
      functions =
          record { params = 0; locals = 0; result = 1; body = Tail 1 0 ∷ [] } ∷
          record { params = 0; locals = 1; result = 1; body = Const 0 7 ∷ Ret 0 ∷ [] } ∷ [];
    }

abbrev pub opening_of : ℕ → List ℕ
opening_of version = 72 ∷ 84 ∷ 84 ∷ 87 ∷ version ∷ []

-- the bytes of `tail_to_seven`, but for the version
abbrev pub seven_bytes : ℕ → List ℕ
seven_bytes version =
    opening_of version ++
    (2 ∷ 0 ∷ 0 ∷ 0 ∷ 0 ∷ 0 ∷ 0 ∷ 0 ∷ 1 ∷ 0 ∷ 1 ∷ 0 ∷ 0 ∷ 0 ∷ 0 ∷ 0 ∷ 1 ∷ 0 ∷ 1 ∷ 0 ∷ 2 ∷ 0 ∷ 0 ∷ 0 ∷
    12 ∷ 1 ∷ 0 ∷ 0 ∷ 0 ∷ 0 ∷ 0 ∷ 0 ∷ 0 ∷ 0 ∷ 7 ∷ 0 ∷ 0 ∷ 0 ∷ 0 ∷ 0 ∷ 0 ∷ 0 ∷ 11 ∷ 0 ∷ 0 ∷ [])

-- `jump` to a target, alone
abbrev pub jump_bytes : ℕ → List ℕ
jump_bytes target =
    opening_of 1 ++ (1 ∷ 0 ∷ 0 ∷ 0 ∷ 0 ∷ 0 ∷ 0 ∷ 0 ∷ 0 ∷ 0 ∷ 1 ∷ 0 ∷ 0 ∷ 0 ∷ 8 ∷ target ∷ 0 ∷ 0 ∷ 0 ∷ [])

-- one function with one local and so many instructions, which are these bytes
abbrev pub one_local : ℕ → List ℕ → List ℕ
one_local count body = opening_of 1 ++ (1 ∷ 0 ∷ 0 ∷ 0 ∷ 0 ∷ 0 ∷ 1 ∷ 0 ∷ 0 ∷ 0 ∷ count ∷ 0 ∷ 0 ∷ 0 ∷ []) ++ body

pub record WorkedFiles : Type 0 where
  pub five_layout : code_bytes five ≡ five_bytes
  pub seven_layout : code_bytes tail_to_seven ≡ seven_bytes 2
  -- `tail` doesn't stand in version 1
  pub old_tail : IsRefused (seven_bytes 1) 29 7
  -- a field that is cut ends too early, with the file's length; the four bytes of the magic are one field
  pub cut_magic : IsRefused (72 ∷ 84 ∷ 88 ∷ []) 3 0
  pub other_magic : IsRefused (72 ∷ 84 ∷ 84 ∷ 88 ∷ []) 0 1
  pub cut_target : IsRefused (take 22 (jump_bytes 0)) 22 0
  pub far_target : IsRefused (jump_bytes 1) 20 9
  pub byte_after : IsRefused (jump_bytes 0 ++ 0 ∷ []) 24 12
  -- that the last instruction leaves is tested at its first byte, before its operands
  pub last_stays : IsRefused (one_local 1 (0 ∷ 9 ∷ 0 ∷ 5 ∷ [])) 19 11
  -- a place of `const` is tested when it is read, one of `set` when the whole instruction is
  pub early_place : IsRefused (one_local 2 (0 ∷ 1 ∷ 0 ∷ [])) 20 8
  pub waiting_place : IsRefused (one_local 2 (6 ∷ 2 ∷ 0 ∷ 0 ∷ 0 ∷ [])) 24 0
  pub whole_place : IsRefused (one_local 2 (6 ∷ 2 ∷ 0 ∷ 0 ∷ 0 ∷ 1 ∷ 0 ∷ [])) 20 8
  -- the second place of `not` is compared with the first before it is tested against the locals
  pub unlike_places : IsRefused (one_local 2 (2 ∷ 0 ∷ 0 ∷ 10 ∷ 0 ∷ 0 ∷ 9 ∷ 0 ∷ [])) 25 7
