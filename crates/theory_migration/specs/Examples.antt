-- Migrations that were worked out by hand.
use Rattle.std.specs.Prelude.{◌≡◌, ℕ, List, [], ◌∷◌}
use Rattle.word_loader_code.specs.declared.code.Code.{Code}
use Rattle.word_loader_code.specs.declared.code.Function.{Function}
use Rattle.word_loader_code.specs.declared.code.Instr.{Instr}
use Rattle.word_loader_code.specs.declared.code.Instr.TheVariants.{Const, Jump, Call, Ret, Tail}
use Rattle.theory_migration.specs.Migration.{retailed}

-- A function without parameters, over one local, which returns so many words.
abbrev pub returning : ℕ → List Instr → Function
returning result body = record { params = 0; locals = 1; result = result; body = body }

abbrev pub code_with : ℕ → List Instr → Code
code_with version body =
    record {
      version = version;
      functions = returning 1 body ∷ returning 1 (Const 0 7 ∷ Ret 0 ∷ []) ∷ returning 0 (Ret 0 ∷ []) ∷ [];
    }

pub record WorkedMigrations : Type 0 where
  -- the return stays behind the tail call
  pub tail : retailed (code_with 1 (Call 1 0 0 ∷ Ret 0 ∷ [])) ≡ code_with 2 (Tail 1 0 ∷ Ret 0 ∷ [])
  -- version 2 code is treated likewise
  pub of_two : retailed (code_with 2 (Call 1 0 0 ∷ Ret 0 ∷ [])) ≡ code_with 2 (Tail 1 0 ∷ Ret 0 ∷ [])
  -- another place is returned, another number of words, and not directly behind the call
  pub other_place : retailed (code_with 2 (Call 1 0 1 ∷ Ret 0 ∷ [])) ≡ code_with 2 (Call 1 0 1 ∷ Ret 0 ∷ [])
  pub other_width : retailed (code_with 2 (Call 2 0 0 ∷ Ret 0 ∷ [])) ≡ code_with 2 (Call 2 0 0 ∷ Ret 0 ∷ [])
  pub further_on : retailed (code_with 1 (Call 1 0 0 ∷ Jump 2 ∷ Ret 0 ∷ []))
      ≡ code_with 2 (Call 1 0 0 ∷ Jump 2 ∷ Ret 0 ∷ [])
