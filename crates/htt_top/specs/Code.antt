-- The code that is run for a form.
use Rattle.std.specs.Prelude.{ℕ, [], ◌∷◌}
use Rattle.word_loader_code.specs.declared.code.Code.{Code}
use Rattle.word_loader_code.specs.declared.code.Instr.TheVariants.{Const, Ret}

-- one function, which returns a number
abbrev pub form_code : ℕ → Code
form_code number =
    record {
      version = 2;
      functions = record { params = 0; locals = 1; result = 1; body = Const 0 number ∷ Ret 0 ∷ [] } ∷ [];
    }
