-- A small file that is checked within the limits, with its code and the bytes of this, worked out by hand.
use Rattle.std.specs.Prelude.{◌≡◌, ℕ, zero, List, [], ◌∷◌, length, Ok, Some}
use Rattle.word_loader_code.specs.declared.code.Code.{Code}
use Rattle.word_loader_code.specs.declared.code.Instr.TheVariants.{Const, Ret}
use Rattle.word_loader_format.specs.Layout.{Bytes}
use Rattle.theory_typing.specs.Contexts.{Environment}
use Rattle.theory_typing.specs.Laws.{none, sum_goal}
use Rattle.theory_items.specs.Items.{with_val}
use Rattle.theory_items.specs.Examples.{gives_five}
use Rattle.theory_file_derived.specs.Examples.{sum_file}
use Rattle.theory_emission.specs.Examples.{only}
use Rattle.theory_extraction.specs.Extraction.{HasCode}
use Rattle.theory_checking_files.specs.Files.{checked_all, ItemsComeTo}

-- after val main : {tt} x : word {x =[word] 5} = do ret 2 + 3
abbrev pub sum_env : Environment
sum_env = with_val none gives_five

abbrev pub sum_code : Code
sum_code = only 1 1 (Const 0 5 ∷ Ret 0 ∷ [])

abbrev pub sum_bytes : List ℕ
sum_bytes =
    0x48 ∷ 0x54 ∷ 0x54 ∷ 0x57 ∷ 2 ∷ 1 ∷ 0 ∷ 0 ∷ 0 ∷ 0 ∷ 0 ∷ 1 ∷ 0 ∷ 1 ∷ 0 ∷ 2 ∷ 0 ∷ 0 ∷ 0 ∷ 0 ∷ 0 ∷ 0 ∷ 5 ∷ 0 ∷ 0 ∷ 0 ∷ 0 ∷
    0 ∷ 0 ∷ 0 ∷ 0x0b ∷ 0 ∷ 0 ∷ []

pub record WorkedCodeFile : Type 0 where
  pub checked : ItemsComeTo zero none sum_file (Ok (checked_all sum_env ((sum_goal ∷ []) ∷ [])))
  pub has_code : HasCode sum_file (Some 0) sum_code
  pub bytes : Bytes sum_bytes sum_code
  pub count : length sum_bytes ≡ 33
