-- The code of a file that is checked within the limits is valid, and each of its numbers fits its field.
use Rattle.std.specs.Prelude.{◌≡◌, ℕ, zero, List, Ok, Option, None}
use Rattle.word_loader_code.specs.declared.code.Code.{Code}
use Rattle.word_loader_format.specs.Layout.{Bytes, code_bytes}
use Rattle.theory_typing.specs.Laws.{none}
use Rattle.theory_items.specs.Items.{ItemTree}
use Rattle.theory_instances.specs.Calls.{ProgramVal}
use Rattle.theory_flat.specs.Flat.{Instance, HasFlatInstances}
use Rattle.theory_emission.specs.Codes.{first_code, emit_refusal}
use Rattle.theory_extraction.specs.Extraction.{HasVals, program, HasCode}
use Rattle.theory_checking_files.specs.Files.{CheckedAll, ItemsComeTo}

-- `Bytes` says of a layout that its code is valid and that each number of the code fits its field.
pub record ExtractedCodeIsValid : Type 0 where
  pub second : (items : List ItemTree) (k : CheckedAll) (main : Option ℕ) (code : Code)
      → ItemsComeTo zero none items (Ok k)
      → HasCode items main code
      → Bytes (code_bytes code) code
  -- the instances' code of version 1, where this isn't refused
  pub first : (items : List ItemTree) (k : CheckedAll) (main : Option ℕ) (vals : List ProgramVal)
      (instances : List Instance)
      → ItemsComeTo zero none items (Ok k)
      → HasVals none items vals
      → HasFlatInstances (program vals main) instances
      → emit_refusal (first_code instances) ≡ None
      → Bytes (code_bytes (first_code instances)) (first_code instances)
