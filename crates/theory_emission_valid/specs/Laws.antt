-- Emitted code is valid, and its numbers fit their fields, in both versions.
use Rattle.std.specs.Prelude.{◌≡◌, ◌≤◌, List, [], ◌∷◌, length, All, None}
use Rattle.word_loader_code.specs.Valid.{function_limit, IsValid}
use Rattle.word_loader_format.specs.Layout.{FitsField, code_fields}
use Rattle.theory_flat.specs.Flat.{Instance}
use Rattle.theory_flat_typed.specs.Typed.{AreTyped}
use Rattle.theory_emission.specs.Codes.{first_code, code_of, emit_refusal}
use Rattle.theory_emission_valid.specs.Limits.{HasMonosWithin}

-- The first instance is there, and has no parameters.
abbrev pub BeginsWithMain : List Instance → Type 0
BeginsWithMain [] = ⊥
BeginsWithMain (main ∷ others) = main.params ≡ []

-- What emission needs of a list: its bodies are typed, main comes first, and all is within the limits.
pub record IsEmittable (instances : List Instance) : Type 0 where
  pub typed : AreTyped instances
  pub main : BeginsWithMain instances
  pub few : length instances ≤ function_limit
  pub monos : All HasMonosWithin instances

pub record EmittedIsValid : Type 0 where
  pub second : (instances : List Instance)
      → IsEmittable instances
      → emit_refusal (code_of instances) ≡ None
      → IsValid (code_of instances)
  pub first : (instances : List Instance)
      → IsEmittable instances
      → emit_refusal (first_code instances) ≡ None
      → IsValid (first_code instances)

pub record EmittedNumbersFit : Type 0 where
  pub second : (instances : List Instance)
      → IsEmittable instances
      → emit_refusal (code_of instances) ≡ None
      → All FitsField (code_fields (code_of instances))
  pub first : (instances : List Instance)
      → IsEmittable instances
      → emit_refusal (first_code instances) ≡ None
      → All FitsField (code_fields (first_code instances))
