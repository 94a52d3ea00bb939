-- The code of a file: which program its items are, when main is extractable, and why it isn't. Names aren't
-- looked up here: the number of the value that is called main is given.
use Rattle.std.specs.Prelude.{◌≡◌, ◌<◌, ℕ, List, [], ◌∷◌, length, Option, Some, None}
use Rattle.word_loader_code.specs.declared.code.Code.{Code}
use Rattle.theory_typing.specs.Contexts.{Environment, Obligation}
use Rattle.theory_typing.specs.Laws.{none}
use Rattle.theory_items.specs.Items.{ItemTree, Added, adds_val, with_added, Derives}
use Rattle.theory_instances.specs.Calls.{ProgramVal, Program}
use Rattle.theory_instances.specs.Lists.{Refusal, RefusesInstances}
use Rattle.theory_flat.specs.Flat.{Instance, HasFlatInstances}
use Rattle.theory_emission.specs.Codes.{EmitRefusal, first_code, code_of, emit_refusal}

-- What an item adds in front of the values that follow: a value with its canonical type and term.
abbrev pub vals_with : Added → List ProgramVal → List ProgramVal
vals_with (adds_val ty term) vals = record { ty = ty; term = term } ∷ vals
vals_with added vals = vals

-- The canonical types and terms of the values among items, each derived in the environment of those before
-- it.
pub data HasVals : Environment → List ItemTree → List ProgramVal → Type 0 where
  vals_none : {env : Environment} → HasVals env [] []
  vals_next : {env : Environment} {item : ItemTree} {added : Added} {owed : List Obligation} {items : List ItemTree}
      {vals : List ProgramVal}
      → Derives env [] item added owed
      → HasVals (with_added env added) items vals
      → HasVals env (item ∷ items) (vals_with added vals)

abbrev pub program : List ProgramVal → Option ℕ → Program
program vals main = record { vals = vals; main = main }

-- The code of a file is what its instances are written as, where all is within the limits.
pub record HasCodeBy (written : List Instance → Code) (items : List ItemTree) (main : Option ℕ) (code : Code) : Type 0 where
  pub vals : List ProgramVal
  pub has_vals : HasVals none items vals
  pub instances : List Instance
  pub has_instances : HasFlatInstances (program vals main) instances
  pub within : emit_refusal (written instances) ≡ None
  pub is : code ≡ written instances

-- Its code has version 2. An `if` in tail place takes no locals for its result there, so a file may have this code and
-- none of version 1.
abbrev pub HasCode : List ItemTree → Option ℕ → Code → Type 0
HasCode items main code = HasCodeBy code_of items main code

abbrev pub HasFirstCode : List ItemTree → Option ℕ → Code → Type 0
HasFirstCode items main code = HasCodeBy first_code items main code

abbrev pub IsExtractable : List ItemTree → Option ℕ → Type 0
IsExtractable items main = (code : Code) × HasCode items main code

-- Why a file has no code: it has no list of instances, or the list has no code.
pub data ExtractionRefusal : Type 0 where
  of_list : Refusal → ExtractionRefusal
  of_code : EmitRefusal → ExtractionRefusal

pub data RefusesCodeBy (written : List Instance → Code) (items : List ItemTree) (main : Option ℕ)
    : ExtractionRefusal → Type 0 where
  refuses_list : {vals : List ProgramVal} {refusal : Refusal}
      → HasVals none items vals
      → RefusesInstances (program vals main) refusal
      → RefusesCodeBy written items main (of_list refusal)
  refuses_code : {vals : List ProgramVal} {instances : List Instance} {refusal : EmitRefusal}
      → HasVals none items vals
      → HasFlatInstances (program vals main) instances
      → emit_refusal (written instances) ≡ Some refusal
      → RefusesCodeBy written items main (of_code refusal)

-- Why a file isn't extractable, and why it has no version 1 code.
abbrev pub RefusesExtraction : List ItemTree → Option ℕ → ExtractionRefusal → Type 0
RefusesExtraction items main refusal = RefusesCodeBy code_of items main refusal

abbrev pub RefusesFirstCode : List ItemTree → Option ℕ → ExtractionRefusal → Type 0
RefusesFirstCode items main refusal = RefusesCodeBy first_code items main refusal

-- The number of main, where it has one, is that of a value of the file.
abbrev pub IsOfVal : List ProgramVal → Option ℕ → Type 0
IsOfVal vals None = Unit {0}
IsOfVal vals (Some number) = number < length vals
