-- A canonical program has a list of instances, with flat bodies, or a reason why it has none; and where the values
-- of a file derive, it has code or a reason why it has none, of each version.
use Rattle.std.specs.Prelude.{ℕ, List, Option, ◌⊎◌}
use Rattle.word_loader_code.specs.declared.code.Code.{Code}
use Rattle.theory_typing.specs.Laws.{none}
use Rattle.theory_items.specs.Items.{ItemTree}
use Rattle.theory_instances.specs.Calls.{ProgramVal, Program}
use Rattle.theory_instances.specs.Keys.{Key}
use Rattle.theory_instances.specs.Lists.{Taken, HasInstances, Refusal, RefusesInstances}
use Rattle.theory_instances_canonical.specs.Keys.{IsCanonicalProgram}
use Rattle.theory_flat.specs.Flat.{Instance, AreFlat}
use Rattle.theory_extraction.specs.Extraction.{HasVals, HasCodeBy, ExtractionRefusal, RefusesCodeBy, IsOfVal}

pub record ProgramsAreDecided : Type 0 where
  pub lists : (p : Program)
      → IsCanonicalProgram p
      → IsOfVal p.vals p.main
      → ((taken : List Taken) × (keys : List Key) × HasInstances p taken keys)
      ⊎ ((refusal : Refusal) × RefusesInstances p refusal)
  pub flat_bodies : (p : Program) (taken : List Taken) (keys : List Key)
      → IsCanonicalProgram p
      → HasInstances p taken keys
      → (instances : List Instance) × AreFlat p keys taken instances

-- Of the code that instances are written as.
abbrev pub ExtractionIsDecided : (List Instance → Code) → Type 0
ExtractionIsDecided written =
    (items : List ItemTree) (vals : List ProgramVal) (main : Option ℕ)
    → HasVals none items vals
    → IsOfVal vals main
    → ((code : Code) × HasCodeBy written items main code)
    ⊎ ((refusal : ExtractionRefusal) × RefusesCodeBy written items main refusal)
