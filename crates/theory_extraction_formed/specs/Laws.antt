-- Where the items of a file derive, its program is formed and canonical, and the flat bodies of its instances
-- are typed. No proof is needed.
use Rattle.std.specs.Prelude.{ℕ, List, Option}
use Rattle.htt_syntax.specs.Trees.{MonoTree}
use Rattle.theory_typing.specs.Laws.{none}
use Rattle.theory_items.specs.Items.{ItemTree}
use Rattle.theory_instances.specs.Calls.{ProgramVal}
use Rattle.theory_instances_formed.specs.Formed.{IsFormedProgram}
use Rattle.theory_instances_canonical.specs.Keys.{IsCanonicalProgram}
use Rattle.theory_flat.specs.Flat.{Instance, HasFlatInstances}
use Rattle.theory_flat_typed.specs.Typed.{AreTyped}
use Rattle.theory_extraction.specs.Extraction.{HasVals, program}

pub record FileProgramsAreFormed : Type 0 where
  -- with the parameters of the file's recursive predicates
  pub formed : (items : List ItemTree) (vals : List ProgramVal) (main : Option ℕ)
      → HasVals none items vals
      → (recs : List (List MonoTree)) × IsFormedProgram recs (program vals main)
  pub canonical : (items : List ItemTree) (vals : List ProgramVal) (main : Option ℕ)
      → HasVals none items vals
      → IsCanonicalProgram (program vals main)

abbrev pub FileProgramsAreTyped : Type 0
FileProgramsAreTyped =
    (items : List ItemTree) (vals : List ProgramVal) (main : Option ℕ) (instances : List Instance)
    → HasVals none items vals
    → HasFlatInstances (program vals main) instances
    → AreTyped instances
