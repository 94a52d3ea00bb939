-- The values of a file that is checked within the limits are narrow.
use Rattle.std.specs.Prelude.{ℕ, zero, List, Ok, Option}
use Rattle.theory_typing.specs.Laws.{none}
use Rattle.theory_items.specs.Items.{ItemTree}
use Rattle.theory_instances.specs.Calls.{ProgramVal}
use Rattle.theory_flat_narrow.specs.Laws.{IsNarrowProgram}
use Rattle.theory_extraction.specs.Extraction.{HasVals, program}
use Rattle.theory_checking_files.specs.Files.{CheckedAll, ItemsComeTo}

-- Items that come to an environment, and not to a stop, have passed each limit on the way.
abbrev pub CheckedFilesAreNarrow : Type 0
CheckedFilesAreNarrow =
    (items : List ItemTree) (k : CheckedAll) (vals : List ProgramVal) (main : Option ℕ)
    → ItemsComeTo zero none items (Ok k)
    → HasVals none items vals
    → IsNarrowProgram (program vals main)
