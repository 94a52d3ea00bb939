-- Migrated code is valid, and from each heap with each list of choices it comes to what the old code comes to,
-- each after some number of steps.
use Rattle.std.specs.Prelude.{◌≡◌, ◌↔◌, ℕ, List}
use Rattle.theory_values.specs.Heaps.{Heap}
use Rattle.word_loader_code.specs.declared.code.Code.{Code}
use Rattle.word_loader_code.specs.Valid.{IsValid}
use Rattle.word_loader_code.specs.Machine.{Machine, machine_after}
use Rattle.word_loader_code.specs.Laws.{IsOver}
use Rattle.theory_migration.specs.Migration.{retailed}

abbrev pub MigratedIsValid : Type 0
MigratedIsValid = (code : Code) → IsValid code → IsValid (retailed code)

-- The machine is over in this state after some number of steps.
abbrev pub ComesTo : Code → Heap → List ℕ → Machine → Type 0
ComesTo code h choices machine = (n : ℕ) × (machine_after code h choices n ≡ machine)

-- halted with words and a heap, faulted with a kind and a location, or asking
abbrev pub MigratedDoesTheSame : Type 0
MigratedDoesTheSame =
    (code : Code) (h : Heap) (choices : List ℕ) (machine : Machine)
    → IsValid code
    → IsOver machine
    → ComesTo (retailed code) h choices machine ↔ ComesTo code h choices machine
