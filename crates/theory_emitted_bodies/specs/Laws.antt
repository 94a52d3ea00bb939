-- The emitted code of an instance does what its flat body does.
use Rattle.std.specs.Prelude.{◌≡◌, ℕ, suc, List, Some, slice_get}
use Rattle.theory_values.specs.Values.{Value}
use Rattle.theory_values.specs.Heaps.{Heap}
use Rattle.word_loader_code.specs.Machine.{Stack}
use Rattle.theory_flat.specs.Flat.{Instance}
use Rattle.theory_flat.specs.Reading.{flat_run}
use Rattle.theory_emission.specs.Bodies.{Ending, is_held, emit_instance}
use Rattle.theory_emission.specs.Codes.{code_ended_by}
use Rattle.theory_emitted_terms.specs.Layouts.{HaveLayouts}
use Rattle.theory_flat_typed.specs.Typed.{AreTyped}
use Rattle.theory_emitted_bodies.specs.Comes.{ComesTo, Returns, entered_for}

-- A body that is ended so is left at its end.
abbrev pub LeavesFrame : Ending → Type 0
LeavesFrame is_held = ⊥
LeavesFrame ending = Unit {0}

-- In both versions, from any stack.
abbrev pub BodiesAreEmitted : Type 0
BodiesAreEmitted =
    (instances : List Instance) (version : ℕ) (ending : Ending)
    → AreTyped instances
    → LeavesFrame ending
    → (number : ℕ) (instance : Instance) (vs : List Value)
    → slice_get instances number ≡ Some instance
    → HaveLayouts vs instance.params
    → (n : ℕ) (h : Heap) (stack : Stack) (choices : List ℕ)
    → ComesTo (code_ended_by version ending instances) (suc n) (Returns stack instance.result)
    (entered_for number (emit_instance instances ending instance) vs h stack choices)
    (flat_run instances n number vs h choices)
