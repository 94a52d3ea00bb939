-- Emitted code has the outcomes of main's flat body, in both versions.
use Rattle.std.specs.Prelude.{◌≡◌, ◌≢◌, ◌↔◌, ℕ, List, [], Some, slice_get}
use Rattle.htt_syntax_words.specs.declared.words.Kind.{Kind}
use Rattle.theory_values.specs.Values.{Value, encoding}
use Rattle.theory_values.specs.Heaps.{Heap}
use Rattle.theory_denotation.specs.Outcomes.{ended, wrong, asking}
use Rattle.word_loader_code.specs.declared.code.Code.{Code}
use Rattle.word_loader_code.specs.Machine.{machine_after, halted, faulted, asking as machine_asking}
use Rattle.theory_instances.specs.Calls.{Program}
use Rattle.theory_flat.specs.Flat.{Instance, HasFlatInstances}
use Rattle.theory_flat.specs.Reading.{flat_run}
use Rattle.theory_emission.specs.Bodies.{Ending}
use Rattle.theory_emission.specs.Codes.{code_ended_by, first_code, code_of}
use Rattle.theory_flat_typed.specs.Typed.{AreTyped}
use Rattle.theory_emitted_bodies.specs.Laws.{LeavesFrame}

-- After some number of steps the code has halted with these words and this heap, or it asks.
abbrev pub CodeHalts : Code → Heap → List ℕ → List ℕ → Heap → Type 0
CodeHalts code h choices words k = (steps : ℕ) × (machine_after code h choices steps ≡ halted words k)

abbrev pub CodeAsks : Code → Heap → List ℕ → Type 0
CodeAsks code h choices = (steps : ℕ) × (machine_after code h choices steps ≡ machine_asking)

-- With some fuel main's flat body ends with a value of these words and this heap, or it asks.
abbrev pub FlatEnds : List Instance → Heap → List ℕ → List ℕ → Heap → Type 0
FlatEnds instances h choices words k =
    (n : ℕ) × (v : Value) × (left : List ℕ)
    × (flat_run instances n 0 [] h choices ≡ ended v k left)
    × (words ≡ encoding v)

abbrev pub FlatAsks : List Instance → Heap → List ℕ → Type 0
FlatAsks instances h choices = (n : ℕ) × (flat_run instances n 0 [] h choices ≡ asking)

-- With no fuel main's flat body goes wrong.
abbrev pub NeverWrong : List Instance → Heap → List ℕ → Type 0
NeverWrong instances h choices = (n : ℕ) → flat_run instances n 0 [] h choices ≢ wrong

-- From this heap with these choices the code has the outcomes of main's flat body.
pub record HasOutcomes (instances : List Instance) (code : Code) (h : Heap) (choices : List ℕ) : Type 0 where
  pub halts : NeverWrong instances h choices
      → (words : List ℕ) (k : Heap)
      → CodeHalts code h choices words k ↔ FlatEnds instances h choices words k
  pub asks : NeverWrong instances h choices → CodeAsks code h choices ↔ FlatAsks instances h choices
  -- whether it goes wrong elsewhere or not
  pub ends : (words : List ℕ) (k : Heap) → FlatEnds instances h choices words k → CodeHalts code h choices words k
  pub flat_asks : FlatAsks instances h choices → CodeAsks code h choices
  -- with as much fuel as the code has taken steps
  pub faults : (steps : ℕ) (kind : Kind) (l : ℕ)
      → machine_after code h choices steps ≡ faulted kind l
      → flat_run instances steps 0 [] h choices ≡ wrong

-- The first instance is main, and has no parameters. Version 1 code ends bodies in a return, and version 2
-- code has tail bodies.
abbrev pub MainIsEmitted : Type 0
MainIsEmitted =
    (instances : List Instance) (main : Instance) (version : ℕ) (ending : Ending)
    → AreTyped instances
    → slice_get instances 0 ≡ Some main
    → main.params ≡ []
    → LeavesFrame ending
    → (h : Heap) (choices : List ℕ)
    → HasOutcomes instances (code_ended_by version ending instances) h choices

-- The instances of a program, where they are typed.
pub record ProgramsAreEmitted : Type 0 where
  pub second : (p : Program) (instances : List Instance) (h : Heap) (choices : List ℕ)
      → HasFlatInstances p instances
      → AreTyped instances
      → HasOutcomes instances (code_of instances) h choices
  pub first : (p : Program) (instances : List Instance) (h : Heap) (choices : List ℕ)
      → HasFlatInstances p instances
      → AreTyped instances
      → HasOutcomes instances (first_code instances) h choices
