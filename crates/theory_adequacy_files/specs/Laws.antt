-- A file's texts and the canonical terms of its values come to the same.
use Rattle.std.specs.Prelude.{◌≡◌, ◌≢◌, ◌↔◌, ℕ, List, [], ◌∷◌, Some, slice_get}
use Rattle.htt_syntax.specs.Trees.{TripleTree, y_hoare}
use Rattle.theory_values.specs.Values.{Value}
use Rattle.theory_values.specs.Heaps.{Heap}
use Rattle.theory_meaning.specs.Closures.{RunValue, base, done}
use Rattle.theory_triples.specs.Triples.{run_of_val}
use Rattle.theory_canonical.specs.Skeletons.{sk_c, skeleton}
use Rattle.theory_typing.specs.Laws.{none}
use Rattle.theory_items.specs.Items.{ItemTree}
use Rattle.theory_denotation.specs.Outcomes.{Outcome, out_of_fuel}
use Rattle.theory_denotation.specs.Valuations.{HeadEntries}
use Rattle.theory_denotation.specs.Denotation.{term_den, ValTree, heads_of_vals}
use Rattle.theory_denotation.specs.Satisfaction.{answer_mono}
use Rattle.theory_denotation.specs.Laws.{run_result}
use Rattle.theory_meaning_simulation.specs.Simulation.{Shaped}
use Rattle.theory_file_derived.specs.Derived.{texts_of}
use Rattle.theory_instances.specs.Calls.{ProgramVal}
use Rattle.theory_extraction.specs.Extraction.{HasVals}
use Rattle.theory_adequacy.specs.Adequacy.{ValRealises}

-- The canonical terms of values, with the skeletons of their types, and what they denote.
abbrev pub trees_of : List ProgramVal → List ValTree
trees_of [] = []
trees_of (v ∷ vals) = record { term = v.term; skeleton = skeleton v.ty } ∷ trees_of vals

abbrev pub entries_of : List ProgramVal → HeadEntries
entries_of vals = heads_of_vals (trees_of vals)

-- Of the values of a file whose items derive. No proof is needed, and no obligation has to be true.
pub record FilesAreAdequate : Type 0 where
  -- the text of each realises its entry
  pub values : (items : List ItemTree) (vals : List ProgramVal)
      → HasVals none items vals
      → (number : ℕ) (v : ProgramVal)
      → slice_get vals number ≡ Some v
      → ValRealises (texts_of items) (entries_of vals) number v.ty
  -- the run of the text of one whose type is a triple has the outcomes of its canonical term, each for
  -- some fuel
  pub outcomes : (items : List ItemTree) (vals : List ProgramVal)
      → HasVals none items vals
      → (number : ℕ) (v : ProgramVal) (spec : TripleTree)
      → slice_get vals number ≡ Some v
      → v.ty ≡ y_hoare spec
      → (h : Heap) (cs : List ℕ) (end : Outcome)
      → end ≢ out_of_fuel
      → ((fuel : ℕ) × (run_of_val (texts_of items) number fuel cs h ≡ run_result end))
      ↔ ((n : ℕ) × (term_den (entries_of vals) [] v.term sk_c n h cs ≡ end))
  -- what the run of such a text is done with is a value of the form of the triple's monotype
  pub results : (items : List ItemTree) (vals : List ProgramVal)
      → HasVals none items vals
      → (number : ℕ) (v : ProgramVal) (spec : TripleTree)
      → slice_get vals number ≡ Some v
      → v.ty ≡ y_hoare spec
      → (h : Heap) (cs : List ℕ) (fuel : ℕ) (result : RunValue) (k : Heap) (left : List ℕ)
      → run_of_val (texts_of items) number fuel cs h ≡ done result k left
      → (x : Value) × (result ≡ base x) × Shaped x (answer_mono [] spec)
