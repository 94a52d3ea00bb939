-- A derived file is sound.
use Rattle.std.specs.Prelude.{◌≡◌, ℕ, List, All, Some, slice_get}
use Rattle.htt_syntax.specs.Trees.{TripleTree, y_hoare}
use Rattle.theory_values.specs.Values.{IsWord}
use Rattle.theory_values.specs.Heaps.{Heap}
use Rattle.theory_triples.specs.Triples.{MeetsTriple, run_of_val}
use Rattle.theory_typing.specs.Contexts.{Environment}
use Rattle.theory_items.specs.Items.{ItemTree}
use Rattle.theory_items_sound.specs.Environments.{SoundEnvironment}
use Rattle.theory_file_derived.specs.Derived.{ProofItem, IsDerived, texts_of}

pub record DerivedFileIsSound : Type 0 where
  pub environment : (items : List ItemTree) (proofs : List ProofItem) (final : Environment)
      → IsDerived items proofs final
      → SoundEnvironment final
  -- the value of this number, `main` or another
  pub triples : (items : List ItemTree) (proofs : List ProofItem) (final : Environment)
      → IsDerived items proofs final
      → (number : ℕ) (spec : TripleTree)
      → slice_get final.vals number ≡ Some (y_hoare spec)
      → (fuel : ℕ) (cs : List ℕ)
      → All IsWord cs
      → (h k : Heap)
      → MeetsTriple final.recs spec (run_of_val (texts_of items) number fuel cs) h k
