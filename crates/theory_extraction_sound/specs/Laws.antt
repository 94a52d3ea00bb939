-- The code of a derived file is sound. Names aren't looked up here: `main` is the number of the value that is
-- called so.
use Rattle.std.specs.Prelude.{◌≡◌, ◌≤◌, ◌<◌, ◌^◌, ℕ, zero, List, All, Ok, Some, slice_get}
use Rattle.htt_syntax.specs.Trees.{TripleTree, y_hoare}
use Rattle.theory_values.specs.Values.{IsWord}
use Rattle.theory_values.specs.Heaps.{Heap, IsHeap, IsJoin, empty_heap}
use Rattle.theory_truth.specs.Predicates.{RecTree}
use Rattle.theory_meaning.specs.Choices.{AreShipped}
use Rattle.theory_triples.specs.Triples.{PreHolds}
use Rattle.word_loader_code.specs.declared.code.Code.{Code}
use Rattle.word_loader_code.specs.Machine.{machine_after}
use Rattle.theory_typing.specs.Contexts.{Environment}
use Rattle.theory_typing.specs.Laws.{none}
use Rattle.theory_items.specs.Items.{ItemTree}
use Rattle.theory_file_derived.specs.Derived.{ProofItem, IsDerived}
use Rattle.theory_extraction.specs.Extraction.{HasCode}
use Rattle.theory_checking_files.specs.Files.{CheckedAll, ItemsComeTo}
use Rattle.theory_extraction_sound.specs.Outcomes.{IsSoundFrom, StartsEmpty, GoesOnOrReturns}

pub record ExtractedCodeIsSound : Type 0 where
  -- where a derived file has code, main is one of its values, and its type is a triple
  pub main_has_triple : (items : List ItemTree) (proofs : List ProofItem) (final : Environment) (main : ℕ) (code : Code)
      → IsDerived items proofs final
      → HasCode items (Some main) code
      → (spec : TripleTree) × (slice_get final.vals main ≡ Some (y_hoare spec))
  -- from each heap that is the union of a part which meets main's precondition, and another part, with all
  -- choices that are words
  pub from_each_heap : (items : List ItemTree) (proofs : List ProofItem) (final : Environment) (main : ℕ)
      (spec : TripleTree) (code : Code)
      → IsDerived items proofs final
      → HasCode items (Some main) code
      → slice_get final.vals main ≡ Some (y_hoare spec)
      → (choices : List ℕ)
      → All IsWord choices
      → (whole h k : Heap)
      → IsHeap whole
      → IsJoin whole h k
      → PreHolds final.recs spec h
      → IsSoundFrom items main code final.recs spec choices whole h k
  -- the empty heap meets such a precondition
  pub empty_is_begin : (table : List RecTree) (spec : TripleTree) → StartsEmpty spec → PreHolds table spec empty_heap
  -- from the empty heap, with the shipped choices, of which there are as many as steps and no more than there
  -- are words, where the file was checked within the limits
  pub from_empty_heap : (items : List ItemTree) (proofs : List ProofItem) (final : Environment) (main : ℕ)
      (spec : TripleTree) (code : Code) (checked : CheckedAll)
      → IsDerived items proofs final
      → HasCode items (Some main) code
      → slice_get final.vals main ≡ Some (y_hoare spec)
      → ItemsComeTo zero none items (Ok checked)
      → StartsEmpty spec
      → (count : ℕ) (choices : List ℕ)
      → count < 2 ^ 64
      → AreShipped empty_heap count choices
      → (steps : ℕ)
      → steps ≤ count
      → GoesOnOrReturns final.recs spec (machine_after code empty_heap choices steps)
