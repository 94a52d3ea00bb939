-- The runs of the worked files meet their triples.
use Rattle.std.proofs.Common.{ℕ, List, [], All, refl}
use Rattle.std.specs.Prelude.{◌≢◌}
use Rattle.theory_values.specs.Values.{IsWord}
use Rattle.theory_values.specs.Heaps.{Heap, IsHeap, empty_heap}
use Rattle.theory_values.proofs.Joins.{join_of_empty, join_commutes}
use Rattle.theory_truth.specs.Truth.{Holds}
use Rattle.theory_meaning.specs.Closures.{RunValue, done, fault}
use Rattle.theory_triples.specs.Triples.{run_of_val}
use Rattle.theory_file_derived.specs.Derived.{texts_of}
use Rattle.theory_file_variants.specs.Variants.{impossible}
use Rattle.theory_file_sound.proofs.Sound.{derived_sound}
use Rattle.theory_file_calls.specs.Parts.{triple_of}
use Rattle.theory_file_calls.specs.Calls.{counted, counted_proofs, counted_env}
use Rattle.theory_file_calls.specs.Takers.{takers, taker_proofs, taker_env}
use Rattle.theory_file_calls.specs.Endless.{endless, endless_proofs, endless_env}
use Rattle.theory_file_calls.proofs.Calls.{calls}
use Rattle.theory_file_calls.proofs.Takers.{taken}
use Rattle.theory_file_calls.proofs.Endless.{without_harm}
use Rattle.theory_file_recursion.specs.Doubling.{doubling_file, doubling_proofs, doubling_env, gives_twice_two}
use Rattle.theory_file_recursion.proofs.Doubling.{recursion}
use Rattle.theory_file_runs.specs.Runs.{IsMet, WorkedRuns}

endless_is_met : IsMet [] endless 1 impossible
endless_is_met = derived_sound.triples endless endless_proofs endless_env without_harm.derived 1 impossible refl

never_ends : (fuel : ℕ) (cs : List ℕ)
    → All IsWord cs
    → (h : Heap)
    → IsHeap h
    → (v : RunValue) (left : Heap) (rest : List ℕ)
    → run_of_val (texts_of endless) 1 fuel cs h ≢ done v left rest
unfolding Holds
never_ends fuel cs words h heap v left rest = λ q.
    let m = endless_is_met fuel cs words h empty_heap in
    let a = m.ends_so h heap (join_commutes (join_of_empty h)) tt v left rest q in
    a.post

never_faults : (fuel : ℕ) (cs : List ℕ) → All IsWord cs → (h : Heap) → IsHeap h → run_of_val (texts_of endless) 1 fuel cs h ≢ fault
unfolding Holds
never_faults fuel cs words h heap = let m = endless_is_met fuel cs words h empty_heap in m.no_fault h heap (join_commutes (join_of_empty h)) tt

pub worked : WorkedRuns
worked = record {
  three = derived_sound.triples counted counted_proofs counted_env calls.derived 2 (triple_of 3) refl;
  main_of_takers = derived_sound.triples takers taker_proofs taker_env taken.derived 2 (triple_of 2) refl;
  main_of_doubling = derived_sound.triples doubling_file doubling_proofs doubling_env recursion.derived 1 gives_twice_two refl;
  never_ends = never_ends;
  never_faults = never_faults;
}
