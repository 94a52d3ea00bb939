-- The code of a derived file does what its run does, and this meets main's triple.
use Rattle.std.proofs.Common.{◌≡◌, ◌≢◌, ◌≤◌, ◌<◌, ◌^◌, ◌+◌, ◌⊎◌, ℕ, zero, suc, List, [], ◌∷◌, All, Some, None, slice_get, inl, inr, refl, sym, ap, ◌∙◌, subst, arith}
use Rattle.std.proofs.lemmas.List.Elements.{All-nil, All-cons}
use Rattle.htt_syntax_words.specs.declared.words.Kind.{Kind}
use Rattle.htt_syntax.specs.Trees.{TripleTree, FormulaTree, triple, y_hoare}
use Rattle.theory_values.specs.Values.{Value, IsWord, encoding}
use Rattle.theory_values.specs.Heaps.{Heap, InUse, IsHeap, IsJoin, empty_heap}
use Rattle.theory_values.proofs.Joins.{join_of_empty, join_commutes, join_with_empty, empty_is_heap}
use Rattle.theory_truth.specs.Worlds.{th_heap}
use Rattle.theory_truth.specs.Truth.{Holds}
use Rattle.theory_truth.specs.Predicates.{RecTree, recs_of}
use Rattle.theory_meaning.specs.Closures.{base}
use Rattle.theory_meaning.specs.Choices.{numbers_from, AreShipped}
use Rattle.theory_triples.specs.Triples.{PreHolds, PostHolds, MeetsTriple, run_of_val}
use Rattle.word_loader_code.specs.declared.code.Code.{Code}
use Rattle.word_loader_code.specs.Laws.{Asks}
use Rattle.word_loader_code.specs.Machine.{Machine, going, halted, faulted, asking, machine_after}
use Rattle.word_loader_code.specs.Valid.{IsValid}
use Rattle.theory_machine.proofs.Supplied.{shipped_choices_suffice_lem}
use Rattle.theory_typing.specs.Contexts.{Environment}
use Rattle.theory_items.specs.Items.{ItemTree}
use Rattle.theory_file_derived.specs.Derived.{ProofItem, IsDerived, texts_of}
use Rattle.theory_file_sound.proofs.Sound.{derived_sound}
use Rattle.theory_emitted.specs.Laws.{CodeHalts}
use Rattle.theory_extraction.specs.Extraction.{HasCode}
use Rattle.theory_extraction_faithful.specs.Laws.{TextEnds, NeverFaults}
use Rattle.theory_extraction_faithful.proofs.Faithful.{faithful}
use Rattle.theory_extraction_valid.proofs.Valid.{code_is_valid}
use Rattle.theory_extraction_sound.specs.Outcomes.{HaltIsRight, IsSoundFrom, StartsEmpty, ReturnIsRight, GoesOnOrReturns}
use Rattle.theory_extraction_sound.specs.Laws.{ExtractedCodeIsSound}
use Rattle.theory_extraction_sound.proofs.Main.{main_of}

-- ---- from the empty heap

none_is_some : {A : Type 0} {x : A} → None ≡ Some x → ⊥
none_is_some q = cc

same_base : {v u : Value} → base v ≡ base u → v ≡ u
same_base q = cc

empty_begins : (table : List RecTree) (spec : TripleTree) → StartsEmpty spec → PreHolds table spec empty_heap
unfolding Holds
empty_begins table (triple pre mono post) (inl q) =
    subst (λ (f : FormulaTree). Holds (recs_of table) (th_heap empty_heap ∷ []) f) (sym q) (record { each = λ l. refl })
empty_begins table (triple pre mono post) (inr q) =
    subst (λ (f : FormulaTree). Holds (recs_of table) (th_heap empty_heap ∷ []) f) (sym q) tt

words_from : (first count : ℕ) → first + count ≤ 2 ^ 64 → All IsWord (numbers_from first count)
words_from first zero l = All-nil IsWord
words_from first (suc count) l =
    All-cons IsWord first (numbers_from (suc first) count) (omega (arith, l)) (words_from (suc first) count (omega (arith, l)))

shipped_are_words : (count : ℕ) (choices : List ℕ) → count < 2 ^ 64 → AreShipped empty_heap count choices → All IsWord choices
shipped_are_words count choices few s = by s.greatest s.in_order s.is_greatest.in_use_or_zero
  where
    by : (g : ℕ) → choices ≡ numbers_from (suc g) count → InUse empty_heap g ⊎ (g ≡ zero) → All IsWord choices
    by g q (inl used) = absurd (none_is_some (used.1))
    by g q (inr zero_is) =
        subst (All IsWord) (sym (q ∙ ap (λ n. numbers_from (suc n) count) zero_is)) (words_from 1 count (omega (arith, few)))

-- what is left beside nothing is all
return_right : (table : List RecTree) (spec : TripleTree) (words : List ℕ) (g : Heap)
    → HaltIsRight table spec empty_heap empty_heap words g
    → ReturnIsRight table spec words g
return_right table spec words g r =
    let l = r.leaves in
    let same = join_with_empty (join_commutes l.parts) (record { each = λ n. refl }) in
    let is : l.own ≡ g = λ j n. sym (same.each n) j in
    record {
      value = l.value;
      words_are = r.words_are ∙ ap encoding (same_base l.is_value);
      typed = l.typed;
      is_heap = subst IsHeap is l.own_is_heap;
      post = subst (λ (x : Heap). PostHolds table spec l.value empty_heap x) is l.post;
    }

-- ---- from each heap

sound_from : (items : List ItemTree) (proofs : List ProofItem) (final : Environment) (main : ℕ) (spec : TripleTree) (code : Code)
    → IsDerived items proofs final
    → HasCode items (Some main) code
    → slice_get final.vals main ≡ Some (y_hoare spec)
    → (choices : List ℕ)
    → All IsWord choices
    → (whole h k : Heap)
    → IsHeap whole
    → IsJoin whole h k
    → PreHolds final.recs spec h
    → IsSoundFrom items main code final.recs spec choices whole h k
sound_from items proofs final main spec code d c q choices words whole h k heap join pre =
    let meets : (fuel : ℕ) → MeetsTriple final.recs spec (run_of_val (texts_of items) main fuel choices) h k =
    λ fuel. derived_sound.triples items proofs final d main spec q fuel choices words h k in
    let f = faithful.code items main code c whole choices in
    let never : NeverFaults items main whole choices = λ fuel. (meets fuel).no_fault whole heap join pre in
    record {
      never_faults = f.never never;
      halts = f.halts never;
      asks = f.asks never;
      leaves = λ result g a.
          let e : TextEnds items main whole choices result g = (f.halts never result g).0 a in
          record { value = e.1; words_are = e.4; leaves = (meets (e.0)).ends_so whole heap join pre (base (e.1)) g (e.2) (e.3) };
    }

pub code_is_sound : ExtractedCodeIsSound
code_is_sound = record {
  main_has_triple = λ items proofs final main code d c. let m = main_of d.derives c in (m.spec, m.typed);
  from_each_heap = sound_from;
  empty_is_begin = empty_begins;
  from_empty_heap = λ items proofs final main spec code checked d c q come starts count choices few shipped steps enough.
      let words = shipped_are_words count choices few shipped in
      let sound =
      sound_from items proofs final main spec code d c q choices words empty_heap empty_heap empty_heap empty_is_heap
      (join_of_empty empty_heap) (empty_begins final.recs spec starts) in
      let valid = (code_is_valid.second items checked (Some main) code come c).valid in
      returns final.recs spec code count choices steps valid shipped enough sound.never_faults sound.leaves;
}
  where
    returns : (table : List RecTree) (spec : TripleTree) (code : Code) (count : ℕ) (choices : List ℕ) (steps : ℕ)
        → IsValid code
        → AreShipped empty_heap count choices
        → steps ≤ count
        → ((n : ℕ) (kind : Kind) (l : ℕ) → machine_after code empty_heap choices n ≢ faulted kind l)
        → ((words : List ℕ) (g : Heap) → CodeHalts code empty_heap choices words g → HaltIsRight table spec empty_heap empty_heap words g)
        → GoesOnOrReturns table spec (machine_after code empty_heap choices steps)
    returns table spec code count choices steps valid shipped enough never leaves = by (machine_after code empty_heap choices steps) refl
      where
        by : (m : Machine) → machine_after code empty_heap choices steps ≡ m → GoesOnOrReturns table spec m
        by (going h stack left) e = tt
        by (halted words g) e = return_right table spec words g (leaves words g (steps, e))
        by (faulted kind l) e = absurd (never steps kind l e)
        by asking e = absurd (shipped_choices_suffice_lem code empty_heap count choices steps valid shipped enough (subst Asks (sym e) tt))
