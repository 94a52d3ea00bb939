-- The code for a number: its bytes, and its end.
use Rattle.std.proofs.Common.{ℕ, zero, suc, ◌≡◌, ◌<◌, ◌≤◌, ◌^◌, List, [], ◌∷◌, refl, sym, ap, subst, ◌∙◌, arith, Some, None}
use Rattle.htt_syntax_words.specs.declared.words.Bound.{Bound}
use Rattle.htt_syntax_words.specs.declared.words.Kind.{Kind}
use Rattle.theory_values.specs.Heaps.{Heap, Block, InUse, empty_heap}
use Rattle.word_loader_code.specs.declared.code.Code.{Code}
use Rattle.word_loader_code.specs.Machine.{Machine, going, halted, faulted, bottom, step, after_steps, machine_after}
use Rattle.word_machine.specs.Runs.{StopsAt, EndsShipped}
use Rattle.word_machine.specs.declared.runs.End.{End}
use Rattle.htt_top.specs.Code.{form_code}
use Rattle.htt_top.proofs.EndLemmas.{over_in, stopped_by, fact_of, IsFact, fact_of_end}

at_start : (n : ℕ) (cs : List ℕ)
    → machine_after (form_code n) empty_heap cs 0 ≡ going empty_heap (bottom (record { function = 0; next = 0; locals = 0 ∷ [] })) cs
unfolding step after_steps
at_start n cs = refl

after_one : (n : ℕ) (cs : List ℕ)
    → machine_after (form_code n) empty_heap cs 1 ≡ going empty_heap (bottom (record { function = 0; next = 1; locals = n ∷ [] })) cs
unfolding step after_steps
after_one n cs = refl

after_two : (n : ℕ) (cs : List ℕ) → machine_after (form_code n) empty_heap cs 2 ≡ halted (n ∷ []) empty_heap
unfolding step after_steps
after_two n cs = refl

no_third : (k : ℕ) → suc (suc k) < 2 → ⊥
no_third k d = omega arith

two_steps : 2 ≤ 10000000
two_steps = omega arith

unstopped : (n : ℕ) (cs : List ℕ) (k : ℕ)
    → k < 2
    → (bound : Bound) (total : ℕ)
    → StopsAt (form_code n) (machine_after (form_code n) empty_heap cs k) bound total
    → ⊥
unstopped n cs zero d bound total h =
    let z : StopsAt (form_code n) (going empty_heap (bottom (record { function = 0; next = 0; locals = 0 ∷ [] })) cs) bound total =
    subst (λ (m : Machine). StopsAt (form_code n) m bound total) (at_start n cs) h in
    z
unstopped n cs (suc zero) d bound total h =
    let z : StopsAt (form_code n) (going empty_heap (bottom (record { function = 0; next = 1; locals = n ∷ [] })) cs) bound total =
    subst (λ (m : Machine). StopsAt (form_code n) m bound total) (after_one n cs) h in
    z
unstopped n cs (suc (suc k)) d bound total h = absurd (no_third k d)

pub halts : (n steps : ℕ) → 2 ≤ steps → (cs : List ℕ) → IsFact (form_code n) empty_heap cs steps (over_in (halted (n ∷ []) empty_heap))
halts n steps d cs = (record { count = 2; within = d; unstopped = unstopped n cs; there = after_two n cs }, tt)

-- the end of its run
pub value_end : (n : ℕ) (code : Code) (h : Heap) (end : End)
    → code ≡ form_code n
    → h ≡ empty_heap
    → EndsShipped code h 10000000 end
    → fact_of end ≡ over_in (halted (n ∷ []) empty_heap)
value_end n code h end e f x =
    fact_of_end (form_code n) empty_heap 10000000 end (over_in (halted (n ∷ []) empty_heap))
    (subst (λ (k : Heap). EndsShipped (form_code n) k 10000000 end) f (subst (λ (c : Code). EndsShipped c h 10000000 end) e x))
    (λ cs s. halts n 10000000 two_steps cs)

-- no location of the empty heap is in use
pub empty_is_low : (h : Heap) → h ≡ empty_heap → (l : ℕ) → InUse h l → l < 2 ^ 63
empty_is_low h e l used = absurd (none_is_no_block (sym (ap (λ (k : Heap). k l) e) ∙ used.1))
  where
    none_is_no_block : {b : Block} → None ≡ Some b → ⊥
    none_is_no_block e = cc

-- what the end is, and what it isn't
pub value_words : (n : ℕ) (words : List ℕ) (k : Heap) → over_in (halted words k) ≡ over_in (halted (n ∷ []) empty_heap) → words ≡ n ∷ []
value_words n words k e = cc

pub no_fault : (n : ℕ) (kind : Kind) (l : ℕ) → over_in (faulted kind l) ≡ over_in (halted (n ∷ []) empty_heap) → ⊥
no_fault n kind l e = cc

pub no_stop : (n : ℕ) (bound : Bound) (t : ℕ) → stopped_by bound t ≡ over_in (halted (n ∷ []) empty_heap) → ⊥
no_stop n bound t e = cc
