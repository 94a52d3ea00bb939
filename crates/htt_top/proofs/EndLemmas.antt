-- A run has one end.
use Rattle.std.proofs.Common.{ℕ, suc, ◌≡◌, ◌+◌, ◌-◌, ◌<◌, ◌≤◌, ◌⊎◌, List, Option, Some, None, Ok, Err, refl, sym, ap, subst, ◌∙◌, arith, ⊎_elim, inl, inr}
use Rattle.std.proofs.lemmas.Bool.{cases_lt}
use Rattle.htt_syntax_words.specs.declared.words.Bound.{Bound}
use Rattle.htt_syntax_words.specs.declared.words.Bound.TheVariants.{Step, Frame, Heap as HeapBound, Fuel, Turns}
use Rattle.theory_values.specs.Heaps.{Heap}
use Rattle.theory_meaning.specs.Choices.{AreShipped, numbers_from}
use Rattle.theory_meaning.proofs.Shipped.{suffices}
use Rattle.heap_model_flat.specs.Blocks.{blocks_of}
use Rattle.heap_model_flat.proofs.ChangedListing.{listing_laws}
use Rattle.word_loader_code.specs.declared.code.Code.{Code}
use Rattle.word_loader_code.specs.declared.code.Function.{Function}
use Rattle.word_loader_code.specs.declared.code.Instr.{Instr}
use Rattle.word_loader_code.specs.declared.code.Instr.TheVariants.{Const, Mov, Op, Sel, Alloc, Get, Set, Free, Jump, Jz, Call, Ret, Tail}
use Rattle.word_loader_code.specs.Machine.{Machine as State, Stack, going, halted, faulted, asking, machine_after}
use Rattle.word_loader_code.specs.Laws.{IsOver}
use Rattle.word_loader_code.proofs.Steps.{over_is_final_lem}
use Rattle.theory_machine.specs.Fits.{next_instr}
use Rattle.word_machine.specs.Steps.{IsGoing}
use Rattle.word_machine.specs.Runs.{PassesFrames, PassesHeap, PassesLimit, StopsAt, Reaches, IsStopped, UsesSteps, EndsAs, EndsShipped}
use Rattle.word_machine.specs.declared.runs.End.{End}
use Rattle.word_machine.specs.declared.runs.End.TheVariants as ends
use Rattle.htt_top_answers.specs.declared.answer.Refusal.TheVariants.{Fault, Stopped, NoMemory}
use Rattle.htt_top_answers.specs.Answers.{Answer, halt}
use Rattle.htt_top.specs.Stages.{answer_of_end}

-- numbers alone, so that no tactic reads a run
sum_back : (n m : ℕ) → n ≤ m → n + (m - n) ≡ m
sum_back n m d = omega arith

at_most : (n m : ℕ) → n < m → n ≤ m
at_most n m d = omega arith

between : (n m : ℕ) → n ≤ m → m ≤ n → n ≡ m
between n m d f = omega arith

-- ---- an instruction passes one limit, with one total

frames_agree : (f : Option Function) (others t u : ℕ) → PassesFrames f others t → PassesFrames f others u → t ≡ u
frames_agree None others t u p q = absurd p
frames_agree (Some f) others t u p q = p.0 ∙ sym q.0

heap_agrees : (h : Heap) (n t u : ℕ) → PassesHeap h n t → PassesHeap h n u → t ≡ u
heap_agrees h n t u p q = let s : p.0 ≡ q.0 = listing_laws.sizes_agree h p.0 q.0 p.1 q.1 in p.2 ∙ ap (λ (m : ℕ). m + (n + 1)) s ∙ sym q.2

passes_agree : (code : Code) (h : Heap) (stack : Stack) (instr : Option Instr) (b c : Bound) (t u : ℕ)
    → PassesLimit code h stack instr b t
    → PassesLimit code h stack instr c u
    → (b ≡ c) × (t ≡ u)
passes_agree code h stack (Some (Call g a d)) Frame Frame t u p q = (refl, frames_agree _ _ t u p q)
passes_agree code h stack (Some (Tail g a)) Frame Frame t u p q = (refl, frames_agree _ _ t u p q)
passes_agree code h stack (Some (Alloc d s n)) HeapBound HeapBound t u p q = (refl, heap_agrees h n t u p q)
passes_agree code h stack (Some (Call g a d)) Frame Step t u p q = absurd q
passes_agree code h stack (Some (Call g a d)) Frame HeapBound t u p q = absurd q
passes_agree code h stack (Some (Call g a d)) Frame Fuel t u p q = absurd q
passes_agree code h stack (Some (Call g a d)) Frame Turns t u p q = absurd q
passes_agree code h stack (Some (Call g a d)) Step c t u p q = absurd p
passes_agree code h stack (Some (Call g a d)) HeapBound c t u p q = absurd p
passes_agree code h stack (Some (Call g a d)) Fuel c t u p q = absurd p
passes_agree code h stack (Some (Call g a d)) Turns c t u p q = absurd p
passes_agree code h stack (Some (Tail g a)) Frame Step t u p q = absurd q
passes_agree code h stack (Some (Tail g a)) Frame HeapBound t u p q = absurd q
passes_agree code h stack (Some (Tail g a)) Frame Fuel t u p q = absurd q
passes_agree code h stack (Some (Tail g a)) Frame Turns t u p q = absurd q
passes_agree code h stack (Some (Tail g a)) Step c t u p q = absurd p
passes_agree code h stack (Some (Tail g a)) HeapBound c t u p q = absurd p
passes_agree code h stack (Some (Tail g a)) Fuel c t u p q = absurd p
passes_agree code h stack (Some (Tail g a)) Turns c t u p q = absurd p
passes_agree code h stack (Some (Alloc d s n)) HeapBound Step t u p q = absurd q
passes_agree code h stack (Some (Alloc d s n)) HeapBound Frame t u p q = absurd q
passes_agree code h stack (Some (Alloc d s n)) HeapBound Fuel t u p q = absurd q
passes_agree code h stack (Some (Alloc d s n)) HeapBound Turns t u p q = absurd q
passes_agree code h stack (Some (Alloc d s n)) Step c t u p q = absurd p
passes_agree code h stack (Some (Alloc d s n)) Frame c t u p q = absurd p
passes_agree code h stack (Some (Alloc d s n)) Fuel c t u p q = absurd p
passes_agree code h stack (Some (Alloc d s n)) Turns c t u p q = absurd p
passes_agree code h stack (Some (Const d v)) b c t u p q = absurd p
passes_agree code h stack (Some (Mov d s n)) b c t u p q = absurd p
passes_agree code h stack (Some (Op d o x y)) b c t u p q = absurd p
passes_agree code h stack (Some (Sel d e x y n)) b c t u p q = absurd p
passes_agree code h stack (Some (Get d l n)) b c t u p q = absurd p
passes_agree code h stack (Some (Set l s n)) b c t u p q = absurd p
passes_agree code h stack (Some (Free l n)) b c t u p q = absurd p
passes_agree code h stack (Some (Jump target)) b c t u p q = absurd p
passes_agree code h stack (Some (Jz e target)) b c t u p q = absurd p
passes_agree code h stack (Some (Ret s)) b c t u p q = absurd p
passes_agree code h stack None b c t u p q = absurd p

stops_agree : (code : Code) (state : State) (b c : Bound) (t u : ℕ) → StopsAt code state b t → StopsAt code state c u → (b ≡ c) × (t ≡ u)
stops_agree code (going h stack choices) b c t u p q = passes_agree code h stack (next_instr code stack) b c t u p q
stops_agree code (halted words h) b c t u p q = absurd p
stops_agree code (faulted kind l) b c t u p q = absurd p
stops_agree code asking b c t u p q = absurd p

over_going : (s : State) → IsOver s → IsGoing s → ⊥
over_going (going h stack choices) o g = o
over_going (halted words h) o g = g
over_going (faulted kind l) o g = g
over_going asking o g = g

over_stops : (code : Code) (s : State) (b : Bound) (t : ℕ) → IsOver s → StopsAt code s b t → ⊥
over_stops code (going h stack choices) b t o p = o
over_stops code (halted words h) b t o p = p
over_stops code (faulted kind l) b t o p = p
over_stops code asking b t o p = p

-- ---- how a run ends: it is over in a state, or a limit stops it

pub data Fact : Type 0 where
  over_in : State → Fact
  stopped_by : Bound → ℕ → Fact

abbrev pub fact_of : End → Fact
fact_of (ends.Halted words k) = over_in (halted words (blocks_of k))
fact_of (ends.Fault kind l) = over_in (faulted kind l)
fact_of (ends.Stopped bound total) = stopped_by bound total

abbrev pub IsFact : Code → Heap → List ℕ → ℕ → Fact → Type 0
IsFact code h cs steps (over_in s) = Reaches code h cs steps s × IsOver s
IsFact code h cs steps (stopped_by b t) = IsStopped code h cs steps b t ⊎ ((b ≡ Step) × (t ≡ steps) × UsesSteps code h cs steps)

module _ (code : Code) (h : Heap) (cs : List ℕ) (steps : ℕ) where
  stays : (n m : ℕ) → n ≤ m → IsOver (machine_after code h cs n) → machine_after code h cs m ≡ machine_after code h cs n
  stays n m d o = subst (λ k. machine_after code h cs k ≡ machine_after code h cs n) (sum_back n m d) (over_is_final_lem code h cs n (m - n) o)

  over_there : (s : State) (n m : ℕ) → n ≤ m → machine_after code h cs n ≡ s → IsOver s → machine_after code h cs m ≡ s
  over_there s n m d e o = stays n m d (subst IsOver (sym e) o) ∙ e

  one_state : (s t : State) → Reaches code h cs steps s → Reaches code h cs steps t → IsOver s → IsOver t → s ≡ t
  one_state s t r q o p =
      ⊎_elim
      (λ (d : r.count < q.count). sym (over_there s r.count q.count (at_most r.count q.count d) r.there o) ∙ q.there)
      (λ (d : q.count ≤ r.count). sym r.there ∙ over_there t q.count r.count d q.there p)
      (cases_lt r.count q.count)

  reach_uses : (s : State) → Reaches code h cs steps s → IsOver s → UsesSteps code h cs steps → ⊥
  reach_uses s r o u = over_going s o (subst IsGoing (over_there s r.count steps r.within r.there o) u.going)

  reach_stop : (s : State) (b : Bound) (t : ℕ) → Reaches code h cs steps s → IsOver s → IsStopped code h cs steps b t → ⊥
  reach_stop s b t r o q =
      ⊎_elim
      (λ (d : q.count < r.count). r.unstopped q.count d b t q.stops)
      (λ (d : r.count ≤ q.count). over_stops code s b t o (subst (λ x. StopsAt code x b t) (over_there s r.count q.count d r.there o) q.stops))
      (cases_lt q.count r.count)

  stop_stop : (b c : Bound) (t u : ℕ) → IsStopped code h cs steps b t → IsStopped code h cs steps c u → (b ≡ c) × (t ≡ u)
  stop_stop b c t u p q =
      ⊎_elim
      (λ (d : p.count < q.count). absurd (q.unstopped p.count d b t p.stops))
      (λ (d : q.count ≤ p.count).
      ⊎_elim
      (λ (f : q.count < p.count). absurd (p.unstopped q.count f c u q.stops))
      (λ (f : p.count ≤ q.count).
      stops_agree code (machine_after code h cs p.count) b c t u p.stops
      (subst (λ k. StopsAt code (machine_after code h cs k) c u) (between q.count p.count d f) q.stops))
      (cases_lt q.count p.count))
      (cases_lt p.count q.count)

  stop_uses : (b : Bound) (t : ℕ) → IsStopped code h cs steps b t → UsesSteps code h cs steps → ⊥
  stop_uses b t p u = u.unstopped p.count p.within b t p.stops

  pub facts_agree : (f g : Fact) → IsFact code h cs steps f → IsFact code h cs steps g → f ≡ g
  facts_agree (over_in s) (over_in t) p q = ap over_in (one_state s t p.0 q.0 p.1 q.1)
  facts_agree (over_in s) (stopped_by b t) p q =
      absurd (⊎_elim (λ (x : IsStopped code h cs steps b t). reach_stop s b t p.0 p.1 x)
      (λ (x : (b ≡ Step) × (t ≡ steps) × UsesSteps code h cs steps). reach_uses s p.0 p.1 x.2) q)
  facts_agree (stopped_by b t) (over_in s) p q =
      absurd (⊎_elim (λ (x : IsStopped code h cs steps b t). reach_stop s b t q.0 q.1 x)
      (λ (x : (b ≡ Step) × (t ≡ steps) × UsesSteps code h cs steps). reach_uses s q.0 q.1 x.2) p)
  facts_agree (stopped_by b t) (stopped_by c u) p q =
      ⊎_elim
      (λ (x : IsStopped code h cs steps b t).
      ⊎_elim
      (λ (y : IsStopped code h cs steps c u). let e = stop_stop b c t u x y in λ j. stopped_by (e.0 j) (e.1 j))
      (λ (y : (c ≡ Step) × (u ≡ steps) × UsesSteps code h cs steps). absurd (stop_uses b t x y.2))
      q)
      (λ (x : (b ≡ Step) × (t ≡ steps) × UsesSteps code h cs steps).
      ⊎_elim
      (λ (y : IsStopped code h cs steps c u). absurd (stop_uses c u y x.2))
      (λ (y : (c ≡ Step) × (u ≡ steps) × UsesSteps code h cs steps). λ j. stopped_by ((x.0 ∙ sym y.0) j) ((x.1 ∙ sym y.1) j))
      q)
      p

  pub fact_holds : (e : End) → EndsAs code h cs steps e → IsFact code h cs steps (fact_of e)
  fact_holds (ends.Halted words k) r = (r, tt)
  fact_holds (ends.Fault kind l) r = (r, tt)
  fact_holds (ends.Stopped Step t) p = inr (refl, p.0, p.1)
  fact_holds (ends.Stopped Frame t) p = inl p
  fact_holds (ends.Stopped HeapBound t) p = inl p
  fact_holds (ends.Stopped Fuel t) p = inl p
  fact_holds (ends.Stopped Turns t) p = inl p

one_choice : (h : Heap) (n : ℕ) (cs ds : List ℕ) → AreShipped h n cs → AreShipped h n ds → cs ≡ ds
one_choice h n cs ds p q =
    p.in_order
    ∙ ap (λ (g : ℕ). numbers_from (suc g) n) (suffices.greatest_is_one h p.greatest q.greatest p.is_greatest q.is_greatest)
    ∙ sym q.in_order

-- the end is that of each fact of the run
pub fact_of_end : (code : Code) (h : Heap) (steps : ℕ) (e : End) (f : Fact)
    → EndsShipped code h steps e
    → ((cs : List ℕ) → AreShipped h steps cs → IsFact code h cs steps f)
    → fact_of e ≡ f
fact_of_end code h steps e f x holds = facts_agree code h x.0 steps (fact_of e) f (fact_holds code h x.0 steps e x.2) (holds x.0 x.1)

pub one_fact : (code : Code) (h : Heap) (steps : ℕ) (a b : End) → EndsShipped code h steps a → EndsShipped code h steps b → fact_of a ≡ fact_of b
one_fact code h steps a b x y =
    fact_of_end code h steps a (fact_of b) x
    (λ cs s. subst (λ ds. IsFact code h ds steps (fact_of b)) (one_choice h steps y.0 cs y.1 s) (fact_holds code h y.0 steps b y.2))

-- ---- as answers

abbrev answer_of_fact : Fact → Answer
answer_of_fact (over_in (halted words h)) = Ok (halt words h)
answer_of_fact (over_in (faulted kind l)) = Err (Fault kind l)
answer_of_fact (over_in other) = Err NoMemory
answer_of_fact (stopped_by bound total) = Err (Stopped bound total)

answer_is : (e : End) → answer_of_end e ≡ answer_of_fact (fact_of e)
answer_is (ends.Halted words k) = refl
answer_is (ends.Fault kind l) = refl
answer_is (ends.Stopped bound total) = refl

pub one_end : (code : Code) (h : Heap) (steps : ℕ) (a b : End) → EndsShipped code h steps a → EndsShipped code h steps b → answer_of_end a ≡ answer_of_end b
one_end code h steps a b x y = answer_is a ∙ ap answer_of_fact (one_fact code h steps a b x y) ∙ sym (answer_is b)
