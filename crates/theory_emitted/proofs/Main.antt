-- From main on: a machine that is over comes to one outcome, and that of the flat body is the same.
use Rattle.std.proofs.Common.{◌≡◌, ◌≤◌, ℕ, suc, ◌+◌, ◌-◌, List, [], replicate, Option, Some, slice_get, refl, sym, ap, ◌∙◌, subst, arith}
use Rattle.htt_syntax_words.specs.declared.words.Kind.{Kind}
use Rattle.theory_values.specs.Values.{Value, encoding}
use Rattle.theory_values.specs.Heaps.{Heap, empty_heap}
use Rattle.theory_denotation.specs.Outcomes.{Outcome, ended, out_of_fuel, asking, wrong}
use Rattle.word_loader_code.specs.declared.code.Code.{Code}
use Rattle.word_loader_code.specs.declared.code.Function.{Function}
use Rattle.word_loader_code.specs.Machine.{Stack, bottom, Machine, going, halted, faulted, asking as machine_asking, started, machine_after}
use Rattle.word_loader_code.specs.Laws.{IsOver}
use Rattle.word_loader_code.proofs.Steps.{over_is_final_lem}
use Rattle.theory_flat.specs.Flat.{Instance}
use Rattle.theory_flat.specs.Reading.{flat_run}
use Rattle.theory_flat_closed.proofs.Closed.{closed}
use Rattle.theory_emission.specs.Bodies.{Ending, is_returned, is_tail, width_of_monos, emit_instance}
use Rattle.theory_emission.specs.Codes.{code_ended_by}
use Rattle.theory_emitted_terms.specs.Layouts.{HaveLayouts, lay_none}
use Rattle.theory_flat_typed.specs.Typed.{AreTyped}
use Rattle.theory_emitted_bodies.specs.Comes.{Follows, ComesTo, Returns, entered_for}
use Rattle.theory_emitted_bodies.specs.Laws.{LeavesFrame}
use Rattle.theory_emitted_bodies.proofs.Bodies.{emitted_bodies}
use Rattle.theory_emitted_bodies.proofs.Endings.{function_there}
use Rattle.theory_emitted.specs.Laws.{CodeHalts, CodeAsks, FlatEnds, FlatAsks, NeverWrong, HasOutcomes, MainIsEmitted, ProgramsAreEmitted}

-- an end is reached once
agree : (code : Code) (h : Heap) (cs : List ℕ) (n k : ℕ) (x y : Machine)
    → machine_after code h cs n ≡ x
    → machine_after code h cs k ≡ y
    → IsOver x
    → IsOver y
    → x ≡ y
agree code h cs n k x y p q over over' =
    let sum : n + k ≡ k + n = omega arith in
    sym p ∙ sym (over_is_final_lem code h cs n k (subst IsOver (sym p) over)) ∙ ap (machine_after code h cs) sum
    ∙ over_is_final_lem code h cs k n (subst IsOver (sym q) over') ∙ q

stays_over : (code : Code) (h : Heap) (cs : List ℕ) (n k : ℕ) (x : Machine) → machine_after code h cs n ≡ x → IsOver x → n ≤ k → IsOver (machine_after code h cs k)
stays_over code h cs n k x p over less =
    let sum : n + (k - n) ≡ k = omega (arith, less) in
    subst IsOver (sym p ∙ sym (over_is_final_lem code h cs n (k - n) (subst IsOver (sym p) over)) ∙ ap (machine_after code h cs) sum) over

abbrev words_of : Machine → List ℕ
words_of (halted words h) = words
words_of m = []

abbrev heap_of : Machine → Heap
heap_of (halted words h) = h
heap_of m = empty_heap

-- which of the ways in which a machine is over
abbrev HasHalted : Machine → Type 0
HasHalted (halted words h) = Unit {0}
HasHalted m = ⊥

abbrev IsAsking : Machine → Type 0
IsAsking machine_asking = Unit {0}
IsAsking m = ⊥

module _ (instances : List Instance) (main : Instance) (version : ℕ) (ending : Ending) (typed : AreTyped instances) (first : slice_get instances 0 ≡ Some main)
    (none : main.params ≡ []) (leaves : LeavesFrame ending) (h : Heap) (cs : List ℕ) where
  abbrev code : Code
  code = code_ended_by version ending instances

  abbrev ground : Stack
  ground = bottom (record { function = 0; next = 0; locals = [] })

  -- the machine starts in a frame that is entered for main
  starts : entered_for 0 (emit_instance instances ending main) [] h ground cs ≡ started (slice_get code.functions 0) h cs
  starts =
      let k = emit_instance instances ending main in
      let params : k.params ≡ 0 = ap width_of_monos none in
      let locals : k.locals - k.params ≡ k.locals = omega (arith, params) in
      ap (λ n. going h (bottom (record { function = 0; next = 0; locals = replicate n 0 })) cs) locals
      ∙ sym (ap (λ (o : Option Function). started o h cs) (function_there instances version ending 0 main first))

  comes : (n : ℕ) → ComesTo code (suc n) (Returns ground main.result) (started (slice_get code.functions 0) h cs) (flat_run instances n 0 [] h cs)
  comes n =
      subst (λ m. ComesTo code (suc n) (Returns ground main.result) m (flat_run instances n 0 [] h cs)) starts
      (emitted_bodies instances version ending typed leaves 0 main [] first (subst (HaveLayouts []) (sym none) lay_none) n h ground cs)

  -- the flat body has an outcome, and the machine its own
  to_halt : (n : ℕ) (o : Outcome) (v : Value) (k : Heap) (left : List ℕ)
      → flat_run instances n 0 [] h cs ≡ o
      → o ≡ ended v k left
      → CodeHalts code h cs (encoding v) k
  to_halt n o v k left p q =
      let c = subst (ComesTo code (suc n) (Returns ground main.result) (started (slice_get code.functions 0) h cs)) (p ∙ q) (comes n) in
      (c.follows.0, c.follows.1.there)

  to_asking : (n : ℕ) → flat_run instances n 0 [] h cs ≡ asking → CodeAsks code h cs
  to_asking n p = (subst (ComesTo code (suc n) (Returns ground main.result) (started (slice_get code.functions 0) h cs)) p (comes n)).follows

  -- what a flat body comes to with as much fuel as the machine has taken steps
  data Over (n : ℕ) (m : Machine) : Type 0 where
    over_ended : (v : Value) (k : Heap) (left : List ℕ) → flat_run instances n 0 [] h cs ≡ ended v k left → m ≡ halted (encoding v) k → Over n m
    over_asking : flat_run instances n 0 [] h cs ≡ asking → m ≡ machine_asking → Over n m
    over_wrong : flat_run instances n 0 [] h cs ≡ wrong → Over n m

  over : (n : ℕ) (m : Machine) → machine_after code h cs n ≡ m → IsOver m → Over n m
  over n m p o = by (flat_run instances n 0 [] h cs) refl ((comes n).follows)
    where
      by : (x : Outcome) → flat_run instances n 0 [] h cs ≡ x → Follows code (suc n) (Returns ground main.result) (started (slice_get code.functions 0) h cs) x → Over n m
      by (ended v k left) q c = over_ended v k left q (agree code h cs n (c.0) m (halted (encoding v) k) p (c.1.there) o tt)
      by out_of_fuel q c = absurd (c.2 (stays_over code h cs n (c.0) m p o (omega (arith, c.1))))
      by asking q c = over_asking q (agree code h cs n (c.0) m machine_asking p (c.1) o tt)
      by wrong q c = over_wrong q

  from_halt : NeverWrong instances h cs → (words : List ℕ) (k : Heap) → CodeHalts code h cs words k → FlatEnds instances h cs words k
  from_halt never words k halts = by (over (halts.0) (halted words k) (halts.1) tt)
    where
      by : Over (halts.0) (halted words k) → FlatEnds instances h cs words k
      by (over_ended v k' left p q) = (halts.0, v, left, p ∙ ap (λ g. ended v g left) (sym (ap heap_of q)), ap words_of q)
      by (over_asking p q) = absurd (subst HasHalted q tt)
      by (over_wrong p) = absurd (never (halts.0) p)

  from_asking : NeverWrong instances h cs → CodeAsks code h cs → FlatAsks instances h cs
  from_asking never asks = by (over (asks.0) machine_asking (asks.1) tt)
    where
      by : Over (asks.0) machine_asking → FlatAsks instances h cs
      by (over_ended v k left p q) = absurd (subst IsAsking q tt)
      by (over_asking p q) = (asks.0, p)
      by (over_wrong p) = absurd (never (asks.0) p)

  from_fault : (n : ℕ) (kind : Kind) (l : ℕ) → machine_after code h cs n ≡ faulted kind l → flat_run instances n 0 [] h cs ≡ wrong
  from_fault n kind l p = by (over n (faulted kind l) p tt)
    where
      by : Over n (faulted kind l) → flat_run instances n 0 [] h cs ≡ wrong
      by (over_ended v k left p q) = absurd (subst HasHalted (sym q) tt)
      by (over_asking p q) = absurd (subst IsAsking (sym q) tt)
      by (over_wrong p) = p

  ends_halts : (words : List ℕ) (k : Heap) → FlatEnds instances h cs words k → CodeHalts code h cs words k
  ends_halts words k e =
      subst (λ (l : List ℕ). CodeHalts code h cs l k) (sym (e.4)) (to_halt (e.0) (ended (e.1) k (e.2)) (e.1) k (e.2) (e.3) refl)

  outcomes : HasOutcomes instances code h cs
  outcomes = record {
    halts = λ never words k. (from_halt never words k, ends_halts words k);
    asks = λ never. (from_asking never, λ a. to_asking (a.0) (a.1));
    ends = ends_halts;
    flat_asks = λ a. to_asking (a.0) (a.1);
    faults = from_fault;
  }

pub main_emitted : MainIsEmitted
main_emitted instances main version ending typed first none leaves h cs = outcomes instances main version ending typed first none leaves h cs

pub programs_emitted : ProgramsAreEmitted
programs_emitted = record {
  second = λ p instances h choices flat typed.
      let main = closed.main_is_first p instances flat in
      main_emitted instances (main.0) 2 is_tail typed (main.1) (main.2) tt h choices;
  first = λ p instances h choices flat typed.
      let main = closed.main_is_first p instances flat in
      main_emitted instances (main.0) 1 is_returned typed (main.1) (main.2) tt h choices;
}
