-- No local is given twice in a body.
use Rattle.std.proofs.Common.{◌≤◌, ℕ, ◌+◌, List, ◌∷◌, length, Bool, true, false, if◌then◌else◌, arith}
use Rattle.htt_syntax.specs.Trees.{MonoTree}
use Rattle.theory_values.specs.Values.{width}
use Rattle.theory_flat.specs.Flat.{FlatTree, FlatStepTree, Instance}
use Rattle.theory_emission.specs.Terms.{Held, Emitted, emit_term}
use Rattle.theory_emission.specs.Bodies.{Ending, is_held, is_returned, is_tail, in_tail_place, flat_mono, first_branch, second_branch, in_row, emit_flat, emit_last, emit_step}
use Rattle.theory_emitted_terms.proofs.Terms.{grows, all_grow}
use Rattle.theory_flat_typed.specs.Typed.{IsTyped, typed_ret, typed_step, IsTypedStep, typed_call, typed_alloc, typed_get, typed_set}
use Rattle.theory_flat_typed.specs.Typed.{typed_free, typed_if}

either : (b : Bool) (n : ℕ) (x y : Emitted) → n ≤ x.next → n ≤ y.next → n ≤ (if b then x else y).next
either true n x y p q = p
either false n x y p q = q

mutual
  unfolding emit_flat

  pub flat_grows : {instances : List Instance} {monos : List MonoTree} {flat : FlatTree} {mono : MonoTree}
      → IsTyped instances monos flat mono
      → (e : Ending) (g : List Held) (next at : ℕ)
      → next ≤ (emit_flat instances e g next at flat).next
  flat_grows (typed_ret p) is_held g next at = grows p g next
  flat_grows (typed_ret p) is_returned g next at = grows p g next
  flat_grows (typed_ret p) is_tail g next at = grows p g next
  flat_grows {instances = instances} (typed_step {step = step} {others = others} s r) e g next at =
      let first = emit_step instances g next at step in
      let with_it : List Held = record { place = first.place; mono = flat_mono instances step } ∷ g in
      let rest = emit_flat instances e with_it first.next (at + length first.instrs) others in
      either (in_tail_place e step others) next (emit_last instances g next at step) (in_row first rest) (last_grows s g next at)
      (omega (arith, step_grows s g next at, flat_grows r e with_it first.next (at + length first.instrs)))

  pub step_grows : {instances : List Instance} {monos : List MonoTree} {step : FlatStepTree} {mono : MonoTree}
      → IsTypedStep instances monos step mono
      → (g : List Held) (next at : ℕ)
      → next ≤ (emit_step instances g next at step).next
  step_grows (typed_call q p) g next at = omega (arith, all_grow p g next)
  step_grows (typed_alloc k p) g next at = omega (arith, grows p g next)
  step_grows (typed_get k p) g next at = omega (arith, grows p g next)
  step_grows (typed_set {place = place} k p q) g next at = omega (arith, grows p g next, grows q g (emit_term g next place).next)
  step_grows (typed_free k p) g next at = omega (arith, grows p g next)
  step_grows {instances = instances} (typed_if {t = mono} {test = test} {on_true = on_true} k p q r) g next at =
      let c = emit_term g next test in
      let a = emit_flat instances is_held g (c.next + width mono) (first_branch at c) on_true in
      omega (
        arith,
        grows p g next,
        flat_grows q is_held g (c.next + width mono) (first_branch at c),
        flat_grows r is_held g a.next (second_branch at c a 2),
      )

  pub last_grows : {instances : List Instance} {monos : List MonoTree} {step : FlatStepTree} {mono : MonoTree}
      → IsTypedStep instances monos step mono
      → (g : List Held) (next at : ℕ)
      → next ≤ (emit_last instances g next at step).next
  last_grows (typed_call q p) g next at = omega (arith, all_grow p g next)
  last_grows (typed_alloc k p) g next at = omega arith
  last_grows (typed_get k p) g next at = omega arith
  last_grows (typed_set k p q) g next at = omega arith
  last_grows (typed_free k p) g next at = omega arith
  last_grows {instances = instances} (typed_if {test = test} {on_true = on_true} k p q r) g next at =
      let c = emit_term g next test in
      let a = emit_flat instances is_tail g c.next (first_branch at c) on_true in
      omega (
        arith,
        grows p g next,
        flat_grows q is_tail g c.next (first_branch at c),
        flat_grows r is_tail g a.next (second_branch at c a 0),
      )
