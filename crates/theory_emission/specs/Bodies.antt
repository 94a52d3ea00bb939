-- The emission of flat bodies. One recursion serves the branches of an `if`, the bodies of version 1 code,
-- and those of version 2, in which a call in tail place replaces the frame.
use Rattle.std.specs.Prelude.{ℕ, zero, suc, ◌+◌, List, [], ◌∷◌, ◌++◌, length, map, sum_by, Bool, true, false, Option}
use Rattle.std.specs.Prelude.{Some, None, slice_get, if◌then◌else◌}
use Rattle.htt_syntax.specs.Trees.{MonoTree, TermTree, m_loc, m_unit, t_var}
use Rattle.theory_values.specs.Values.{width}
use Rattle.word_loader_code.specs.declared.code.Function.{Function}
use Rattle.word_loader_code.specs.declared.code.Instr.{Instr}
use Rattle.word_loader_code.specs.declared.code.Instr.TheVariants.{Mov, Alloc, Get, Set, Free, Jump, Jz, Call, Ret}
use Rattle.word_loader_code.specs.declared.code.Instr.TheVariants.{Tail}
use Rattle.theory_flat.specs.Flat.{FlatTree, FlatStepTree, flat_ret, flat_step, flat_call, flat_alloc, flat_get}
use Rattle.theory_flat.specs.Flat.{flat_set, flat_free, flat_if, Instance}
use Rattle.theory_emission.specs.Terms.{Held, Emitted, EmittedTerms, standing_at, at_new_place, emit_term, emit_terms}
use Rattle.theory_emission.specs.Terms.{moves}
use Rattle.theory_emission.specs.Terms.{width_of_parts}

-- What becomes of the result: it is held at a place, as that of a branch is; it is returned; or it is
-- returned where no call in tail place does so.
pub data Ending : Type 0 where
  is_held is_returned is_tail : Ending

abbrev pub ended_by : Ending → Emitted → Emitted
ended_by is_held e = e
ended_by ending e = record { instrs = e.instrs ++ Ret e.place ∷ []; place = e.place; next = e.next }

-- What follows a step is its own variable alone.
abbrev pub gives_back : FlatTree → Bool
gives_back (flat_ret (t_var zero)) = true
gives_back flat = false

-- A call or an `if` that ends a tail body, since what follows gives its result back.
abbrev pub may_end : FlatStepTree → Bool
may_end (flat_call number params) = true
may_end (flat_if mono test on_true on_false) = true
may_end step = false

abbrev pub in_tail_place : Ending → FlatStepTree → FlatTree → Bool
in_tail_place is_tail step others = if may_end step then gives_back others else false
in_tail_place ending step others = false

abbrev pub result_in : Option Instance → MonoTree
result_in (Some instance) = instance.result
result_in None = m_unit

-- The monotype of the variable that a step binds.
abbrev pub flat_mono : List Instance → FlatStepTree → MonoTree
flat_mono instances (flat_call number params) = result_in (slice_get instances number)
flat_mono instances (flat_alloc mono value) = m_loc
flat_mono instances (flat_get mono place) = mono
flat_mono instances (flat_if mono test on_true on_false) = mono
flat_mono instances step = m_unit

-- The parameters stand in a new block, from which a call takes them.
abbrev pub called : ℕ → ℕ → EmittedTerms → Emitted
called number words e =
    at_new_place (e.instrs ++ moves e.next e.parts) (e.next + width_of_parts e.parts) words
    (λ d. Call number e.next d ∷ [])

abbrev pub tail_called : ℕ → EmittedTerms → Emitted
tail_called number e =
    at_new_place (e.instrs ++ moves e.next e.parts) (e.next + width_of_parts e.parts) zero
    (λ d. Tail number e.next ∷ [])

abbrev pub allocated : Emitted → ℕ → Emitted
allocated a words = at_new_place a.instrs a.next 1 (λ d. Alloc d a.place words ∷ [])

abbrev pub read : Emitted → ℕ → Emitted
read p words = at_new_place p.instrs p.next words (λ d. Get d p.place words ∷ [])

abbrev pub written : Emitted → Emitted → ℕ → Emitted
written p a words = at_new_place (p.instrs ++ a.instrs) a.next zero (λ d. Set p.place a.place words ∷ [])

abbrev pub released : Emitted → ℕ → Emitted
released p words = at_new_place p.instrs p.next zero (λ d. Free p.place words ∷ [])

-- A test, from whose place a jump goes to the instruction with this number.
abbrev pub tested : Emitted → ℕ → List Instr
tested c target = c.instrs ++ Jz c.place target ∷ []

-- Where the first branch of an `if` begins, of which the test begins at this instruction; where the second
-- one begins, behind the first and so many further instructions; and where the step ends.
abbrev pub first_branch : ℕ → Emitted → ℕ
first_branch at c = at + length c.instrs + 1

abbrev pub second_branch : ℕ → Emitted → Emitted → ℕ → ℕ
second_branch at c a more = first_branch at c + length a.instrs + more

abbrev pub step_end : ℕ → Emitted → Emitted → Emitted → ℕ
step_end at c a b = second_branch at c a 2 + length b.instrs + 1

-- Both branches bring their result to one place d.
abbrev pub joined : ℕ → ℕ → Emitted → ℕ → Emitted → Emitted → Emitted
joined at d c words a b =
    record {
      instrs = tested c (second_branch at c a 2)
          ++ (a.instrs ++ Mov d a.place words ∷ Jump (step_end at c a b) ∷ (b.instrs ++ Mov d b.place words ∷ []));
      place = d;
      next = b.next;
    }

-- Both branches end the body.
abbrev pub split : ℕ → Emitted → Emitted → Emitted → Emitted
split at c a b =
    record {
      instrs = tested c (second_branch at c a zero) ++ (a.instrs ++ b.instrs);
      place = b.place;
      next = b.next;
    }

abbrev pub in_row : Emitted → Emitted → Emitted
in_row first rest = record { instrs = first.instrs ++ rest.instrs; place = rest.place; next = rest.next }

-- A flat tree, where so many locals are in use, and its first instruction has this number in the body.
unfoldable mutual
  pub emit_flat : List Instance → Ending → List Held → ℕ → ℕ → FlatTree → Emitted
  emit_flat instances ending g next at (flat_ret term) = ended_by ending (emit_term g next term)
  emit_flat instances ending g next at (flat_step step others) =
      if in_tail_place ending step others then emit_last instances g next at step else
      let first = emit_step instances g next at step in
      in_row first
      (emit_flat instances ending (record { place = first.place; mono = flat_mono instances step } ∷ g) first.next
      (at + length first.instrs) others)

  -- a step in tail place: a call replaces the frame, and the branches of an `if` are tail bodies
  pub emit_last : List Instance → List Held → ℕ → ℕ → FlatStepTree → Emitted
  emit_last instances g next at (flat_call number params) = tail_called number (emit_terms g next params)
  emit_last instances g next at (flat_if mono test on_true on_false) =
      let c = emit_term g next test in
      let a = emit_flat instances is_tail g c.next (first_branch at c) on_true in
      split at c a (emit_flat instances is_tail g a.next (second_branch at c a zero) on_false)
  emit_last instances g next at step = standing_at next next

  -- another step: its instructions leave its value at a place
  pub emit_step : List Instance → List Held → ℕ → ℕ → FlatStepTree → Emitted
  emit_step instances g next at (flat_call number params) =
      called number (width (result_in (slice_get instances number))) (emit_terms g next params)
  emit_step instances g next at (flat_alloc mono value) = allocated (emit_term g next value) (width mono)
  emit_step instances g next at (flat_get mono place) = read (emit_term g next place) (width mono)
  emit_step instances g next at (flat_set mono place value) =
      let p = emit_term g next place in written p (emit_term g p.next value) (width mono)
  emit_step instances g next at (flat_free mono place) = released (emit_term g next place) (width mono)
  emit_step instances g next at (flat_if mono test on_true on_false) =
      let c = emit_term g next test in
      let a = emit_flat instances is_held g (c.next + width mono) (first_branch at c) on_true in
      joined at c.next c (width mono) a (emit_flat instances is_held g a.next (second_branch at c a 2) on_false)

-- The parameters in order, from a place on, over what is held already.
abbrev pub with_params : List Held → ℕ → List MonoTree → List Held
with_params g place [] = g
with_params g place (mono ∷ others) =
    with_params (record { place = place; mono = mono } ∷ g) (place + width mono) others

abbrev pub width_of_monos : List MonoTree → ℕ
width_of_monos [] = zero
width_of_monos (mono ∷ others) = width mono + width_of_monos others

abbrev pub emitted_body : List Instance → Ending → Instance → Emitted
emitted_body instances ending instance =
    emit_flat instances ending (with_params [] zero instance.params) (width_of_monos instance.params) zero
    instance.body

abbrev pub emit_instance : List Instance → Ending → Instance → Function
emit_instance instances ending instance =
    record {
      params = width_of_monos instance.params;
      locals = (emitted_body instances ending instance).next;
      result = width instance.result;
      body = (emitted_body instances ending instance).instrs;
    }
