-- What flat bodies do: a call of an instance runs its body on the parameters with one fuel less. Typed ones are
-- read as the written meaning is; in others a term has a value here where it has none in the meaning.
use Rattle.std.specs.Prelude.{ℕ, zero, suc, List, ◌∷◌, map, reverse, Option, Some, None, slice_get}
use Rattle.htt_syntax.specs.Trees.{TermTree}
use Rattle.theory_values.specs.Values.{Value}
use Rattle.theory_values.specs.Heaps.{Heap}
use Rattle.theory_truth.specs.Worlds.{th_value}
use Rattle.theory_truth.specs.TermValue.{term_value}
use Rattle.theory_denotation.specs.Outcomes.{Outcome, ended, out_of_fuel, wrong, then_outcome, alloc_outcome}
use Rattle.theory_denotation.specs.Outcomes.{get_outcome, set_outcome, free_outcome, branch_outcome}
use Rattle.theory_flat.specs.Flat.{FlatTree, FlatStepTree, flat_ret, flat_step, flat_call, flat_alloc, flat_get}
use Rattle.theory_flat.specs.Flat.{flat_set, flat_free, flat_if, Instance}

-- What a call of an instance comes to, with the values of its parameters in order.
abbrev pub Calling : Type 0
Calling = ℕ → List Value → Heap → List ℕ → Outcome

-- The value of a term, where the variables have these values, the innermost first.
abbrev pub value_in : List Value → TermTree → Value
value_in vs term = term_value (map th_value vs) term

unfoldable mutual
  pub flat_outcome : Calling → List Value → FlatTree → Heap → List ℕ → Outcome
  flat_outcome call vs (flat_ret term) h cs = ended (value_in vs term) h cs
  flat_outcome call vs (flat_step step others) h cs =
      then_outcome (flat_step_outcome call vs step h cs) (λ v k ds. flat_outcome call (v ∷ vs) others k ds)

  pub flat_step_outcome : Calling → List Value → FlatStepTree → Heap → List ℕ → Outcome
  flat_step_outcome call vs (flat_call number params) h cs = call number (map (value_in vs) params) h cs
  flat_step_outcome call vs (flat_alloc mono value) h cs = alloc_outcome (value_in vs value) h cs
  flat_step_outcome call vs (flat_get mono place) h cs = get_outcome mono (value_in vs place) h cs
  flat_step_outcome call vs (flat_set mono place value) h cs =
      set_outcome mono (value_in vs place) (value_in vs value) h cs
  flat_step_outcome call vs (flat_free mono place) h cs = free_outcome mono (value_in vs place) h cs
  flat_step_outcome call vs (flat_if mono test on_true on_false) h cs =
      branch_outcome (value_in vs test) (flat_outcome call vs on_true h cs) (flat_outcome call vs on_false h cs)

-- The body of an instance on the values of its parameters. A number without an instance goes wrong.
abbrev pub body_outcome : Option Instance → Calling → List Value → Heap → List ℕ → Outcome
body_outcome (Some instance) call vs h cs = flat_outcome call (reverse vs) instance.body h cs
body_outcome None call vs h cs = wrong

unfoldable pub calling : List Instance → ℕ → Calling
calling instances zero number vs h cs = out_of_fuel
calling instances (suc n) number vs h cs = body_outcome (slice_get instances number) (calling instances n) vs h cs

-- The body of an instance with fuel n.
abbrev pub flat_run : List Instance → ℕ → ℕ → List Value → Heap → List ℕ → Outcome
flat_run instances n number vs h cs = body_outcome (slice_get instances number) (calling instances n) vs h cs
