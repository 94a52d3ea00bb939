-- What the variants come to.
use Rattle.std.proofs.Common.{◌≡◌, ℕ, zero, suc, List, [], ◌∷◌, refl, ap, ◌∙◌, arith}
use Rattle.htt_syntax.specs.Trees.{TermTree, t_lam, t_bin, t_word}
use Rattle.theory_values.specs.Heaps.{Heap}
use Rattle.theory_truth.specs.TermValue.{term_value}
use Rattle.theory_typing.specs.Positions.{plain_term}
use Rattle.word_loader_code.specs.Machine.{bottom, going, step, after_steps, machine_after}
use Rattle.theory_instances.specs.Calls.{Argument, of_term}
use Rattle.theory_instances.specs.Keys.{Key, IsSameKey}
use Rattle.theory_flat.specs.Reading.{flat_outcome, calling}
use Rattle.theory_emission.specs.Terms.{emit_term, emit_terms}
use Rattle.theory_emission.specs.Bodies.{emit_flat}
use Rattle.theory_emission_variants.specs.Variants.{jump_to_itself, at_function, with_locals, VariantsOfEmission}

never : (h : Heap) (choices : List ℕ) (n : ℕ) → machine_after jump_to_itself h choices n ≡ going h (bottom (with_locals 0 0 [])) choices
unfolding after_steps step
never h choices zero = refl
never h choices (suc n) = ap (step jump_to_itself) (never h choices n)

-- what is added by a function that is fixed
abbrev added : List Argument → ℕ
added (of_term (t_lam (t_bin op left (t_word n))) ∷ others) = n
added arguments = 0

other_keys : IsSameKey (at_function 2) (at_function 3) → ⊥
unfolding plain_term
other_keys e = let q : 2 ≡ 3 = ap (λ (k : Key). added k.fixed) e in omega (arith, q)

pub missed : VariantsOfEmission
unfolding emit_term emit_terms emit_flat term_value flat_outcome calling after_steps step
missed = record {
  jump_never_halts = never;
  sum_ends = refl;
  other_keys = other_keys;
  both_instances = refl;
  first_instance = refl;
  new_places = refl;
  new_places_halt = refl;
  place_twice_halts = refl;
  frame_is_replaced = refl;
  frame_is_kept = refl;
  sides = refl;
  sides_halt = refl;
  changed_sides_halt = refl;
}
