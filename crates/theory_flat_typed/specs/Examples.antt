-- Flat bodies that are typed, and some that aren't, worked out by hand.
use Rattle.std.specs.Prelude.{[], ◌∷◌, true}
use Rattle.htt_syntax.specs.Trees.{m_word, m_bool, m_loc, t_var, t_word, t_bool}
use Rattle.theory_flat.specs.Flat.{FlatTree, Instance, flat_ret, flat_step, flat_call, flat_get, flat_free}
use Rattle.theory_flat.specs.Examples.{alone, of_word, cell_flat, seven_flat, dup_flat, rep_flat}
use Rattle.theory_flat_typed.specs.Typed.{AreTyped}

-- An instance that takes a location to a word.
abbrev pub of_location : FlatTree → Instance
of_location body = record { params = m_loc ∷ []; result = m_word; body = body }

pub record WorkedTyping : Type 0 where
  pub cell : AreTyped cell_flat
  pub seven : AreTyped seven_flat
  pub dup : AreTyped dup_flat
  pub rep : AreTyped rep_flat
  -- a result of another monotype, a literal of 65 bits, and a variable that isn't there
  pub other_result : AreTyped (alone m_bool (flat_ret (t_word 7)) ∷ []) → ⊥
  pub no_word : AreTyped (alone m_word (flat_ret (t_word 18446744073709551616)) ∷ []) → ⊥
  pub no_variable : AreTyped (alone m_word (flat_ret (t_var 0)) ∷ []) → ⊥
  -- a read at a location, and one at a word
  pub location : AreTyped (of_location (flat_step (flat_get m_word (t_var 0)) (flat_ret (t_var 0))) ∷ [])
  pub no_location : AreTyped (of_word (flat_step (flat_get m_word (t_var 0)) (flat_ret (t_var 0))) ∷ []) → ⊥
  -- what a `free` binds isn't a word
  pub nothing_bound : AreTyped (of_location (flat_step (flat_free m_word (t_var 0)) (flat_ret (t_var 0))) ∷ []) → ⊥
  -- a call of an instance that isn't there, without its parameter, and with one of another monotype
  pub no_instance : AreTyped (alone m_word (flat_step (flat_call 1 []) (flat_ret (t_var 0))) ∷ []) → ⊥
  pub no_parameter : AreTyped (of_word (flat_step (flat_call 0 []) (flat_ret (t_var 0))) ∷ []) → ⊥
  pub other_parameter : AreTyped (of_word (flat_step (flat_call 0 (t_bool true ∷ [])) (flat_ret (t_var 0))) ∷ []) → ⊥
