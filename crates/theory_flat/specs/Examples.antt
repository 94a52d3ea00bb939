-- Flat bodies that were worked out by hand, and what they come to.
use Rattle.std.specs.Prelude.{◌≡◌, ℕ, List, [], ◌∷◌, true, false}
use Rattle.htt_syntax.specs.declared.mono.Op.TheVariants.{Add, Sub}
use Rattle.htt_syntax.specs.Trees.{MonoTree, m_word, m_bool, m_loc, m_unit, m_pair, t_var, t_word, t_bool, t_unit}
use Rattle.htt_syntax.specs.Trees.{t_pair, t_fst, t_snd, t_bin, t_eq}
use Rattle.theory_values.specs.Values.{v_word, v_bool, v_pair, encoding}
use Rattle.theory_values.specs.Heaps.{empty_heap, with_block}
use Rattle.theory_denotation.specs.Outcomes.{ended, out_of_fuel, asking}
use Rattle.theory_instances.specs.Examples.{sum, cell, blocks, seven, dup, rep, passed_on, word_and_bool, dup_result}
use Rattle.theory_instances.specs.Examples.{pick, picking_call, two_words}
use Rattle.theory_flat.specs.Flat.{FlatTree, Instance, HasFlatInstances, flat_ret, flat_step, flat_call, flat_alloc}
use Rattle.theory_flat.specs.Flat.{flat_get, flat_free, flat_if, captured_params}
use Rattle.theory_flat.specs.Reading.{flat_run}

abbrev pub alone : MonoTree → FlatTree → Instance
alone mono body = record { params = []; result = mono; body = body }

abbrev pub sum_flat : List Instance
sum_flat = alone m_word (flat_ret (t_word 5)) ∷ []

-- l <- alloc[word] 7; v <- get[word] l; _ <- free[word] l; ret v
abbrev pub cell_flat : List Instance
cell_flat =
    alone m_word
    (flat_step (flat_alloc m_word (t_word 7))
    (flat_step (flat_get m_word (t_var 0)) (flat_step (flat_free m_word (t_var 1)) (flat_ret (t_var 1))))) ∷ []

-- l <- alloc[unit] (); k <- alloc[unit] (); ret eq[loc](l, k)
abbrev pub blocks_flat : List Instance
blocks_flat =
    alone m_bool
    (flat_step (flat_alloc m_unit t_unit)
    (flat_step (flat_alloc m_unit t_unit) (flat_ret (t_eq m_loc (t_var 1) (t_var 0))))) ∷ []

-- x <- (instance 1); ret x, and ret 7
abbrev pub seven_flat : List Instance
seven_flat =
    alone m_word (flat_step (flat_call 1 []) (flat_ret (t_var 0))) ∷ alone m_word (flat_ret (t_word 7)) ∷ []

-- a <- (instance 1) 3; b <- (instance 2) (4, true); ret (a, b), and twice ret (x, x)
abbrev pub dup_flat_at : MonoTree → Instance
dup_flat_at mono =
    record { params = mono ∷ []; result = m_pair mono mono; body = flat_ret (t_pair (t_var 0) (t_var 0)) }

abbrev pub dup_flat : List Instance
dup_flat =
    alone dup_result
    (flat_step (flat_call 1 (t_word 3 ∷ []))
    (flat_step (flat_call 2 (t_pair (t_word 4) (t_bool true) ∷ [])) (flat_ret (t_pair (t_var 1) (t_var 0))))) ∷
    dup_flat_at m_word ∷ dup_flat_at word_and_bool ∷ []

-- r <- (instance 1) 5; ret r, then r <- (instance 2) n; ret r, and
-- b <- if [word] eq[word](n, 0) { ret 0 } { y <- (instance 2) (n - 1); ret y + 2 }; ret b
abbrev pub of_word : FlatTree → Instance
of_word body = record { params = m_word ∷ []; result = m_word; body = body }

abbrev pub rep_flat : List Instance
rep_flat =
    alone m_word (flat_step (flat_call 1 (t_word 5 ∷ [])) (flat_ret (t_var 0))) ∷
    of_word (flat_step (flat_call 2 (t_var 0 ∷ [])) (flat_ret (t_var 0))) ∷
    of_word
    (flat_step
    (flat_if m_word (t_eq m_word (t_var 0) (t_word 0)) (flat_ret (t_word 0))
    (flat_step (flat_call 2 (t_bin Sub (t_var 0) (t_word 1) ∷ [])) (flat_ret (t_bin Add (t_var 0) (t_word 2)))))
    (flat_ret (t_var 0))) ∷ []

-- r <- (instance 1) (3, 4) true; ret r, then r <- (instance 2) b q (fst q); ret r, and
-- s <- if [word] b { ret snd q } { t <- (instance 2) b q (n + 1); ret t }; ret s
abbrev pub pick_flat : List Instance
pick_flat =
    alone m_word
    (flat_step (flat_call 1 (t_pair (t_word 3) (t_word 4) ∷ t_bool true ∷ [])) (flat_ret (t_var 0))) ∷
    record {
      params = two_words ∷ m_bool ∷ [];
      result = m_word;
      body = flat_step (flat_call 2 (t_var 0 ∷ t_var 1 ∷ t_fst (t_var 1) ∷ [])) (flat_ret (t_var 0));
    } ∷
    record {
      params = m_bool ∷ two_words ∷ m_word ∷ [];
      result = m_word;
      body =
          flat_step
          (flat_if m_word (t_var 2) (flat_ret (t_snd (t_var 1)))
          (flat_step (flat_call 2 (t_var 2 ∷ t_var 1 ∷ t_bin Add (t_var 0) (t_word 1) ∷ [])) (flat_ret (t_var 0))))
          (flat_ret (t_var 0));
    } ∷ []

pub record WorkedFlatBodies : Type 0 where
  pub sum_has : HasFlatInstances sum sum_flat
  pub cell_has : HasFlatInstances cell cell_flat
  pub blocks_have : HasFlatInstances blocks blocks_flat
  pub seven_has : HasFlatInstances seven seven_flat
  pub dup_has : HasFlatInstances dup dup_flat
  pub rep_has : HasFlatInstances (rep passed_on) rep_flat
  -- what a call captures is passed in the order in which it is met: b and then q
  pub captured_in_order :
      captured_params pick (record { call = picking_call 50; context = m_bool ∷ two_words ∷ [] }) ≡ t_var 0 ∷ t_var 1 ∷ []

pub record WorkedReadings : Type 0 where
  pub sum_ends : flat_run sum_flat 0 0 [] empty_heap [] ≡ ended (v_word 5) empty_heap []
  -- a call takes one fuel
  pub call_lacks_fuel : flat_run seven_flat 0 0 [] empty_heap [] ≡ out_of_fuel
  pub call_ends : flat_run seven_flat 1 0 [] empty_heap [] ≡ ended (v_word 7) empty_heap []
  pub pairs : flat_run dup_flat 1 0 [] empty_heap []
      ≡ ended (v_pair (v_pair (v_word 3) (v_word 3))
      (v_pair (v_pair (v_word 4) (v_bool true)) (v_pair (v_word 4) (v_bool true)))) empty_heap []
  -- two empty blocks at 1 and 2, with one choice over, and with one too few
  pub blocks_differ : flat_run blocks_flat 0 0 [] empty_heap (1 ∷ 2 ∷ 3 ∷ [])
      ≡ ended (v_bool false) (with_block (with_block empty_heap 1 []) 2 []) (3 ∷ [])
  pub blocks_ask : flat_run blocks_flat 0 0 [] empty_heap (1 ∷ []) ≡ asking
  -- seven calls: of rep, and of the loop from 5 down to 0
  pub counted_lacks_fuel : flat_run rep_flat 6 0 [] empty_heap [] ≡ out_of_fuel
  pub counted : flat_run rep_flat 7 0 [] empty_heap [] ≡ ended (v_word 10) empty_heap []
  pub picked : flat_run pick_flat 2 0 [] empty_heap [] ≡ ended (v_word 4) empty_heap []
