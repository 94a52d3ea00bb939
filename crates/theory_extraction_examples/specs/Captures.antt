-- A recursive function that captures variables, from its instances to a run of its code.
use Rattle.std.specs.Prelude.{◌≡◌, List, [], ◌∷◌, true, Some}
use Rattle.htt_syntax.specs.declared.mono.Op.TheVariants.{Add}
use Rattle.htt_syntax.specs.Trees.{CompTree, m_word, m_bool, t_var, t_val, t_app, t_word, t_bool, t_pair, t_snd, t_bin}
use Rattle.htt_syntax.specs.Trees.{t_made, c_ret, c_step, s_run, s_if, no_terms, more_terms}
use Rattle.theory_values.specs.Heaps.{empty_heap}
use Rattle.word_loader_code.specs.Machine.{halted, machine_after}
use Rattle.theory_instances.specs.Lists.{Taken, HasInstances, main_key}
use Rattle.theory_instances.specs.Examples.{pick, picking_call, picking_key, two_words}
use Rattle.theory_flat.specs.Flat.{HasFlatInstances}
use Rattle.theory_flat.specs.Examples.{pick_flat}
use Rattle.theory_emission.specs.Codes.{code_of}

-- r <- pick (3, 4) true; ret r
abbrev pub pick_main : CompTree
pick_main =
    c_step (s_run (t_app (t_app (t_val 0) (t_pair (t_word 3) (t_word 4))) (t_bool true)) (Some m_word))
    (c_ret (t_var 0))

-- r <- (fix f ..) (fst q); ret r, where q and b are the parameters
abbrev pub pick_body : CompTree
pick_body = c_step (s_run (picking_call 50) (Some m_word)) (c_ret (t_var 0))

-- s <- if [word] b { ret snd q } { t <- (this instance, with b and q) (n + 1); ret t }; ret s
abbrev pub picking_body : CompTree
picking_body =
    c_step
    (s_if m_word (t_var 2) (c_ret (t_snd (t_var 1)))
    (c_step
    (s_run (t_app (t_made 2 (more_terms (t_var 2) (more_terms (t_var 1) no_terms))) (t_bin Add (t_var 0) (t_word 1)))
    (Some m_word)) (c_ret (t_var 0)))) (c_ret (t_var 0))

abbrev pub pick_instances : List Taken
pick_instances =
    record { key = main_key 1; params = []; result = m_word; body = pick_main } ∷
    record { key = main_key 0; params = m_bool ∷ two_words ∷ []; result = m_word; body = pick_body } ∷
    record {
      key = picking_key 50;
      params = m_word ∷ two_words ∷ m_bool ∷ [];
      result = m_word;
      body = picking_body;
    } ∷ []

pub record WorkedCaptures : Type 0 where
  -- the recursive function is an instance of three parameters: b and q, which it captures, and n
  pub instances : HasInstances pick pick_instances (main_key 1 ∷ main_key 0 ∷ picking_key 50 ∷ [])
  -- a call from outside gives b and q, and its call of itself what it has captured
  pub flat_bodies : HasFlatInstances pick pick_flat
  -- main's 8 instructions, 4 that call the recursive function, its test and its return
  pub runs : machine_after (code_of pick_flat) empty_heap [] 14 ≡ halted (4 ∷ []) empty_heap
