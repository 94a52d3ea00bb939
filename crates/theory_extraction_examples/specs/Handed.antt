-- A recursive function that captures variables and is handed to another: its made function is a fixed argument,
-- and what it has captured is captured again.
use Rattle.std.specs.Prelude.{◌≡◌, List, [], ◌∷◌, Some}
use Rattle.htt_syntax.specs.Trees.{TermTree, FixTree, CompTree, m_word, m_loc, y_mono, y_fun, triple}
use Rattle.htt_syntax.specs.Trees.{t_var, t_val, t_app, t_lam, t_do, t_fix, t_word, t_eq, t_made, x_param, x_body, c_ret}
use Rattle.htt_syntax.specs.Trees.{c_step, s_run, s_alloc, s_get, s_if, f_tt, no_terms, more_terms}
use Rattle.theory_values.specs.Heaps.{empty_heap, with_block}
use Rattle.word_loader_code.specs.declared.code.Code.{Code}
use Rattle.word_loader_code.specs.declared.code.Instr.TheVariants.{Const, Mov, Op, Alloc, Get, Jz, Tail, Ret}
use Rattle.word_loader_code.specs.Machine.{halted, machine_after}
use Rattle.theory_instances.specs.Calls.{Program, of_term}
use Rattle.theory_instances.specs.Keys.{Key}
use Rattle.theory_instances.specs.Lists.{Taken, HasInstances, main_key}
use Rattle.theory_instances.specs.Examples.{always}
use Rattle.theory_instances.specs.Orders.{a_word, value_taken}
use Rattle.theory_flat.specs.Flat.{Instance, HasFlatInstances, flat_ret, flat_step, flat_call, flat_alloc, flat_get}
use Rattle.theory_flat.specs.Flat.{flat_if}
use Rattle.theory_flat.specs.Examples.{alone}
use Rattle.theory_emission.specs.Codes.{code_of}

-- fun m . do r <- f m; ret r, where f stands under m
abbrev pub expanded : TermTree → TermTree
expanded f = t_lam (t_do (c_step (s_run (t_app f (t_var 0)) (Some m_word)) (c_ret (t_var 0))))

-- b <- if [word] eq[word](n, x) { v <- get[word] l; ret v } { y <- use M; ret y }; ret b
abbrev pub handing_comp : TermTree → TermTree → TermTree → TermTree → CompTree
handing_comp n x l handed =
    c_step
    (s_if m_word (t_eq m_word n x) (c_step (s_get m_word l) (c_ret (t_var 0)))
    (c_step (s_run (t_app (t_val 0) handed) (Some m_word)) (c_ret (t_var 0)))) (c_ret (t_var 0))

-- fix f (n : word) : {tt} z : word {tt} . that computation, with f itself for M
abbrev pub handing : TermTree → TermTree → FixTree
handing x l =
    x_param (y_mono m_word)
    (x_body (triple f_tt m_word f_tt) (handing_comp (t_var 1) x l (expanded (t_var 1))))

-- val use : (g : (m : word) -> {tt} z : word {tt}) -> {tt} z : word {tt} = fun g . do r <- g 3; ret r, and
-- val main = do l <- alloc[word] 3; x <- get[word] l; r <- (fix f ..) 5; ret r
abbrev pub using : CompTree
using = c_step (s_run (t_app (t_var 0) (t_word 3)) (Some m_word)) (c_ret (t_var 0))

abbrev pub handed_main : CompTree
handed_main =
    c_step (s_alloc m_word (t_word 3))
    (c_step (s_get m_word (t_var 0))
    (c_step (s_run (t_app (t_fix 70 (handing (t_var 2) (t_var 3))) (t_word 5)) (Some m_word)) (c_ret (t_var 0))))

abbrev pub handed : Program
handed = record {
  vals = record { ty = y_fun (y_fun (y_mono m_word) (always m_word)) (always m_word); term = t_lam (t_do using) } ∷
      a_word handed_main ∷ [];
  main = Some 1;
}

-- the made function of instance 1 with x and l
abbrev pub made_with : TermTree → TermTree → TermTree
made_with x l = t_made 1 (more_terms x (more_terms l no_terms))

-- x is met first, and l stands further out
abbrev pub handing_key : Key
handing_key =
    record { head = t_fix 70 (handing (t_var 3) (t_var 2)); fixed = []; captured = m_loc ∷ m_word ∷ [] }

abbrev pub using_key : Key
using_key =
    record {
      head = t_val 0;
      fixed = of_term (expanded (made_with (t_var 2) (t_var 1))) ∷ [];
      captured = m_loc ∷ m_word ∷ [];
    }

abbrev pub handed_instances : List Taken
handed_instances =
    value_taken 1 handed_main ∷
    record {
      key = handing_key;
      params = m_word ∷ m_loc ∷ m_word ∷ [];
      result = m_word;
      body = handing_comp (t_var 0) (t_var 2) (t_var 1) (expanded (made_with (t_var 3) (t_var 2)));
    } ∷
    record {
      key = using_key;
      params = m_loc ∷ m_word ∷ [];
      result = m_word;
      body = c_step (s_run (t_app (made_with (t_var 1) (t_var 0)) (t_word 3)) (Some m_word)) (c_ret (t_var 0));
    } ∷ []

-- l <- alloc[word] 3; x <- get[word] l; r <- (instance 1) x l 5; ret r, then
-- b <- if [word] eq[word](n, x) { v <- get[word] l; ret v } { y <- (instance 2) x l; ret y }; ret b, and
-- r <- (instance 1) x l 3; ret r
abbrev pub handed_flat : List Instance
handed_flat =
    alone m_word
    (flat_step (flat_alloc m_word (t_word 3))
    (flat_step (flat_get m_word (t_var 0))
    (flat_step (flat_call 1 (t_var 0 ∷ t_var 1 ∷ t_word 5 ∷ [])) (flat_ret (t_var 0))))) ∷
    record {
      params = m_word ∷ m_loc ∷ m_word ∷ [];
      result = m_word;
      body =
          flat_step
          (flat_if m_word (t_eq m_word (t_var 0) (t_var 2)) (flat_step (flat_get m_word (t_var 1)) (flat_ret (t_var 0)))
          (flat_step (flat_call 2 (t_var 2 ∷ t_var 1 ∷ [])) (flat_ret (t_var 0)))) (flat_ret (t_var 0));
    } ∷
    record {
      params = m_word ∷ m_loc ∷ [];
      result = m_word;
      body = flat_step (flat_call 1 (t_var 1 ∷ t_var 0 ∷ t_word 3 ∷ [])) (flat_ret (t_var 0));
    } ∷ []

abbrev pub handed_code : Code
handed_code =
    record {
      version = 2;
      functions = record {
        params = 0;
        locals = 7;
        result = 1;
        body = Const 0 3 ∷ Alloc 1 0 1 ∷ Get 2 1 1 ∷ Const 3 5 ∷ Mov 4 2 1 ∷ Mov 5 1 1 ∷ Mov 6 3 1 ∷ Tail 1 4 ∷ [];
      } ∷
          record {
            params = 3;
            locals = 7;
            result = 1;
            body = Op 3 9 2 0 ∷ Jz 3 4 ∷ Get 4 1 1 ∷ Ret 4 ∷ Mov 5 0 1 ∷ Mov 6 1 1 ∷ Tail 2 5 ∷ [];
          } ∷
          record {
            params = 2;
            locals = 6;
            result = 1;
            body = Const 2 3 ∷ Mov 3 0 1 ∷ Mov 4 1 1 ∷ Mov 5 2 1 ∷ Tail 1 3 ∷ [];
          } ∷ [];
    }

pub record WorkedHanded : Type 0 where
  -- the made function's variables are those of the instance to which it is handed
  pub instances : HasInstances handed handed_instances (main_key 1 ∷ handing_key ∷ using_key ∷ [])
  pub flat_bodies : HasFlatInstances handed handed_flat
  pub code : code_of handed_flat ≡ handed_code
  -- 8 of main, 5 of the function with 5, 5 of the one that it is handed to, 4 of the function with 3
  pub runs : machine_after handed_code empty_heap (5 ∷ []) 22 ≡ halted (3 ∷ []) (with_block empty_heap 5 (3 ∷ []))
