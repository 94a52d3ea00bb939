-- Calls of one head: with other fixed arguments, of a function that is written twice, and of a function that
-- is given itself.
use Rattle.std.specs.Prelude.{◌≡◌, ℕ, List, [], ◌∷◌, Some}
use Rattle.htt_syntax.specs.declared.mono.Op.TheVariants.{Add}
use Rattle.htt_syntax.specs.Trees.{TyTree, TermTree, FixTree, CompTree, m_word, y_mono, y_fun, triple, t_var, t_val}
use Rattle.htt_syntax.specs.Trees.{t_app, t_lam, t_do, t_fix, t_word, t_bin, x_param, x_body, c_ret, c_step, s_run, f_tt}
use Rattle.theory_canonical.specs.Eta.{eta}
use Rattle.theory_values.specs.Values.{v_word}
use Rattle.theory_values.specs.Heaps.{empty_heap}
use Rattle.theory_denotation.specs.Outcomes.{ended}
use Rattle.word_loader_code.specs.declared.code.Code.{Code}
use Rattle.word_loader_code.specs.declared.code.Instr.TheVariants.{Const, Mov, Call, Tail, Ret}
use Rattle.theory_instances.specs.Calls.{Program, fix_ty}
use Rattle.theory_instances.specs.Keys.{Key}
use Rattle.theory_instances.specs.Lists.{Taken, HasInstances, RefusesInstances, is_varying, main_key}
use Rattle.theory_instances.specs.Examples.{always, word_to_word, plus_two}
use Rattle.theory_instances.specs.Orders.{a_word, value_taken}
use Rattle.theory_flat.specs.Flat.{Instance, HasFlatInstances, flat_ret, flat_step, flat_call}
use Rattle.theory_flat.specs.Reading.{flat_run}
use Rattle.theory_flat.specs.Examples.{alone, of_word}
use Rattle.theory_emission.specs.Codes.{code_of}
use Rattle.theory_emission.specs.Examples.{instr_count}
use Rattle.theory_emission_variants.specs.Variants.{at_function, adds_twice}

-- fun x . x + n
abbrev pub plus : ℕ → TermTree
plus n = t_lam (t_bin Add (t_var 0) (t_word n))

-- val at : (h : (x : word) -> word) -> (n : word) -> {tt} z : word {tt} = fun h . fun n . do ret h n, and
-- val main = do a <- at (fun x . x + 2) 5; b <- at (fun x . x + 3) a; ret b
abbrev pub adds_body : CompTree
adds_body =
    c_step (s_run (t_app (t_app (t_val 0) (plus 2)) (t_word 5)) (Some m_word))
    (c_step (s_run (t_app (t_app (t_val 0) (plus 3)) (t_var 0)) (Some m_word)) (c_ret (t_var 0)))

abbrev pub adds : Program
adds = record {
  vals = record {
    ty = y_fun word_to_word (y_fun (y_mono m_word) (always m_word));
    term = t_lam (t_lam (t_do (c_ret (t_app (t_var 1) (t_var 0)))));
  } ∷ a_word adds_body ∷ [];
  main = Some 1;
}

abbrev pub added : ℕ → Taken
added n = record {
  key = at_function n;
  params = m_word ∷ [];
  result = m_word;
  body = c_ret (t_bin Add (t_var 0) (t_word n));
}

-- fix f (n : word) : {tt} z : word {tt} . ret n
abbrev pub giving_back : FixTree
giving_back = x_param (y_mono m_word) (x_body (triple f_tt m_word f_tt) (c_ret (t_var 1)))

-- val main = do a <- (fix f ..) 1; b <- (fix g ..) a; ret b, where g is written as f is, at another byte
abbrev pub twins_body : CompTree
twins_body =
    c_step (s_run (t_app (t_fix 40 giving_back) (t_word 1)) (Some m_word))
    (c_step (s_run (t_app (t_fix 90 giving_back) (t_var 0)) (Some m_word)) (c_ret (t_var 0)))

abbrev pub twins : Program
twins = record { vals = a_word twins_body ∷ []; main = Some 0 }

abbrev pub giving_key : Key
giving_key = record { head = t_fix 40 giving_back; fixed = []; captured = [] }

abbrev pub twins_instances : List Taken
twins_instances =
    value_taken 0 twins_body ∷
    record { key = giving_key; params = m_word ∷ []; result = m_word; body = c_ret (t_var 0) } ∷ []

-- a <- (instance 1) 1; b <- (instance 1) a; ret b, and ret n
abbrev pub twins_flat : List Instance
twins_flat =
    alone m_word
    (flat_step (flat_call 1 (t_word 1 ∷ [])) (flat_step (flat_call 1 (t_var 0 ∷ [])) (flat_ret (t_var 0)))) ∷
    of_word (flat_ret (t_var 0)) ∷ []

abbrev pub twins_code : Code
twins_code =
    record {
      version = 2;
      functions = record {
        params = 0;
        locals = 4;
        result = 1;
        body = Const 0 1 ∷ Mov 1 0 1 ∷ Call 1 1 2 ∷ Mov 3 2 1 ∷ Tail 1 3 ∷ [];
      } ∷ record { params = 1; locals = 1; result = 1; body = Ret 0 ∷ [] } ∷ [];
    }

-- (h : (x : word) -> word) -> (n : word) -> {tt} z : word {tt}
abbrev pub counting_ty : TyTree
counting_ty = y_fun word_to_word (y_fun (y_mono m_word) (always m_word))

-- fun h . fun n . do r <- f (fun x . h x) n; ret r, where f is the variable 0
abbrev pub itself : TermTree
itself =
    t_lam (t_lam (t_do (c_step
    (s_run (t_app (t_app (t_var 2) (t_lam (t_app (t_var 2) (t_var 0)))) (t_var 0)) (Some m_word)) (c_ret (t_var 0)))))

-- fix f (h : (x : word) -> word) (n : word) : {tt} z : word {tt} . y <- use f; ret y
abbrev pub giving_itself : FixTree
giving_itself =
    x_param word_to_word (x_param (y_mono m_word)
    (x_body (triple f_tt m_word f_tt) (c_step (s_run (t_app (t_val 0) itself) (Some m_word)) (c_ret (t_var 0)))))

-- val use : (g : (h : (x : word) -> word) -> (n : word) -> {tt} z : word {tt}) -> {tt} z : word {tt} = fun g .
--   do r <- g (fun x . x) 3; ret r, and val main = do r <- (fix f ..) (fun x . x + 2) 5; ret r; `fix` is byte 60
abbrev pub itself_main : CompTree
itself_main = c_step (s_run (t_app (t_app (t_fix 60 giving_itself) plus_two) (t_word 5)) (Some m_word)) (c_ret (t_var 0))

abbrev pub given_itself : Program
given_itself = record {
  vals = record {
    ty = y_fun counting_ty (always m_word);
    term = t_lam (t_do (c_step (s_run (t_app (t_app (t_var 0) (t_lam (t_var 0))) (t_word 3)) (Some m_word)) (c_ret (t_var 0))));
  } ∷ a_word itself_main ∷ [];
  main = Some 1;
}

pub record WorkedHeads : Type 0 where
  -- calls of a head at two functions have two instances
  pub two_instances :
      HasInstances adds (value_taken 1 adds_body ∷ added 2 ∷ added 3 ∷ [])
      (main_key 1 ∷ at_function 2 ∷ at_function 3 ∷ [])
  pub two_bodies : HasFlatInstances adds (adds_twice 2)
  -- the list that takes the first instance for the second call, which gives another result, is none of its
  pub not_the_first : HasFlatInstances adds (adds_twice 1) → ⊥
  pub ends_with_ten : (instances : List Instance)
      → HasFlatInstances adds instances
      → flat_run instances 1 0 [] empty_heap [] ≡ ended (v_word 10) empty_heap []
  -- a function that is written at two bytes is one instance, which has the byte of the first
  pub one_instance : HasInstances twins twins_instances (main_key 0 ∷ giving_key ∷ [])
  pub one_body : HasFlatInstances twins twins_flat
  pub one_function : code_of twins_flat ≡ twins_code
  pub six_instructions : instr_count twins_code ≡ 6
  -- a recursive function that is given as an argument is expanded, and varies at its first parameter: the
  -- expansion's own h isn't that of the function
  pub itself_expanded : eta (t_var 0) (fix_ty giving_itself) ≡ itself
  pub itself_varies : RefusesInstances given_itself (is_varying 60 1)
