-- A file with a recursive predicate and a recursive function over it.
use Rattle.std.specs.Prelude.{List, [], ◌∷◌, None, true, false}
use Rattle.htt_syntax.specs.declared.mono.Op.TheVariants.{Add}
use Rattle.htt_syntax.specs.Trees.{TyTree, TripleTree, FixTree, CompTree, FormulaTree, m_word, m_bool, y_mono}
use Rattle.htt_syntax.specs.Trees.{y_fun, y_hoare, triple, t_var, t_val, t_app, t_do, t_fix, t_word, t_bool, t_bin}
use Rattle.htt_syntax.specs.Trees.{t_eq}
use Rattle.htt_syntax.specs.Trees.{x_param, x_body, c_ret, c_step, s_run, s_if, f_tt, f_and, f_or, f_imp, f_ex_t}
use Rattle.htt_syntax.specs.Trees.{f_same, f_eq}
use Rattle.theory_typing.specs.Contexts.{en_term, Context, Environment, Obligation}
use Rattle.theory_typing.specs.Laws.{none}
use Rattle.theory_typing.specs.Typing.{with_heaps}
use Rattle.theory_items.specs.Items.{ItemTree, i_val, i_rec}
use Rattle.theory_items.specs.Examples.{doubles}
use Rattle.theory_file_derived.specs.Derived.{ProofItem, DerivesAll, IsDerived}
use Rattle.theory_file_calls.specs.Parts.{proof_for, nothing_yet, some_part, after_one, after_more, whole_heap}
use Rattle.theory_file_calls.specs.Calls.{run_goal}
use Rattle.theory_file_recursion.specs.Proofs.{twice, one_less, is_twice, twice_two}

-- {tt} x : word {!dbl(n; x)}, where n is the innermost variable, and the function type of it
abbrev pub gives_twice : TripleTree
gives_twice = triple f_tt m_word (twice 0 (t_var 3) (t_var 2))

abbrev pub doubles_word : TyTree
doubles_word = y_fun (y_mono m_word) (y_hoare gives_twice)

-- b <- if [word] eq[word](0, n) { ret 0 } { s <- f (n - 1); ret s + 2 }; ret b, under n and f
abbrev pub doubling_body : CompTree
doubling_body =
    c_step (s_if m_word (t_eq m_word (t_word 0) (t_var 1)) (c_ret (t_word 0))
    (c_step (s_run (t_app (t_var 0) (one_less (t_var 1))) None) (c_ret (t_bin Add (t_var 0) (t_word 2)))))
    (c_ret (t_var 0))

-- fix f (n : word) : {tt} x : word {!dbl(n; x)} . BODY
abbrev pub doubling : FixTree
doubling = x_param (y_mono m_word) (x_body gives_twice doubling_body)

-- {tt} x : word {!dbl(2; x)}
abbrev pub gives_twice_two : TripleTree
gives_twice_two = triple f_tt m_word (twice 0 (t_word 2) (t_var 2))

-- pred dbl induct n (x : word) = { x =[word] 0 } { !dbl(n; x - 2) }
-- val double : (n : word) -> {tt} x : word {!dbl(n; x)} = fix f (n : word) : {tt} x : word {!dbl(n; x)} .
--   b <- if [word] eq[word](0, n) { ret 0 } { s <- f (n - 1); ret s + 2 }; ret b
-- val main : {tt} x : word {!dbl(2; x)} = do r <- double 2; ret r
abbrev pub doubling_file : List ItemTree
doubling_file =
    i_rec doubles ∷ i_val doubles_word (t_fix 0 doubling) ∷
    i_val (y_hoare gives_twice_two) (t_do (c_step (s_run (t_app (t_val 0) (t_word 2)) None) (c_ret (t_var 0)))) ∷ []

-- the proofs of double.1, double.2, main.1 and main.2
abbrev pub doubling_proofs : List ProofItem
doubling_proofs =
    proof_for 1 1 whole_heap ∷ proof_for 1 2 is_twice ∷ proof_for 2 1 whole_heap ∷ proof_for 2 2 twice_two ∷ []

abbrev pub doubling_env : Environment
doubling_env = record { vals = doubles_word ∷ y_hoare gives_twice_two ∷ []; defs = []; recs = doubles ∷ [] }

-- f and its parameter n
abbrev pub in_function : Context
in_function = en_term doubles_word ∷ en_term (y_mono m_word) ∷ []

-- the run of f may have a part of the heap where 0 isn't n
abbrev pub again_goal : Obligation
again_goal = record {
  context = with_heaps in_function;
  goal = some_part (f_and nothing_yet (f_eq m_bool (t_eq m_word (t_word 0) (t_var 3)) (t_bool false)));
}

-- what is known where the `if` gave 0 as b, under b, mem, init, y, f, n
abbrev pub ends_at_zero : FormulaTree
ends_at_zero =
    f_and (f_and (f_and f_tt (f_same 1 2)) (f_eq m_bool (t_eq m_word (t_word 0) (t_var 5)) (t_bool true)))
    (f_eq m_word (t_var 0) (t_word 0))

-- and where it ran f: ex s : word . S /\ b =[word] s + 2, where S says that s is twice n - 1
abbrev pub ends_at_next : FormulaTree
ends_at_next =
    f_ex_t m_word (f_and
    (after_more (f_and (f_and f_tt (f_same 0 4)) (f_eq m_bool (t_eq m_word (t_word 0) (t_var 7)) (t_bool false))) 6
    (twice 0 (one_less (t_var 10)) (t_var 4)))
    (f_eq m_word (t_var 1) (t_bin Add (t_var 0) (t_word 2))))

-- the end: [ex b : word . [ends_at_zero \/ ends_at_next] /\ y =[word] b] => !dbl(n; y)
abbrev pub is_twice_goal : Obligation
is_twice_goal = record {
  context = with_heaps (en_term (y_mono m_word) ∷ in_function);
  goal = f_imp (f_ex_t m_word (f_and (f_or ends_at_zero ends_at_next) (f_eq m_word (t_var 3) (t_var 0))))
      (twice 0 (t_var 4) (t_var 2));
}

-- [ex r : word . S /\ x =[word] r] => !dbl(2; x), where S says that r is twice 2
abbrev pub twice_two_goal : Obligation
twice_two_goal = record {
  context = with_heaps (en_term (y_mono m_word) ∷ []);
  goal = f_imp (f_ex_t m_word (f_and (after_one 3 5 (twice 0 (t_word 2) (t_var 4))) (f_eq m_word (t_var 3) (t_var 0))))
      (twice 0 (t_word 2) (t_var 2));
}

-- what the predicate and the two values owe
abbrev pub doubling_rows : List (List Obligation)
doubling_rows = [] ∷ (again_goal ∷ is_twice_goal ∷ []) ∷ (run_goal ∷ twice_two_goal ∷ []) ∷ []

pub record RecursiveFile : Type 0 where
  pub owes : DerivesAll none doubling_file doubling_env doubling_rows
  -- the proof of double.2 uses the predicate at 0 and at the next word, and the triple of f
  pub derived : IsDerived doubling_file doubling_proofs doubling_env
