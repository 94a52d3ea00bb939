-- A value that takes a computation as its argument and runs it twice.
use Rattle.std.specs.Prelude.{List, [], ◌∷◌, None, codes}
use Rattle.htt_syntax.specs.declared.mono.Op.TheVariants.{Add}
use Rattle.htt_syntax.specs.Trees.{TyTree, TermTree, ProofTree, m_word, y_mono, y_fun, t_var, t_val, t_app, t_lam, t_do}
use Rattle.htt_syntax.specs.Trees.{t_word}
use Rattle.htt_syntax.specs.Trees.{t_bin, c_ret, c_step, s_run, f_and, f_imp, f_ex_t, f_eq, p_hyp, p_first, p_second}
use Rattle.htt_syntax.specs.Trees.{p_rewrite, p_axiom}
use Rattle.htt_syntax.specs.Trees.{p_block, d_intro, d_open, b_then, b_end}
use Rattle.theory_typing.specs.Contexts.{en_term, Context, Environment, Obligation}
use Rattle.theory_typing.specs.Laws.{none}
use Rattle.theory_typing.specs.Typing.{with_heaps}
use Rattle.theory_items.specs.Items.{ItemTree, i_val}
use Rattle.theory_file_derived.specs.Derived.{ProofItem, DerivesAll, IsDerived}
use Rattle.theory_file_derived.specs.Examples.{second_part}
use Rattle.theory_file_calls.specs.Parts.{gives, proof_for, nothing_yet, some_part, after_one, after_more, whole_heap}
use Rattle.theory_file_calls.specs.Parts.{used_run}
use Rattle.theory_file_calls.specs.Calls.{returns_goal, run_goal}

-- (c : {tt} x : word {x =[word] 1}) -> {tt} x : word {x =[word] 2}
abbrev pub of_a_computation : TyTree
of_a_computation = y_fun (gives 1) (gives 2)

-- fun c . do a <- c; b <- c; ret a + b
abbrev pub runs_twice : TermTree
runs_twice =
    t_lam (t_do (c_step (s_run (t_var 0) None)
    (c_step (s_run (t_var 1) None) (c_ret (t_bin Add (t_var 1) (t_var 0))))))

-- val one : {tt} x : word {x =[word] 1} = do ret 1
-- val twice : (c : {tt} x : word {x =[word] 1}) -> {tt} x : word {x =[word] 2} = fun c . do a <- c; b <- c; ret a + b
-- val main : {tt} x : word {x =[word] 2} = do r <- twice one; ret r
abbrev pub takers : List ItemTree
takers =
    i_val (gives 1) (t_do (c_ret (t_word 1))) ∷ i_val of_a_computation runs_twice ∷
    i_val (gives 2) (t_do (c_step (s_run (t_app (t_val 1) (t_val 0)) None) (c_ret (t_var 0)))) ∷ []

-- intro u; open a v = u; open b w = v; open h p = first(w); open e z = axiom emp_some();
-- open n q = app(inst(inst(second(p), @h), @e), both(app(axiom join_emp(@h, @e), z), trivial));
-- open k r = first(p);
-- open m s = app(inst(inst(second(r), @k), @e), both(app(axiom join_emp(@k, @e), z), trivial));
-- rewrite(second(q), t . [y =[word] 1 + t], rewrite(second(s), t . [y =[word] t + b], second(w)))
abbrev pub both_known : ProofTree
both_known =
    p_block (b_then d_intro (b_then (d_open (p_hyp 0)) (b_then (d_open (p_hyp 1)) (b_then (d_open (p_first (p_hyp 2)))
    (b_then (d_open (p_axiom (codes "emp_some") [] [])) (b_then (d_open (used_run 1 0 (p_hyp 3) (p_hyp 4)))
    (b_then (d_open (p_first (p_hyp 3))) (b_then (d_open (used_run 0 2 (p_hyp 6) (p_hyp 4)))
    (b_end (p_rewrite (p_second (p_hyp 5)) (f_eq m_word (t_var 10) (t_bin Add (t_word 1) (t_var 0)))
    (p_rewrite (p_second (p_hyp 7)) (f_eq m_word (t_var 10) (t_bin Add (t_var 0) (t_var 6)))
    (p_second (p_hyp 2)))))))))))))

-- intro u; open x v = u; open b w = first(v); open e z = axiom emp_some();
-- open n p = app(inst(inst(second(w), @b), @e), both(app(axiom join_emp(@b, @e), z), trivial));
-- rewrite(second(p), t . [y =[word] t], second(v))
abbrev pub same_known : ProofTree
same_known =
    p_block (b_then d_intro (b_then (d_open (p_hyp 0)) (b_then (d_open (p_first (p_hyp 1)))
    (b_then (d_open (p_axiom (codes "emp_some") [] [])) (b_then (d_open (used_run 1 0 (p_hyp 2) (p_hyp 3)))
    (b_end (p_rewrite (p_second (p_hyp 4)) (f_eq m_word (t_var 7) (t_var 0)) (p_second (p_hyp 1)))))))))

-- the proofs of one.1, twice.1, twice.2, twice.3, main.1 and main.2
abbrev pub taker_proofs : List ProofItem
taker_proofs =
    proof_for 0 1 second_part ∷ proof_for 1 1 whole_heap ∷ proof_for 1 2 whole_heap ∷ proof_for 1 3 both_known ∷
    proof_for 2 1 whole_heap ∷ proof_for 2 2 same_known ∷ []

-- c : {tt} x : word {x =[word] 1}
abbrev pub with_computation : Context
with_computation = en_term (gives 1) ∷ []

-- the first run, and the second, behind which a is known to be 1
abbrev pub first_run_goal : Obligation
first_run_goal = record { context = with_heaps with_computation; goal = some_part nothing_yet }

abbrev pub second_run_goal : Obligation
second_run_goal = record {
  context = with_heaps (en_term (y_mono m_word) ∷ with_computation);
  goal = some_part (after_one 2 4 (f_eq m_word (t_var 6) (t_word 1)));
}

-- [ex a : word . ex b : word . S /\ y =[word] a + b] => y =[word] 2, where S says that a and b are 1
abbrev pub both_goal : Obligation
both_goal = record {
  context = with_heaps (en_term (y_mono m_word) ∷ with_computation);
  goal = f_imp
      (f_ex_t m_word (f_ex_t m_word (f_and
      (after_more (after_one 5 4 (f_eq m_word (t_var 6) (t_word 1))) 6 (f_eq m_word (t_var 4) (t_word 1)))
      (f_eq m_word (t_var 4) (t_bin Add (t_var 1) (t_var 0))))))
      (f_eq m_word (t_var 2) (t_word 2));
}

-- [ex x : word . S /\ y =[word] x] => y =[word] 2, where S says that x is 2
abbrev pub same_goal : Obligation
same_goal = record {
  context = with_heaps (en_term (y_mono m_word) ∷ []);
  goal = f_imp
      (f_ex_t m_word (f_and (after_one 3 5 (f_eq m_word (t_var 4) (t_word 2))) (f_eq m_word (t_var 3) (t_var 0))))
      (f_eq m_word (t_var 2) (t_word 2));
}

-- what the three values owe
abbrev pub taker_rows : List (List Obligation)
taker_rows =
    (returns_goal 1 ∷ []) ∷ (first_run_goal ∷ second_run_goal ∷ both_goal ∷ []) ∷ (run_goal ∷ same_goal ∷ []) ∷ []

abbrev pub taker_env : Environment
taker_env = record { vals = gives 1 ∷ of_a_computation ∷ gives 2 ∷ []; defs = []; recs = [] }

pub record ComputationTaken : Type 0 where
  pub owes : DerivesAll none takers taker_env taker_rows
  pub derived : IsDerived takers taker_proofs taker_env
