-- A value that never ends, of which the proof of an earlier value speaks.
use Rattle.std.specs.Prelude.{List, [], ◌∷◌, None, codes}
use Rattle.htt_syntax.specs.Trees.{TyTree, TermTree, FixTree, ProofTree, m_word, y_mono, y_fun, y_hoare, triple, t_var}
use Rattle.htt_syntax.specs.Trees.{t_val, t_app, t_lam, t_do, t_fix, t_word, x_param, x_body, c_ret, c_step, s_run}
use Rattle.htt_syntax.specs.Trees.{f_tt, f_ff, f_and, f_imp, f_ex_t, f_eq, a_term, p_hyp, p_trivial, p_refl, p_first}
use Rattle.htt_syntax.specs.Trees.{p_second}
use Rattle.htt_syntax.specs.Trees.{p_give, p_axiom, p_block, d_intro, d_have, d_open, b_then, b_end}
use Rattle.theory_typing.specs.Contexts.{en_term, Context, Environment, Obligation}
use Rattle.theory_typing.specs.Laws.{none}
use Rattle.theory_typing.specs.Typing.{with_heaps}
use Rattle.theory_items.specs.Items.{ItemTree, i_val}
use Rattle.theory_file_derived.specs.Derived.{ProofItem, DerivesAll, IsDerived}
use Rattle.theory_file_variants.specs.Variants.{impossible}
use Rattle.theory_file_calls.specs.Parts.{proof_for, nothing_yet, some_part, after_one, after_more, whole_heap}
use Rattle.theory_file_calls.specs.Parts.{used_run}
use Rattle.theory_file_calls.specs.Calls.{run_goal}

-- {tt} x : word {ff}, and (k : (c : {tt} x : word {ff}) -> word) -> {tt} z : word {tt}
abbrev pub without_result : TyTree
without_result = y_hoare impossible

abbrev pub of_a_function : TyTree
of_a_function = y_fun (y_fun without_result (y_mono m_word)) (y_hoare (triple f_tt m_word f_tt))

-- fix f (n : word) : {tt} x : word {ff} . y <- f n; ret y
abbrev pub without_end : FixTree
without_end =
    x_param (y_mono m_word)
    (x_body impossible (c_step (s_run (t_app (t_var 0) (t_var 1)) None) (c_ret (t_var 0))))

-- do r <- f (fun c . 0); s <- (fix f (n : word) : {tt} x : word {ff} . y <- f n; ret y) 0; ret s
abbrev pub runs_on : TermTree
runs_on =
    t_do (c_step (s_run (t_app (t_val 0) (t_lam (t_word 0))) None)
    (c_step (s_run (t_app (t_fix 0 without_end) (t_word 0)) None) (c_ret (t_var 0))))

-- val f : (k : (c : {tt} x : word {ff}) -> word) -> {tt} z : word {tt} = fun k . do ret 0
-- val g : {tt} x : word {ff} = do r <- f (fun c . 0); s <- (fix ..) 0; ret s
abbrev pub endless : List ItemTree
endless = i_val of_a_function (t_lam (t_do (c_ret (t_word 0)))) ∷ i_val without_result runs_on ∷ []

-- intro u; have e : [ex y : word . y =[word] k g] = give(k g, refl); trivial, where k is f's argument
abbrev pub speaks_of_later : ProofTree
speaks_of_later =
    p_block (b_then d_intro (b_then
    (d_have (f_ex_t m_word (f_eq m_word (t_var 0) (t_app (t_var 4) (t_val 1))))
    (p_give (a_term (t_app (t_var 3) (t_val 1))) p_refl)) (b_end p_trivial)))

-- intro u; open y v = u; open b w = first(v); open e z = axiom emp_some();
-- open n p = app(inst(inst(second(w), @b), @e), both(app(axiom join_emp(@b, @e), z), trivial)); second(p)
abbrev pub never_back : ProofTree
never_back =
    p_block (b_then d_intro (b_then (d_open (p_hyp 0)) (b_then (d_open (p_first (p_hyp 1)))
    (b_then (d_open (p_axiom (codes "emp_some") [] [])) (b_then (d_open (used_run 1 0 (p_hyp 2) (p_hyp 3)))
    (b_end (p_second (p_hyp 4))))))))

-- intro u; open r v = u; open s w = v; open h p = first(w); open e z = axiom emp_some();
-- open n q = app(inst(inst(second(p), @h), @e), both(app(axiom join_emp(@h, @e), z), trivial)); second(q)
abbrev pub never_back_behind : ProofTree
never_back_behind =
    p_block (b_then d_intro (b_then (d_open (p_hyp 0)) (b_then (d_open (p_hyp 1)) (b_then (d_open (p_first (p_hyp 2)))
    (b_then (d_open (p_axiom (codes "emp_some") [] [])) (b_then (d_open (used_run 1 0 (p_hyp 3) (p_hyp 4)))
    (b_end (p_second (p_hyp 5)))))))))

-- the proof of f.1, and those of g.1 to g.5: the run of f, the run in the recursive function, its end, the run
-- of the recursive function, and the end
abbrev pub endless_proofs : List ProofItem
endless_proofs =
    proof_for 0 1 speaks_of_later ∷ proof_for 1 1 whole_heap ∷ proof_for 1 2 whole_heap ∷ proof_for 1 3 never_back ∷
    proof_for 1 4 whole_heap ∷ proof_for 1 5 never_back_behind ∷ []

-- f's end under z, init and mem, with k behind them
abbrev pub end_of_f_goal : Obligation
end_of_f_goal = record {
  context = with_heaps (en_term (y_mono m_word) ∷ en_term (y_fun without_result (y_mono m_word)) ∷ []);
  goal = f_imp (f_and nothing_yet (f_eq m_word (t_var 2) (t_word 0))) f_tt;
}

-- the run in the recursive function, under its variable and its parameter, and behind them r
abbrev pub inner_context : Context
inner_context =
    en_term (y_fun (y_mono m_word) without_result) ∷ en_term (y_mono m_word) ∷ en_term (y_mono m_word) ∷ []

abbrev pub inner_run_goal : Obligation
inner_run_goal = record { context = with_heaps inner_context; goal = some_part nothing_yet }

-- its end: [ex y : word . S /\ x =[word] y] => ff, where S says that ff holds of y
abbrev pub inner_end_goal : Obligation
inner_end_goal = record {
  context = with_heaps (en_term (y_mono m_word) ∷ inner_context);
  goal = f_imp (f_ex_t m_word (f_and (after_one 3 5 f_ff) (f_eq m_word (t_var 3) (t_var 0)))) f_ff;
}

-- the run of the recursive function behind the run of f
abbrev pub outer_run_goal : Obligation
outer_run_goal = record {
  context = with_heaps (en_term (y_mono m_word) ∷ []);
  goal = some_part (after_one 2 4 f_tt);
}

-- [ex r : word . ex s : word . S /\ x =[word] s] => ff, where S says that ff holds of s
abbrev pub outer_end_goal : Obligation
outer_end_goal = record {
  context = with_heaps (en_term (y_mono m_word) ∷ []);
  goal = f_imp
      (f_ex_t m_word (f_ex_t m_word (f_and (after_more (after_one 5 4 f_tt) 6 f_ff) (f_eq m_word (t_var 4) (t_var 0)))))
      f_ff;
}

-- what f owes, and what g owes
abbrev pub endless_rows : List (List Obligation)
endless_rows =
    (end_of_f_goal ∷ []) ∷
    (run_goal ∷ inner_run_goal ∷ inner_end_goal ∷ outer_run_goal ∷ outer_end_goal ∷ []) ∷ []

abbrev pub endless_env : Environment
endless_env = record { vals = of_a_function ∷ without_result ∷ []; defs = []; recs = [] }

pub record EndlessValue : Type 0 where
  pub owes : DerivesAll none endless endless_env endless_rows
  -- the proof of f.1 speaks of g, and g runs f
  pub derived : IsDerived endless endless_proofs endless_env
