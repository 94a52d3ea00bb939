-- Values that run the one before them.
use Rattle.std.specs.Prelude.{ℕ, List, [], ◌∷◌, None, codes}
use Rattle.htt_syntax.specs.declared.mono.Op.TheVariants.{Add}
use Rattle.htt_syntax.specs.Trees.{CompTree, ProofTree, m_word, y_mono, t_var, t_val, t_do, t_word, t_bin, c_ret}
use Rattle.htt_syntax.specs.Trees.{c_step, s_run}
use Rattle.htt_syntax.specs.Trees.{f_and, f_imp, f_ex_t, f_eq, p_hyp, p_first, p_second, p_rewrite, p_axiom, p_block}
use Rattle.htt_syntax.specs.Trees.{d_intro, d_open, b_then}
use Rattle.htt_syntax.specs.Trees.{b_end}
use Rattle.theory_typing.specs.Contexts.{en_term, Environment, Obligation}
use Rattle.theory_typing.specs.Laws.{none}
use Rattle.theory_typing.specs.Typing.{with_heaps}
use Rattle.theory_items.specs.Items.{ItemTree, i_val}
use Rattle.theory_file_derived.specs.Derived.{ProofItem, DerivesAll, IsDerived}
use Rattle.theory_file_derived.specs.Examples.{second_part}
use Rattle.theory_file_calls.specs.Parts.{gives, proof_for, nothing_yet, some_part, after_one, whole_heap, used_run}

-- do x <- a value of the file; ret x + 1
abbrev pub one_more : ℕ → CompTree
one_more number = c_step (s_run (t_val number) None) (c_ret (t_bin Add (t_var 0) (t_word 1)))

-- val one : {tt} x : word {x =[word] 1} = do ret 1
-- val two : {tt} x : word {x =[word] 2} = do x <- one; ret x + 1
-- val three : {tt} x : word {x =[word] 3} = do x <- two; ret x + 1
abbrev pub counted : List ItemTree
counted =
    i_val (gives 1) (t_do (c_ret (t_word 1))) ∷ i_val (gives 2) (t_do (one_more 0)) ∷
    i_val (gives 3) (t_do (one_more 1)) ∷ []

-- intro u; open x v = u; open b w = first(v); open e z = axiom emp_some();
-- open n p = app(inst(inst(second(w), @b), @e), both(app(axiom join_emp(@b, @e), z), trivial));
-- rewrite(second(p), t . [y =[word] t + 1], second(v))
abbrev pub one_more_known : ProofTree
one_more_known =
    p_block (b_then d_intro (b_then (d_open (p_hyp 0)) (b_then (d_open (p_first (p_hyp 1)))
    (b_then (d_open (p_axiom (codes "emp_some") [] [])) (b_then (d_open (used_run 1 0 (p_hyp 2) (p_hyp 3)))
    (b_end (p_rewrite (p_second (p_hyp 4)) (f_eq m_word (t_var 7) (t_bin Add (t_var 0) (t_word 1)))
    (p_second (p_hyp 1)))))))))

-- the proofs of one.1, two.1, two.2, three.1 and three.2
abbrev pub counted_proofs : List ProofItem
counted_proofs =
    proof_for 0 1 second_part ∷ proof_for 1 1 whole_heap ∷ proof_for 1 2 one_more_known ∷ proof_for 2 1 whole_heap ∷
    proof_for 2 2 one_more_known ∷ []

-- [nothing_yet /\ x =[word] n] => x =[word] n, under x, init and mem
abbrev pub returns_goal : ℕ → Obligation
returns_goal n = record {
  context = with_heaps (en_term (y_mono m_word) ∷ []);
  goal = f_imp (f_and nothing_yet (f_eq m_word (t_var 2) (t_word n))) (f_eq m_word (t_var 2) (t_word n));
}

-- the run of the value before owes that it may have a part of the heap
abbrev pub run_goal : Obligation
run_goal = record { context = with_heaps []; goal = some_part nothing_yet }

-- [ex x : word . S /\ y =[word] x + 1] => y =[word] m, under y, init and mem, where S says that x is n
abbrev pub one_more_goal : ℕ → ℕ → Obligation
one_more_goal n m = record {
  context = with_heaps (en_term (y_mono m_word) ∷ []);
  goal = f_imp
      (f_ex_t m_word (f_and (after_one 3 5 (f_eq m_word (t_var 4) (t_word n)))
      (f_eq m_word (t_var 3) (t_bin Add (t_var 0) (t_word 1)))))
      (f_eq m_word (t_var 2) (t_word m));
}

-- what the three values owe
abbrev pub counted_rows : List (List Obligation)
counted_rows =
    (returns_goal 1 ∷ []) ∷ (run_goal ∷ one_more_goal 1 2 ∷ []) ∷ (run_goal ∷ one_more_goal 2 3 ∷ []) ∷ []

abbrev pub counted_env : Environment
counted_env = record { vals = gives 1 ∷ gives 2 ∷ gives 3 ∷ []; defs = []; recs = [] }

pub record ValuesThatCall : Type 0 where
  pub owes : DerivesAll none counted counted_env counted_rows
  pub derived : IsDerived counted counted_proofs counted_env
