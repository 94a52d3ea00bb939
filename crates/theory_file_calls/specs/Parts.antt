-- Types, computations and proofs that the files have in common.
use Rattle.std.specs.Prelude.{ℕ, codes, [], ◌∷◌, Some}
use Rattle.htt_syntax.specs.Trees.{TyTree, TripleTree, CompTree, FormulaTree, ProofTree, m_word, y_hoare, triple, t_var}
use Rattle.htt_syntax.specs.Trees.{t_val, t_word, c_ret, c_step, s_run, f_tt, f_and, f_imp, f_all_h, f_ex_h, f_join}
use Rattle.htt_syntax.specs.Trees.{f_same, f_eq, a_heap, p_hyp, p_trivial, p_second, p_both, p_give, p_app, p_inst}
use Rattle.htt_syntax.specs.Trees.{p_axiom, p_block, d_intro, d_open, b_then, b_end}
use Rattle.theory_file_derived.specs.Derived.{by_proof, ProofItem}

-- {tt} x : word {x =[word] n}
abbrev pub triple_of : ℕ → TripleTree
triple_of n = triple f_tt m_word (f_eq m_word (t_var 2) (t_word n))

abbrev pub gives : ℕ → TyTree
gives n = y_hoare (triple_of n)

-- x <- a value of the file; ret x: what a value of a word comes to where it is run
abbrev pub run_of : ℕ → CompTree
run_of number = c_step (s_run (t_val number) (Some m_word)) (c_ret (t_var 0))

-- proof f.n = p, where f is an item
abbrev pub proof_for : ℕ → ℕ → ProofTree → ProofItem
proof_for item number proof = record { item = Some item; number = number; given = by_proof proof }

-- tt /\ Same(mem, init)
abbrev pub nothing_yet : FormulaTree
nothing_yet = f_and f_tt (f_same 0 1)

-- R => ex g : heap . ex k : heap . Join(mem, g, k) /\ tt: what a run with the precondition tt owes in the
-- state R
abbrev pub some_part : FormulaTree → FormulaTree
some_part state = f_imp state (f_ex_h (f_ex_h (f_and (f_join 2 1 0) f_tt)))

-- ex b : heap . [tt /\ Same(b, init)] /\ [all g : heap . all k : heap . [Join(b, g, k) /\ tt]
--   => ex n : heap . Join(mem, n, k) /\ Q], with init and mem as variables under b and under n
abbrev pub after_one : ℕ → ℕ → FormulaTree → FormulaTree
after_one init mem post =
    f_ex_h (f_and (f_and f_tt (f_same 0 init))
    (f_all_h (f_all_h (f_imp (f_and (f_join 2 1 0) f_tt) (f_ex_h (f_and (f_join mem 0 1) post))))))

-- ex h : heap . R /\ [all g : heap . all k : heap . [Join(h, g, k) /\ tt]
--   => ex n : heap . Join(mem, n, k) /\ Q], with mem as a variable under n
abbrev pub after_more : FormulaTree → ℕ → FormulaTree → FormulaTree
after_more state mem post =
    f_ex_h (f_and state
    (f_all_h (f_all_h (f_imp (f_and (f_join 2 1 0) f_tt) (f_ex_h (f_and (f_join mem 0 1) post))))))

-- app(axiom join_emp(@h, @e), z)
abbrev pub joins_empty : ℕ → ℕ → ProofTree → ProofTree
joins_empty h e z = p_app (p_axiom (codes "join_emp") [] (a_heap h ∷ a_heap e ∷ [])) z

-- intro u; open e z = axiom emp_some(); give(@mem, give(@e, both(app(axiom join_emp(@mem, @e), z), trivial)))
abbrev pub whole_heap : ProofTree
whole_heap =
    p_block (b_then d_intro (b_then (d_open (p_axiom (codes "emp_some") [] []))
    (b_end (p_give (a_heap 1) (p_give (a_heap 0) (p_both (joins_empty 1 0 (p_hyp 1)) p_trivial))))))

-- app(inst(inst(second(w), @b), @e), both(app(axiom join_emp(@b, @e), z), trivial)): what is known after a
-- run from the whole heap b, where w is the state after it and z says that e is empty
abbrev pub used_run : ℕ → ℕ → ProofTree → ProofTree → ProofTree
used_run b e w z =
    p_app (p_inst (p_inst (p_second w) (a_heap b)) (a_heap e)) (p_both (joins_empty b e z) p_trivial)

-- app(app(axiom join_fun(@n, @mem, @n, @e), app(axiom join_emp(@n, @e), z)), j): n is mem, where z says that e
-- is empty and j that mem is n joined with e
abbrev pub same_heap : ℕ → ℕ → ℕ → ProofTree → ProofTree → ProofTree
same_heap n mem e z j =
    p_app
    (p_app (p_axiom (codes "join_fun") [] (a_heap n ∷ a_heap mem ∷ a_heap n ∷ a_heap e ∷ [])) (joins_empty n e z)) j
