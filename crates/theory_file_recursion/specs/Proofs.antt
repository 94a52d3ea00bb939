-- The proofs of what the recursive function owes. The names of variables are those of the comments there.
use Rattle.std.specs.Prelude.{ℕ, suc, codes, [], ◌∷◌, false}
use Rattle.htt_syntax.specs.declared.mono.Op.TheVariants.{Add, Sub}
use Rattle.htt_syntax.specs.Trees.{TermTree, FormulaTree, ProofTree, m_word, m_bool, t_var, t_word, t_bool, t_bin, f_eq}
use Rattle.htt_syntax.specs.Trees.{f_rec, no_terms, more_terms, a_heap, a_term, p_hyp, p_refl, p_first, p_second}
use Rattle.htt_syntax.specs.Trees.{p_absurd, p_app, p_case, p_rewrite, p_axiom, p_the, p_block, p_unfold, d_intro}
use Rattle.htt_syntax.specs.Trees.{d_open, b_then, b_end}
use Rattle.theory_file_calls.specs.Parts.{used_run, same_heap}

-- !dbl@h(N; x)
abbrev pub twice : ℕ → TermTree → TermTree → FormulaTree
twice h index x = f_rec 0 h index (more_terms x no_terms)

-- N - 1
abbrev pub one_less : TermTree → TermTree
one_less m = t_bin Sub m (t_word 1)

-- n - 1 < 18446744073709551615, where z says that eq[word](0, n) is false:
-- case(axiom lt_total(n - 1, 18446744073709551615), a . a, c . case(c,
--   d . absurd(app(axiom bool_ne(), rewrite(app(axiom eq_no[word](0, n), rewrite(d, t . [t + 1 =[word] n],
--     axiom sub_add(n, 1))), t . [t =[bool] false], z))),
--   d . absurd(app(axiom bool_ne(), rewrite(app(axiom lt_step(18446744073709551615, n - 1), d),
--     t . [t =[bool] false], refl)))))
-- with n as a variable, under t the next one, and the number of hypotheses before
abbrev pub has_next : ℕ → ℕ → ProofTree → ProofTree
has_next n count z =
    p_case (p_axiom (codes "lt_total") [] (a_term (one_less (t_var n)) ∷ a_term (t_word 18446744073709551615) ∷ []))
    (p_hyp count)
    (p_case (p_hyp count)
    (p_absurd (p_app (p_axiom (codes "bool_ne") [] [])
    (p_rewrite
    (p_app (p_axiom (codes "eq_no") (m_word ∷ []) (a_term (t_word 0) ∷ a_term (t_var n) ∷ []))
    (p_rewrite (p_hyp (suc count)) (f_eq m_word (t_bin Add (t_var 0) (t_word 1)) (t_var (suc n)))
    (p_axiom (codes "sub_add") [] (a_term (t_var n) ∷ a_term (t_word 1) ∷ []))))
    (f_eq m_bool (t_var 0) (t_bool false)) z)))
    (p_absurd (p_app (p_axiom (codes "bool_ne") [] [])
    (p_rewrite
    (p_app
    (p_axiom (codes "lt_step") [] (a_term (t_word 18446744073709551615) ∷ a_term (one_less (t_var n)) ∷ []))
    (p_hyp (suc count)))
    (f_eq m_bool (t_var 0) (t_bool false)) p_refl))))

-- In what follows y is the result, b what the `if` gives, and mem the heap at the end:
--   intro u; open b v = u; case(first(v), w . ZERO, w . NEXT)

-- ZERO: rewrite(app(axiom eq_yes[word](0, n), second(first(w))), t . [!dbl@mem(t; y)],
--   app(second(axiom dbl.0(@mem, y)), rewrite(second(w), t . [y =[word] t], second(v))))
abbrev pub at_zero : ProofTree
at_zero =
    p_rewrite
    (p_app (p_axiom (codes "eq_yes") (m_word ∷ []) (a_term (t_word 0) ∷ a_term (t_var 5) ∷ []))
    (p_second (p_first (p_hyp 2))))
    (twice 2 (t_var 0) (t_var 4))
    (p_app (p_second (p_unfold 0 0 (a_heap 1 ∷ a_term (t_var 3) ∷ [])))
    (p_rewrite (p_second (p_hyp 2)) (f_eq m_word (t_var 4) (t_var 0)) (p_second (p_hyp 1))))

-- s =[word] y - 2, where r says that b is s + 2:
-- rewrite(axiom add_sub(s, 2), t . [t =[word] y - 2], rewrite(second(r), t . [t - 2 =[word] y - 2],
--   rewrite(second(v), t . [t - 2 =[word] y - 2], refl)))
abbrev pub two_less : ProofTree
two_less =
    p_rewrite (p_axiom (codes "add_sub") [] (a_term (t_var 3) ∷ a_term (t_word 2) ∷ []))
    (f_eq m_word (t_var 0) (t_bin Sub (t_var 8) (t_word 2)))
    (p_rewrite (p_second (p_hyp 3)) (f_eq m_word (t_bin Sub (t_var 0) (t_word 2)) (t_bin Sub (t_var 8) (t_word 2)))
    (p_rewrite (p_second (p_hyp 1)) (f_eq m_word (t_bin Sub (t_var 0) (t_word 2)) (t_bin Sub (t_var 8) (t_word 2)))
    p_refl))

-- !dbl@mem(n - 1; s), where q says that mem is m joined with e, and that !dbl@m(n - 1; s):
-- rewrite(SAME, h . [!dbl@h(n - 1; s)], second(q)), where SAME says that m is mem
abbrev pub one_before : ProofTree
one_before =
    p_rewrite (same_heap 0 5 1 (p_hyp 5) (p_first (p_hyp 6))) (twice 0 (one_less (t_var 10)) (t_var 4))
    (p_second (p_hyp 6))

-- KNOWN: rewrite(axiom sub_add(n, 1), t . [!dbl@mem(t; y)],
--   app(second(app(axiom dbl.1(@mem, n - 1, y), HAS_NEXT)),
--     rewrite(the [s =[word] y - 2] (TWO_LESS), t . [!dbl@mem(n - 1; t)], ONE_BEFORE)))
abbrev pub next_known : ProofTree
next_known =
    p_rewrite (p_axiom (codes "sub_add") [] (a_term (t_var 9) ∷ a_term (t_word 1) ∷ [])) (twice 6 (t_var 0) (t_var 8))
    (p_app
    (p_second (p_app (p_unfold 0 1 (a_heap 5 ∷ a_term (one_less (t_var 9)) ∷ a_term (t_var 7) ∷ []))
    (has_next 9 7 (p_second (p_first (p_hyp 4))))))
    (p_rewrite (p_the (f_eq m_word (t_var 3) (t_bin Sub (t_var 7) (t_word 2))) two_less)
    (twice 6 (one_less (t_var 10)) (t_var 0)) one_before))

-- NEXT: open s r = w; open c p = first(r); open e z = axiom emp_some(); open m q = RUN; KNOWN
abbrev pub at_next : ProofTree
at_next =
    p_block (b_then (d_open (p_hyp 2)) (b_then (d_open (p_first (p_hyp 3)))
    (b_then (d_open (p_axiom (codes "emp_some") [] [])) (b_then (d_open (used_run 1 0 (p_hyp 4) (p_hyp 5)))
    (b_end next_known)))))

abbrev pub is_twice : ProofTree
is_twice =
    p_block (b_then d_intro (b_then (d_open (p_hyp 0)) (b_end (p_case (p_first (p_hyp 1)) at_zero at_next))))

-- intro u; open r v = u; open b w = first(v); open e z = axiom emp_some(); open m p = RUN;
-- rewrite(the [r =[word] x] (rewrite(second(v), t . [t =[word] x], refl)), t . [!dbl@mem(2; t)],
--   rewrite(SAME, h . [!dbl@h(2; r)], second(p)))
abbrev pub twice_two : ProofTree
twice_two =
    p_block (b_then d_intro (b_then (d_open (p_hyp 0)) (b_then (d_open (p_first (p_hyp 1)))
    (b_then (d_open (p_axiom (codes "emp_some") [] [])) (b_then (d_open (used_run 1 0 (p_hyp 2) (p_hyp 3)))
    (b_end (p_rewrite
    (p_the (f_eq m_word (t_var 3) (t_var 6)) (p_rewrite (p_second (p_hyp 1)) (f_eq m_word (t_var 0) (t_var 7)) p_refl))
    (twice 5 (t_word 2) (t_var 0))
    (p_rewrite (same_heap 0 4 1 (p_hyp 3) (p_first (p_hyp 4))) (twice 0 (t_word 2) (t_var 4))
    (p_second (p_hyp 4))))))))))
