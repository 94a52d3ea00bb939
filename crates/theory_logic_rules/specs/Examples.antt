-- Derivations that were worked out by hand.
use Rattle.std.specs.Prelude.{[], ◌∷◌, codes, true, false}
use Rattle.htt_syntax.specs.declared.mono.Op.TheVariants.{Add, Lt}
use Rattle.htt_syntax.specs.Trees.{FormulaTree, BlockTree, m_word, m_bool, m_loc, m_pair, y_mono, t_var, t_word, t_bool}
use Rattle.htt_syntax.specs.Trees.{t_loc, t_snd, t_bin, f_tt, f_ff, f_and, f_or, f_imp, f_all_t, f_ex_t, f_all_h}
use Rattle.htt_syntax.specs.Trees.{f_ex_h, f_emp, f_cell, f_join, f_same, f_eq, f_rec, no_terms, more_terms, a_heap}
use Rattle.htt_syntax.specs.Trees.{a_term, p_hyp, p_refl, p_trivial, p_first, p_second, p_left, p_right, p_absurd}
use Rattle.htt_syntax.specs.Trees.{p_both, p_give, p_app, p_inst, p_case, p_rewrite, p_induct, p_split, p_axiom, p_lem}
use Rattle.htt_syntax.specs.Trees.{p_the, p_block, p_at, p_unfold, d_intro, d_gen, d_have, d_open, d_at, b_then, b_end}
use Rattle.theory_truth.specs.Predicates.{RecTree}
use Rattle.theory_typing.specs.Contexts.{Context, Environment, en_heap, en_term}
use Rattle.theory_logic_rules.specs.Sequents.{both_ways}
use Rattle.theory_logic_rules.specs.Rules.{Infers, Proves}
use Rattle.theory_truth.specs.Examples.{chain, doubles}

abbrev pub env : Environment
env = record { vals = []; defs = []; recs = doubles ∷ [] }

-- one entry, a word x, and one entry, a heap h
abbrev pub with_word : Context
with_word = en_term (y_mono m_word) ∷ []

abbrev pub with_heap : Context
with_heap = en_heap ∷ []

abbrev pub is_five : FormulaTree
is_five = f_eq m_word (t_var 0) (t_word 5)

pub record TheStatements : Type 0 where
  -- intro u; second(u)
  pub second_part :
      Proves env with_word [] (p_block (b_then d_intro (b_end (p_second (p_hyp 0)))))
      (f_imp (f_and f_tt is_five) is_five)
  -- intro u; first(u)
  pub not_first_part :
      Proves env with_word [] (p_block (b_then d_intro (b_end (p_first (p_hyp 0)))))
      (f_imp (f_and f_tt is_five) is_five)
      → ⊥
  -- the same with positions
  pub with_positions :
      Proves env with_word []
      (p_at 3 (p_block (b_then (d_at 3 d_intro) (b_end (p_at 9 (p_second (p_at 16 (p_hyp 0))))))))
      (f_imp (f_and f_tt is_five) is_five)
  -- open h u = axiom emp_some(); give(@h, u)
  pub opened :
      Proves env with_word []
      (p_block (b_then (d_open (p_axiom (codes "emp_some") [] [])) (b_end (p_give (a_heap 0) (p_hyp 0)))))
      (f_ex_h (f_emp 0))
  -- gen y; intro v; u, where u says of x what v says of y
  pub raised_past :
      Proves env with_word (is_five ∷ []) (p_block (b_then d_gen (b_then d_intro (b_end (p_hyp 0)))))
      (f_all_t m_word (f_imp is_five (f_eq m_word (t_var 1) (t_word 5))))

pub record TheForms : Type 0 where
  -- case(u, v . right(v), w . left(w))
  pub cases :
      Proves env with_word (f_or f_tt is_five ∷ []) (p_case (p_hyp 0) (p_right (p_hyp 1)) (p_left (p_hyp 1)))
      (f_or is_five f_tt)
  -- case(u, v . right(v), w . right(w))
  pub no_crossing :
      Proves env with_word (f_or f_tt is_five ∷ []) (p_case (p_hyp 0) (p_right (p_hyp 1)) (p_right (p_hyp 1)))
      (f_or is_five f_tt)
      → ⊥
  -- rewrite(u, z . [z =[word] x], refl)
  pub turned :
      Proves env with_word (is_five ∷ []) (p_rewrite (p_hyp 0) (f_eq m_word (t_var 0) (t_var 1)) p_refl)
      (f_eq m_word (t_word 5) (t_var 0))
  -- induct(z . [z =[word] z], x, refl, y u v . refl)
  pub by_induction :
      Proves env with_word [] (p_induct (f_eq m_word (t_var 0) (t_var 0)) (t_var 0) p_refl p_refl)
      (f_eq m_word (t_var 0) (t_var 0))
  -- axiom lt_zero(3), whose formula is folded
  pub of_an_axiom :
      Infers env with_word [] (p_axiom (codes "lt_zero") [] (a_term (t_word 3) ∷ []))
      (f_eq m_bool (t_bool false) (t_bool false))
  -- no axiom has this name
  pub no_axiom : (F : FormulaTree) → Infers env with_word [] (p_axiom (codes "lt") [] (a_term (t_word 3) ∷ [])) F → ⊥

pub record TheUnfoldings : Type 0 where
  -- at 0 the word 4 is twice the index where 4 =[word] 0
  pub at_zero :
      Infers env with_heap [] (p_unfold 0 0 (a_heap 0 ∷ a_term (t_word 4) ∷ []))
      (both_ways (f_rec 0 0 (t_word 0) (more_terms (t_word 4) no_terms)) (f_eq m_word (t_word 4) (t_word 0)))
  -- at 3 the word 4 is twice the index where at 2 the word 2 is
  pub at_next :
      Infers env with_heap [] (p_unfold 0 1 (a_heap 0 ∷ a_term (t_word 2) ∷ a_term (t_word 4) ∷ []))
      (f_imp (f_eq m_bool (t_bool true) (t_bool true))
      (both_ways (f_rec 0 0 (t_word 3) (more_terms (t_word 4) no_terms))
      (f_rec 0 0 (t_word 2) (more_terms (t_word 2) no_terms))))

abbrev pub with_bool : Context
with_bool = en_term (y_mono m_bool) ∷ []

-- two heaps k and h, of which h is the innermost
abbrev pub with_heaps : Context
with_heaps = en_heap ∷ en_heap ∷ []

abbrev pub five_is_five : FormulaTree
five_is_five = f_eq m_word (t_word 5) (t_word 5)

-- it is true or it is false
abbrev pub either_truth : FormulaTree
either_truth = f_or (f_eq m_bool (t_var 0) (t_bool true)) (f_eq m_bool (t_var 0) (t_bool false))

pub record TheInferences : Type 0 where
  -- app(u, v)
  pub applied : Infers env with_word (f_imp is_five f_tt ∷ is_five ∷ []) (p_app (p_hyp 0) (p_hyp 1)) f_tt
  -- app(u, u)
  pub not_applied : (F : FormulaTree)
      → Infers env with_word (f_imp is_five f_tt ∷ is_five ∷ []) (p_app (p_hyp 0) (p_hyp 0)) F
      → ⊥
  -- inst(u, 5), where u says of each y that it is x
  pub at_a_term :
      Infers env with_word (f_all_t m_word (f_eq m_word (t_var 0) (t_var 1)) ∷ [])
      (p_inst (p_hyp 0) (a_term (t_word 5))) (f_eq m_word (t_word 5) (t_var 0))
  -- inst(u, @k), where u says of each heap a that it is h joined with k
  pub at_a_heap : Infers env with_heaps (f_all_h (f_join 0 1 2) ∷ []) (p_inst (p_hyp 0) (a_heap 1)) (f_join 1 0 1)
  -- lem [x =[word] 5]
  pub excluded_middle : Infers env with_word [] (p_lem is_five) (f_or is_five (f_imp is_five f_ff))
  -- the [2 + 3 =[word] 5] (refl)
  pub stated :
      Infers env with_word [] (p_the (f_eq m_word (t_bin Add (t_word 2) (t_word 3)) (t_word 5)) p_refl) five_is_five
  pub no_hypothesis : (F : FormulaTree) → Infers env with_word (is_five ∷ []) (p_hyp 1) F → ⊥
  -- a block infers nothing
  pub no_block : (block : BlockTree) (F : FormulaTree) → Infers env with_word (is_five ∷ []) (p_block block) F → ⊥

pub record TheGoals : Type 0 where
  -- both(trivial, refl)
  pub two_parts : Proves env with_word [] (p_both p_trivial p_refl) (f_and f_tt five_is_five)
  -- give(2 + 3, refl)
  pub given :
      Proves env with_word [] (p_give (a_term (t_bin Add (t_word 2) (t_word 3))) p_refl)
      (f_ex_t m_word (f_eq m_word (t_var 0) (t_word 5)))
  -- give(@h, refl), where a word is to be given
  pub no_heap_given :
      Proves env with_heaps [] (p_give (a_heap 0) p_refl) (f_ex_t m_word (f_eq m_word (t_var 0) (t_var 0))) → ⊥
  -- absurd(u)
  pub from_falsity : Proves env with_word (f_ff ∷ []) (p_absurd (p_hyp 0)) is_five
  pub no_reflexivity : Proves env with_word [] p_refl is_five → ⊥
  -- rewrite(u, z . [Emp(z)], v)
  pub heap_exchanged :
      Proves env with_heaps (f_same 1 0 ∷ f_emp 1 ∷ []) (p_rewrite (p_hyp 0) (f_emp 0) (p_hyp 1)) (f_emp 0)
  -- split(z . [z =[bool] true \/ z =[bool] false], b, left(refl), right(refl))
  pub by_cases : Proves env with_bool [] (p_split either_truth (t_var 0) (p_left p_refl) (p_right p_refl)) either_truth
  -- induct(z . [tt], x, trivial, y u v . v)
  pub induction_hypothesis : Proves env with_word [] (p_induct f_tt (t_var 0) p_trivial (p_hyp 1)) f_tt
  -- have u : [2 + 3 =[word] 5] = refl; u
  pub had :
      Proves env with_word []
      (p_block (b_then (d_have (f_eq m_word (t_bin Add (t_word 2) (t_word 3)) (t_word 5)) p_refl) (b_end (p_hyp 0))))
      five_is_five
  -- gen a; refl
  pub for_each_heap : Proves env with_word [] (p_block (b_then d_gen (b_end p_refl))) (f_all_h (f_same 0 0))
  -- open y v = u; give(y, v)
  pub opened_word :
      Proves env with_word (f_ex_t m_word is_five ∷ [])
      (p_block (b_then (d_open (p_hyp 0)) (b_end (p_give (a_term (t_var 0)) (p_hyp 1))))) (f_ex_t m_word is_five)

abbrev pub with_chain : Environment
with_chain = record { vals = []; defs = []; recs = chain ∷ [] }

-- a heap h, a word n and a word x, of which x is the innermost; and with a place p for x
abbrev pub with_number : Context
with_number = en_term (y_mono m_word) ∷ en_term (y_mono m_word) ∷ en_heap ∷ []

abbrev pub with_place : Context
with_place = en_term (y_mono m_loc) ∷ en_term (y_mono m_word) ∷ en_heap ∷ []

-- two words n and w, of which w is the innermost
abbrev pub with_two : Context
with_two = en_term (y_mono m_word) ∷ en_term (y_mono m_word) ∷ []

pub record TheVariables : Type 0 where
  -- at n + 1 the word x is twice the index where at n the word x - 2 is
  pub next_number :
      Infers env with_number [] (p_unfold 0 1 (a_heap 2 ∷ a_term (t_var 1) ∷ a_term (t_var 0) ∷ []))
      (f_imp (f_eq m_bool (t_bin Lt (t_var 1) (t_word 18446744073709551615)) (t_bool true))
      (both_ways (f_rec 0 2 (t_bin Add (t_var 1) (t_word 1)) (more_terms (t_var 0) no_terms))
      (f_rec 0 2 (t_var 1) (more_terms (t_bin Add (t_var 0) (t_word 18446744073709551614)) no_terms))))
  pub first_number :
      Infers env with_number [] (p_unfold 0 0 (a_heap 2 ∷ a_term (t_var 0) ∷ []))
      (both_ways (f_rec 0 2 (t_word 0) (more_terms (t_var 0) no_terms)) (f_eq m_word (t_var 0) (t_word 0)))
  -- a chain of n + 1 cells from p is ex c . ex a . ex b . Join(h, a, b) /\ Cell(a, p, c) /\ a chain of n from snd c
  pub next_cell :
      Infers with_chain with_place [] (p_unfold 0 1 (a_heap 2 ∷ a_term (t_var 1) ∷ a_term (t_var 0) ∷ []))
      (f_imp (f_eq m_bool (t_bin Lt (t_var 1) (t_word 18446744073709551615)) (t_bool true))
      (both_ways (f_rec 0 2 (t_bin Add (t_var 1) (t_word 1)) (more_terms (t_var 0) no_terms))
      (f_ex_t (m_pair m_word m_loc)
      (f_ex_h (f_ex_h (f_and (f_join 5 1 0)
      (f_and (f_cell (m_pair m_word m_loc) 1 (t_var 3) (t_var 2))
      (f_rec 0 0 (t_var 4) (more_terms (t_snd (t_var 2)) no_terms)))))))))
  -- app(second(app(axiom doubles.1(@h, 0, 2), refl)), app(second(axiom doubles.0(@h, 0)), refl))
  pub two_is_twice_one :
      Proves env with_heap [] (p_app
      (p_second (p_app (p_unfold 0 1 (a_heap 0 ∷ a_term (t_word 0) ∷ a_term (t_word 2) ∷ [])) p_refl))
      (p_app (p_second (p_unfold 0 0 (a_heap 0 ∷ a_term (t_word 0) ∷ []))) p_refl))
      (f_rec 0 0 (t_word 1) (more_terms (t_word 2) no_terms))
  -- there are no unfoldings but at 0 and at the next word, and none of a predicate that isn't there
  pub no_third_unfolding : (F : FormulaTree)
      → Infers env with_heap [] (p_unfold 0 2 (a_heap 0 ∷ a_term (t_word 4) ∷ [])) F
      → ⊥
  pub no_predicate : (F : FormulaTree) → Infers env with_heap [] (p_unfold 1 0 (a_heap 0 ∷ [])) F → ⊥
  -- induct(z . [z + w =[word] z + w], n, refl, y u v . refl)
  pub other_variable :
      Proves env with_two []
      (p_induct (f_eq m_word (t_bin Add (t_var 0) (t_var 1)) (t_bin Add (t_var 0) (t_var 1))) (t_var 1) p_refl p_refl)
      (f_eq m_word (t_bin Add (t_var 1) (t_var 0)) (t_bin Add (t_var 1) (t_var 0)))
  -- induct(z . [w =[word] 5], n, t, y u v . t), where t says that w is 5
  pub hypothesis_raised :
      Proves env with_two (is_five ∷ []) (p_induct (f_eq m_word (t_var 1) (t_word 5)) (t_var 1) (p_hyp 0) (p_hyp 0))
      is_five
  -- induct(z . [w =[word] 5], n, t, y u v . v)
  pub from_the_word_before :
      Proves env with_two (is_five ∷ []) (p_induct (f_eq m_word (t_var 1) (t_word 5)) (t_var 1) (p_hyp 0) (p_hyp 2))
      is_five
  -- open a v = u; t, where t is the goal, which is raised past a
  pub goal_raised :
      Proves env with_word (f_ex_h (f_emp 0) ∷ is_five ∷ []) (p_block (b_then (d_open (p_hyp 0)) (b_end (p_hyp 1))))
      is_five
  -- gen y; inst(u, y), where u says of each y that y is x
  pub used_at_the_new :
      Proves env with_word (f_all_t m_word (f_eq m_word (t_var 0) (t_var 1)) ∷ [])
      (p_block (b_then d_gen (b_end (p_inst (p_hyp 0) (a_term (t_var 0))))))
      (f_all_t m_word (f_eq m_word (t_var 0) (t_var 1)))
