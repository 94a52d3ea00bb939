-- Proofs, and what they come to, worked out by hand: each with its text, whose bytes count from 0. The
-- hypothesis u is the only one.
use Rattle.std.specs.Prelude.{[], ◌∷◌, true, Ok, Err, Some, None}
use Rattle.htt_syntax_words.specs.declared.words.Rule.TheVariants.{Synth, Mismatch, Sort, Infer, Axiom, First, Intro, Both}
use Rattle.htt_syntax_words.specs.declared.words.Rule.TheVariants.{Give, Rewrite}
use Rattle.htt_syntax.specs.Trees.{m_word, t_var, t_word, t_bool, t_fst, t_at, f_tt, f_ff, f_and, f_imp, f_ex_t, f_ex_h}
use Rattle.htt_syntax.specs.Trees.{f_eq, f_at, a_term, p_hyp, p_trivial, p_first, p_left, p_both, p_give, p_rewrite}
use Rattle.htt_syntax.specs.Trees.{p_axiom, p_block, p_at, p_unfold, d_intro, d_at, b_then, b_end}
use Rattle.theory_logic_axioms.specs.Names.{text_of, add_comm}
use Rattle.theory_typing.specs.Laws.{none}
use Rattle.theory_checking.specs.Stops.{refused}
use Rattle.theory_checking_proofs.specs.Checking.{ProofComesTo}

pub record RefusedProofs : Type 0 where
  -- first(left(u)): a checked form where a formula must be inferred
  pub no_synthesis :
      ProofComesTo none [] (f_tt ∷ []) 0 (p_at 0 (p_first (p_at 6 (p_left (p_at 11 (p_hyp 0)))))) None
      (Err (refused Synth 6))
  -- first(u), u : tt
  pub no_conjunction :
      ProofComesTo none [] (f_tt ∷ []) 0 (p_at 0 (p_first (p_at 6 (p_hyp 0)))) None (Err (refused First 0))
  -- both(first(u), u) against tt, u : tt: the form of the goal comes first
  pub goal_first :
      ProofComesTo none [] (f_tt ∷ []) 0 (p_at 0 (p_both (p_at 5 (p_first (p_at 11 (p_hyp 0)))) (p_at 15 (p_hyp 0))))
      (Some f_tt) (Err (refused Both 0))
  -- give(fst 1, u) against ex k : heap . tt: so does the sort of what is given
  pub sort_of_given :
      ProofComesTo none [] (f_tt ∷ []) 0 (p_at 0 (p_give (a_term (t_at 5 (t_fst (t_at 9 (t_word 1))))) (p_at 12 (p_hyp 0))))
      (Some (f_ex_h f_tt)) (Err (refused Give 0))
  -- give(true, u) against ex x : word . tt
  pub given_term :
      ProofComesTo none [] (f_tt ∷ []) 0 (p_at 0 (p_give (a_term (t_at 5 (t_bool true))) (p_at 11 (p_hyp 0))))
      (Some (f_ex_t m_word f_tt)) (Err (refused Mismatch 5))
  -- rewrite(u, z . [z =[word] true], trivial), u : tt
  pub no_equation :
      ProofComesTo none [] (f_tt ∷ []) 0
      (p_at 0 (p_rewrite (p_at 8 (p_hyp 0)) (f_at 16 (f_eq m_word (t_at 16 (t_var 0)) (t_at 26 (t_bool true))))
      (p_at 33 p_trivial))) (Some f_tt) (Err (refused Rewrite 0))
  -- the same, u : 1 =[word] 1
  pub motive :
      ProofComesTo none [] (f_eq m_word (t_word 1) (t_word 1) ∷ []) 0
      (p_at 0 (p_rewrite (p_at 8 (p_hyp 0)) (f_at 16 (f_eq m_word (t_at 16 (t_var 0)) (t_at 26 (t_bool true))))
      (p_at 33 p_trivial))) (Some f_tt) (Err (refused Mismatch 26))
  -- u against ff, u : tt
  pub other_goal : ProofComesTo none [] (f_tt ∷ []) 0 (p_at 0 (p_hyp 0)) (Some f_ff) (Err (refused Infer 0))
  -- a hypothesis, and a recursive predicate, that isn't there
  pub no_hypothesis : ProofComesTo none [] (f_tt ∷ []) 0 (p_at 3 (p_hyp 1)) None (Err (refused Sort 3))
  pub no_predicate : ProofComesTo none [] [] 0 (p_at 3 (p_unfold 0 2 [])) None (Err (refused Sort 3))
  -- axiom add_comm(1): one argument is missing
  pub too_few :
      ProofComesTo none [] [] 0 (p_at 0 (p_axiom (text_of add_comm) [] (a_term (t_at 15 (t_word 1)) ∷ []))) None
      (Err (refused Axiom 0))
  -- intro w; w against tt
  pub no_implication :
      ProofComesTo none [] [] 0 (p_block (b_then (d_at 4 d_intro) (b_end (p_at 13 (p_hyp 0))))) (Some f_tt)
      (Err (refused Intro 4))

pub record CheckedProofs : Type 0 where
  -- intro w; w against tt => tt
  pub identity :
      ProofComesTo none [] [] 0 (p_block (b_then (d_at 0 d_intro) (b_end (p_at 9 (p_hyp 0))))) (Some (f_imp f_tt f_tt))
      (Ok (f_imp f_tt f_tt))
  -- both(u, trivial) against tt /\ tt
  pub pair :
      ProofComesTo none [] (f_tt ∷ []) 0 (p_at 0 (p_both (p_at 5 (p_hyp 0)) (p_at 8 p_trivial))) (Some (f_and f_tt f_tt))
      (Ok (f_and f_tt f_tt))
