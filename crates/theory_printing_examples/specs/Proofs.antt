-- Printed proofs, written by hand: each form.
use Rattle.std.specs.Prelude.{◌≡◌, [], ◌∷◌, codes}
use Rattle.htt_syntax.specs.Trees.{m_word, m_bool, t_var, t_word, f_tt, f_ff, f_and, f_eq, f_emp, a_heap, a_term, p_hyp}
use Rattle.htt_syntax.specs.Trees.{p_trivial, p_refl, p_first, p_second, p_left, p_right, p_absurd, p_both, p_give}
use Rattle.htt_syntax.specs.Trees.{p_app, p_inst, p_case, p_rewrite, p_induct, p_split, p_axiom, p_lem, p_the, p_block}
use Rattle.htt_syntax.specs.Trees.{p_at, p_unfold, d_intro, d_gen, d_have, d_open, d_at, b_then, b_end}
use Rattle.theory_printing_examples.specs.Short.{of_proof, x, one_and_two}

pub record PrintedProofs : Type 0 where
  pub hypothesis : of_proof (p_hyp 0) ≡ codes "_u0"
  pub trivial_ : of_proof p_trivial ≡ codes "trivial"
  pub reflexivity : of_proof p_refl ≡ codes "refl"
  pub first_ : of_proof (p_first (p_hyp 0)) ≡ codes "first(_u0)"
  pub second_ : of_proof (p_second (p_hyp 0)) ≡ codes "second(_u0)"
  pub left_ : of_proof (p_left p_trivial) ≡ codes "left(trivial)"
  pub right_ : of_proof (p_right p_trivial) ≡ codes "right(trivial)"
  pub absurd_ : of_proof (p_absurd (p_hyp 0)) ≡ codes "absurd(_u0)"
  pub both_ : of_proof (p_both p_trivial p_refl) ≡ codes "both(trivial, refl)"
  pub give_a_term : of_proof (p_give (a_term one_and_two) p_refl) ≡ codes "give(1 + 2, refl)"
  pub give_a_heap : of_proof (p_give (a_heap 0) p_refl) ≡ codes "give(@_h2, refl)"
  pub application : of_proof (p_app (p_app (p_hyp 0) p_trivial) p_refl) ≡ codes "app(app(_u0, trivial), refl)"
  pub instance_of_a_term : of_proof (p_inst (p_hyp 0) (a_term x)) ≡ codes "inst(_u0, _x1)"
  pub instance_of_a_heap : of_proof (p_inst (p_inst (p_hyp 0) (a_heap 0)) (a_term x))
      ≡ codes "inst(inst(_u0, @_h2), _x1)"
  pub cases : of_proof (p_case (p_hyp 0) (p_hyp 1) (p_hyp 1)) ≡ codes "case(_u0, _u1 . _u1, _u1 . _u1)"
  pub rewriting : of_proof (p_rewrite (p_hyp 0) (f_eq m_word (t_var 0) (t_var 2)) p_refl)
      ≡ codes "rewrite(_u0, _x3 . [_x3 =[word] _x1], refl)"
  pub motive_of_a_heap : of_proof (p_rewrite (p_hyp 0) (f_emp 0) (p_hyp 0))
      ≡ codes "rewrite(_u0, _x3 . [Emp(_x3)], _u0)"
  pub induction : of_proof (p_induct (f_and f_tt f_ff) x p_trivial (p_second (p_hyp 2)))
      ≡ codes "induct(_x3 . [tt /\\ ff], _x1, trivial, _x3 _u1 _u2 . second(_u2))"
  pub splitting : of_proof (p_split f_tt x p_trivial p_refl) ≡ codes "split(_x3 . [tt], _x1, trivial, refl)"
  pub axiom_ : of_proof (p_axiom (codes "block_part") (m_word ∷ m_bool ∷ []) (a_heap 0 ∷ a_term one_and_two ∷ []))
      ≡ codes "axiom block_part[word, bool](@_h2, 1 + 2)"
  pub axiom_alone : of_proof (p_axiom (codes "emp_some") [] []) ≡ codes "axiom emp_some()"
  pub unfolding_ : of_proof (p_unfold 0 1 (a_heap 0 ∷ a_term (t_word 2) ∷ [])) ≡ codes "axiom lst.1(@_h2, 2)"
  pub excluded_middle : of_proof (p_lem (f_and f_tt f_ff)) ≡ codes "lem[tt /\\ ff]"
  pub the_ : of_proof (p_the f_tt p_trivial) ≡ codes "the[tt](trivial)"
  pub positions : of_proof (p_at 4 (p_both (p_at 9 p_trivial) (p_at 18 p_refl))) ≡ codes "both(trivial, refl)"

pub record PrintedBlocks : Type 0 where
  pub introduction : of_proof (p_block (b_then (d_at 0 d_intro) (b_end (p_second (p_hyp 1)))))
      ≡ codes "intro _u1; second(_u1)"
  pub generalisation : of_proof (p_block (b_then d_gen (b_then d_gen (b_end (p_inst (p_hyp 0) (a_term (t_var 0)))))))
      ≡ codes "gen _x3; gen _x4; inst(_u0, _x4)"
  pub opening : of_proof (p_block (b_then (d_open (p_hyp 0)) (b_end (p_give (a_heap 0) (p_hyp 1)))))
      ≡ codes "open _x3 _u1 = _u0; give(@_x3, _u1)"
  pub having : of_proof (p_block (b_then (d_have (f_and f_tt f_ff) (p_hyp 0)) (b_end (p_first (p_hyp 1)))))
      ≡ codes "have _u1 : [tt /\\ ff] = _u0; first(_u1)"
  pub within_a_proof : of_proof (p_left (p_block (b_then d_intro (b_end (p_hyp 1))))) ≡ codes "left(intro _u1; _u1)"
