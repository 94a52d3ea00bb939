-- The worked examples hold.
use Rattle.std.proofs.Common.{◌≡◌, ℕ, suc, [], ◌∷◌, List, Some, refl, sym, ap, arith}
use Rattle.std.proofs.lemmas.Option.{same_Some}
use Rattle.htt_syntax.specs.declared.mono.Op.TheVariants.{Add}
use Rattle.htt_syntax.specs.Trees.{MonoTree, m_word, m_bool, m_loc, t_var, t_word, t_bin, t_made, no_terms, f_eq, f_cell, f_rec}
use Rattle.theory_renaming.specs.Renaming.{rename_mono}
use Rattle.theory_canonical.specs.Folding.{contractum}
use Rattle.theory_substitution.specs.Monotypes.{next_filling, fill_mono}
use Rattle.theory_formed_shapes.specs.Shapes.{Shape, sh_mono, sh_fun, sh_comp, shape_of, fill_shape, dropping, first_filled, in_heap, in_term, Shapes}
use Rattle.theory_formed_shapes.specs.Shapes.{heap_at_zero, shape_here, shape_there}
use Rattle.theory_formed_shapes.specs.Formed.{MadeShape, IsFormedTerm, IsFormedNeutral, IsFormedTerms, IsFormedFormula, z_m_word, z_m_pair, z_word, z_bin}
use Rattle.theory_formed_shapes.specs.Formed.{z_lam, z_do, z_neutral, w_var, w_val, w_made, w_fix, w_app, w_inst, z_no_terms, z_more_terms, z_param}
use Rattle.theory_formed_shapes.specs.Formed.{z_body, z_ret, z_step, z_run, z_mono, z_triple, z_tt, z_ex_h, z_cell, z_equal, z_rec}
use Rattle.theory_formed_shapes.specs.Examples.{WorkedExamples, file}

no_bool_literal : {g : Shapes} {n : ℕ} → IsFormedTerm file g (t_word n) (sh_mono m_bool) → ⊥
no_bool_literal (z_neutral d) = elim d [ ]

no_loc_literal : {g : Shapes} {n : ℕ} → IsFormedTerm file g (t_word n) (sh_mono m_loc) → ⊥
no_loc_literal (z_neutral d) = elim d [ ]

no_equation : IsFormedFormula file [] (f_eq m_bool (t_word 1) (t_word 1)) → ⊥
no_equation (z_equal m d e) = no_bool_literal d

no_redex : (s : Shape) → IsFormedTerm file [] (t_bin Add (t_word 2) (t_word 3)) s → ⊥
unfolding contractum
no_redex s (z_bin d e f) = cc
no_redex s (z_neutral d) = elim d [ ]

no_literal : (s : Shape) → IsFormedTerm file [] (t_word 18446744073709551616) s → ⊥
no_literal s (z_word l) = omega (arith, l)
no_literal s (z_neutral d) = elim d [ ]

no_cell : IsFormedFormula file (in_heap ∷ []) (f_cell m_word 0 (t_word 5) (t_word 7)) → ⊥
no_cell (z_cell m h d e) = no_loc_literal d

none_of_some : {ts : List MonoTree} → IsFormedTerms file (in_heap ∷ []) no_terms ts → Some (m_loc ∷ []) ≡ Some ts → ⊥
none_of_some z_no_terms e = cc

no_atom : IsFormedFormula file (in_heap ∷ []) (f_rec 0 0 (t_word 1) no_terms) → ⊥
no_atom (z_rec e h d f) = none_of_some f e

no_such_atom : IsFormedFormula file (in_heap ∷ []) (f_rec 1 0 (t_word 1) no_terms) → ⊥
no_such_atom (z_rec e h d f) = cc

nothing_captured : {ts : List MonoTree} → IsFormedTerms file [] no_terms ts → ts ≡ m_word ∷ [] → ⊥
nothing_captured z_no_terms e = cc

same_made : {m : MadeShape} → Some (record { captured = m_word ∷ []; whole = sh_fun (sh_mono m_loc) (sh_comp m_word) }) ≡ Some m → m.captured ≡ m_word ∷ []
same_made {m = m} e = ap (λ (x : MadeShape). x.captured) (sym (same_Some _ m e))

not_made : IsFormedNeutral file [] (t_made 0 no_terms) (sh_fun (sh_mono m_loc) (sh_comp m_word)) → ⊥
not_made (w_made e d) = nothing_captured d (same_made e)

innermost : {g : Shapes} {t : MonoTree} → IsFormedTerm file (in_term (sh_mono t) ∷ g) (t_var 0) (sh_mono (rename_mono suc t))
unfolding fill_shape fill_mono rename_mono
innermost = z_neutral (w_var shape_here)

pub worked : WorkedExamples
unfolding rename_mono contractum next_filling fill_mono dropping first_filled shape_of fill_shape
worked = record {
  shape_of_a_routine = refl;
  shape_of_a_family = refl;
  shape_at_loc = refl;
  call = z_do (z_step (z_run (w_app (w_inst (w_val refl) z_m_word) (z_word (omega arith))) (z_m_pair z_m_word z_m_word)) (z_ret innermost));
  made_call =
      z_do (z_step (z_run (w_app (w_made refl (z_more_terms (z_word (omega arith)) z_no_terms)) (z_neutral (w_var shape_here))) z_m_word)
      (z_ret innermost));
  computation_in_a_formula = z_equal z_m_word (z_neutral (w_app (w_var shape_here) (z_do (z_ret (z_word (omega arith)))))) (z_word (omega arith));
  predicate =
      z_ex_h (z_rec refl heap_at_zero (z_neutral (w_var (shape_there (shape_there shape_here))))
      (z_more_terms (z_neutral (w_var (shape_there shape_here))) z_no_terms));
  recursion =
      z_lam (z_do (z_step (z_run
      (w_app (w_fix (z_param (z_mono z_m_word)
      (z_body (z_triple z_tt z_m_word z_tt)
      (z_step (z_run (w_app (w_var shape_here) (z_neutral (w_var (shape_there shape_here)))) z_m_word) (z_ret innermost)))))
      innermost) z_m_word) (z_ret innermost)));
  other_monotype = no_equation;
  redex = no_redex;
  no_word = no_literal;
  no_location = no_cell;
  no_arguments = no_atom;
  no_predicate = no_such_atom;
  no_capture = not_made;
}
