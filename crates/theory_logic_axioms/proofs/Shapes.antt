-- The table has a formula exactly where the shape fits.
use Rattle.std.proofs.Common.{◌≡◌, List, [], ◌∷◌, is_some, refl}
use Rattle.htt_syntax.specs.Trees.{MonoTree, ArgTree, a_heap, a_term}
use Rattle.theory_logic_axioms.specs.Names.{AxiomName, emp_some, emp_one, join_emp, join_comm, join_assoc, join_fun, join_cancel, join_empty, join_cross}
use Rattle.theory_logic_axioms.specs.Names.{cell_block, cell_one, cell_val, cell_make, block_part, block_sep, block_null, block_emp, block_word, block_place}
use Rattle.theory_logic_axioms.specs.Names.{block_width, add_comm, mul_comm, add_assoc, mul_assoc, add_zero, mul_one, mul_zero, mul_add, sub_add, add_sub}
use Rattle.theory_logic_axioms.specs.Names.{lt_irrefl, lt_zero, lt_trans, lt_total, lt_step, lt_gap, lt_pred, eq_yes, eq_no, bool_or, bool_ne, pair_eta}
use Rattle.theory_logic_axioms.specs.Names.{unit_eta, and_zero, or_zero, xor_self, shl_one}
use Rattle.theory_logic_axioms.specs.Table.{argument_sorts, fits_shape, formula_of}

pub formula_shaped : (axiom_name : AxiomName) (monos : List MonoTree) (arguments : List ArgTree)
    → is_some (formula_of axiom_name monos arguments) ≡ fits_shape (argument_sorts axiom_name monos) arguments
unfolding formula_of argument_sorts
formula_shaped emp_some [] [] = refl
formula_shaped emp_one [] (a_heap h ∷ a_heap k ∷ []) = refl
formula_shaped join_emp [] (a_heap h ∷ a_heap e ∷ []) = refl
formula_shaped join_comm [] (a_heap h ∷ a_heap a ∷ a_heap b ∷ []) = refl
formula_shaped join_assoc [] (a_heap h ∷ a_heap a ∷ a_heap b ∷ a_heap c ∷ a_heap d ∷ []) = refl
formula_shaped join_fun [] (a_heap h ∷ a_heap k ∷ a_heap a ∷ a_heap b ∷ []) = refl
formula_shaped join_cancel [] (a_heap h ∷ a_heap a ∷ a_heap b ∷ a_heap c ∷ []) = refl
formula_shaped join_empty [] (a_heap h ∷ a_heap a ∷ a_heap b ∷ []) = refl
formula_shaped join_cross [] (a_heap h ∷ a_heap a ∷ a_heap b ∷ a_heap c ∷ a_heap d ∷ []) = refl
formula_shaped cell_block (t ∷ []) (a_heap h ∷ a_term m ∷ a_term n ∷ []) = refl
formula_shaped cell_one (t ∷ []) (a_heap g ∷ a_heap k ∷ a_term m ∷ a_term n ∷ []) = refl
formula_shaped cell_val (t ∷ []) (a_heap g ∷ a_term m ∷ a_term n ∷ a_term p ∷ []) = refl
formula_shaped cell_make (t ∷ []) (a_term m ∷ a_term n ∷ []) = refl
formula_shaped block_part (t ∷ s ∷ []) (a_heap h ∷ a_heap a ∷ a_heap b ∷ a_heap c ∷ a_heap d ∷ a_term m ∷ []) = refl
formula_shaped block_sep (t ∷ s ∷ []) (a_heap h ∷ a_heap a ∷ a_heap b ∷ a_term m ∷ []) = refl
formula_shaped block_null (t ∷ []) (a_heap h ∷ []) = refl
formula_shaped block_emp (t ∷ []) (a_heap h ∷ a_term m ∷ []) = refl
formula_shaped block_word [] (a_heap h ∷ a_term m ∷ []) = refl
formula_shaped block_place (t ∷ s ∷ []) (a_heap h ∷ a_term m ∷ a_term n ∷ []) = refl
formula_shaped block_width (t ∷ s ∷ []) (a_heap h ∷ a_term m ∷ []) = refl
formula_shaped add_comm [] (a_term x ∷ a_term y ∷ []) = refl
formula_shaped mul_comm [] (a_term x ∷ a_term y ∷ []) = refl
formula_shaped add_assoc [] (a_term x ∷ a_term y ∷ a_term z ∷ []) = refl
formula_shaped mul_assoc [] (a_term x ∷ a_term y ∷ a_term z ∷ []) = refl
formula_shaped add_zero [] (a_term x ∷ []) = refl
formula_shaped mul_one [] (a_term x ∷ []) = refl
formula_shaped mul_zero [] (a_term x ∷ []) = refl
formula_shaped mul_add [] (a_term x ∷ a_term y ∷ a_term z ∷ []) = refl
formula_shaped sub_add [] (a_term x ∷ a_term y ∷ []) = refl
formula_shaped add_sub [] (a_term x ∷ a_term y ∷ []) = refl
formula_shaped lt_irrefl [] (a_term x ∷ []) = refl
formula_shaped lt_zero [] (a_term x ∷ []) = refl
formula_shaped lt_trans [] (a_term x ∷ a_term y ∷ a_term z ∷ []) = refl
formula_shaped lt_total [] (a_term x ∷ a_term y ∷ []) = refl
formula_shaped lt_step [] (a_term x ∷ a_term y ∷ []) = refl
formula_shaped lt_gap [] (a_term x ∷ a_term y ∷ []) = refl
formula_shaped lt_pred [] (a_term x ∷ []) = refl
formula_shaped eq_yes (t ∷ []) (a_term m ∷ a_term n ∷ []) = refl
formula_shaped eq_no (t ∷ []) (a_term m ∷ a_term n ∷ []) = refl
formula_shaped bool_or [] (a_term b ∷ []) = refl
formula_shaped bool_ne [] [] = refl
formula_shaped pair_eta (t ∷ s ∷ []) (a_term p ∷ []) = refl
formula_shaped unit_eta [] (a_term u ∷ []) = refl
formula_shaped and_zero [] (a_term x ∷ []) = refl
formula_shaped or_zero [] (a_term x ∷ []) = refl
formula_shaped xor_self [] (a_term x ∷ []) = refl
formula_shaped shl_one [] (a_term x ∷ []) = refl
formula_shaped _ _ _ = refl
