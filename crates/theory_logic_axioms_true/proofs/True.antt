-- Each instance of an axiom is true: its row of the table with the lemma that proves it.
use Rattle.std.proofs.Common.{◌≡◌, ℕ, List, [], ◌∷◌, Option, Some, None, IfSome, refl, sym, ap, ◌∙◌, subst}
use Rattle.htt_syntax.specs.Trees.{MonoTree, TermTree, FormulaTree, ArgTree, m_word, m_loc, t_var, t_loc, a_heap, a_term}
use Rattle.theory_values.specs.Values.{Value, v_loc, HasType, encoding, width}
use Rattle.theory_values.specs.Heaps.{Heap, IsHeap, IsOnly}
use Rattle.theory_values.proofs.Encoding.{encoding_is_as_wide}
use Rattle.theory_values.proofs.Joins.{join_commutes, join_is_one, join_cancels}
use Rattle.theory_truth.specs.Worlds.{Thing, World, th_value, th_heap, heap_at, mono_under}
use Rattle.theory_truth.specs.TermValue.{term_value, loc_of}
use Rattle.theory_truth.specs.Truth.{NotNot, IsBlock, Recs, Holds}
use Rattle.theory_truth.specs.Predicates.{recs_of}
use Rattle.theory_truth.proofs.Renamed.{value_renamed}
use Rattle.theory_logic_axioms.specs.Names.{AxiomName, emp_some, emp_one, join_emp, join_comm, join_assoc, join_fun, join_cancel, join_empty, join_cross}
use Rattle.theory_logic_axioms.specs.Names.{cell_block, cell_one, cell_val, cell_make, block_part, block_sep, block_null, block_emp, block_word, block_place}
use Rattle.theory_logic_axioms.specs.Names.{block_width, add_comm, mul_comm, add_assoc, mul_assoc, add_zero, mul_one, mul_zero, mul_add, sub_add, add_sub}
use Rattle.theory_logic_axioms.specs.Names.{lt_irrefl, lt_zero, lt_trans, lt_total, lt_step, lt_gap, lt_pred, eq_yes, eq_no, bool_or, bool_ne, pair_eta}
use Rattle.theory_logic_axioms.specs.Names.{unit_eta, and_zero, or_zero, xor_self, shl_one}
use Rattle.theory_substitution.specs.Closing.{up}
use Rattle.theory_logic_axioms.specs.Table.{ArgSort, argument_sorts, SideCondition, formula_of}
use Rattle.theory_logic_axioms_true.specs.Laws.{AreOfSorts, AreOfShape, AxiomsAreTrue}
use Rattle.theory_logic_axioms_true.proofs.Values.{as_loc, as_unit}
use Rattle.theory_logic_axioms_true.proofs.WordAxioms.{sum_commutes, product_commutes, sum_regroups, product_regroups, zero_added, times_one, times_zero}
use Rattle.theory_logic_axioms_true.proofs.WordAxioms.{product_of_sum, difference_and_sum, sum_and_difference, not_below_itself, not_below_zero, transitive}
use Rattle.theory_logic_axioms_true.proofs.WordAxioms.{total, below_next, nothing_between, before_is_below, bits_with_zero, bits_or_zero, xor_itself}
use Rattle.theory_logic_axioms_true.proofs.WordAxioms.{left_by_one}
use Rattle.theory_logic_axioms_true.proofs.JoinAxioms.{some_empty, empty_once, join_with_empty, regrouped, empty_parts, crossed}
use Rattle.theory_logic_axioms_true.proofs.CellAxioms.{only_once, one_value, cell_made}
use Rattle.theory_logic_axioms_true.proofs.BlockAxioms.{same_parts, apart, not_at_zero, not_empty, word_held, one_place, other_width}
use Rattle.theory_logic_axioms_true.proofs.Widths.{same_width}
use Rattle.theory_logic_axioms_true.proofs.ValueAxioms.{equal_where_yes, yes_where_equal, true_or_false, not_the_other, parts_of_pair}

-- a term under one more thing
raised : (x : Thing) (w : World) (M : TermTree) → term_value (x ∷ w) (up M) ≡ term_value w M
raised x w M = value_renamed (record { at = λ n. refl }) M

cell_is_block : (w : World) (t : MonoTree) (h : ℕ) (m n : TermTree)
    → HasType (term_value w n) (mono_under w t)
    → IsOnly (heap_at w h) (loc_of (term_value w m)) (encoding (term_value w n))
    → IsBlock (heap_at w h) (loc_of (term_value w m)) (width (mono_under w t))
cell_is_block w t h m n typed cell = (encoding (term_value w n), encoding_is_as_wide typed, cell)

-- a cell of a value at a place that isn't null
cell_there : (w : World) (t : MonoTree) (m n : TermTree)
    → HasType (term_value w m) m_loc
    → HasType (term_value w n) (mono_under w t)
    → (term_value w m ≡ term_value w (t_loc 0) → ⊥)
    → NotNot ((h : Heap) × IsHeap h × IsOnly h (loc_of (term_value (th_heap h ∷ w) (up m))) (encoding (term_value (th_heap h ∷ w) (up n))))
unfolding term_value
cell_there w t m n dm dn above deny =
    let l = as_loc dm in
    let made = cell_made l.place (term_value w n) (mono_under w t) dn l.word (λ e. above (l.same ∙ ap v_loc e)) in
    let h = made.0 in
    let place : loc_of (term_value (th_heap h ∷ w) (up m)) ≡ l.place = ap loc_of (raised (th_heap h) w m ∙ l.same) in
    let held = ap encoding (raised (th_heap h) w n) in
    deny (h, made.1, subst (λ k. IsOnly h k (encoding (term_value (th_heap h ∷ w) (up n)))) (sym place) (subst (IsOnly h l.place) (sym held) made.2))

-- the word in a block of one word
word_there : (w : World) (h : ℕ) (m : TermTree)
    → IsHeap (heap_at w h)
    → IsBlock (heap_at w h) (loc_of (term_value w m)) 1
    → NotNot ((v : Value)
    × HasType v m_word
    × IsOnly (heap_at w h) (loc_of (term_value (th_value v ∷ w) (up m))) (encoding (term_value (th_value v ∷ w) (t_var 0))))
unfolding term_value
word_there w h m i p deny =
    word_held (heap_at w h) (loc_of (term_value w m)) i p
    (λ r. deny (r.0, r.1, subst (λ k. IsOnly (heap_at w h) k (encoding r.0)) (sym (ap loc_of (raised (th_value r.0) w m))) r.2))

placed_once : (w : World) (t s : MonoTree) (h : ℕ) (m n : TermTree)
    → HasType (term_value w m) m_loc
    → HasType (term_value w n) m_loc
    → IsBlock (heap_at w h) (loc_of (term_value w m)) (width (mono_under w t))
    → IsBlock (heap_at w h) (loc_of (term_value w n)) (width (mono_under w s))
    → term_value w m ≡ term_value w n
placed_once w t s h m n dm dn p q =
    let a = as_loc dm in
    let b = as_loc dn in
    let e : loc_of (term_value w m) ≡ loc_of (term_value w n) = one_place (heap_at w h) _ _ (width (mono_under w t)) (width (mono_under w s)) p q in
    a.same ∙ ap v_loc (sym (ap loc_of a.same) ∙ e ∙ ap loc_of b.same) ∙ sym b.same

true_at : (R : Recs) (w : World) (axiom_name : AxiomName) (monos : List MonoTree) (arguments : List ArgTree)
    → SideCondition axiom_name monos
    → AreOfShape w (argument_sorts axiom_name monos) arguments
    → IfSome (formula_of axiom_name monos arguments) (Holds R w)
unfolding formula_of argument_sorts SideCondition Holds term_value
true_at R w emp_some [] [] _ _ = some_empty
true_at R w emp_one [] (a_heap h ∷ a_heap k ∷ []) _ (_, (_, _)) = empty_once (heap_at w h) (heap_at w k)
true_at R w join_emp [] (a_heap h ∷ a_heap e ∷ []) _ (_, (_, _)) = join_with_empty (heap_at w h) (heap_at w e)
true_at R w join_comm [] (a_heap h ∷ a_heap a ∷ a_heap b ∷ []) _ (_, (_, (_, _))) = join_commutes
true_at R w join_assoc [] (a_heap h ∷ a_heap a ∷ a_heap b ∷ a_heap c ∷ a_heap d ∷ []) _ (dh, (_, (_, (_, (_, _))))) =
    regrouped (heap_at w h) (heap_at w a) (heap_at w b) (heap_at w c) (heap_at w d) dh
true_at R w join_fun [] (a_heap h ∷ a_heap k ∷ a_heap a ∷ a_heap b ∷ []) _ (_, (_, (_, (_, _)))) = join_is_one
true_at R w join_cancel [] (a_heap h ∷ a_heap a ∷ a_heap b ∷ a_heap c ∷ []) _ (_, (_, (_, (_, _)))) = join_cancels
true_at R w join_empty [] (a_heap h ∷ a_heap a ∷ a_heap b ∷ []) _ (_, (_, (_, _))) = empty_parts (heap_at w h) (heap_at w a) (heap_at w b)
true_at R w join_cross [] (a_heap h ∷ a_heap a ∷ a_heap b ∷ a_heap c ∷ a_heap d ∷ []) _ (dh, (_, (_, (_, (_, _))))) =
    crossed (heap_at w h) (heap_at w a) (heap_at w b) (heap_at w c) (heap_at w d) dh
true_at R w cell_block (t ∷ []) (a_heap h ∷ a_term m ∷ a_term n ∷ []) _ (_, (_, (dn, _))) = cell_is_block w t h m n dn
true_at R w cell_one (t ∷ []) (a_heap g ∷ a_heap k ∷ a_term m ∷ a_term n ∷ []) _ (_, (_, (_, (_, _)))) =
    only_once (heap_at w g) (heap_at w k) (loc_of (term_value w m)) (encoding (term_value w n))
true_at R w cell_val (t ∷ []) (a_heap g ∷ a_term m ∷ a_term n ∷ a_term p ∷ []) _ (_, (_, (dn, (dp, _)))) =
    one_value (heap_at w g) (loc_of (term_value w m)) (term_value w n) (term_value w p) (mono_under w t) dn dp
true_at R w cell_make (t ∷ []) (a_term m ∷ a_term n ∷ []) _ (dm, (dn, _)) = cell_there w t m n dm dn
true_at R w block_part (t ∷ s ∷ []) (a_heap h ∷ a_heap a ∷ a_heap b ∷ a_heap c ∷ a_heap d ∷ a_term m ∷ []) _ (_, (_, (_, (_, (_, (_, _))))))
    =
    same_parts (heap_at w h) (heap_at w a) (heap_at w b) (heap_at w c) (heap_at w d) (loc_of (term_value w m)) (width (mono_under w t))
    (width (mono_under w s))
true_at R w block_sep (t ∷ s ∷ []) (a_heap h ∷ a_heap a ∷ a_heap b ∷ a_term m ∷ []) _ (_, (_, (_, (_, _)))) =
    apart (heap_at w h) (heap_at w a) (heap_at w b) (loc_of (term_value w m)) (width (mono_under w t)) (width (mono_under w s))
true_at R w block_null (t ∷ []) (a_heap h ∷ []) _ (dh, _) = not_at_zero (heap_at w h) (width (mono_under w t)) dh
true_at R w block_emp (t ∷ []) (a_heap h ∷ a_term m ∷ []) _ (_, (_, _)) = not_empty (heap_at w h) (loc_of (term_value w m)) (width (mono_under w t))
true_at R w block_word [] (a_heap h ∷ a_term m ∷ []) _ (dh, (_, _)) = word_there w h m dh
true_at R w block_place (t ∷ s ∷ []) (a_heap h ∷ a_term m ∷ a_term n ∷ []) _ (_, (dm, (dn, _))) = placed_once w t s h m n dm dn
true_at R w block_width (t ∷ s ∷ []) (a_heap h ∷ a_term m ∷ []) side (_, (_, _)) =
    other_width (heap_at w h) (loc_of (term_value w m)) (width (mono_under w t)) (width (mono_under w s)) (same_width w t s side)
true_at R w add_comm [] (a_term x ∷ a_term y ∷ []) _ (dx, (dy, _)) = sum_commutes w x y dx dy
true_at R w mul_comm [] (a_term x ∷ a_term y ∷ []) _ (dx, (dy, _)) = product_commutes w x y dx dy
true_at R w add_assoc [] (a_term x ∷ a_term y ∷ a_term z ∷ []) _ (dx, (dy, (dz, _))) = sum_regroups w x y z dx dy dz
true_at R w mul_assoc [] (a_term x ∷ a_term y ∷ a_term z ∷ []) _ (dx, (dy, (dz, _))) = product_regroups w x y z dx dy dz
true_at R w add_zero [] (a_term x ∷ []) _ (dx, _) = zero_added w x dx
true_at R w mul_one [] (a_term x ∷ []) _ (dx, _) = times_one w x dx
true_at R w mul_zero [] (a_term x ∷ []) _ (dx, _) = times_zero w x dx
true_at R w mul_add [] (a_term x ∷ a_term y ∷ a_term z ∷ []) _ (dx, (dy, (dz, _))) = product_of_sum w x y z dx dy dz
true_at R w sub_add [] (a_term x ∷ a_term y ∷ []) _ (dx, (dy, _)) = difference_and_sum w x y dx dy
true_at R w add_sub [] (a_term x ∷ a_term y ∷ []) _ (dx, (dy, _)) = sum_and_difference w x y dx dy
true_at R w lt_irrefl [] (a_term x ∷ []) _ (dx, _) = not_below_itself w x dx
true_at R w lt_zero [] (a_term x ∷ []) _ (dx, _) = not_below_zero w x dx
true_at R w lt_trans [] (a_term x ∷ a_term y ∷ a_term z ∷ []) _ (dx, (dy, (dz, _))) = transitive w x y z dx dy dz
true_at R w lt_total [] (a_term x ∷ a_term y ∷ []) _ (dx, (dy, _)) = total w x y dx dy
true_at R w lt_step [] (a_term x ∷ a_term y ∷ []) _ (dx, (dy, _)) = below_next w x y dx dy
true_at R w lt_gap [] (a_term x ∷ a_term y ∷ []) _ (dx, (dy, _)) = nothing_between w x y dx dy
true_at R w lt_pred [] (a_term x ∷ []) _ (dx, _) = before_is_below w x dx
true_at R w eq_yes (t ∷ []) (a_term m ∷ a_term n ∷ []) side (dm, (dn, _)) = equal_where_yes w t m n side dm dn
true_at R w eq_no (t ∷ []) (a_term m ∷ a_term n ∷ []) side (dm, (dn, _)) = yes_where_equal w t m n side dm dn
true_at R w bool_or [] (a_term b ∷ []) _ (db, _) = true_or_false w b db
true_at R w bool_ne [] [] _ _ = not_the_other
true_at R w pair_eta (t ∷ s ∷ []) (a_term p ∷ []) _ (dp, _) = parts_of_pair w (mono_under w t) (mono_under w s) p dp
true_at R w unit_eta [] (a_term u ∷ []) _ (du, _) = as_unit du
true_at R w and_zero [] (a_term x ∷ []) _ (dx, _) = bits_with_zero w x dx
true_at R w or_zero [] (a_term x ∷ []) _ (dx, _) = bits_or_zero w x dx
true_at R w xor_self [] (a_term x ∷ []) _ (dx, _) = xor_itself w x dx
true_at R w shl_one [] (a_term x ∷ []) _ (dx, _) = left_by_one w x dx
true_at R w _ _ _ _ _ = tt

given : (P : FormulaTree → Type 0) (o : Option FormulaTree) (F : FormulaTree) → o ≡ Some F → IfSome o P → P F
given P None F e p = let f : None ≡ Some F = e in cc
given P (Some G) F e p = subst P (let f : Some G ≡ Some F = e in cc) p

pub of_shape : (w : World) (o : Option (List ArgSort)) (sorts : List ArgSort) (values : List ArgTree)
    → o ≡ Some sorts
    → AreOfSorts w sorts values
    → AreOfShape w o values
of_shape w o sorts values e d = subst (λ (o : Option (List ArgSort)). AreOfShape w o values) (sym e) d

pub axioms : AxiomsAreTrue
axioms table w axiom_name monos arguments shaped F i =
    given (Holds (recs_of table) w) (formula_of axiom_name monos arguments) F i.row
    (true_at (recs_of table) w axiom_name monos arguments i.side_condition shaped)
