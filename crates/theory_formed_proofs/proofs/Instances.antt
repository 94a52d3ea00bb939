-- An instance of an axiom, at formed monotypes and arguments of the axiom's sorts, is formed.
use Rattle.std.proofs.Common.{◌≡◌, suc, List, [], ◌∷◌, Option, Some, IfSome, arith, sym, subst}
use Rattle.htt_syntax.specs.declared.mono.Op.{Op}
use Rattle.htt_syntax.specs.declared.mono.Op.TheVariants.{Add, Sub, Mul, And, Or, Xor, Shl, Lt}
use Rattle.htt_syntax.specs.Trees.{MonoTree, TermTree, FormulaTree, ArgTree, m_word, m_bool, m_loc, m_pair, t_var, t_word, t_loc, t_fst, t_snd, t_bin, t_eq}
use Rattle.htt_syntax.specs.Trees.{a_heap, a_term}
use Rattle.theory_renaming.specs.Renaming.{rename_mono}
use Rattle.theory_values.specs.Values.{op_mono}
use Rattle.theory_canonical.specs.Folding.{folding}
use Rattle.theory_substitution.specs.Closing.{up}
use Rattle.theory_substitution.specs.Monotypes.{fill_mono}
use Rattle.theory_typing.specs.Contexts.{IsComparable}
use Rattle.theory_logic_axioms.specs.Names.{AxiomName, emp_some, emp_one, join_emp, join_comm, join_assoc, join_fun, join_cancel, join_empty, join_cross}
use Rattle.theory_logic_axioms.specs.Names.{cell_block, cell_one, cell_val, cell_make, block_part, block_sep, block_null, block_emp, block_word, block_place}
use Rattle.theory_logic_axioms.specs.Names.{block_width, add_comm, mul_comm, add_assoc, mul_assoc, add_zero, mul_one, mul_zero, mul_add, sub_add, add_sub}
use Rattle.theory_logic_axioms.specs.Names.{lt_irrefl, lt_zero, lt_trans, lt_total, lt_step, lt_gap, lt_pred, eq_yes, eq_no, bool_or, bool_ne, pair_eta}
use Rattle.theory_logic_axioms.specs.Names.{unit_eta, and_zero, or_zero, xor_self, shl_one}
use Rattle.theory_logic_axioms.specs.Table.{ArgSort, heap_sort, term_sort, argument_sorts, SideCondition, formula_of, up_mono, IsInstance}
use Rattle.theory_formed_shapes.specs.Shapes.{sh_mono, ShapeEntry, in_heap, in_term, Shapes, IsHeapAt, mono_further, heap_at_zero, heap_further, shape_here}
use Rattle.theory_formed_shapes.specs.Shapes.{shape_there, fill_shape}
use Rattle.theory_formed_shapes.specs.Formed.{FileShapes, z_m_word, z_m_bool, z_m_loc, z_m_unit, z_m_pair, IsFormedTerm, z_word, z_bool, z_loc}
use Rattle.theory_formed_shapes.specs.Formed.{z_unit, z_pair, z_neutral, w_var, IsFormedFormula, z_ff, z_and, z_or, z_imp, z_ex_t, z_ex_h, z_emp, z_cell}
use Rattle.theory_formed_shapes.specs.Formed.{z_block}
use Rattle.theory_formed_shapes.specs.Formed.{z_join, z_same, z_equal, IsClosedFile}
use Rattle.theory_formed_shapes.proofs.Filled.{mono_raised}
use Rattle.theory_formed_shapes.proofs.Folded.{fst_folded, snd_folded, bin_folded, eq_folded}
use Rattle.theory_formed_states.proofs.Sent.{Sends, term_sent}
use Rattle.theory_formed_proofs.specs.Sequents.{AreFormedMonos, AreFormedArgs, formed_no_args, formed_heap_arg, formed_term_arg}

-- formed arguments, one after the other
abbrev Row : FileShapes → Shapes → List ArgSort → List ArgTree → Type 0
Row file g [] [] = Unit {0}
Row file g (heap_sort ∷ sorts) (a_heap h ∷ others) = IsHeapAt g h × Row file g sorts others
Row file g (term_sort t ∷ sorts) (a_term m ∷ others) = IsFormedTerm file g m (sh_mono t) × Row file g sorts others
Row file g _ _ = ⊥

row : {file : FileShapes} {g : Shapes} {sorts : List ArgSort} {arguments : List ArgTree} → AreFormedArgs file g sorts arguments → Row file g sorts arguments
row formed_no_args = tt
row (formed_heap_arg i rest) = (i, row rest)
row (formed_term_arg d rest) = (d, row rest)

word_zero : {file : FileShapes} {g : Shapes} → IsFormedTerm file g (t_word 0) (sh_mono m_word)
word_zero = z_word (omega arith)

word_one : {file : FileShapes} {g : Shapes} → IsFormedTerm file g (t_word 1) (sh_mono m_word)
word_one = z_word (omega arith)

loc_zero : {file : FileShapes} {g : Shapes} → IsFormedTerm file g (t_loc 0) (sh_mono m_loc)
loc_zero = z_loc (omega arith)

first_word : {file : FileShapes} {g : Shapes} → IsFormedTerm file (in_term (sh_mono m_word) ∷ g) (t_var 0) (sh_mono m_word)
unfolding fill_shape fill_mono
first_word = z_neutral (w_var shape_here)

term_up : {file : FileShapes} {g : Shapes} {entry : ShapeEntry} {m : TermTree} {t : MonoTree}
    → IsClosedFile file
    → IsFormedTerm file g m (sh_mono t)
    → IsFormedTerm file (entry ∷ g) (up m) (sh_mono (up_mono t))
term_up {g = g} {entry = entry} c d =
    let past : Sends suc g (entry ∷ g) =
    record { monos = λ n i. mono_further i; heaps = λ n i. heap_further i; terms = λ n s i. shape_there i } in
    term_sent d c past

word_up : {file : FileShapes} {g : Shapes} {entry : ShapeEntry} {m : TermTree}
    → IsClosedFile file
    → IsFormedTerm file g m (sh_mono m_loc)
    → IsFormedTerm file (entry ∷ g) (up m) (sh_mono m_loc)
unfolding rename_mono
word_up c d = term_up c d

op_form : {file : FileShapes} {g : Shapes} (op : Op) {x y : TermTree}
    → IsFormedTerm file g x (sh_mono m_word)
    → IsFormedTerm file g y (sh_mono m_word)
    → IsFormedTerm file g (folding (t_bin op x y)) (sh_mono (op_mono op))
op_form op {x = x} {y = y} d e = bin_folded op x y d e

eq_form : {file : FileShapes} {g : Shapes} {t : MonoTree} {x y : TermTree}
    → IsComparable t
    → IsFormedTerm file g x (sh_mono t)
    → IsFormedTerm file g y (sh_mono t)
    → IsFormedTerm file g (folding (t_eq t x y)) (sh_mono m_bool)
eq_form {t = t} {x = x} {y = y} p d e = eq_folded t x y p d e

fst_form : {file : FileShapes} {g : Shapes} {x : TermTree} {t u : MonoTree}
    → IsFormedTerm file g x (sh_mono (m_pair t u))
    → IsFormedTerm file g (folding (t_fst x)) (sh_mono t)
fst_form {x = x} d = fst_folded x d

snd_form : {file : FileShapes} {g : Shapes} {x : TermTree} {t u : MonoTree}
    → IsFormedTerm file g x (sh_mono (m_pair t u))
    → IsFormedTerm file g (folding (t_snd x)) (sh_mono u)
snd_form {x = x} d = snd_folded x d

instance_formed : (file : FileShapes) (g : Shapes) (axiom_name : AxiomName) (monos : List MonoTree) (arguments : List ArgTree)
    → IsClosedFile file
    → AreFormedMonos g monos
    → IfSome (argument_sorts axiom_name monos) (λ sorts. Row file g sorts arguments)
    → SideCondition axiom_name monos
    → IfSome (formula_of axiom_name monos arguments) (IsFormedFormula file g)
unfolding formula_of argument_sorts SideCondition
instance_formed file context emp_some [] [] _ _ _ _ =
    z_ex_h (z_emp heap_at_zero)
instance_formed file context emp_one [] (a_heap h ∷ a_heap k ∷ []) _ _ (dh, (dk, _)) _ =
    z_imp (z_emp dh) (z_imp (z_emp dk) (z_same dh dk))
instance_formed file context join_emp [] (a_heap h ∷ a_heap e ∷ []) _ _ (dh, (de, _)) _ =
    z_imp (z_emp de) (z_join dh dh de)
instance_formed file context join_comm [] (a_heap h ∷ a_heap a ∷ a_heap b ∷ []) _ _ (dh, (da, (db, _))) _ =
    z_imp (z_join dh da db) (z_join dh db da)
instance_formed file context join_assoc [] (a_heap h ∷ a_heap a ∷ a_heap b ∷ a_heap c ∷ a_heap d ∷ []) _ _ (dh, (da, (db, (dc, (dd, _))))) _ =
    z_imp (z_join dh da db) (z_imp (z_join da dc dd)
    (z_ex_h (z_and (z_join (heap_further dh) (heap_further dc) heap_at_zero) (z_join heap_at_zero (heap_further dd) (heap_further db)))))
instance_formed file context join_fun [] (a_heap h ∷ a_heap k ∷ a_heap a ∷ a_heap b ∷ []) _ _ (dh, (dk, (da, (db, _)))) _ =
    z_imp (z_join dh da db) (z_imp (z_join dk da db) (z_same dh dk))
instance_formed file context join_cancel [] (a_heap h ∷ a_heap a ∷ a_heap b ∷ a_heap c ∷ []) _ _ (dh, (da, (db, (dc, _)))) _ =
    z_imp (z_join dh da db) (z_imp (z_join dh da dc) (z_same db dc))
instance_formed file context join_empty [] (a_heap h ∷ a_heap a ∷ a_heap b ∷ []) _ _ (dh, (da, (db, _))) _ =
    z_imp (z_emp dh) (z_imp (z_join dh da db) (z_and (z_emp da) (z_emp db)))
instance_formed file context join_cross [] (a_heap h ∷ a_heap a ∷ a_heap b ∷ a_heap c ∷ a_heap d ∷ []) _ _ (dh, (da, (db, (dc, (dd, _))))) _ =
    z_imp (z_join dh da db) (z_imp (z_join dh dc dd)
    (z_ex_h (z_ex_h (z_ex_h (z_ex_h
    (z_and (z_join (heap_further (heap_further (heap_further (heap_further da)))) (heap_further (heap_further (heap_further heap_at_zero)))
    (heap_further (heap_further heap_at_zero)))
    (z_and (z_join (heap_further (heap_further (heap_further (heap_further db)))) (heap_further heap_at_zero) heap_at_zero)
    (z_and (z_join (heap_further (heap_further (heap_further (heap_further dc)))) (heap_further (heap_further (heap_further heap_at_zero)))
    (heap_further heap_at_zero))
    (z_join (heap_further (heap_further (heap_further (heap_further dd)))) (heap_further (heap_further heap_at_zero)) heap_at_zero)))))))))
instance_formed file context cell_block (t ∷ []) (a_heap h ∷ a_term m ∷ a_term n ∷ []) _ (dt, _) (dh, (dm, (dn, _))) _ =
    z_imp (z_cell dt dh dm dn) (z_block dt dh dm)
instance_formed file context cell_one (t ∷ []) (a_heap g ∷ a_heap k ∷ a_term m ∷ a_term n ∷ []) _ (dt, _) (dg, (dk, (dm, (dn, _)))) _ =
    z_imp (z_cell dt dg dm dn) (z_imp (z_cell dt dk dm dn) (z_same dg dk))
instance_formed file context cell_val (t ∷ []) (a_heap g ∷ a_term m ∷ a_term n ∷ a_term p ∷ []) _ (dt, _) (dg, (dm, (dn, (dp, _)))) _ =
    z_imp (z_cell dt dg dm dn) (z_imp (z_cell dt dg dm dp) (z_equal dt dn dp))
instance_formed file context cell_make (t ∷ []) (a_term m ∷ a_term n ∷ []) closed (dt, _) (dm, (dn, _)) _ =
    z_imp (z_imp (z_equal z_m_loc dm loc_zero) z_ff) (z_ex_h (z_cell (mono_raised in_heap dt) heap_at_zero (word_up closed dm) (term_up closed dn)))
instance_formed file context block_part (t ∷ s ∷ []) (a_heap h ∷ a_heap a ∷ a_heap b ∷ a_heap c ∷ a_heap d ∷ a_term m ∷ []) _ (dt, (ds, _))
    (dh, (da, (db, (dc, (dd, (dm, _)))))) _ =
    z_imp (z_block dt da dm) (z_imp (z_join dh da db) (z_imp (z_block ds dc dm) (z_imp (z_join dh dc dd) (z_and (z_same da dc) (z_same db dd)))))
instance_formed file context block_sep (t ∷ s ∷ []) (a_heap h ∷ a_heap a ∷ a_heap b ∷ a_term m ∷ []) _ (dt, (ds, _)) (dh, (da, (db, (dm, _)))) _ =
    z_imp (z_block dt da dm) (z_imp (z_block ds db dm) (z_imp (z_join dh da db) z_ff))
instance_formed file context block_null (t ∷ []) (a_heap h ∷ []) _ (dt, _) (dh, _) _ =
    z_imp (z_block dt dh loc_zero) z_ff
instance_formed file context block_emp (t ∷ []) (a_heap h ∷ a_term m ∷ []) _ (dt, _) (dh, (dm, _)) _ =
    z_imp (z_block dt dh dm) (z_imp (z_emp dh) z_ff)
instance_formed file context block_word [] (a_heap h ∷ a_term m ∷ []) closed _ (dh, (dm, _)) _ =
    z_imp (z_block z_m_word dh dm) (z_ex_t z_m_word (z_cell z_m_word (heap_further dh) (word_up closed dm) first_word))
instance_formed file context block_place (t ∷ s ∷ []) (a_heap h ∷ a_term m ∷ a_term n ∷ []) _ (dt, (ds, _)) (dh, (dm, (dn, _))) _ =
    z_imp (z_block dt dh dm) (z_imp (z_block ds dh dn) (z_equal z_m_loc dm dn))
instance_formed file context block_width (t ∷ s ∷ []) (a_heap h ∷ a_term m ∷ []) _ (dt, (ds, _)) (dh, (dm, _)) _ =
    z_imp (z_block dt dh dm) (z_block ds dh dm)
instance_formed file context add_comm [] (a_term x ∷ a_term y ∷ []) _ _ (dx, (dy, _)) _ =
    z_equal z_m_word (op_form Add dx dy) (op_form Add dy dx)
instance_formed file context mul_comm [] (a_term x ∷ a_term y ∷ []) _ _ (dx, (dy, _)) _ =
    z_equal z_m_word (op_form Mul dx dy) (op_form Mul dy dx)
instance_formed file context add_assoc [] (a_term x ∷ a_term y ∷ a_term z ∷ []) _ _ (dx, (dy, (dz, _))) _ =
    z_equal z_m_word (op_form Add (op_form Add dx dy) dz) (op_form Add dx (op_form Add dy dz))
instance_formed file context mul_assoc [] (a_term x ∷ a_term y ∷ a_term z ∷ []) _ _ (dx, (dy, (dz, _))) _ =
    z_equal z_m_word (op_form Mul (op_form Mul dx dy) dz) (op_form Mul dx (op_form Mul dy dz))
instance_formed file context add_zero [] (a_term x ∷ []) _ _ (dx, _) _ =
    z_equal z_m_word (op_form Add dx word_zero) dx
instance_formed file context mul_one [] (a_term x ∷ []) _ _ (dx, _) _ =
    z_equal z_m_word (op_form Mul dx word_one) dx
instance_formed file context mul_zero [] (a_term x ∷ []) _ _ (dx, _) _ =
    z_equal z_m_word (op_form Mul dx word_zero) word_zero
instance_formed file context mul_add [] (a_term x ∷ a_term y ∷ a_term z ∷ []) _ _ (dx, (dy, (dz, _))) _ =
    z_equal z_m_word (op_form Mul dx (op_form Add dy dz)) (op_form Add (op_form Mul dx dy) (op_form Mul dx dz))
instance_formed file context sub_add [] (a_term x ∷ a_term y ∷ []) _ _ (dx, (dy, _)) _ =
    z_equal z_m_word (op_form Add (op_form Sub dx dy) dy) dx
instance_formed file context add_sub [] (a_term x ∷ a_term y ∷ []) _ _ (dx, (dy, _)) _ =
    z_equal z_m_word (op_form Sub (op_form Add dx dy) dy) dx
instance_formed file context lt_irrefl [] (a_term x ∷ []) _ _ (dx, _) _ =
    z_equal z_m_bool (op_form Lt dx dx) z_bool
instance_formed file context lt_zero [] (a_term x ∷ []) _ _ (dx, _) _ =
    z_equal z_m_bool (op_form Lt dx word_zero) z_bool
instance_formed file context lt_trans [] (a_term x ∷ a_term y ∷ a_term z ∷ []) _ _ (dx, (dy, (dz, _))) _ =
    z_imp (z_equal z_m_bool (op_form Lt dx dy) z_bool) (z_imp (z_equal z_m_bool (op_form Lt dy dz) z_bool) (z_equal z_m_bool (op_form Lt dx dz) z_bool))
instance_formed file context lt_total [] (a_term x ∷ a_term y ∷ []) _ _ (dx, (dy, _)) _ =
    z_or (z_equal z_m_bool (op_form Lt dx dy) z_bool) (z_or (z_equal z_m_word dx dy) (z_equal z_m_bool (op_form Lt dy dx) z_bool))
instance_formed file context lt_step [] (a_term x ∷ a_term y ∷ []) _ _ (dx, (dy, _)) _ =
    z_imp (z_equal z_m_bool (op_form Lt dx dy) z_bool) (z_equal z_m_bool (op_form Lt dx (op_form Add dx word_one)) z_bool)
instance_formed file context lt_gap [] (a_term x ∷ a_term y ∷ []) _ _ (dx, (dy, _)) _ =
    z_imp (z_equal z_m_bool (op_form Lt dx dy) z_bool) (z_equal z_m_bool (op_form Lt dy (op_form Add dx word_one)) z_bool)
instance_formed file context lt_pred [] (a_term x ∷ []) _ _ (dx, _) _ =
    z_imp (z_imp (z_equal z_m_word dx word_zero) z_ff) (z_equal z_m_bool (op_form Lt (op_form Sub dx word_one) dx) z_bool)
instance_formed file context eq_yes (t ∷ []) (a_term m ∷ a_term n ∷ []) _ (dt, _) (dm, (dn, _)) s =
    z_imp (z_equal z_m_bool (eq_form s dm dn) z_bool) (z_equal dt dm dn)
instance_formed file context eq_no (t ∷ []) (a_term m ∷ a_term n ∷ []) _ (dt, _) (dm, (dn, _)) s =
    z_imp (z_equal dt dm dn) (z_equal z_m_bool (eq_form s dm dn) z_bool)
instance_formed file context bool_or [] (a_term b ∷ []) _ _ (db, _) _ =
    z_or (z_equal z_m_bool db z_bool) (z_equal z_m_bool db z_bool)
instance_formed file context bool_ne [] [] _ _ _ _ =
    z_imp (z_equal z_m_bool z_bool z_bool) z_ff
instance_formed file context pair_eta (t ∷ s ∷ []) (a_term p ∷ []) _ (dt, (ds, _)) (dp, _) _ =
    z_equal (z_m_pair dt ds) (z_pair (fst_form dp) (snd_form dp)) dp
instance_formed file context unit_eta [] (a_term u ∷ []) _ _ (du, _) _ =
    z_equal z_m_unit du z_unit
instance_formed file context and_zero [] (a_term x ∷ []) _ _ (dx, _) _ =
    z_equal z_m_word (op_form And dx word_zero) word_zero
instance_formed file context or_zero [] (a_term x ∷ []) _ _ (dx, _) _ =
    z_equal z_m_word (op_form Or dx word_zero) dx
instance_formed file context xor_self [] (a_term x ∷ []) _ _ (dx, _) _ =
    z_equal z_m_word (op_form Xor dx dx) word_zero
instance_formed file context shl_one [] (a_term x ∷ []) _ _ (dx, _) _ =
    z_equal z_m_word (op_form Shl dx word_one) (op_form Add dx dx)
instance_formed file g _ _ _ _ _ _ _ = tt

pub instance_at : (file : FileShapes) (g : Shapes) (axiom_name : AxiomName) (monos : List MonoTree) (sorts : List ArgSort)
    (arguments : List ArgTree) (F : FormulaTree)
    → IsClosedFile file
    → AreFormedMonos g monos
    → argument_sorts axiom_name monos ≡ Some sorts
    → AreFormedArgs file g sorts arguments
    → IsInstance axiom_name monos arguments F
    → IsFormedFormula file g F
instance_at file g axiom_name monos sorts arguments F c m shaped d i =
    let given = subst (λ (o : Option (List ArgSort)). IfSome o (λ sorts. Row file g sorts arguments)) (sym shaped) (row d) in
    subst (λ (o : Option FormulaTree). IfSome o (IsFormedFormula file g)) i.row
    (instance_formed file g axiom_name monos arguments c m given i.side_condition)
