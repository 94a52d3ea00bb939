-- An instance of an axiom at canonical arguments is canonical.
use Rattle.std.proofs.Common.{ℕ, List, [], ◌∷◌, IfSome, refl}
use Rattle.htt_syntax.specs.declared.mono.Op.{Op}
use Rattle.htt_syntax.specs.declared.mono.Op.TheVariants.{Add, Sub, Mul, And, Or, Xor, Shl, Lt}
use Rattle.htt_syntax.specs.Trees.{MonoTree, TermTree, ArgTree, m_word, m_bool, m_loc, t_word, t_bool, t_loc, t_pair, t_fst, t_snd, t_bin, t_eq, a_heap, a_term}
use Rattle.theory_canonical.specs.Skeletons.{sk_o}
use Rattle.theory_canonical.specs.Contexts.{Standing, here, there, Heads}
use Rattle.theory_canonical.specs.Canonical.{IsCanonicalMono, IsCanonical, IsCanonicalFormula, n_m_word, n_m_bool, n_m_loc, n_m_unit, n_m_pair, n_word, n_bool}
use Rattle.theory_canonical.specs.Canonical.{n_loc, n_unit, n_pair, n_fst, n_snd, n_bin, n_eq, n_neutral, e_var, n_ff, n_and, n_or, n_imp, n_ex_t, n_ex_h}
use Rattle.theory_canonical.specs.Canonical.{n_emp, n_cell, n_block, n_join, n_same, n_equal}
use Rattle.theory_canonical.specs.Folding.{contractum, folding, op_literal}
use Rattle.theory_canonical.proofs.Renamed.{keeps_suc, mono_renamed, term_renamed, literal_canonical}
use Rattle.theory_logic_axioms.specs.Names.{AxiomName, emp_some, emp_one, join_emp, join_comm, join_assoc, join_fun, join_cancel, join_empty, join_cross}
use Rattle.theory_logic_axioms.specs.Names.{cell_block, cell_one, cell_val, cell_make, block_part, block_sep, block_null, block_emp, block_word, block_place}
use Rattle.theory_logic_axioms.specs.Names.{block_width, add_comm, mul_comm, add_assoc, mul_assoc, add_zero, mul_one, mul_zero, mul_add, sub_add, add_sub}
use Rattle.theory_logic_axioms.specs.Names.{lt_irrefl, lt_zero, lt_trans, lt_total, lt_step, lt_gap, lt_pred, eq_yes, eq_no, bool_or, bool_ne, pair_eta}
use Rattle.theory_logic_axioms.specs.Names.{unit_eta, and_zero, or_zero, xor_self, shl_one}
use Rattle.theory_substitution.specs.Closing.{up}
use Rattle.theory_logic_axioms.specs.Table.{formula_of, up_mono}
use Rattle.theory_logic_axioms.specs.Laws.{AreCanonicalMonos, AreCanonicalArgs}

mono_up : {g : List Standing} {entry : Standing} {t : MonoTree} → IsCanonicalMono g t → IsCanonicalMono (entry ∷ g) (up_mono t)
mono_up {g = g} {entry = entry} d = mono_renamed d (keeps_suc entry g)

term_up : {heads : Heads} {g : List Standing} {entry : Standing} {t : TermTree} → IsCanonical heads g t sk_o → IsCanonical heads (entry ∷ g) (up t) sk_o
term_up {g = g} {entry = entry} d = term_renamed d (keeps_suc entry g)

op_folds : {heads : Heads} {g : List Standing} (op : Op) (x y : TermTree)
    → IsCanonical heads g x sk_o
    → IsCanonical heads g y sk_o
    → IsCanonical heads g (folding (t_bin op x y)) sk_o
unfolding contractum
op_folds op (t_word x) (t_word y) d e = literal_canonical op x y
op_folds op _ _ d e = n_bin d e refl

op_form : {heads : Heads} {g : List Standing} (op : Op) {x y : TermTree}
    → IsCanonical heads g x sk_o
    → IsCanonical heads g y sk_o
    → IsCanonical heads g (folding (t_bin op x y)) sk_o
op_form op {x = x} {y = y} d e = op_folds op x y d e

eq_folds : {heads : Heads} {g : List Standing} (t : MonoTree) (x y : TermTree)
    → IsCanonicalMono g t
    → IsCanonical heads g x sk_o
    → IsCanonical heads g y sk_o
    → IsCanonical heads g (folding (t_eq t x y)) sk_o
unfolding contractum
eq_folds m_word (t_word x) (t_word y) m d e = n_bool
eq_folds m_bool (t_bool x) (t_bool y) m d e = n_bool
eq_folds m_loc (t_loc x) (t_loc y) m d e = n_bool
eq_folds _ _ _ m d e = n_eq m d e refl

eq_form : {heads : Heads} {g : List Standing} {t : MonoTree} {x y : TermTree}
    → IsCanonicalMono g t
    → IsCanonical heads g x sk_o
    → IsCanonical heads g y sk_o
    → IsCanonical heads g (folding (t_eq t x y)) sk_o
eq_form {t = t} {x = x} {y = y} m d e = eq_folds t x y m d e

-- a pair isn't neutral
fst_folds : {heads : Heads} {g : List Standing} (x : TermTree) → IsCanonical heads g x sk_o → IsCanonical heads g (folding (t_fst x)) sk_o
unfolding contractum
fst_folds (t_pair left right) (n_pair d e) = d
fst_folds (t_pair left right) (n_neutral d) = elim d [ ]
fst_folds _ d = n_fst d refl

fst_form : {heads : Heads} {g : List Standing} {x : TermTree} → IsCanonical heads g x sk_o → IsCanonical heads g (folding (t_fst x)) sk_o
fst_form {x = x} d = fst_folds x d

snd_folds : {heads : Heads} {g : List Standing} (x : TermTree) → IsCanonical heads g x sk_o → IsCanonical heads g (folding (t_snd x)) sk_o
unfolding contractum
snd_folds (t_pair left right) (n_pair d e) = e
snd_folds (t_pair left right) (n_neutral d) = elim d [ ]
snd_folds _ d = n_snd d refl

snd_form : {heads : Heads} {g : List Standing} {x : TermTree} → IsCanonical heads g x sk_o → IsCanonical heads g (folding (t_snd x)) sk_o
snd_form {x = x} d = snd_folds x d

pub instance_canonical : (heads : Heads) (g : List Standing) (axiom_name : AxiomName) (monos : List MonoTree) (arguments : List ArgTree)
    → AreCanonicalMonos g monos
    → AreCanonicalArgs heads g arguments
    → IfSome (formula_of axiom_name monos arguments) (IsCanonicalFormula heads g)
unfolding formula_of
instance_canonical heads context emp_some [] [] _ _ = n_ex_h (n_emp here)
instance_canonical heads context emp_one [] (a_heap h ∷ a_heap k ∷ []) _ (dh, (dk, _)) = n_imp (n_emp dh) (n_imp (n_emp dk) (n_same dh dk))
instance_canonical heads context join_emp [] (a_heap h ∷ a_heap e ∷ []) _ (dh, (de, _)) = n_imp (n_emp de) (n_join dh dh de)
instance_canonical heads context join_comm [] (a_heap h ∷ a_heap a ∷ a_heap b ∷ []) _ (dh, (da, (db, _))) = n_imp (n_join dh da db) (n_join dh db da)
instance_canonical heads context join_assoc [] (a_heap h ∷ a_heap a ∷ a_heap b ∷ a_heap c ∷ a_heap d ∷ []) _ (dh, (da, (db, (dc, (dd, _)))))
    =
    n_imp (n_join dh da db)
    (n_imp (n_join da dc dd) (n_ex_h (n_and (n_join (there dh) (there dc) here) (n_join here (there dd) (there db)))))
instance_canonical heads context join_fun [] (a_heap h ∷ a_heap k ∷ a_heap a ∷ a_heap b ∷ []) _ (dh, (dk, (da, (db, _)))) =
    n_imp (n_join dh da db) (n_imp (n_join dk da db) (n_same dh dk))
instance_canonical heads context join_cancel [] (a_heap h ∷ a_heap a ∷ a_heap b ∷ a_heap c ∷ []) _ (dh, (da, (db, (dc, _)))) =
    n_imp (n_join dh da db) (n_imp (n_join dh da dc) (n_same db dc))
instance_canonical heads context join_empty [] (a_heap h ∷ a_heap a ∷ a_heap b ∷ []) _ (dh, (da, (db, _))) =
    n_imp (n_emp dh) (n_imp (n_join dh da db) (n_and (n_emp da) (n_emp db)))
instance_canonical heads context join_cross [] (a_heap h ∷ a_heap a ∷ a_heap b ∷ a_heap c ∷ a_heap d ∷ []) _ (dh, (da, (db, (dc, (dd, _)))))
    =
    n_imp (n_join dh da db) (n_imp (n_join dh dc dd)
    (n_ex_h (n_ex_h (n_ex_h (n_ex_h
    (n_and (n_join (there (there (there (there da)))) (there (there (there here))) (there (there here)))
    (n_and (n_join (there (there (there (there db)))) (there here) here)
    (n_and (n_join (there (there (there (there dc)))) (there (there (there here))) (there here))
    (n_join (there (there (there (there dd)))) (there (there here)) here)))))))))
instance_canonical heads context cell_block (t ∷ []) (a_heap h ∷ a_term m ∷ a_term n ∷ []) (dt, _) (dh, (dm, (dn, _))) =
    n_imp (n_cell dt dh dm dn) (n_block dt dh dm)
instance_canonical heads context cell_one (t ∷ []) (a_heap g ∷ a_heap k ∷ a_term m ∷ a_term n ∷ []) (dt, _) (dg, (dk, (dm, (dn, _)))) =
    n_imp (n_cell dt dg dm dn) (n_imp (n_cell dt dk dm dn) (n_same dg dk))
instance_canonical heads context cell_val (t ∷ []) (a_heap g ∷ a_term m ∷ a_term n ∷ a_term p ∷ []) (dt, _) (dg, (dm, (dn, (dp, _)))) =
    n_imp (n_cell dt dg dm dn) (n_imp (n_cell dt dg dm dp) (n_equal dt dn dp))
instance_canonical heads context cell_make (t ∷ []) (a_term m ∷ a_term n ∷ []) (dt, _) (dm, (dn, _)) =
    n_imp (n_imp (n_equal n_m_loc dm n_loc) n_ff) (n_ex_h (n_cell (mono_up dt) here (term_up dm) (term_up dn)))
instance_canonical heads context block_part (t ∷ s ∷ []) (a_heap h ∷ a_heap a ∷ a_heap b ∷ a_heap c ∷ a_heap d ∷ a_term m ∷ [])
    (dt, (ds, _)) (dh, (da, (db, (dc, (dd, (dm, _)))))) =
    n_imp (n_block dt da dm)
    (n_imp (n_join dh da db) (n_imp (n_block ds dc dm) (n_imp (n_join dh dc dd) (n_and (n_same da dc) (n_same db dd)))))
instance_canonical heads context block_sep (t ∷ s ∷ []) (a_heap h ∷ a_heap a ∷ a_heap b ∷ a_term m ∷ []) (dt, (ds, _))
    (dh, (da, (db, (dm, _)))) = n_imp (n_block dt da dm) (n_imp (n_block ds db dm) (n_imp (n_join dh da db) n_ff))
instance_canonical heads context block_null (t ∷ []) (a_heap h ∷ []) (dt, _) (dh, _) = n_imp (n_block dt dh n_loc) n_ff
instance_canonical heads context block_emp (t ∷ []) (a_heap h ∷ a_term m ∷ []) (dt, _) (dh, (dm, _)) = n_imp (n_block dt dh dm) (n_imp (n_emp dh) n_ff)
instance_canonical heads context block_word [] (a_heap h ∷ a_term m ∷ []) _ (dh, (dm, _)) =
    n_imp (n_block n_m_word dh dm) (n_ex_t n_m_word (n_cell n_m_word (there dh) (term_up dm) (n_neutral (e_var here))))
instance_canonical heads context block_place (t ∷ s ∷ []) (a_heap h ∷ a_term m ∷ a_term n ∷ []) (dt, (ds, _)) (dh, (dm, (dn, _))) =
    n_imp (n_block dt dh dm) (n_imp (n_block ds dh dn) (n_equal n_m_loc dm dn))
instance_canonical heads context block_width (t ∷ s ∷ []) (a_heap h ∷ a_term m ∷ []) (dt, (ds, _)) (dh, (dm, _)) = n_imp (n_block dt dh dm) (n_block ds dh dm)
instance_canonical heads context add_comm [] (a_term x ∷ a_term y ∷ []) _ (dx, (dy, _)) = n_equal n_m_word (op_form Add dx dy) (op_form Add dy dx)
instance_canonical heads context mul_comm [] (a_term x ∷ a_term y ∷ []) _ (dx, (dy, _)) = n_equal n_m_word (op_form Mul dx dy) (op_form Mul dy dx)
instance_canonical heads context add_assoc [] (a_term x ∷ a_term y ∷ a_term z ∷ []) _ (dx, (dy, (dz, _))) =
    n_equal n_m_word (op_form Add (op_form Add dx dy) dz) (op_form Add dx (op_form Add dy dz))
instance_canonical heads context mul_assoc [] (a_term x ∷ a_term y ∷ a_term z ∷ []) _ (dx, (dy, (dz, _))) =
    n_equal n_m_word (op_form Mul (op_form Mul dx dy) dz) (op_form Mul dx (op_form Mul dy dz))
instance_canonical heads context add_zero [] (a_term x ∷ []) _ (dx, _) = n_equal n_m_word (op_form Add dx n_word) dx
instance_canonical heads context mul_one [] (a_term x ∷ []) _ (dx, _) = n_equal n_m_word (op_form Mul dx n_word) dx
instance_canonical heads context mul_zero [] (a_term x ∷ []) _ (dx, _) = n_equal n_m_word (op_form Mul dx n_word) n_word
instance_canonical heads context mul_add [] (a_term x ∷ a_term y ∷ a_term z ∷ []) _ (dx, (dy, (dz, _))) =
    n_equal n_m_word (op_form Mul dx (op_form Add dy dz)) (op_form Add (op_form Mul dx dy) (op_form Mul dx dz))
instance_canonical heads context sub_add [] (a_term x ∷ a_term y ∷ []) _ (dx, (dy, _)) = n_equal n_m_word (op_form Add (op_form Sub dx dy) dy) dx
instance_canonical heads context add_sub [] (a_term x ∷ a_term y ∷ []) _ (dx, (dy, _)) = n_equal n_m_word (op_form Sub (op_form Add dx dy) dy) dx
instance_canonical heads context lt_irrefl [] (a_term x ∷ []) _ (dx, _) = n_equal n_m_bool (op_form Lt dx dx) n_bool
instance_canonical heads context lt_zero [] (a_term x ∷ []) _ (dx, _) = n_equal n_m_bool (op_form Lt dx n_word) n_bool
instance_canonical heads context lt_trans [] (a_term x ∷ a_term y ∷ a_term z ∷ []) _ (dx, (dy, (dz, _))) =
    n_imp (n_equal n_m_bool (op_form Lt dx dy) n_bool)
    (n_imp (n_equal n_m_bool (op_form Lt dy dz) n_bool) (n_equal n_m_bool (op_form Lt dx dz) n_bool))
instance_canonical heads context lt_total [] (a_term x ∷ a_term y ∷ []) _ (dx, (dy, _)) =
    n_or (n_equal n_m_bool (op_form Lt dx dy) n_bool) (n_or (n_equal n_m_word dx dy) (n_equal n_m_bool (op_form Lt dy dx) n_bool))
instance_canonical heads context lt_step [] (a_term x ∷ a_term y ∷ []) _ (dx, (dy, _)) =
    n_imp (n_equal n_m_bool (op_form Lt dx dy) n_bool) (n_equal n_m_bool (op_form Lt dx (op_form Add dx n_word)) n_bool)
instance_canonical heads context lt_gap [] (a_term x ∷ a_term y ∷ []) _ (dx, (dy, _)) =
    n_imp (n_equal n_m_bool (op_form Lt dx dy) n_bool) (n_equal n_m_bool (op_form Lt dy (op_form Add dx n_word)) n_bool)
instance_canonical heads context lt_pred [] (a_term x ∷ []) _ (dx, _) =
    n_imp (n_imp (n_equal n_m_word dx n_word) n_ff) (n_equal n_m_bool (op_form Lt (op_form Sub dx n_word) dx) n_bool)
instance_canonical heads context eq_yes (t ∷ []) (a_term m ∷ a_term n ∷ []) (dt, _) (dm, (dn, _)) =
    n_imp (n_equal n_m_bool (eq_form dt dm dn) n_bool) (n_equal dt dm dn)
instance_canonical heads context eq_no (t ∷ []) (a_term m ∷ a_term n ∷ []) (dt, _) (dm, (dn, _)) =
    n_imp (n_equal dt dm dn) (n_equal n_m_bool (eq_form dt dm dn) n_bool)
instance_canonical heads context bool_or [] (a_term b ∷ []) _ (db, _) = n_or (n_equal n_m_bool db n_bool) (n_equal n_m_bool db n_bool)
instance_canonical heads context bool_ne [] [] _ _ = n_imp (n_equal n_m_bool n_bool n_bool) n_ff
instance_canonical heads context pair_eta (t ∷ s ∷ []) (a_term p ∷ []) (dt, (ds, _)) (dp, _) = n_equal (n_m_pair dt ds) (n_pair (fst_form dp) (snd_form dp)) dp
instance_canonical heads context unit_eta [] (a_term u ∷ []) _ (du, _) = n_equal n_m_unit du n_unit
instance_canonical heads context and_zero [] (a_term x ∷ []) _ (dx, _) = n_equal n_m_word (op_form And dx n_word) n_word
instance_canonical heads context or_zero [] (a_term x ∷ []) _ (dx, _) = n_equal n_m_word (op_form Or dx n_word) dx
instance_canonical heads context xor_self [] (a_term x ∷ []) _ (dx, _) = n_equal n_m_word (op_form Xor dx dx) n_word
instance_canonical heads context shl_one [] (a_term x ∷ []) _ (dx, _) = n_equal n_m_word (op_form Shl dx n_word) (op_form Add dx dx)
instance_canonical heads context _ _ _ _ _ = tt
