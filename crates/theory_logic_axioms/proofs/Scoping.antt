-- An instance of an axiom at arguments in scope is in scope.
use Rattle.std.proofs.Common.{ℕ, suc, ◌<◌, List, [], ◌∷◌, true, false, IfSome, arith}
use Rattle.htt_syntax.specs.declared.mono.Op.{Op}
use Rattle.htt_syntax.specs.declared.mono.Op.TheVariants.{Add, Sub, Mul, And, Or, Xor, Shl, Lt}
use Rattle.htt_syntax.specs.Trees.{MonoTree, TermTree, ArgTree, m_word, m_bool, m_loc, t_word, t_bool, t_loc, t_pair, t_fst, t_snd, t_not, t_bin, t_eq, t_sel}
use Rattle.htt_syntax.specs.Trees.{a_heap, a_term}
use Rattle.theory_renaming.specs.Scoped.{ScopedMono, ScopedTerm, ScopedFormula, in_m_word, in_m_bool, in_m_loc, in_m_unit, in_m_pair, in_t_var, in_t_word}
use Rattle.theory_renaming.specs.Scoped.{in_t_bool, in_t_loc, in_t_unit, in_t_pair, in_t_fst, in_t_snd, in_t_bin, in_t_eq, in_t_sel, in_f_ff, in_f_and, in_f_or}
use Rattle.theory_renaming.specs.Scoped.{in_f_imp, in_f_ex_t, in_f_ex_h, in_f_emp, in_f_cell, in_f_block, in_f_join, in_f_same, in_f_eq}
use Rattle.theory_renaming.proofs.Scoping.{mono_scoped, term_scoped}
use Rattle.theory_canonical.specs.Folding.{contractum, folding, op_literal}
use Rattle.theory_logic_axioms.specs.Names.{AxiomName, emp_some, emp_one, join_emp, join_comm, join_assoc, join_fun, join_cancel, join_empty, join_cross}
use Rattle.theory_logic_axioms.specs.Names.{cell_block, cell_one, cell_val, cell_make, block_part, block_sep, block_null, block_emp, block_word, block_place}
use Rattle.theory_logic_axioms.specs.Names.{block_width, add_comm, mul_comm, add_assoc, mul_assoc, add_zero, mul_one, mul_zero, mul_add, sub_add, add_sub}
use Rattle.theory_logic_axioms.specs.Names.{lt_irrefl, lt_zero, lt_trans, lt_total, lt_step, lt_gap, lt_pred, eq_yes, eq_no, bool_or, bool_ne, pair_eta}
use Rattle.theory_logic_axioms.specs.Names.{unit_eta, and_zero, or_zero, xor_self, shl_one}
use Rattle.theory_substitution.specs.Closing.{up}
use Rattle.theory_logic_axioms.specs.Table.{formula_of, up_mono}
use Rattle.theory_logic_axioms.specs.Laws.{AreScopedMonos, AreScopedArgs}

under : {n k : ℕ} → k < n → suc k < suc n
under e = omega (arith, e)

mono_up : {n : ℕ} {t : MonoTree} → ScopedMono n t → ScopedMono (suc n) (up_mono t)
mono_up {n = n} d = mono_scoped suc n (suc n) (λ i e. under e) d

term_up : {n : ℕ} {t : TermTree} → ScopedTerm n t → ScopedTerm (suc n) (up t)
term_up {n = n} d = term_scoped suc n (suc n) (λ i e. under e) d

literal_scoped : {n : ℕ} (op : Op) (x y : ℕ) → ScopedTerm n (op_literal op x y)
literal_scoped Lt x y = in_t_bool
literal_scoped _ x y = in_t_word

fold_scoped : {n : ℕ} (t : TermTree) → ScopedTerm n t → ScopedTerm n (folding t)
unfolding contractum
fold_scoped (t_bin op (t_word x) (t_word y)) d = literal_scoped op x y
fold_scoped (t_not (t_bool x)) d = in_t_bool
fold_scoped (t_eq m_word (t_word x) (t_word y)) d = in_t_bool
fold_scoped (t_eq m_bool (t_bool x) (t_bool y)) d = in_t_bool
fold_scoped (t_eq m_loc (t_loc x) (t_loc y)) d = in_t_bool
fold_scoped (t_fst (t_pair left right)) (in_t_fst (in_t_pair d e)) = d
fold_scoped (t_snd (t_pair left right)) (in_t_snd (in_t_pair d e)) = e
fold_scoped (t_sel mono (t_bool true) on_true on_false) (in_t_sel t b d e) = d
fold_scoped (t_sel mono (t_bool false) on_true on_false) (in_t_sel t b d e) = e
fold_scoped _ d = d

op_scope : {n : ℕ} (op : Op) {x y : TermTree} → ScopedTerm n x → ScopedTerm n y → ScopedTerm n (folding (t_bin op x y))
op_scope op {x = x} {y = y} d e = fold_scoped (t_bin op x y) (in_t_bin d e)

eq_scope : {n : ℕ} {t : MonoTree} {x y : TermTree} → ScopedMono n t → ScopedTerm n x → ScopedTerm n y → ScopedTerm n (folding (t_eq t x y))
eq_scope {t = t} {x = x} {y = y} m d e = fold_scoped (t_eq t x y) (in_t_eq m d e)

fst_scope : {n : ℕ} {x : TermTree} → ScopedTerm n x → ScopedTerm n (folding (t_fst x))
fst_scope {x = x} d = fold_scoped (t_fst x) (in_t_fst d)

snd_scope : {n : ℕ} {x : TermTree} → ScopedTerm n x → ScopedTerm n (folding (t_snd x))
snd_scope {x = x} d = fold_scoped (t_snd x) (in_t_snd d)

pub instance_scoped : (n : ℕ) (axiom_name : AxiomName) (monos : List MonoTree) (arguments : List ArgTree)
    → AreScopedMonos n monos
    → AreScopedArgs n arguments
    → IfSome (formula_of axiom_name monos arguments) (ScopedFormula n)
unfolding formula_of
instance_scoped scope emp_some [] [] _ _ = in_f_ex_h (in_f_emp (omega arith))
instance_scoped scope emp_one [] (a_heap h ∷ a_heap k ∷ []) _ (dh, (dk, _)) = in_f_imp (in_f_emp dh) (in_f_imp (in_f_emp dk) (in_f_same dh dk))
instance_scoped scope join_emp [] (a_heap h ∷ a_heap e ∷ []) _ (dh, (de, _)) = in_f_imp (in_f_emp de) (in_f_join dh dh de)
instance_scoped scope join_comm [] (a_heap h ∷ a_heap a ∷ a_heap b ∷ []) _ (dh, (da, (db, _))) = in_f_imp (in_f_join dh da db) (in_f_join dh db da)
instance_scoped scope join_assoc [] (a_heap h ∷ a_heap a ∷ a_heap b ∷ a_heap c ∷ a_heap d ∷ []) _ (dh, (da, (db, (dc, (dd, _))))) =
    in_f_imp (in_f_join dh da db)
    (in_f_imp (in_f_join da dc dd)
    (in_f_ex_h (in_f_and (in_f_join (under dh) (under dc) (omega arith)) (in_f_join (omega arith) (under dd) (under db)))))
instance_scoped scope join_fun [] (a_heap h ∷ a_heap k ∷ a_heap a ∷ a_heap b ∷ []) _ (dh, (dk, (da, (db, _)))) =
    in_f_imp (in_f_join dh da db) (in_f_imp (in_f_join dk da db) (in_f_same dh dk))
instance_scoped scope join_cancel [] (a_heap h ∷ a_heap a ∷ a_heap b ∷ a_heap c ∷ []) _ (dh, (da, (db, (dc, _)))) =
    in_f_imp (in_f_join dh da db) (in_f_imp (in_f_join dh da dc) (in_f_same db dc))
instance_scoped scope join_empty [] (a_heap h ∷ a_heap a ∷ a_heap b ∷ []) _ (dh, (da, (db, _))) =
    in_f_imp (in_f_emp dh) (in_f_imp (in_f_join dh da db) (in_f_and (in_f_emp da) (in_f_emp db)))
instance_scoped scope join_cross [] (a_heap h ∷ a_heap a ∷ a_heap b ∷ a_heap c ∷ a_heap d ∷ []) _ (dh, (da, (db, (dc, (dd, _))))) =
    in_f_imp (in_f_join dh da db)
    (in_f_imp (in_f_join dh dc dd)
    (in_f_ex_h (in_f_ex_h (in_f_ex_h
    (in_f_ex_h (in_f_and (in_f_join (under (under (under (under da)))) (omega arith) (omega arith))
    (in_f_and (in_f_join (under (under (under (under db)))) (omega arith) (omega arith))
    (in_f_and (in_f_join (under (under (under (under dc)))) (omega arith) (omega arith))
    (in_f_join (under (under (under (under dd)))) (omega arith) (omega arith))))))))))
instance_scoped scope cell_block (t ∷ []) (a_heap h ∷ a_term m ∷ a_term n ∷ []) (dt, _) (dh, (dm, (dn, _))) =
    in_f_imp (in_f_cell dt dh dm dn) (in_f_block dt dh dm)
instance_scoped scope cell_one (t ∷ []) (a_heap g ∷ a_heap k ∷ a_term m ∷ a_term n ∷ []) (dt, _) (dg, (dk, (dm, (dn, _)))) =
    in_f_imp (in_f_cell dt dg dm dn) (in_f_imp (in_f_cell dt dk dm dn) (in_f_same dg dk))
instance_scoped scope cell_val (t ∷ []) (a_heap g ∷ a_term m ∷ a_term n ∷ a_term p ∷ []) (dt, _) (dg, (dm, (dn, (dp, _)))) =
    in_f_imp (in_f_cell dt dg dm dn) (in_f_imp (in_f_cell dt dg dm dp) (in_f_eq dt dn dp))
instance_scoped scope cell_make (t ∷ []) (a_term m ∷ a_term n ∷ []) (dt, _) (dm, (dn, _)) =
    in_f_imp (in_f_imp (in_f_eq in_m_loc dm in_t_loc) in_f_ff) (in_f_ex_h (in_f_cell (mono_up dt) (omega arith) (term_up dm) (term_up dn)))
instance_scoped scope block_part (t ∷ s ∷ []) (a_heap h ∷ a_heap a ∷ a_heap b ∷ a_heap c ∷ a_heap d ∷ a_term m ∷ []) (dt, (ds, _))
    (dh, (da, (db, (dc, (dd, (dm, _)))))) =
    in_f_imp (in_f_block dt da dm)
    (in_f_imp (in_f_join dh da db)
    (in_f_imp (in_f_block ds dc dm) (in_f_imp (in_f_join dh dc dd) (in_f_and (in_f_same da dc) (in_f_same db dd)))))
instance_scoped scope block_sep (t ∷ s ∷ []) (a_heap h ∷ a_heap a ∷ a_heap b ∷ a_term m ∷ []) (dt, (ds, _)) (dh, (da, (db, (dm, _)))) =
    in_f_imp (in_f_block dt da dm) (in_f_imp (in_f_block ds db dm) (in_f_imp (in_f_join dh da db) in_f_ff))
instance_scoped scope block_null (t ∷ []) (a_heap h ∷ []) (dt, _) (dh, _) = in_f_imp (in_f_block dt dh in_t_loc) in_f_ff
instance_scoped scope block_emp (t ∷ []) (a_heap h ∷ a_term m ∷ []) (dt, _) (dh, (dm, _)) = in_f_imp (in_f_block dt dh dm) (in_f_imp (in_f_emp dh) in_f_ff)
instance_scoped scope block_word [] (a_heap h ∷ a_term m ∷ []) _ (dh, (dm, _)) =
    in_f_imp (in_f_block in_m_word dh dm) (in_f_ex_t in_m_word (in_f_cell in_m_word (under dh) (term_up dm) (in_t_var (omega arith))))
instance_scoped scope block_place (t ∷ s ∷ []) (a_heap h ∷ a_term m ∷ a_term n ∷ []) (dt, (ds, _)) (dh, (dm, (dn, _))) =
    in_f_imp (in_f_block dt dh dm) (in_f_imp (in_f_block ds dh dn) (in_f_eq in_m_loc dm dn))
instance_scoped scope block_width (t ∷ s ∷ []) (a_heap h ∷ a_term m ∷ []) (dt, (ds, _)) (dh, (dm, _)) = in_f_imp (in_f_block dt dh dm) (in_f_block ds dh dm)
instance_scoped scope add_comm [] (a_term x ∷ a_term y ∷ []) _ (dx, (dy, _)) = in_f_eq in_m_word (op_scope Add dx dy) (op_scope Add dy dx)
instance_scoped scope mul_comm [] (a_term x ∷ a_term y ∷ []) _ (dx, (dy, _)) = in_f_eq in_m_word (op_scope Mul dx dy) (op_scope Mul dy dx)
instance_scoped scope add_assoc [] (a_term x ∷ a_term y ∷ a_term z ∷ []) _ (dx, (dy, (dz, _))) =
    in_f_eq in_m_word (op_scope Add (op_scope Add dx dy) dz) (op_scope Add dx (op_scope Add dy dz))
instance_scoped scope mul_assoc [] (a_term x ∷ a_term y ∷ a_term z ∷ []) _ (dx, (dy, (dz, _))) =
    in_f_eq in_m_word (op_scope Mul (op_scope Mul dx dy) dz) (op_scope Mul dx (op_scope Mul dy dz))
instance_scoped scope add_zero [] (a_term x ∷ []) _ (dx, _) = in_f_eq in_m_word (op_scope Add dx in_t_word) dx
instance_scoped scope mul_one [] (a_term x ∷ []) _ (dx, _) = in_f_eq in_m_word (op_scope Mul dx in_t_word) dx
instance_scoped scope mul_zero [] (a_term x ∷ []) _ (dx, _) = in_f_eq in_m_word (op_scope Mul dx in_t_word) in_t_word
instance_scoped scope mul_add [] (a_term x ∷ a_term y ∷ a_term z ∷ []) _ (dx, (dy, (dz, _))) =
    in_f_eq in_m_word (op_scope Mul dx (op_scope Add dy dz)) (op_scope Add (op_scope Mul dx dy) (op_scope Mul dx dz))
instance_scoped scope sub_add [] (a_term x ∷ a_term y ∷ []) _ (dx, (dy, _)) = in_f_eq in_m_word (op_scope Add (op_scope Sub dx dy) dy) dx
instance_scoped scope add_sub [] (a_term x ∷ a_term y ∷ []) _ (dx, (dy, _)) = in_f_eq in_m_word (op_scope Sub (op_scope Add dx dy) dy) dx
instance_scoped scope lt_irrefl [] (a_term x ∷ []) _ (dx, _) = in_f_eq in_m_bool (op_scope Lt dx dx) in_t_bool
instance_scoped scope lt_zero [] (a_term x ∷ []) _ (dx, _) = in_f_eq in_m_bool (op_scope Lt dx in_t_word) in_t_bool
instance_scoped scope lt_trans [] (a_term x ∷ a_term y ∷ a_term z ∷ []) _ (dx, (dy, (dz, _))) =
    in_f_imp (in_f_eq in_m_bool (op_scope Lt dx dy) in_t_bool)
    (in_f_imp (in_f_eq in_m_bool (op_scope Lt dy dz) in_t_bool) (in_f_eq in_m_bool (op_scope Lt dx dz) in_t_bool))
instance_scoped scope lt_total [] (a_term x ∷ a_term y ∷ []) _ (dx, (dy, _)) =
    in_f_or (in_f_eq in_m_bool (op_scope Lt dx dy) in_t_bool)
    (in_f_or (in_f_eq in_m_word dx dy) (in_f_eq in_m_bool (op_scope Lt dy dx) in_t_bool))
instance_scoped scope lt_step [] (a_term x ∷ a_term y ∷ []) _ (dx, (dy, _)) =
    in_f_imp (in_f_eq in_m_bool (op_scope Lt dx dy) in_t_bool) (in_f_eq in_m_bool (op_scope Lt dx (op_scope Add dx in_t_word)) in_t_bool)
instance_scoped scope lt_gap [] (a_term x ∷ a_term y ∷ []) _ (dx, (dy, _)) =
    in_f_imp (in_f_eq in_m_bool (op_scope Lt dx dy) in_t_bool) (in_f_eq in_m_bool (op_scope Lt dy (op_scope Add dx in_t_word)) in_t_bool)
instance_scoped scope lt_pred [] (a_term x ∷ []) _ (dx, _) =
    in_f_imp (in_f_imp (in_f_eq in_m_word dx in_t_word) in_f_ff) (in_f_eq in_m_bool (op_scope Lt (op_scope Sub dx in_t_word) dx) in_t_bool)
instance_scoped scope eq_yes (t ∷ []) (a_term m ∷ a_term n ∷ []) (dt, _) (dm, (dn, _)) =
    in_f_imp (in_f_eq in_m_bool (eq_scope dt dm dn) in_t_bool) (in_f_eq dt dm dn)
instance_scoped scope eq_no (t ∷ []) (a_term m ∷ a_term n ∷ []) (dt, _) (dm, (dn, _)) =
    in_f_imp (in_f_eq dt dm dn) (in_f_eq in_m_bool (eq_scope dt dm dn) in_t_bool)
instance_scoped scope bool_or [] (a_term b ∷ []) _ (db, _) = in_f_or (in_f_eq in_m_bool db in_t_bool) (in_f_eq in_m_bool db in_t_bool)
instance_scoped scope bool_ne [] [] _ _ = in_f_imp (in_f_eq in_m_bool in_t_bool in_t_bool) in_f_ff
instance_scoped scope pair_eta (t ∷ s ∷ []) (a_term p ∷ []) (dt, (ds, _)) (dp, _) = in_f_eq (in_m_pair dt ds) (in_t_pair (fst_scope dp) (snd_scope dp)) dp
instance_scoped scope unit_eta [] (a_term u ∷ []) _ (du, _) = in_f_eq in_m_unit du in_t_unit
instance_scoped scope and_zero [] (a_term x ∷ []) _ (dx, _) = in_f_eq in_m_word (op_scope And dx in_t_word) in_t_word
instance_scoped scope or_zero [] (a_term x ∷ []) _ (dx, _) = in_f_eq in_m_word (op_scope Or dx in_t_word) dx
instance_scoped scope xor_self [] (a_term x ∷ []) _ (dx, _) = in_f_eq in_m_word (op_scope Xor dx dx) in_t_word
instance_scoped scope shl_one [] (a_term x ∷ []) _ (dx, _) = in_f_eq in_m_word (op_scope Shl dx in_t_word) (op_scope Add dx dx)
instance_scoped scope _ _ _ _ _ = tt
