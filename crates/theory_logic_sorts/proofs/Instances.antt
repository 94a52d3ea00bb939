-- An instance of an axiom at sorted arguments is sorted.
use Rattle.std.proofs.Common.{List, [], ◌∷◌, IfSome, refl}
use Rattle.htt_syntax.specs.declared.mono.Op.{Op}
use Rattle.htt_syntax.specs.declared.mono.Op.TheVariants.{Add, Sub, Mul, And, Or, Xor, Shl, Lt}
use Rattle.htt_syntax.specs.Trees.{MonoTree, TermTree, ArgTree, t_fst, t_snd, t_word, t_bin, t_eq, a_heap, a_term}
use Rattle.theory_canonical.specs.Folding.{folding}
use Rattle.theory_logic_axioms.specs.Names.{AxiomName, emp_some, emp_one, join_emp, join_comm, join_assoc, join_fun, join_cancel, join_empty, join_cross}
use Rattle.theory_logic_axioms.specs.Names.{cell_block, cell_one, cell_val, cell_make, block_part, block_sep, block_null, block_emp, block_word, block_place}
use Rattle.theory_logic_axioms.specs.Names.{block_width, add_comm, mul_comm, add_assoc, mul_assoc, add_zero, mul_one, mul_zero, mul_add, sub_add, add_sub}
use Rattle.theory_logic_axioms.specs.Names.{lt_irrefl, lt_zero, lt_trans, lt_total, lt_step, lt_gap, lt_pred, eq_yes, eq_no, bool_or, bool_ne, pair_eta}
use Rattle.theory_logic_axioms.specs.Names.{unit_eta, and_zero, or_zero, xor_self, shl_one}
use Rattle.theory_substitution.specs.Closing.{up}
use Rattle.theory_logic_axioms.specs.Table.{formula_of, up_mono}
use Rattle.theory_logic_sorts.specs.Sorts.{Sort, Sorts, for_value, for_heap, SortedMono, SortedTerm, SortedFormula, AreSortedMonos, AreSortedArgs}
use Rattle.theory_logic_sorts.proofs.Renamed.{keeps_suc, mono_sorted, term_sorted}
use Rattle.theory_logic_sorts.proofs.Substituted.{fold_sorted}

mono_up : (g : Sorts) (s : Sort) (t : MonoTree) → SortedMono g t → SortedMono (s ∷ g) (up_mono t)
mono_up g s t d = mono_sorted (keeps_suc s g) t d

term_up : (g : Sorts) (s : Sort) (M : TermTree) → SortedTerm g M → SortedTerm (s ∷ g) (up M)
term_up g s M d = term_sorted (keeps_suc s g) M d

op_sorts : (g : Sorts) (op : Op) (x y : TermTree) → SortedTerm g x → SortedTerm g y → SortedTerm g (folding (t_bin op x y))
unfolding SortedTerm
op_sorts g op x y d e = fold_sorted g (t_bin op x y) (d, e)

eq_sorts : (g : Sorts) (t : MonoTree) (x y : TermTree) → SortedMono g t → SortedTerm g x → SortedTerm g y → SortedTerm g (folding (t_eq t x y))
unfolding SortedTerm
eq_sorts g t x y m d e = fold_sorted g (t_eq t x y) (m, d, e)

fst_sorts : (g : Sorts) (x : TermTree) → SortedTerm g x → SortedTerm g (folding (t_fst x))
unfolding SortedTerm
fst_sorts g x d = fold_sorted g (t_fst x) d

snd_sorts : (g : Sorts) (x : TermTree) → SortedTerm g x → SortedTerm g (folding (t_snd x))
unfolding SortedTerm
snd_sorts g x d = fold_sorted g (t_snd x) d

pub instance_sorted : (g : Sorts) (axiom_name : AxiomName) (monos : List MonoTree) (arguments : List ArgTree)
    → AreSortedMonos g monos
    → AreSortedArgs g arguments
    → IfSome (formula_of axiom_name monos arguments) (SortedFormula g)
unfolding formula_of SortedFormula SortedTerm SortedMono
instance_sorted scope emp_some [] [] _ _ = refl
instance_sorted scope emp_one [] (a_heap h ∷ a_heap k ∷ []) _ (dh, (dk, _)) = (dh, (dk, (dh, dk)))
instance_sorted scope join_emp [] (a_heap h ∷ a_heap e ∷ []) _ (dh, (de, _)) = (de, (dh, dh, de))
instance_sorted scope join_comm [] (a_heap h ∷ a_heap a ∷ a_heap b ∷ []) _ (dh, (da, (db, _))) = ((dh, da, db), (dh, db, da))
instance_sorted scope join_assoc [] (a_heap h ∷ a_heap a ∷ a_heap b ∷ a_heap c ∷ a_heap d ∷ []) _ (dh, (da, (db, (dc, (dd, _))))) =
    ((dh, da, db), ((da, dc, dd), ((dh, dc, refl), (refl, dd, db))))
instance_sorted scope join_fun [] (a_heap h ∷ a_heap k ∷ a_heap a ∷ a_heap b ∷ []) _ (dh, (dk, (da, (db, _)))) = ((dh, da, db), ((dk, da, db), (dh, dk)))
instance_sorted scope join_cancel [] (a_heap h ∷ a_heap a ∷ a_heap b ∷ a_heap c ∷ []) _ (dh, (da, (db, (dc, _)))) = ((dh, da, db), ((dh, da, dc), (db, dc)))
instance_sorted scope join_empty [] (a_heap h ∷ a_heap a ∷ a_heap b ∷ []) _ (dh, (da, (db, _))) = (dh, ((dh, da, db), (da, db)))
instance_sorted scope join_cross [] (a_heap h ∷ a_heap a ∷ a_heap b ∷ a_heap c ∷ a_heap d ∷ []) _ (dh, (da, (db, (dc, (dd, _))))) =
    ((dh, da, db), ((dh, dc, dd), ((da, refl, refl), ((db, refl, refl), ((dc, refl, refl), (dd, refl, refl))))))
instance_sorted scope cell_block (t ∷ []) (a_heap h ∷ a_term m ∷ a_term n ∷ []) (dt, _) (dh, (dm, (dn, _))) = ((dt, dh, dm, dn), (dt, dh, dm))
instance_sorted scope cell_one (t ∷ []) (a_heap g ∷ a_heap k ∷ a_term m ∷ a_term n ∷ []) (dt, _) (dg, (dk, (dm, (dn, _)))) =
    ((dt, dg, dm, dn), ((dt, dk, dm, dn), (dg, dk)))
instance_sorted scope cell_val (t ∷ []) (a_heap g ∷ a_term m ∷ a_term n ∷ a_term p ∷ []) (dt, _) (dg, (dm, (dn, (dp, _)))) =
    ((dt, dg, dm, dn), ((dt, dg, dm, dp), (dt, dn, dp)))
instance_sorted scope cell_make (t ∷ []) (a_term m ∷ a_term n ∷ []) (dt, _) (dm, (dn, _)) =
    (((tt, dm, tt), tt), ((mono_up scope for_heap t dt), refl, (term_up scope for_heap m dm), (term_up scope for_heap n dn)))
instance_sorted scope block_part (t ∷ s ∷ []) (a_heap h ∷ a_heap a ∷ a_heap b ∷ a_heap c ∷ a_heap d ∷ a_term m ∷ []) (dt, (ds, _))
    (dh, (da, (db, (dc, (dd, (dm, _)))))) = ((dt, da, dm), ((dh, da, db), ((ds, dc, dm), ((dh, dc, dd), ((da, dc), (db, dd))))))
instance_sorted scope block_sep (t ∷ s ∷ []) (a_heap h ∷ a_heap a ∷ a_heap b ∷ a_term m ∷ []) (dt, (ds, _)) (dh, (da, (db, (dm, _)))) =
    ((dt, da, dm), ((ds, db, dm), ((dh, da, db), tt)))
instance_sorted scope block_null (t ∷ []) (a_heap h ∷ []) (dt, _) (dh, _) = ((dt, dh, tt), tt)
instance_sorted scope block_emp (t ∷ []) (a_heap h ∷ a_term m ∷ []) (dt, _) (dh, (dm, _)) = ((dt, dh, dm), (dh, tt))
instance_sorted scope block_word [] (a_heap h ∷ a_term m ∷ []) _ (dh, (dm, _)) = ((tt, dh, dm), (tt, (tt, dh, (term_up scope for_value m dm), refl)))
instance_sorted scope block_place (t ∷ s ∷ []) (a_heap h ∷ a_term m ∷ a_term n ∷ []) (dt, (ds, _)) (dh, (dm, (dn, _))) =
    ((dt, dh, dm), ((ds, dh, dn), (tt, dm, dn)))
instance_sorted scope block_width (t ∷ s ∷ []) (a_heap h ∷ a_term m ∷ []) (dt, (ds, _)) (dh, (dm, _)) = ((dt, dh, dm), (ds, dh, dm))
instance_sorted scope add_comm [] (a_term x ∷ a_term y ∷ []) _ (dx, (dy, _)) = (tt, (op_sorts scope Add x y dx dy), (op_sorts scope Add y x dy dx))
instance_sorted scope mul_comm [] (a_term x ∷ a_term y ∷ []) _ (dx, (dy, _)) = (tt, (op_sorts scope Mul x y dx dy), (op_sorts scope Mul y x dy dx))
instance_sorted scope add_assoc [] (a_term x ∷ a_term y ∷ a_term z ∷ []) _ (dx, (dy, (dz, _))) = (
  tt,
  (op_sorts scope Add (folding (t_bin Add x y)) z (op_sorts scope Add x y dx dy) dz),
  (op_sorts scope Add x (folding (t_bin Add y z)) dx (op_sorts scope Add y z dy dz)),
)
instance_sorted scope mul_assoc [] (a_term x ∷ a_term y ∷ a_term z ∷ []) _ (dx, (dy, (dz, _))) = (
  tt,
  (op_sorts scope Mul (folding (t_bin Mul x y)) z (op_sorts scope Mul x y dx dy) dz),
  (op_sorts scope Mul x (folding (t_bin Mul y z)) dx (op_sorts scope Mul y z dy dz)),
)
instance_sorted scope add_zero [] (a_term x ∷ []) _ (dx, _) = (tt, (op_sorts scope Add x (t_word 0) dx tt), dx)
instance_sorted scope mul_one [] (a_term x ∷ []) _ (dx, _) = (tt, (op_sorts scope Mul x (t_word 1) dx tt), dx)
instance_sorted scope mul_zero [] (a_term x ∷ []) _ (dx, _) = (tt, (op_sorts scope Mul x (t_word 0) dx tt), tt)
instance_sorted scope mul_add [] (a_term x ∷ a_term y ∷ a_term z ∷ []) _ (dx, (dy, (dz, _))) = (
  tt,
  (op_sorts scope Mul x (folding (t_bin Add y z)) dx (op_sorts scope Add y z dy dz)),
  (op_sorts scope Add (folding (t_bin Mul x y)) (folding (t_bin Mul x z)) (op_sorts scope Mul x y dx dy) (op_sorts scope Mul x z dx dz)),
)
instance_sorted scope sub_add [] (a_term x ∷ a_term y ∷ []) _ (dx, (dy, _)) =
    (tt, (op_sorts scope Add (folding (t_bin Sub x y)) y (op_sorts scope Sub x y dx dy) dy), dx)
instance_sorted scope add_sub [] (a_term x ∷ a_term y ∷ []) _ (dx, (dy, _)) =
    (tt, (op_sorts scope Sub (folding (t_bin Add x y)) y (op_sorts scope Add x y dx dy) dy), dx)
instance_sorted scope lt_irrefl [] (a_term x ∷ []) _ (dx, _) = (tt, (op_sorts scope Lt x x dx dx), tt)
instance_sorted scope lt_zero [] (a_term x ∷ []) _ (dx, _) = (tt, (op_sorts scope Lt x (t_word 0) dx tt), tt)
instance_sorted scope lt_trans [] (a_term x ∷ a_term y ∷ a_term z ∷ []) _ (dx, (dy, (dz, _))) =
    ((tt, (op_sorts scope Lt x y dx dy), tt), ((tt, (op_sorts scope Lt y z dy dz), tt), (tt, (op_sorts scope Lt x z dx dz), tt)))
instance_sorted scope lt_total [] (a_term x ∷ a_term y ∷ []) _ (dx, (dy, _)) =
    ((tt, (op_sorts scope Lt x y dx dy), tt), ((tt, dx, dy), (tt, (op_sorts scope Lt y x dy dx), tt)))
instance_sorted scope lt_step [] (a_term x ∷ a_term y ∷ []) _ (dx, (dy, _)) = (
  (tt, (op_sorts scope Lt x y dx dy), tt),
  (tt, (op_sorts scope Lt x (folding (t_bin Add x (t_word 1))) dx (op_sorts scope Add x (t_word 1) dx tt)), tt),
)
instance_sorted scope lt_gap [] (a_term x ∷ a_term y ∷ []) _ (dx, (dy, _)) = (
  (tt, (op_sorts scope Lt x y dx dy), tt),
  (tt, (op_sorts scope Lt y (folding (t_bin Add x (t_word 1))) dy (op_sorts scope Add x (t_word 1) dx tt)), tt),
)
instance_sorted scope lt_pred [] (a_term x ∷ []) _ (dx, _) =
    (((tt, dx, tt), tt), (tt, (op_sorts scope Lt (folding (t_bin Sub x (t_word 1))) x (op_sorts scope Sub x (t_word 1) dx tt) dx), tt))
instance_sorted scope eq_yes (t ∷ []) (a_term m ∷ a_term n ∷ []) (dt, _) (dm, (dn, _)) = ((tt, (eq_sorts scope t m n dt dm dn), tt), (dt, dm, dn))
instance_sorted scope eq_no (t ∷ []) (a_term m ∷ a_term n ∷ []) (dt, _) (dm, (dn, _)) = ((dt, dm, dn), (tt, (eq_sorts scope t m n dt dm dn), tt))
instance_sorted scope bool_or [] (a_term b ∷ []) _ (db, _) = ((tt, db, tt), (tt, db, tt))
instance_sorted scope bool_ne [] [] _ _ = ((tt, tt, tt), tt)
instance_sorted scope pair_eta (t ∷ s ∷ []) (a_term p ∷ []) (dt, (ds, _)) (dp, _) = ((dt, ds), ((fst_sorts scope p dp), (snd_sorts scope p dp)), dp)
instance_sorted scope unit_eta [] (a_term u ∷ []) _ (du, _) = (tt, du, tt)
instance_sorted scope and_zero [] (a_term x ∷ []) _ (dx, _) = (tt, (op_sorts scope And x (t_word 0) dx tt), tt)
instance_sorted scope or_zero [] (a_term x ∷ []) _ (dx, _) = (tt, (op_sorts scope Or x (t_word 0) dx tt), dx)
instance_sorted scope xor_self [] (a_term x ∷ []) _ (dx, _) = (tt, (op_sorts scope Xor x x dx dx), tt)
instance_sorted scope shl_one [] (a_term x ∷ []) _ (dx, _) = (tt, (op_sorts scope Shl x (t_word 1) dx tt), (op_sorts scope Add x x dx dx))
instance_sorted scope _ _ _ _ _ = tt
