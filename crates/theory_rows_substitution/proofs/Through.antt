-- Substitution goes through plain forms.
use Rattle.std.proofs.Common.{◌≡◌, ℕ, refl, subst, arith}
use Rattle.htt_syntax.specs.Trees.{MonoTree, TermTree, y_mono, triple, t_eq, t_sel, s_alloc, s_get, s_set, s_free, s_if, f_all_t, f_ex_t}
use Rattle.htt_syntax.specs.Trees.{f_cell, f_block, f_eq}
use Rattle.theory_renaming.specs.Renaming.{rename_mono}
use Rattle.theory_canonical.specs.Skeletons.{Skeleton}
use Rattle.theory_canonical.specs.Folding.{folding, contractum}
use Rattle.theory_substitution.specs.Closing.{closing}
use Rattle.theory_substitution.specs.Substitution.{SubTy, SubTriple, SubTerm, SubTerms, SubFix, SubComp, SubStep, SubFormula, k_fix, k_made, k_val, u_bin}
use Rattle.theory_substitution.specs.Substitution.{u_bool, u_do, u_eq, u_f_all_h, u_f_all_t, u_f_and, u_f_block, u_f_cell, u_f_emp, u_f_eq, u_f_ex_h, u_f_ex_t}
use Rattle.theory_substitution.specs.Substitution.{u_f_ff, u_f_imp, u_f_join, u_f_or, u_f_rec, u_f_same, u_f_tt, u_fst, u_lam, u_lam_t, u_loc, u_more_terms}
use Rattle.theory_substitution.specs.Substitution.{u_no_terms, u_not, u_pair, u_ret, u_s_alloc, u_s_free, u_s_get, u_s_if, u_s_set, u_sel, u_snd, u_triple}
use Rattle.theory_substitution.specs.Substitution.{u_unit, u_word, u_x_body, u_x_param, u_y_all, u_y_fun, u_y_hoare, u_y_mono, u_kept}
use Rattle.shared_terms_rows.specs.declared.form.Form.TheVariants as form
use Rattle.shared_terms_rows.specs.declared.form.TyForm.TheVariants as ty
use Rattle.shared_terms_rows.specs.declared.form.TermForm.TheVariants as term
use Rattle.shared_terms_rows.specs.declared.form.FixForm.TheVariants as fix
use Rattle.shared_terms_rows.specs.declared.form.CompForm.TheVariants as comp
use Rattle.shared_terms_rows.specs.declared.form.StepForm.TheVariants as step
use Rattle.shared_terms_rows.specs.declared.form.FormulaForm.TheVariants as formula
use Rattle.shared_terms_rows.specs.Parts.{Part, of_ty, of_triple, of_term, of_step, of_formula, as_mono, as_ty}
use Rattle.shared_terms_rows.specs.Parts.{as_triple, as_term, as_terms, as_fix, as_comp, as_step, as_formula, build, build_skeleton, build_mono}
use Rattle.shared_terms_rows.specs.Parts.{build_ty, build_term, build_fix, build_comp, build_step, build_formula}
use Rattle.shared_terms_rows.specs.Forms.{slots, skeleton_slots, mono_slots, ty_slots, term_slots, fix_slots, comp_slots, step_slots, formula_slots}
use Rattle.theory_rows_renaming.specs.Renaming.{rename_form}
use Rattle.theory_rows_substitution.specs.Substitution.{SubPart, in_mono, in_ty, in_triple, in_term, in_terms, in_fix, in_comp, in_step, in_formula}
use Rattle.theory_rows_substitution.specs.Substitution.{ups, beyond, is_plain}
use Rattle.theory_rows_substitution.specs.Laws.{PutSlotBySlot}

-- What a part is with the term put, as a tree of one kind; a part of another kind stands for a tree that stays.
mono_put : {new : TermTree} {s : Skeleton} {x : ℕ} {a r : Part} → SubPart new s x a r → rename_mono (closing x) (as_mono a) ≡ as_mono r
unfolding rename_mono
mono_put in_mono = refl
mono_put (in_ty p) = refl
mono_put (in_triple p) = refl
mono_put (in_term p) = refl
mono_put (in_terms p) = refl
mono_put (in_fix p) = refl
mono_put (in_comp p) = refl
mono_put (in_step p) = refl
mono_put (in_formula p) = refl

ty_put : {new : TermTree} {s : Skeleton} {x : ℕ} {a r : Part} → SubPart new s x a r → SubTy new s x (as_ty a) (as_ty r)
unfolding rename_mono
ty_put in_mono = u_y_mono
ty_put (in_ty p) = p
ty_put (in_triple p) = u_y_mono
ty_put (in_term p) = u_y_mono
ty_put (in_terms p) = u_y_mono
ty_put (in_fix p) = u_y_mono
ty_put (in_comp p) = u_y_mono
ty_put (in_step p) = u_y_mono
ty_put (in_formula p) = u_y_mono

triple_put : {new : TermTree} {s : Skeleton} {x : ℕ} {a r : Part} → SubPart new s x a r → SubTriple new s x (as_triple a) (as_triple r)
unfolding rename_mono
triple_put in_mono = u_triple u_f_tt u_f_tt
triple_put (in_ty p) = u_triple u_f_tt u_f_tt
triple_put (in_triple p) = p
triple_put (in_term p) = u_triple u_f_tt u_f_tt
triple_put (in_terms p) = u_triple u_f_tt u_f_tt
triple_put (in_fix p) = u_triple u_f_tt u_f_tt
triple_put (in_comp p) = u_triple u_f_tt u_f_tt
triple_put (in_step p) = u_triple u_f_tt u_f_tt
triple_put (in_formula p) = u_triple u_f_tt u_f_tt

term_put : {new : TermTree} {s : Skeleton} {x : ℕ} {a r : Part} → SubPart new s x a r → SubTerm new s x (as_term a) (as_term r)
unfolding rename_mono
term_put in_mono = u_unit
term_put (in_ty p) = u_unit
term_put (in_triple p) = u_unit
term_put (in_term p) = p
term_put (in_terms p) = u_unit
term_put (in_fix p) = u_unit
term_put (in_comp p) = u_unit
term_put (in_step p) = u_unit
term_put (in_formula p) = u_unit

terms_put : {new : TermTree} {s : Skeleton} {x : ℕ} {a r : Part} → SubPart new s x a r → SubTerms new s x (as_terms a) (as_terms r)
unfolding rename_mono
terms_put in_mono = u_no_terms
terms_put (in_ty p) = u_no_terms
terms_put (in_triple p) = u_no_terms
terms_put (in_term p) = u_no_terms
terms_put (in_terms p) = p
terms_put (in_fix p) = u_no_terms
terms_put (in_comp p) = u_no_terms
terms_put (in_step p) = u_no_terms
terms_put (in_formula p) = u_no_terms

fix_put : {new : TermTree} {s : Skeleton} {x : ℕ} {a r : Part} → SubPart new s x a r → SubFix new s x (as_fix a) (as_fix r)
unfolding rename_mono
fix_put in_mono = u_x_body (u_triple u_f_tt u_f_tt) (u_ret u_unit)
fix_put (in_ty p) = u_x_body (u_triple u_f_tt u_f_tt) (u_ret u_unit)
fix_put (in_triple p) = u_x_body (u_triple u_f_tt u_f_tt) (u_ret u_unit)
fix_put (in_term p) = u_x_body (u_triple u_f_tt u_f_tt) (u_ret u_unit)
fix_put (in_terms p) = u_x_body (u_triple u_f_tt u_f_tt) (u_ret u_unit)
fix_put (in_fix p) = p
fix_put (in_comp p) = u_x_body (u_triple u_f_tt u_f_tt) (u_ret u_unit)
fix_put (in_step p) = u_x_body (u_triple u_f_tt u_f_tt) (u_ret u_unit)
fix_put (in_formula p) = u_x_body (u_triple u_f_tt u_f_tt) (u_ret u_unit)

comp_put : {new : TermTree} {s : Skeleton} {x : ℕ} {a r : Part} → SubPart new s x a r → SubComp new s x (as_comp a) (as_comp r)
unfolding rename_mono
comp_put in_mono = u_ret u_unit
comp_put (in_ty p) = u_ret u_unit
comp_put (in_triple p) = u_ret u_unit
comp_put (in_term p) = u_ret u_unit
comp_put (in_terms p) = u_ret u_unit
comp_put (in_fix p) = u_ret u_unit
comp_put (in_comp p) = p
comp_put (in_step p) = u_ret u_unit
comp_put (in_formula p) = u_ret u_unit

step_put : {new : TermTree} {s : Skeleton} {x : ℕ} {a r : Part} → SubPart new s x a r → SubStep new s x (as_step a) (as_step r)
unfolding rename_mono
step_put in_mono = u_s_get u_unit
step_put (in_ty p) = u_s_get u_unit
step_put (in_triple p) = u_s_get u_unit
step_put (in_term p) = u_s_get u_unit
step_put (in_terms p) = u_s_get u_unit
step_put (in_fix p) = u_s_get u_unit
step_put (in_comp p) = u_s_get u_unit
step_put (in_step p) = p
step_put (in_formula p) = u_s_get u_unit

formula_put : {new : TermTree} {s : Skeleton} {x : ℕ} {a r : Part} → SubPart new s x a r → SubFormula new s x (as_formula a) (as_formula r)
unfolding rename_mono
formula_put in_mono = u_f_tt
formula_put (in_ty p) = u_f_tt
formula_put (in_triple p) = u_f_tt
formula_put (in_term p) = u_f_tt
formula_put (in_terms p) = u_f_tt
formula_put (in_fix p) = u_f_tt
formula_put (in_comp p) = u_f_tt
formula_put (in_step p) = u_f_tt
formula_put (in_formula p) = p

pub put_slot_by_slot : PutSlotBySlot
unfolding build build_skeleton build_mono build_ty build_term build_fix build_comp build_step build_formula rename_form slots skeleton_slots
    mono_slots ty_slots term_slots fix_slots comp_slots step_slots formula_slots ups beyond is_plain rename_mono contractum
put_slot_by_slot new s x (form.Ty ty.Mono) e a b c d p q r t h i j k =
    subst (λ (m : MonoTree). SubPart new s x (of_ty (y_mono (as_mono a))) (of_ty (y_mono m))) (mono_put h) (in_ty u_y_mono)
put_slot_by_slot new s x (form.Ty ty.Fun) e a b c d p q r t h i j k = in_ty (u_y_fun (ty_put h) (ty_put i))
put_slot_by_slot new s x (form.Ty ty.All) e a b c d p q r t h i j k = in_ty (u_y_all (ty_put h))
put_slot_by_slot new s x (form.Ty ty.Hoare) e a b c d p q r t h i j k = in_ty (u_y_hoare (triple_put h))
put_slot_by_slot new s x (form.Ty (ty.At at)) e a b c d p q r t h i j k = absurd (grind arith)
put_slot_by_slot new s x form.Triple e a b c d p q r t h i j k =
    subst (λ (m : MonoTree).
    SubPart new s x (of_triple (triple (as_formula a) (as_mono b) (as_formula c))) (of_triple (triple (as_formula p) m (as_formula r))))
    (mono_put i) (in_triple (u_triple (formula_put h) (formula_put j)))
put_slot_by_slot new s x (form.Term (term.Var index)) e a b c d p q r t h i j k = absurd (grind arith)
put_slot_by_slot new s x (form.Term (term.Val number)) e a b c d p q r t h i j k = in_term (u_kept k_val)
put_slot_by_slot new s x (form.Term (term.Def number)) e a b c d p q r t h i j k = absurd (grind arith)
put_slot_by_slot new s x (form.Term term.App) e a b c d p q r t h i j k = absurd (grind arith)
put_slot_by_slot new s x (form.Term term.Inst) e a b c d p q r t h i j k = absurd (grind arith)
put_slot_by_slot new s x (form.Term term.Lam) e a b c d p q r t h i j k = in_term (u_lam (term_put h))
put_slot_by_slot new s x (form.Term term.LamT) e a b c d p q r t h i j k = in_term (u_lam_t (term_put h))
put_slot_by_slot new s x (form.Term term.Do) e a b c d p q r t h i j k = in_term (u_do (comp_put h))
put_slot_by_slot new s x (form.Term (term.Fix at)) e a b c d p q r t h i j k = in_term (u_kept (k_fix (fix_put h)))
put_slot_by_slot new s x (form.Term (term.Word word)) e a b c d p q r t h i j k = in_term u_word
put_slot_by_slot new s x (form.Term (term.Bool truth)) e a b c d p q r t h i j k = in_term u_bool
put_slot_by_slot new s x (form.Term (term.Loc place)) e a b c d p q r t h i j k = in_term u_loc
put_slot_by_slot new s x (form.Term term.Unit) e a b c d p q r t h i j k = in_term u_unit
put_slot_by_slot new s x (form.Term term.Pair) e a b c d p q r t h i j k = in_term (u_pair (term_put h) (term_put i))
put_slot_by_slot new s x (form.Term term.Fst) e a b c d p q r t h i j k = in_term (u_fst (term_put h))
put_slot_by_slot new s x (form.Term term.Snd) e a b c d p q r t h i j k = in_term (u_snd (term_put h))
put_slot_by_slot new s x (form.Term term.Un) e a b c d p q r t h i j k = in_term (u_not (term_put h))
put_slot_by_slot new s x (form.Term (term.Bin op)) e a b c d p q r t h i j k = in_term (u_bin (term_put h) (term_put i))
put_slot_by_slot new s x (form.Term term.Eq) e a b c d p q r t h i j k =
    subst (λ (m : MonoTree).
    SubPart new s x (of_term (t_eq (as_mono a) (as_term b) (as_term c))) (of_term (folding (t_eq m (as_term q) (as_term r))))) (mono_put h)
    (in_term (u_eq (term_put i) (term_put j)))
put_slot_by_slot new s x (form.Term term.Sel) e a b c d p q r t h i j k =
    subst (λ (m : MonoTree).
    SubPart new s x (of_term (t_sel (as_mono a) (as_term b) (as_term c) (as_term d)))
    (of_term (folding (t_sel m (as_term q) (as_term r) (as_term t))))) (mono_put h) (in_term (u_sel (term_put i) (term_put j) (term_put k)))
put_slot_by_slot new s x (form.Term term.Ann) e a b c d p q r t h i j k = absurd (grind arith)
put_slot_by_slot new s x (form.Term (term.Made number)) e a b c d p q r t h i j k = in_term (u_kept (k_made (terms_put h)))
put_slot_by_slot new s x (form.Term (term.At at)) e a b c d p q r t h i j k = absurd (grind arith)
put_slot_by_slot new s x form.NoTerms e a b c d p q r t h i j k = in_terms u_no_terms
put_slot_by_slot new s x form.MoreTerms e a b c d p q r t h i j k = in_terms (u_more_terms (term_put h) (terms_put i))
put_slot_by_slot new s x (form.Fix fix.Param) e a b c d p q r t h i j k = in_fix (u_x_param (ty_put h) (fix_put i))
put_slot_by_slot new s x (form.Fix fix.Body) e a b c d p q r t h i j k = in_fix (u_x_body (triple_put h) (comp_put i))
put_slot_by_slot new s x (form.Comp comp.Ret) e a b c d p q r t h i j k = in_comp (u_ret (term_put h))
put_slot_by_slot new s x (form.Comp comp.Step) e a b c d p q r t h i j k = absurd (grind arith)
put_slot_by_slot new s x (form.Step step.Run) e a b c d p q r t h i j k = absurd (grind arith)
put_slot_by_slot new s x (form.Step step.RunOpen) e a b c d p q r t h i j k = absurd (grind arith)
put_slot_by_slot new s x (form.Step step.Alloc) e a b c d p q r t h i j k =
    subst (λ (m : MonoTree). SubPart new s x (of_step (s_alloc (as_mono a) (as_term b))) (of_step (s_alloc m (as_term q)))) (mono_put h)
    (in_step (u_s_alloc (term_put i)))
put_slot_by_slot new s x (form.Step step.Get) e a b c d p q r t h i j k =
    subst (λ (m : MonoTree). SubPart new s x (of_step (s_get (as_mono a) (as_term b))) (of_step (s_get m (as_term q)))) (mono_put h)
    (in_step (u_s_get (term_put i)))
put_slot_by_slot new s x (form.Step step.Set) e a b c d p q r t h i j k =
    subst
    (λ (m : MonoTree). SubPart new s x (of_step (s_set (as_mono a) (as_term b) (as_term c))) (of_step (s_set m (as_term q) (as_term r))))
    (mono_put h) (in_step (u_s_set (term_put i) (term_put j)))
put_slot_by_slot new s x (form.Step step.Free) e a b c d p q r t h i j k =
    subst (λ (m : MonoTree). SubPart new s x (of_step (s_free (as_mono a) (as_term b))) (of_step (s_free m (as_term q)))) (mono_put h)
    (in_step (u_s_free (term_put i)))
put_slot_by_slot new s x (form.Step step.If) e a b c d p q r t h i j k =
    subst (λ (m : MonoTree).
    SubPart new s x (of_step (s_if (as_mono a) (as_term b) (as_comp c) (as_comp d))) (of_step (s_if m (as_term q) (as_comp r) (as_comp t))))
    (mono_put h) (in_step (u_s_if (term_put i) (comp_put j) (comp_put k)))
put_slot_by_slot new s x (form.Step step.Claim) e a b c d p q r t h i j k = absurd (grind arith)
put_slot_by_slot new s x (form.Formula formula.Tt) e a b c d p q r t h i j k = in_formula u_f_tt
put_slot_by_slot new s x (form.Formula formula.Ff) e a b c d p q r t h i j k = in_formula u_f_ff
put_slot_by_slot new s x (form.Formula formula.And) e a b c d p q r t h i j k = in_formula (u_f_and (formula_put h) (formula_put i))
put_slot_by_slot new s x (form.Formula formula.Or) e a b c d p q r t h i j k = in_formula (u_f_or (formula_put h) (formula_put i))
put_slot_by_slot new s x (form.Formula formula.Imp) e a b c d p q r t h i j k = in_formula (u_f_imp (formula_put h) (formula_put i))
put_slot_by_slot new s x (form.Formula formula.AllT) e a b c d p q r t h i j k =
    subst (λ (m : MonoTree). SubPart new s x (of_formula (f_all_t (as_mono a) (as_formula b))) (of_formula (f_all_t m (as_formula q))))
    (mono_put h) (in_formula (u_f_all_t (formula_put i)))
put_slot_by_slot new s x (form.Formula formula.ExT) e a b c d p q r t h i j k =
    subst (λ (m : MonoTree). SubPart new s x (of_formula (f_ex_t (as_mono a) (as_formula b))) (of_formula (f_ex_t m (as_formula q))))
    (mono_put h) (in_formula (u_f_ex_t (formula_put i)))
put_slot_by_slot new s x (form.Formula formula.AllH) e a b c d p q r t h i j k = in_formula (u_f_all_h (formula_put h))
put_slot_by_slot new s x (form.Formula formula.ExH) e a b c d p q r t h i j k = in_formula (u_f_ex_h (formula_put h))
put_slot_by_slot new s x (form.Formula (formula.Emp heap)) e a b c d p q r t h i j k = in_formula u_f_emp
put_slot_by_slot new s x (form.Formula (formula.Cell heap)) e a b c d p q r t h i j k =
    subst (λ (m : MonoTree).
    SubPart new s x (of_formula (f_cell (as_mono a) heap (as_term b) (as_term c)))
    (of_formula (f_cell m (closing x heap) (as_term q) (as_term r)))) (mono_put h) (in_formula (u_f_cell (term_put i) (term_put j)))
put_slot_by_slot new s x (form.Formula (formula.Block heap)) e a b c d p q r t h i j k =
    subst (λ (m : MonoTree).
    SubPart new s x (of_formula (f_block (as_mono a) heap (as_term b))) (of_formula (f_block m (closing x heap) (as_term q)))) (mono_put h)
    (in_formula (u_f_block (term_put i)))
put_slot_by_slot new s x (form.Formula (formula.Join whole left right)) e a b c d p q r t h i j k = in_formula u_f_join
put_slot_by_slot new s x (form.Formula (formula.Same left right)) e a b c d p q r t h i j k = in_formula u_f_same
put_slot_by_slot new s x (form.Formula formula.Eq) e a b c d p q r t h i j k =
    subst (λ (m : MonoTree).
    SubPart new s x (of_formula (f_eq (as_mono a) (as_term b) (as_term c))) (of_formula (f_eq m (as_term q) (as_term r)))) (mono_put h)
    (in_formula (u_f_eq (term_put i) (term_put j)))
put_slot_by_slot new s x (form.Formula (formula.At at)) e a b c d p q r t h i j k = absurd (grind arith)
put_slot_by_slot new s x (form.Formula (formula.Rec number heap)) e a b c d p q r t h i j k = in_formula (u_f_rec (term_put h) (terms_put i))
put_slot_by_slot new s x (form.Skeleton f) e a b c d p q r t h i j k = absurd (grind arith)
put_slot_by_slot new s x (form.Mono f) e a b c d p q r t h i j k = absurd (grind arith)
