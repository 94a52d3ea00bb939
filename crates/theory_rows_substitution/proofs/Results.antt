-- Where a plain form has a result, so has what stands in each slot.
use Rattle.std.proofs.Common.{◌≡◌, ℕ, arith}
use Rattle.htt_syntax.specs.Trees.{TermTree, TyTree, TripleTree, FixTree, CompTree, StepTree, FormulaTree, TermTrees}
use Rattle.theory_canonical.specs.Skeletons.{Skeleton}
use Rattle.theory_substitution.specs.Substitution.{SubTy, SubTriple, SubTerm, SubTerms, SubFix, SubComp, SubStep, SubFormula, k_fix, k_made, k_val, u_bin}
use Rattle.theory_substitution.specs.Substitution.{u_bool, u_do, u_eq, u_f_all_h, u_f_all_t, u_f_and, u_f_block, u_f_cell, u_f_emp, u_f_eq, u_f_ex_h, u_f_ex_t}
use Rattle.theory_substitution.specs.Substitution.{u_f_ff, u_f_imp, u_f_join, u_f_or, u_f_rec, u_f_same, u_f_tt, u_fst, u_lam, u_lam_t, u_loc, u_more_terms}
use Rattle.theory_substitution.specs.Substitution.{u_no_terms, u_not, u_pair, u_ret, u_s_alloc, u_s_free, u_s_get, u_s_if, u_s_set, u_sel, u_snd, u_triple}
use Rattle.theory_substitution.specs.Substitution.{u_unit, u_word, u_x_body, u_x_param, u_y_all, u_y_fun, u_y_hoare, u_y_mono, u_kept, u_reduced}
use Rattle.shared_terms_rows.specs.declared.form.Form.TheVariants as form
use Rattle.shared_terms_rows.specs.declared.form.TyForm.TheVariants as ty
use Rattle.shared_terms_rows.specs.declared.form.TermForm.TheVariants as term
use Rattle.shared_terms_rows.specs.declared.form.FixForm.TheVariants as fix
use Rattle.shared_terms_rows.specs.declared.form.CompForm.TheVariants as comp
use Rattle.shared_terms_rows.specs.declared.form.StepForm.TheVariants as step
use Rattle.shared_terms_rows.specs.declared.form.FormulaForm.TheVariants as formula
use Rattle.shared_terms_rows.specs.declared.form.Kind.TheVariants as kinds
use Rattle.shared_terms_rows.specs.Parts.{Part, of_skeleton, of_mono, of_ty, of_triple, of_term, of_terms, of_fix, of_comp, of_step, of_formula, as_ty}
use Rattle.shared_terms_rows.specs.Parts.{as_triple, as_term, as_terms, as_fix, as_comp, as_step, as_formula, build, build_skeleton, build_mono}
use Rattle.shared_terms_rows.specs.Parts.{build_ty, build_term, build_fix, build_comp, build_step, build_formula, kind_of}
use Rattle.shared_terms_rows.specs.Forms.{slots, skeleton_slots, mono_slots, ty_slots, term_slots, fix_slots, comp_slots, step_slots, formula_slots}
use Rattle.theory_rows_substitution.specs.Substitution.{SubPart, in_mono, in_ty, in_triple, in_term, in_terms, in_fix, in_comp, in_step, in_formula, ups}
use Rattle.theory_rows_substitution.specs.Substitution.{beyond, is_plain}
use Rattle.theory_rows_substitution.specs.Laws.{SlotsHaveResults}

mono_has : {new : TermTree} {s : Skeleton} {x : ℕ} (a : Part) → kind_of a ≡ kinds.Mono → (r : Part) × SubPart new s x a r
mono_has (of_skeleton y) e = absurd (grind arith)
mono_has (of_mono y) e = (_, in_mono)
mono_has (of_ty y) e = absurd (grind arith)
mono_has (of_triple y) e = absurd (grind arith)
mono_has (of_term y) e = absurd (grind arith)
mono_has (of_terms y) e = absurd (grind arith)
mono_has (of_fix y) e = absurd (grind arith)
mono_has (of_comp y) e = absurd (grind arith)
mono_has (of_step y) e = absurd (grind arith)
mono_has (of_formula y) e = absurd (grind arith)

ty_has : {new : TermTree} {s : Skeleton} {x : ℕ} (a : Part) {r : TyTree}
    → kind_of a ≡ kinds.Ty
    → SubTy new s x (as_ty a) r
    → (q : Part) × SubPart new s x a q
ty_has (of_skeleton y) {r} e h = absurd (grind arith)
ty_has (of_mono y) {r} e h = absurd (grind arith)
ty_has (of_ty y) {r} e h = (of_ty r, in_ty h)
ty_has (of_triple y) {r} e h = absurd (grind arith)
ty_has (of_term y) {r} e h = absurd (grind arith)
ty_has (of_terms y) {r} e h = absurd (grind arith)
ty_has (of_fix y) {r} e h = absurd (grind arith)
ty_has (of_comp y) {r} e h = absurd (grind arith)
ty_has (of_step y) {r} e h = absurd (grind arith)
ty_has (of_formula y) {r} e h = absurd (grind arith)

triple_has : {new : TermTree} {s : Skeleton} {x : ℕ} (a : Part) {r : TripleTree}
    → kind_of a ≡ kinds.Triple
    → SubTriple new s x (as_triple a) r
    → (q : Part) × SubPart new s x a q
triple_has (of_skeleton y) {r} e h = absurd (grind arith)
triple_has (of_mono y) {r} e h = absurd (grind arith)
triple_has (of_ty y) {r} e h = absurd (grind arith)
triple_has (of_triple y) {r} e h = (of_triple r, in_triple h)
triple_has (of_term y) {r} e h = absurd (grind arith)
triple_has (of_terms y) {r} e h = absurd (grind arith)
triple_has (of_fix y) {r} e h = absurd (grind arith)
triple_has (of_comp y) {r} e h = absurd (grind arith)
triple_has (of_step y) {r} e h = absurd (grind arith)
triple_has (of_formula y) {r} e h = absurd (grind arith)

term_has : {new : TermTree} {s : Skeleton} {x : ℕ} (a : Part) {r : TermTree}
    → kind_of a ≡ kinds.Term
    → SubTerm new s x (as_term a) r
    → (q : Part) × SubPart new s x a q
term_has (of_skeleton y) {r} e h = absurd (grind arith)
term_has (of_mono y) {r} e h = absurd (grind arith)
term_has (of_ty y) {r} e h = absurd (grind arith)
term_has (of_triple y) {r} e h = absurd (grind arith)
term_has (of_term y) {r} e h = (of_term r, in_term h)
term_has (of_terms y) {r} e h = absurd (grind arith)
term_has (of_fix y) {r} e h = absurd (grind arith)
term_has (of_comp y) {r} e h = absurd (grind arith)
term_has (of_step y) {r} e h = absurd (grind arith)
term_has (of_formula y) {r} e h = absurd (grind arith)

terms_has : {new : TermTree} {s : Skeleton} {x : ℕ} (a : Part) {r : TermTrees}
    → kind_of a ≡ kinds.Terms
    → SubTerms new s x (as_terms a) r
    → (q : Part) × SubPart new s x a q
terms_has (of_skeleton y) {r} e h = absurd (grind arith)
terms_has (of_mono y) {r} e h = absurd (grind arith)
terms_has (of_ty y) {r} e h = absurd (grind arith)
terms_has (of_triple y) {r} e h = absurd (grind arith)
terms_has (of_term y) {r} e h = absurd (grind arith)
terms_has (of_terms y) {r} e h = (of_terms r, in_terms h)
terms_has (of_fix y) {r} e h = absurd (grind arith)
terms_has (of_comp y) {r} e h = absurd (grind arith)
terms_has (of_step y) {r} e h = absurd (grind arith)
terms_has (of_formula y) {r} e h = absurd (grind arith)

fix_has : {new : TermTree} {s : Skeleton} {x : ℕ} (a : Part) {r : FixTree}
    → kind_of a ≡ kinds.Fix
    → SubFix new s x (as_fix a) r
    → (q : Part) × SubPart new s x a q
fix_has (of_skeleton y) {r} e h = absurd (grind arith)
fix_has (of_mono y) {r} e h = absurd (grind arith)
fix_has (of_ty y) {r} e h = absurd (grind arith)
fix_has (of_triple y) {r} e h = absurd (grind arith)
fix_has (of_term y) {r} e h = absurd (grind arith)
fix_has (of_terms y) {r} e h = absurd (grind arith)
fix_has (of_fix y) {r} e h = (of_fix r, in_fix h)
fix_has (of_comp y) {r} e h = absurd (grind arith)
fix_has (of_step y) {r} e h = absurd (grind arith)
fix_has (of_formula y) {r} e h = absurd (grind arith)

comp_has : {new : TermTree} {s : Skeleton} {x : ℕ} (a : Part) {r : CompTree}
    → kind_of a ≡ kinds.Comp
    → SubComp new s x (as_comp a) r
    → (q : Part) × SubPart new s x a q
comp_has (of_skeleton y) {r} e h = absurd (grind arith)
comp_has (of_mono y) {r} e h = absurd (grind arith)
comp_has (of_ty y) {r} e h = absurd (grind arith)
comp_has (of_triple y) {r} e h = absurd (grind arith)
comp_has (of_term y) {r} e h = absurd (grind arith)
comp_has (of_terms y) {r} e h = absurd (grind arith)
comp_has (of_fix y) {r} e h = absurd (grind arith)
comp_has (of_comp y) {r} e h = (of_comp r, in_comp h)
comp_has (of_step y) {r} e h = absurd (grind arith)
comp_has (of_formula y) {r} e h = absurd (grind arith)

step_has : {new : TermTree} {s : Skeleton} {x : ℕ} (a : Part) {r : StepTree}
    → kind_of a ≡ kinds.Step
    → SubStep new s x (as_step a) r
    → (q : Part) × SubPart new s x a q
step_has (of_skeleton y) {r} e h = absurd (grind arith)
step_has (of_mono y) {r} e h = absurd (grind arith)
step_has (of_ty y) {r} e h = absurd (grind arith)
step_has (of_triple y) {r} e h = absurd (grind arith)
step_has (of_term y) {r} e h = absurd (grind arith)
step_has (of_terms y) {r} e h = absurd (grind arith)
step_has (of_fix y) {r} e h = absurd (grind arith)
step_has (of_comp y) {r} e h = absurd (grind arith)
step_has (of_step y) {r} e h = (of_step r, in_step h)
step_has (of_formula y) {r} e h = absurd (grind arith)

formula_has : {new : TermTree} {s : Skeleton} {x : ℕ} (a : Part) {r : FormulaTree}
    → kind_of a ≡ kinds.Formula
    → SubFormula new s x (as_formula a) r
    → (q : Part) × SubPart new s x a q
formula_has (of_skeleton y) {r} e h = absurd (grind arith)
formula_has (of_mono y) {r} e h = absurd (grind arith)
formula_has (of_ty y) {r} e h = absurd (grind arith)
formula_has (of_triple y) {r} e h = absurd (grind arith)
formula_has (of_term y) {r} e h = absurd (grind arith)
formula_has (of_terms y) {r} e h = absurd (grind arith)
formula_has (of_fix y) {r} e h = absurd (grind arith)
formula_has (of_comp y) {r} e h = absurd (grind arith)
formula_has (of_step y) {r} e h = absurd (grind arith)
formula_has (of_formula y) {r} e h = (of_formula r, in_formula h)

pub slots_have_results : SlotsHaveResults
unfolding build build_skeleton build_mono build_ty build_term build_fix build_comp build_step build_formula slots skeleton_slots mono_slots
    ty_slots term_slots fix_slots comp_slots step_slots formula_slots ups beyond is_plain
slots_have_results new s x (form.Ty ty.Mono) e a b c d r h i j k (in_ty u_y_mono) = (mono_has a h, tt, tt, tt)
slots_have_results new s x (form.Ty ty.Fun) e a b c d r h i j k (in_ty (u_y_fun u v)) = (ty_has a h u, ty_has b i v, tt, tt)
slots_have_results new s x (form.Ty ty.All) e a b c d r h i j k (in_ty (u_y_all u)) = (ty_has a h u, tt, tt, tt)
slots_have_results new s x (form.Ty ty.Hoare) e a b c d r h i j k (in_ty (u_y_hoare u)) = (triple_has a h u, tt, tt, tt)
slots_have_results new s x (form.Ty (ty.At at)) e a b c d r h i j k l = absurd (grind arith)
slots_have_results new s x form.Triple e a b c d r h i j k (in_triple (u_triple u v)) = (formula_has a h u, mono_has b i, formula_has c j v, tt)
slots_have_results new s x (form.Term (term.Var index)) e a b c d r h i j k l = absurd (grind arith)
slots_have_results new s x (form.Term (term.Val number)) e a b c d r h i j k (in_term (u_kept k_val)) = (tt, tt, tt, tt)
slots_have_results new s x (form.Term (term.Val number)) e a b c d r h i j k (in_term (u_reduced q)) = elim q [ ]
slots_have_results new s x (form.Term (term.Def number)) e a b c d r h i j k l = absurd (grind arith)
slots_have_results new s x (form.Term term.App) e a b c d r h i j k l = absurd (grind arith)
slots_have_results new s x (form.Term term.Inst) e a b c d r h i j k l = absurd (grind arith)
slots_have_results new s x (form.Term term.Lam) e a b c d r h i j k (in_term (u_lam u)) = (term_has a h u, tt, tt, tt)
slots_have_results new s x (form.Term term.Lam) e a b c d r h i j k (in_term (u_kept q)) = elim q [ ]
slots_have_results new s x (form.Term term.Lam) e a b c d r h i j k (in_term (u_reduced q)) = elim q [ ]
slots_have_results new s x (form.Term term.LamT) e a b c d r h i j k (in_term (u_lam_t u)) = (term_has a h u, tt, tt, tt)
slots_have_results new s x (form.Term term.LamT) e a b c d r h i j k (in_term (u_kept q)) = elim q [ ]
slots_have_results new s x (form.Term term.LamT) e a b c d r h i j k (in_term (u_reduced q)) = elim q [ ]
slots_have_results new s x (form.Term term.Do) e a b c d r h i j k (in_term (u_do u)) = (comp_has a h u, tt, tt, tt)
slots_have_results new s x (form.Term term.Do) e a b c d r h i j k (in_term (u_kept q)) = elim q [ ]
slots_have_results new s x (form.Term term.Do) e a b c d r h i j k (in_term (u_reduced q)) = elim q [ ]
slots_have_results new s x (form.Term (term.Fix at)) e a b c d r h i j k (in_term (u_kept (k_fix u))) = (fix_has a h u, tt, tt, tt)
slots_have_results new s x (form.Term (term.Fix at)) e a b c d r h i j k (in_term (u_reduced q)) = elim q [ ]
slots_have_results new s x (form.Term (term.Word word)) e a b c d r h i j k (in_term u_word) = (tt, tt, tt, tt)
slots_have_results new s x (form.Term (term.Word word)) e a b c d r h i j k (in_term (u_kept q)) = elim q [ ]
slots_have_results new s x (form.Term (term.Word word)) e a b c d r h i j k (in_term (u_reduced q)) = elim q [ ]
slots_have_results new s x (form.Term (term.Bool truth)) e a b c d r h i j k (in_term u_bool) = (tt, tt, tt, tt)
slots_have_results new s x (form.Term (term.Bool truth)) e a b c d r h i j k (in_term (u_kept q)) = elim q [ ]
slots_have_results new s x (form.Term (term.Bool truth)) e a b c d r h i j k (in_term (u_reduced q)) = elim q [ ]
slots_have_results new s x (form.Term (term.Loc place)) e a b c d r h i j k (in_term u_loc) = (tt, tt, tt, tt)
slots_have_results new s x (form.Term (term.Loc place)) e a b c d r h i j k (in_term (u_kept q)) = elim q [ ]
slots_have_results new s x (form.Term (term.Loc place)) e a b c d r h i j k (in_term (u_reduced q)) = elim q [ ]
slots_have_results new s x (form.Term term.Unit) e a b c d r h i j k (in_term u_unit) = (tt, tt, tt, tt)
slots_have_results new s x (form.Term term.Unit) e a b c d r h i j k (in_term (u_kept q)) = elim q [ ]
slots_have_results new s x (form.Term term.Unit) e a b c d r h i j k (in_term (u_reduced q)) = elim q [ ]
slots_have_results new s x (form.Term term.Pair) e a b c d r h i j k (in_term (u_pair u v)) = (term_has a h u, term_has b i v, tt, tt)
slots_have_results new s x (form.Term term.Pair) e a b c d r h i j k (in_term (u_kept q)) = elim q [ ]
slots_have_results new s x (form.Term term.Pair) e a b c d r h i j k (in_term (u_reduced q)) = elim q [ ]
slots_have_results new s x (form.Term term.Fst) e a b c d r h i j k (in_term (u_fst u)) = (term_has a h u, tt, tt, tt)
slots_have_results new s x (form.Term term.Fst) e a b c d r h i j k (in_term (u_kept q)) = elim q [ ]
slots_have_results new s x (form.Term term.Fst) e a b c d r h i j k (in_term (u_reduced q)) = elim q [ ]
slots_have_results new s x (form.Term term.Snd) e a b c d r h i j k (in_term (u_snd u)) = (term_has a h u, tt, tt, tt)
slots_have_results new s x (form.Term term.Snd) e a b c d r h i j k (in_term (u_kept q)) = elim q [ ]
slots_have_results new s x (form.Term term.Snd) e a b c d r h i j k (in_term (u_reduced q)) = elim q [ ]
slots_have_results new s x (form.Term term.Un) e a b c d r h i j k (in_term (u_not u)) = (term_has a h u, tt, tt, tt)
slots_have_results new s x (form.Term term.Un) e a b c d r h i j k (in_term (u_kept q)) = elim q [ ]
slots_have_results new s x (form.Term term.Un) e a b c d r h i j k (in_term (u_reduced q)) = elim q [ ]
slots_have_results new s x (form.Term (term.Bin op)) e a b c d r h i j k (in_term (u_bin u v)) = (term_has a h u, term_has b i v, tt, tt)
slots_have_results new s x (form.Term (term.Bin op)) e a b c d r h i j k (in_term (u_kept q)) = elim q [ ]
slots_have_results new s x (form.Term (term.Bin op)) e a b c d r h i j k (in_term (u_reduced q)) = elim q [ ]
slots_have_results new s x (form.Term term.Eq) e a b c d r h i j k (in_term (u_eq u v)) = (mono_has a h, term_has b i u, term_has c j v, tt)
slots_have_results new s x (form.Term term.Eq) e a b c d r h i j k (in_term (u_kept q)) = elim q [ ]
slots_have_results new s x (form.Term term.Eq) e a b c d r h i j k (in_term (u_reduced q)) = elim q [ ]
slots_have_results new s x (form.Term term.Sel) e a b c d r h i j k (in_term (u_sel u v w)) = (mono_has a h, term_has b i u, term_has c j v, term_has d k w)
slots_have_results new s x (form.Term term.Sel) e a b c d r h i j k (in_term (u_kept q)) = elim q [ ]
slots_have_results new s x (form.Term term.Sel) e a b c d r h i j k (in_term (u_reduced q)) = elim q [ ]
slots_have_results new s x (form.Term term.Ann) e a b c d r h i j k l = absurd (grind arith)
slots_have_results new s x (form.Term (term.Made number)) e a b c d r h i j k (in_term (u_kept (k_made u))) = (terms_has a h u, tt, tt, tt)
slots_have_results new s x (form.Term (term.Made number)) e a b c d r h i j k (in_term (u_reduced q)) = elim q [ ]
slots_have_results new s x (form.Term (term.At at)) e a b c d r h i j k l = absurd (grind arith)
slots_have_results new s x form.NoTerms e a b c d r h i j k (in_terms u_no_terms) = (tt, tt, tt, tt)
slots_have_results new s x form.MoreTerms e a b c d r h i j k (in_terms (u_more_terms u v)) = (term_has a h u, terms_has b i v, tt, tt)
slots_have_results new s x (form.Fix fix.Param) e a b c d r h i j k (in_fix (u_x_param u v)) = (ty_has a h u, fix_has b i v, tt, tt)
slots_have_results new s x (form.Fix fix.Body) e a b c d r h i j k (in_fix (u_x_body u v)) = (triple_has a h u, comp_has b i v, tt, tt)
slots_have_results new s x (form.Comp comp.Ret) e a b c d r h i j k (in_comp (u_ret u)) = (term_has a h u, tt, tt, tt)
slots_have_results new s x (form.Comp comp.Step) e a b c d r h i j k l = absurd (grind arith)
slots_have_results new s x (form.Step step.Run) e a b c d r h i j k l = absurd (grind arith)
slots_have_results new s x (form.Step step.RunOpen) e a b c d r h i j k l = absurd (grind arith)
slots_have_results new s x (form.Step step.Alloc) e a b c d r h i j k (in_step (u_s_alloc u)) = (mono_has a h, term_has b i u, tt, tt)
slots_have_results new s x (form.Step step.Get) e a b c d r h i j k (in_step (u_s_get u)) = (mono_has a h, term_has b i u, tt, tt)
slots_have_results new s x (form.Step step.Set) e a b c d r h i j k (in_step (u_s_set u v)) = (mono_has a h, term_has b i u, term_has c j v, tt)
slots_have_results new s x (form.Step step.Free) e a b c d r h i j k (in_step (u_s_free u)) = (mono_has a h, term_has b i u, tt, tt)
slots_have_results new s x (form.Step step.If) e a b c d r h i j k (in_step (u_s_if u v w)) = (mono_has a h, term_has b i u, comp_has c j v, comp_has d k w)
slots_have_results new s x (form.Step step.Claim) e a b c d r h i j k l = absurd (grind arith)
slots_have_results new s x (form.Formula formula.Tt) e a b c d r h i j k (in_formula u_f_tt) = (tt, tt, tt, tt)
slots_have_results new s x (form.Formula formula.Ff) e a b c d r h i j k (in_formula u_f_ff) = (tt, tt, tt, tt)
slots_have_results new s x (form.Formula formula.And) e a b c d r h i j k (in_formula (u_f_and u v)) = (formula_has a h u, formula_has b i v, tt, tt)
slots_have_results new s x (form.Formula formula.Or) e a b c d r h i j k (in_formula (u_f_or u v)) = (formula_has a h u, formula_has b i v, tt, tt)
slots_have_results new s x (form.Formula formula.Imp) e a b c d r h i j k (in_formula (u_f_imp u v)) = (formula_has a h u, formula_has b i v, tt, tt)
slots_have_results new s x (form.Formula formula.AllT) e a b c d r h i j k (in_formula (u_f_all_t u)) = (mono_has a h, formula_has b i u, tt, tt)
slots_have_results new s x (form.Formula formula.ExT) e a b c d r h i j k (in_formula (u_f_ex_t u)) = (mono_has a h, formula_has b i u, tt, tt)
slots_have_results new s x (form.Formula formula.AllH) e a b c d r h i j k (in_formula (u_f_all_h u)) = (formula_has a h u, tt, tt, tt)
slots_have_results new s x (form.Formula formula.ExH) e a b c d r h i j k (in_formula (u_f_ex_h u)) = (formula_has a h u, tt, tt, tt)
slots_have_results new s x (form.Formula (formula.Emp heap)) e a b c d r h i j k (in_formula u_f_emp) = (tt, tt, tt, tt)
slots_have_results new s x (form.Formula (formula.Cell heap)) e a b c d r h i j k (in_formula (u_f_cell u v)) =
    (mono_has a h, term_has b i u, term_has c j v, tt)
slots_have_results new s x (form.Formula (formula.Block heap)) e a b c d r h i j k (in_formula (u_f_block u)) = (mono_has a h, term_has b i u, tt, tt)
slots_have_results new s x (form.Formula (formula.Join whole left right)) e a b c d r h i j k (in_formula u_f_join) = (tt, tt, tt, tt)
slots_have_results new s x (form.Formula (formula.Same left right)) e a b c d r h i j k (in_formula u_f_same) = (tt, tt, tt, tt)
slots_have_results new s x (form.Formula formula.Eq) e a b c d r h i j k (in_formula (u_f_eq u v)) = (mono_has a h, term_has b i u, term_has c j v, tt)
slots_have_results new s x (form.Formula (formula.At at)) e a b c d r h i j k l = absurd (grind arith)
slots_have_results new s x (form.Formula (formula.Rec number heap)) e a b c d r h i j k (in_formula (u_f_rec u v)) = (term_has a h u, terms_has b i v, tt, tt)
slots_have_results new s x (form.Skeleton f) e a b c d r h i j k l = absurd (grind arith)
slots_have_results new s x (form.Mono f) e a b c d r h i j k l = absurd (grind arith)
