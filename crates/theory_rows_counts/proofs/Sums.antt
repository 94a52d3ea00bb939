-- The nodes of a form's tree are its own and those of its parts.
use Rattle.std.proofs.Common.{◌≡◌, refl, arith}
use Rattle.theory_counts.specs.Nodes.{nodes_option, nodes_mono, nodes_ty, nodes_triple, nodes_term, nodes_terms, nodes_fix, nodes_comp, nodes_step}
use Rattle.theory_counts.specs.Nodes.{nodes_formula}
use Rattle.shared_terms_rows.specs.declared.form.Form.TheVariants as form
use Rattle.shared_terms_rows.specs.declared.form.SkeletonForm.TheVariants as skeleton
use Rattle.shared_terms_rows.specs.declared.form.MonoForm.TheVariants as mono
use Rattle.shared_terms_rows.specs.declared.form.TyForm.TheVariants as ty
use Rattle.shared_terms_rows.specs.declared.form.TermForm.TheVariants as term
use Rattle.shared_terms_rows.specs.declared.form.FixForm.TheVariants as fix
use Rattle.shared_terms_rows.specs.declared.form.CompForm.TheVariants as comp
use Rattle.shared_terms_rows.specs.declared.form.StepForm.TheVariants as step
use Rattle.shared_terms_rows.specs.declared.form.FormulaForm.TheVariants as formula
use Rattle.shared_terms_rows.specs.declared.form.Kind.TheVariants as kinds
use Rattle.shared_terms_rows.specs.Parts.{Part, kind_of, of_skeleton, of_mono, of_ty, of_triple, of_term, of_terms, of_fix, of_comp, of_step, of_formula}
use Rattle.shared_terms_rows.specs.Parts.{as_mono, as_ty, as_triple, as_term, as_terms, as_fix, as_comp, as_step, as_formula, build, build_skeleton, build_mono}
use Rattle.shared_terms_rows.specs.Parts.{build_ty, build_term, build_fix, build_comp, build_step, build_formula}
use Rattle.shared_terms_rows.specs.Forms.{slots, skeleton_slots, mono_slots, ty_slots, term_slots, fix_slots, comp_slots, step_slots, formula_slots}
use Rattle.theory_rows_counts.specs.Counts.{nodes_part, own_nodes}
use Rattle.theory_rows_counts.specs.Laws.{NodesAddUp}

skeleton_nodes : (a : Part) → kind_of a ≡ kinds.Skeleton → 0 ≡ nodes_part a
unfolding nodes_part
skeleton_nodes (of_skeleton x) e = refl
skeleton_nodes (of_mono x) e = absurd (grind arith)
skeleton_nodes (of_ty x) e = absurd (grind arith)
skeleton_nodes (of_triple x) e = absurd (grind arith)
skeleton_nodes (of_term x) e = absurd (grind arith)
skeleton_nodes (of_terms x) e = absurd (grind arith)
skeleton_nodes (of_fix x) e = absurd (grind arith)
skeleton_nodes (of_comp x) e = absurd (grind arith)
skeleton_nodes (of_step x) e = absurd (grind arith)
skeleton_nodes (of_formula x) e = absurd (grind arith)

mono_nodes : (a : Part) → kind_of a ≡ kinds.Mono → nodes_mono (as_mono a) ≡ nodes_part a
unfolding nodes_part
mono_nodes (of_skeleton x) e = absurd (grind arith)
mono_nodes (of_mono x) e = refl
mono_nodes (of_ty x) e = absurd (grind arith)
mono_nodes (of_triple x) e = absurd (grind arith)
mono_nodes (of_term x) e = absurd (grind arith)
mono_nodes (of_terms x) e = absurd (grind arith)
mono_nodes (of_fix x) e = absurd (grind arith)
mono_nodes (of_comp x) e = absurd (grind arith)
mono_nodes (of_step x) e = absurd (grind arith)
mono_nodes (of_formula x) e = absurd (grind arith)

ty_nodes : (a : Part) → kind_of a ≡ kinds.Ty → nodes_ty (as_ty a) ≡ nodes_part a
unfolding nodes_part
ty_nodes (of_skeleton x) e = absurd (grind arith)
ty_nodes (of_mono x) e = absurd (grind arith)
ty_nodes (of_ty x) e = refl
ty_nodes (of_triple x) e = absurd (grind arith)
ty_nodes (of_term x) e = absurd (grind arith)
ty_nodes (of_terms x) e = absurd (grind arith)
ty_nodes (of_fix x) e = absurd (grind arith)
ty_nodes (of_comp x) e = absurd (grind arith)
ty_nodes (of_step x) e = absurd (grind arith)
ty_nodes (of_formula x) e = absurd (grind arith)

triple_nodes : (a : Part) → kind_of a ≡ kinds.Triple → nodes_triple (as_triple a) ≡ nodes_part a
unfolding nodes_part
triple_nodes (of_skeleton x) e = absurd (grind arith)
triple_nodes (of_mono x) e = absurd (grind arith)
triple_nodes (of_ty x) e = absurd (grind arith)
triple_nodes (of_triple x) e = refl
triple_nodes (of_term x) e = absurd (grind arith)
triple_nodes (of_terms x) e = absurd (grind arith)
triple_nodes (of_fix x) e = absurd (grind arith)
triple_nodes (of_comp x) e = absurd (grind arith)
triple_nodes (of_step x) e = absurd (grind arith)
triple_nodes (of_formula x) e = absurd (grind arith)

term_nodes : (a : Part) → kind_of a ≡ kinds.Term → nodes_term (as_term a) ≡ nodes_part a
unfolding nodes_part
term_nodes (of_skeleton x) e = absurd (grind arith)
term_nodes (of_mono x) e = absurd (grind arith)
term_nodes (of_ty x) e = absurd (grind arith)
term_nodes (of_triple x) e = absurd (grind arith)
term_nodes (of_term x) e = refl
term_nodes (of_terms x) e = absurd (grind arith)
term_nodes (of_fix x) e = absurd (grind arith)
term_nodes (of_comp x) e = absurd (grind arith)
term_nodes (of_step x) e = absurd (grind arith)
term_nodes (of_formula x) e = absurd (grind arith)

terms_nodes : (a : Part) → kind_of a ≡ kinds.Terms → nodes_terms (as_terms a) ≡ nodes_part a
unfolding nodes_part
terms_nodes (of_skeleton x) e = absurd (grind arith)
terms_nodes (of_mono x) e = absurd (grind arith)
terms_nodes (of_ty x) e = absurd (grind arith)
terms_nodes (of_triple x) e = absurd (grind arith)
terms_nodes (of_term x) e = absurd (grind arith)
terms_nodes (of_terms x) e = refl
terms_nodes (of_fix x) e = absurd (grind arith)
terms_nodes (of_comp x) e = absurd (grind arith)
terms_nodes (of_step x) e = absurd (grind arith)
terms_nodes (of_formula x) e = absurd (grind arith)

fix_nodes : (a : Part) → kind_of a ≡ kinds.Fix → nodes_fix (as_fix a) ≡ nodes_part a
unfolding nodes_part
fix_nodes (of_skeleton x) e = absurd (grind arith)
fix_nodes (of_mono x) e = absurd (grind arith)
fix_nodes (of_ty x) e = absurd (grind arith)
fix_nodes (of_triple x) e = absurd (grind arith)
fix_nodes (of_term x) e = absurd (grind arith)
fix_nodes (of_terms x) e = absurd (grind arith)
fix_nodes (of_fix x) e = refl
fix_nodes (of_comp x) e = absurd (grind arith)
fix_nodes (of_step x) e = absurd (grind arith)
fix_nodes (of_formula x) e = absurd (grind arith)

comp_nodes : (a : Part) → kind_of a ≡ kinds.Comp → nodes_comp (as_comp a) ≡ nodes_part a
unfolding nodes_part
comp_nodes (of_skeleton x) e = absurd (grind arith)
comp_nodes (of_mono x) e = absurd (grind arith)
comp_nodes (of_ty x) e = absurd (grind arith)
comp_nodes (of_triple x) e = absurd (grind arith)
comp_nodes (of_term x) e = absurd (grind arith)
comp_nodes (of_terms x) e = absurd (grind arith)
comp_nodes (of_fix x) e = absurd (grind arith)
comp_nodes (of_comp x) e = refl
comp_nodes (of_step x) e = absurd (grind arith)
comp_nodes (of_formula x) e = absurd (grind arith)

step_nodes : (a : Part) → kind_of a ≡ kinds.Step → nodes_step (as_step a) ≡ nodes_part a
unfolding nodes_part
step_nodes (of_skeleton x) e = absurd (grind arith)
step_nodes (of_mono x) e = absurd (grind arith)
step_nodes (of_ty x) e = absurd (grind arith)
step_nodes (of_triple x) e = absurd (grind arith)
step_nodes (of_term x) e = absurd (grind arith)
step_nodes (of_terms x) e = absurd (grind arith)
step_nodes (of_fix x) e = absurd (grind arith)
step_nodes (of_comp x) e = absurd (grind arith)
step_nodes (of_step x) e = refl
step_nodes (of_formula x) e = absurd (grind arith)

formula_nodes : (a : Part) → kind_of a ≡ kinds.Formula → nodes_formula (as_formula a) ≡ nodes_part a
unfolding nodes_part
formula_nodes (of_skeleton x) e = absurd (grind arith)
formula_nodes (of_mono x) e = absurd (grind arith)
formula_nodes (of_ty x) e = absurd (grind arith)
formula_nodes (of_triple x) e = absurd (grind arith)
formula_nodes (of_term x) e = absurd (grind arith)
formula_nodes (of_terms x) e = absurd (grind arith)
formula_nodes (of_fix x) e = absurd (grind arith)
formula_nodes (of_comp x) e = absurd (grind arith)
formula_nodes (of_step x) e = absurd (grind arith)
formula_nodes (of_formula x) e = refl

pub nodes_add_up : NodesAddUp
unfolding build build_skeleton build_mono build_ty build_term build_fix build_comp build_step build_formula slots skeleton_slots mono_slots
    ty_slots term_slots fix_slots comp_slots step_slots formula_slots own_nodes nodes_part nodes_mono nodes_option nodes_term
nodes_add_up (form.Skeleton skeleton.O) a b c d h i j k = refl
nodes_add_up (form.Skeleton skeleton.C) a b c d h i j k = refl
nodes_add_up (form.Skeleton skeleton.Arrow) a b c d h i j k = omega (arith, skeleton_nodes a h, skeleton_nodes b i)
nodes_add_up (form.Skeleton skeleton.All) a b c d h i j k = omega (arith, skeleton_nodes a h)
nodes_add_up (form.Mono mono.Word) a b c d h i j k = omega arith
nodes_add_up (form.Mono mono.Bool) a b c d h i j k = omega arith
nodes_add_up (form.Mono mono.Loc) a b c d h i j k = omega arith
nodes_add_up (form.Mono mono.Unit) a b c d h i j k = omega arith
nodes_add_up (form.Mono mono.Pair) a b c d h i j k = omega (arith, mono_nodes a h, mono_nodes b i)
nodes_add_up (form.Mono (mono.Var index)) a b c d h i j k = omega arith
nodes_add_up (form.Ty ty.Mono) a b c d h i j k = omega (arith, mono_nodes a h)
nodes_add_up (form.Ty ty.Fun) a b c d h i j k = omega (arith, ty_nodes a h, ty_nodes b i)
nodes_add_up (form.Ty ty.All) a b c d h i j k = omega (arith, ty_nodes a h)
nodes_add_up (form.Ty ty.Hoare) a b c d h i j k = omega (arith, triple_nodes a h)
nodes_add_up (form.Ty (ty.At at)) a b c d h i j k = omega (arith, ty_nodes a h)
nodes_add_up form.Triple a b c d h i j k = omega (arith, formula_nodes a h, mono_nodes b i, formula_nodes c j)
nodes_add_up (form.Term (term.Var index)) a b c d h i j k = omega arith
nodes_add_up (form.Term (term.Val number)) a b c d h i j k = omega arith
nodes_add_up (form.Term (term.Def number)) a b c d h i j k = omega arith
nodes_add_up (form.Term term.App) a b c d h i j k = omega (arith, term_nodes a h, term_nodes b i)
nodes_add_up (form.Term term.Inst) a b c d h i j k = omega (arith, term_nodes a h, mono_nodes b i)
nodes_add_up (form.Term term.Lam) a b c d h i j k = omega (arith, term_nodes a h)
nodes_add_up (form.Term term.LamT) a b c d h i j k = omega (arith, term_nodes a h)
nodes_add_up (form.Term term.Do) a b c d h i j k = omega (arith, comp_nodes a h)
nodes_add_up (form.Term (term.Fix at)) a b c d h i j k = omega (arith, fix_nodes a h)
nodes_add_up (form.Term (term.Word word)) a b c d h i j k = omega arith
nodes_add_up (form.Term (term.Bool truth)) a b c d h i j k = omega arith
nodes_add_up (form.Term (term.Loc place)) a b c d h i j k = omega arith
nodes_add_up (form.Term term.Unit) a b c d h i j k = omega arith
nodes_add_up (form.Term term.Pair) a b c d h i j k = omega (arith, term_nodes a h, term_nodes b i)
nodes_add_up (form.Term term.Fst) a b c d h i j k = omega (arith, term_nodes a h)
nodes_add_up (form.Term term.Snd) a b c d h i j k = omega (arith, term_nodes a h)
nodes_add_up (form.Term term.Un) a b c d h i j k = omega (arith, term_nodes a h)
nodes_add_up (form.Term (term.Bin op)) a b c d h i j k = omega (arith, term_nodes a h, term_nodes b i)
nodes_add_up (form.Term term.Eq) a b c d h i j k = omega (arith, mono_nodes a h, term_nodes b i, term_nodes c j)
nodes_add_up (form.Term term.Sel) a b c d h i j k = omega (arith, mono_nodes a h, term_nodes b i, term_nodes c j, term_nodes d k)
nodes_add_up (form.Term term.Ann) a b c d h i j k = omega (arith, term_nodes a h, ty_nodes b i)
nodes_add_up (form.Term (term.Made number)) a b c d h i j k = omega (arith, terms_nodes a h)
nodes_add_up (form.Term (term.At at)) a b c d h i j k = omega (arith, term_nodes a h)
nodes_add_up form.NoTerms a b c d h i j k = omega arith
nodes_add_up form.MoreTerms a b c d h i j k = omega (arith, term_nodes a h, terms_nodes b i)
nodes_add_up (form.Fix fix.Param) a b c d h i j k = omega (arith, ty_nodes a h, fix_nodes b i)
nodes_add_up (form.Fix fix.Body) a b c d h i j k = omega (arith, triple_nodes a h, comp_nodes b i)
nodes_add_up (form.Comp comp.Ret) a b c d h i j k = omega (arith, term_nodes a h)
nodes_add_up (form.Comp comp.Step) a b c d h i j k = omega (arith, step_nodes a h, comp_nodes b i)
nodes_add_up (form.Step step.Run) a b c d h i j k = omega (arith, term_nodes a h, mono_nodes b i)
nodes_add_up (form.Step step.RunOpen) a b c d h i j k = omega (arith, term_nodes a h)
nodes_add_up (form.Step step.Alloc) a b c d h i j k = omega (arith, mono_nodes a h, term_nodes b i)
nodes_add_up (form.Step step.Get) a b c d h i j k = omega (arith, mono_nodes a h, term_nodes b i)
nodes_add_up (form.Step step.Set) a b c d h i j k = omega (arith, mono_nodes a h, term_nodes b i, term_nodes c j)
nodes_add_up (form.Step step.Free) a b c d h i j k = omega (arith, mono_nodes a h, term_nodes b i)
nodes_add_up (form.Step step.If) a b c d h i j k = omega (arith, mono_nodes a h, term_nodes b i, comp_nodes c j, comp_nodes d k)
nodes_add_up (form.Step step.Claim) a b c d h i j k = omega (arith, formula_nodes a h)
nodes_add_up (form.Formula formula.Tt) a b c d h i j k = omega arith
nodes_add_up (form.Formula formula.Ff) a b c d h i j k = omega arith
nodes_add_up (form.Formula formula.And) a b c d h i j k = omega (arith, formula_nodes a h, formula_nodes b i)
nodes_add_up (form.Formula formula.Or) a b c d h i j k = omega (arith, formula_nodes a h, formula_nodes b i)
nodes_add_up (form.Formula formula.Imp) a b c d h i j k = omega (arith, formula_nodes a h, formula_nodes b i)
nodes_add_up (form.Formula formula.AllT) a b c d h i j k = omega (arith, mono_nodes a h, formula_nodes b i)
nodes_add_up (form.Formula formula.ExT) a b c d h i j k = omega (arith, mono_nodes a h, formula_nodes b i)
nodes_add_up (form.Formula formula.AllH) a b c d h i j k = omega (arith, formula_nodes a h)
nodes_add_up (form.Formula formula.ExH) a b c d h i j k = omega (arith, formula_nodes a h)
nodes_add_up (form.Formula (formula.Emp heap)) a b c d h i j k = omega arith
nodes_add_up (form.Formula (formula.Cell heap)) a b c d h i j k = omega (arith, mono_nodes a h, term_nodes b i, term_nodes c j)
nodes_add_up (form.Formula (formula.Block heap)) a b c d h i j k = omega (arith, mono_nodes a h, term_nodes b i)
nodes_add_up (form.Formula (formula.Join whole left right)) a b c d h i j k = omega arith
nodes_add_up (form.Formula (formula.Same left right)) a b c d h i j k = omega arith
nodes_add_up (form.Formula formula.Eq) a b c d h i j k = omega (arith, mono_nodes a h, term_nodes b i, term_nodes c j)
nodes_add_up (form.Formula (formula.At at)) a b c d h i j k = omega (arith, formula_nodes a h)
nodes_add_up (form.Formula (formula.Rec number heap)) a b c d h i j k = omega (arith, term_nodes a h, terms_nodes b i)
