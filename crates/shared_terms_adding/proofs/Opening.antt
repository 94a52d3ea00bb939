-- Lists of the code as definitions speak of them, and the operation of a row.
use Rattle.std.proofs.Common.{◌≡◌, ℕ, ◌+◌, ◌<◌, ◌≤◌, List, [], ◌∷◌, length, get_or, drop, Some, refl, sym, ap, ◌∙◌, arith}
use Rattle.std.proofs.lemmas.List.{drop_all, drop_more}
use Rattle.htt_syntax.specs.declared.mono.Op.{Op}
use Rattle.htt_syntax.specs.Trees.{TermTree, FixTree, no_terms, more_terms, x_param, c_ret, c_step}
use Rattle.htt_syntax.specs.Views.{term_tree, ty_tree, step_tree}
use Rattle.htt_syntax.specs.Levels.{term_trees, params_tree, steps_tree}
use Rattle.htt_syntax.specs.declared.tree.Term.{Term}
use Rattle.htt_syntax.specs.declared.tree.Ty.{Ty}
use Rattle.htt_syntax.specs.declared.tree.Step.{Step}
use Rattle.shared_terms_rows.specs.declared.operation.Operation.{Operation}
use Rattle.shared_terms_rows.specs.declared.operation.Operation.TheVariants as operation
use Rattle.shared_terms_rows.specs.declared.form.Form.TheVariants as form
use Rattle.shared_terms_rows.specs.declared.form.FixForm.TheVariants as fix
use Rattle.shared_terms_rows.specs.declared.form.CompForm.TheVariants as comp
use Rattle.shared_terms_rows.specs.Parts.{op_of, of_fix, of_comp}
use Rattle.shared_terms_rows.specs.Forms.{slots, fix_slots, comp_slots}
use Rattle.theory_rows_inversion.specs.Inversion.{operation_of, form_at, parts_at}
use Rattle.shared_terms_adding.specs.Roots.{root_of}

there_and_back : (o : Operation) → o ≡ operation_of (op_of o)
there_and_back operation.Add = refl
there_and_back operation.Sub = refl
there_and_back operation.Mul = refl
there_and_back operation.And = refl
there_and_back operation.Or = refl
there_and_back operation.Xor = refl
there_and_back operation.Shl = refl
there_and_back operation.Shr = refl
there_and_back operation.Lt = refl

pub operation_told : (o : Operation) (op : Op) → op_of o ≡ op → o ≡ operation_of op
operation_told o op e = there_and_back o ∙ ap operation_of e

pub no_term_left : (xs : List Term) → length xs ≡ 0 → term_trees xs ≡ no_terms
no_term_left [] e = refl
no_term_left (x ∷ xs) e = absurd (omega (arith, e))

pub terms_read : (xs : List Term) (x : Term) (rest : List Term) → xs ≡ x ∷ rest → term_trees xs ≡ more_terms (term_tree x) (term_trees rest)
terms_read xs x rest e = ap term_trees e

pub no_param_left : (xs : List Ty) (from : ℕ) (rest : FixTree) → length xs ≤ from → params_tree (drop from xs) rest ≡ rest
no_param_left xs from rest past = ap (λ ys. params_tree ys rest) (drop_all from xs past)

pub param_there : (xs : List Ty) (from : ℕ) (x : Ty) (rest : FixTree)
    → from < length xs
    → x ≡ get_or xs from x
    → params_tree (drop from xs) rest ≡ x_param (ty_tree x) (params_tree (drop (from + 1) xs) rest)
param_there xs from x rest below is =
    ap (λ ys. params_tree ys rest) (drop_more xs from x below ∙ ap (λ y. y ∷ drop (from + 1) xs) (sym is))

pub no_step_left : (xs : List Step) (from : ℕ) (result : TermTree) → length xs ≤ from → steps_tree (drop from xs) result ≡ c_ret result
no_step_left xs from result past = ap (λ ys. steps_tree ys result) (drop_all from xs past)

pub step_there : (xs : List Step) (from : ℕ) (x : Step) (result : TermTree)
    → from < length xs
    → x ≡ get_or xs from x
    → steps_tree (drop from xs) result ≡ c_step (step_tree x) (steps_tree (drop (from + 1) xs) result)
step_there xs from x result below is =
    ap (λ ys. steps_tree ys result) (drop_more xs from x below ∙ ap (λ y. y ∷ drop (from + 1) xs) (sym is))

-- a step that is left, and a parameter
pub step_form : (xs : List Step) (from : ℕ) (result : TermTree) → from < length xs → form.Comp comp.Step ≡ form_at (of_comp (steps_tree (drop from xs) result))
unfolding form_at
step_form [] from result below = absurd (omega (arith, below))
step_form (x ∷ xs) from result below = ap (λ ys. form_at (of_comp (steps_tree ys result))) (sym (drop_more (x ∷ xs) from x below))

pub step_second : (xs : List Step) (from : ℕ) (result : TermTree)
    → from < length xs
    → Some (of_comp (steps_tree (drop (from + 1) xs) result)) ≡ (root_of (of_comp (steps_tree (drop from xs) result))).second
unfolding root_of form_at parts_at slots comp_slots
step_second [] from result below = absurd (omega (arith, below))
step_second (x ∷ xs) from result below = ap (λ ys. (root_of (of_comp (steps_tree ys result))).second) (sym (drop_more (x ∷ xs) from x below))

pub param_form : (xs : List Ty) (from : ℕ) (rest : FixTree) → from < length xs → form.Fix fix.Param ≡ form_at (of_fix (params_tree (drop from xs) rest))
unfolding form_at
param_form [] from rest below = absurd (omega (arith, below))
param_form (x ∷ xs) from rest below = ap (λ ys. form_at (of_fix (params_tree ys rest))) (sym (drop_more (x ∷ xs) from x below))

pub param_second : (xs : List Ty) (from : ℕ) (rest : FixTree)
    → from < length xs
    → Some (of_fix (params_tree (drop (from + 1) xs) rest)) ≡ (root_of (of_fix (params_tree (drop from xs) rest))).second
unfolding root_of form_at parts_at slots fix_slots
param_second [] from rest below = absurd (omega (arith, below))
param_second (x ∷ xs) from rest below = ap (λ ys. (root_of (of_fix (params_tree ys rest))).second) (sym (drop_more (x ∷ xs) from x below))
