-- The trees of types, terms, computations and formulas, one level at a time: an equation for each
-- variant.
use Rattle.std.specs.Prelude.{◌≡◌, ℕ, List, [], ◌∷◌, refl, map, ⊤}
use Rattle.std.proofs.Common.{ap}
use Rattle.htt_parser_trees.specs.declared.place.Span.{Span}
use Rattle.htt_parser_trees.specs.declared.place.Binder.{Binder}
use Rattle.htt_parser_trees.specs.declared.place.Binder.TheVariants as binders
use Rattle.htt_parser_trees.specs.declared.mono.RawMono.{RawMono}
use Rattle.htt_parser_trees.specs.declared.tree.RawTy.{RawTy}
use Rattle.htt_parser_trees.specs.declared.tree.RawTy.TheVariants as vty
use Rattle.htt_parser_trees.specs.declared.tree.RawTriple.{RawTriple}
use Rattle.htt_parser_trees.specs.declared.tree.RawTerm.{RawTerm}
use Rattle.htt_parser_trees.specs.declared.tree.RawTerm.TheVariants as vterm
use Rattle.htt_parser_trees.specs.declared.tree.RawFix.{RawFix}
use Rattle.htt_parser_trees.specs.declared.tree.RawParam.{RawParam}
use Rattle.htt_parser_trees.specs.declared.tree.RawParam.TheVariants as vparam
use Rattle.htt_parser_trees.specs.declared.tree.RawRel.{RawRel}
use Rattle.htt_parser_trees.specs.declared.tree.RawRel.TheVariants as vrel
use Rattle.htt_parser_trees.specs.declared.tree.RawSum.{RawSum}
use Rattle.htt_parser_trees.specs.declared.tree.SumOperand.{SumOperand}
use Rattle.htt_parser_trees.specs.declared.tree.SumOperand.TheVariants as vsum_operand
use Rattle.htt_parser_trees.specs.declared.tree.RawProd.{RawProd}
use Rattle.htt_parser_trees.specs.declared.tree.ProdOperand.{ProdOperand}
use Rattle.htt_parser_trees.specs.declared.tree.ProdOperand.TheVariants as vprod_operand
use Rattle.htt_parser_trees.specs.declared.tree.RawAppl.{RawAppl}
use Rattle.htt_parser_trees.specs.declared.tree.RawAppl.TheVariants as vappl
use Rattle.htt_parser_trees.specs.declared.tree.UnaryWord.{UnaryWord}
use Rattle.htt_parser_trees.specs.declared.tree.RawPart.{RawPart}
use Rattle.htt_parser_trees.specs.declared.tree.RawPart.TheVariants as vpart
use Rattle.htt_parser_trees.specs.declared.tree.RawAtom.{RawAtom}
use Rattle.htt_parser_trees.specs.declared.tree.RawAtom.TheVariants as vatom
use Rattle.htt_parser_trees.specs.declared.tree.RawComp.{RawComp}
use Rattle.htt_parser_trees.specs.declared.tree.RawStep.{RawStep}
use Rattle.htt_parser_trees.specs.declared.tree.RawStep.TheVariants as vstep
use Rattle.htt_parser_trees.specs.declared.tree.RawFormula.{RawFormula}
use Rattle.htt_parser_trees.specs.declared.tree.RawFormula.TheVariants as vformula
use Rattle.htt_parser_trees.specs.declared.tree.RawSort.{RawSort}
use Rattle.htt_parser_trees.specs.declared.tree.RawDisj.{RawDisj}
use Rattle.htt_parser_trees.specs.declared.tree.RawDisj.TheVariants as vdisj
use Rattle.htt_parser_trees.specs.declared.tree.RawConj.{RawConj}
use Rattle.htt_parser_trees.specs.declared.tree.RawConj.TheVariants as vconj
use Rattle.htt_parser_trees.specs.declared.tree.RawStar.{RawStar}
use Rattle.htt_parser_trees.specs.declared.tree.RawStar.TheVariants as vstar
use Rattle.htt_parser_trees.specs.declared.tree.RawFatom.{RawFatom}
use Rattle.htt_parser_trees.specs.declared.tree.RawFatom.TheVariants as vfatom
use Rattle.htt_parser_trees.specs.declared.tree.RawHeap.{RawHeap}
use Rattle.htt_parser_trees.specs.declared.tree.ProdOperand.TheBlock as block
use Rattle.htt_parser_trees.specs.Trees.{RawCompTree, RawParamTrees, RawPartTrees, RawProdRestTree, RawProdTree}
use Rattle.htt_parser_trees.specs.Trees.{RawSumRestTree, RawSumTree, RawTermTrees, RawTripleTree, a_annotated}
use Rattle.htt_parser_trees.specs.Trees.{a_brackets, a_eq, a_false, a_name, a_null, a_number, a_pair, a_place, a_sel}
use Rattle.htt_parser_trees.specs.Trees.{a_true, a_unit, ampersand, atom_part, bar, c_ret, c_step, caret, d_conj, d_or}
use Rattle.htt_parser_trees.specs.Trees.{f_all, f_disj, f_ex, f_implies, g_at_heap, g_block, g_brackets, g_cell, g_emp}
use Rattle.htt_parser_trees.specs.Trees.{g_emp_of, g_eq, g_ff, g_join, g_points, g_points_any, g_same, g_tt, g_use}
use Rattle.htt_parser_trees.specs.Trees.{g_use_at, g_use_at_heap, j_and, j_star, k_fatom, k_times, l_apply, l_unary}
use Rattle.htt_parser_trees.specs.Trees.{minus, mono_part, more_params, more_terms, no_params, no_parts, no_terms, onto}
use Rattle.htt_parser_trees.specs.Trees.{plus, r_less, r_sum, s_alloc, s_claim, s_end, s_free, s_get, s_if, s_more}
use Rattle.htt_parser_trees.specs.Trees.{s_run, s_set, s_sum, shift_left, shift_right, t_do, t_fix, t_fun, t_fun_mono}
use Rattle.htt_parser_trees.specs.Trees.{t_rel, times, triple_of, x_end, x_more, x_prod, y_all, y_fun, y_hoare, y_mono}
use Rattle.htt_parser_trees.specs.MonoLevels.{raw_mono_tree}
use Rattle.htt_parser_trees.specs.TreeViews.{raw_appl_tree, raw_atom_tree, raw_conj_tree, raw_disj_tree, raw_fatom_tree}
use Rattle.htt_parser_trees.specs.TreeViews.{raw_formula_tree, raw_param_tree, raw_params_row, raw_part_tree}
use Rattle.htt_parser_trees.specs.TreeViews.{raw_parts_row, raw_prod_operand_tree, raw_prod_row, raw_rel_tree}
use Rattle.htt_parser_trees.specs.TreeViews.{raw_sort_tree, raw_star_tree, raw_step_name, raw_step_tree, raw_steps_row}
use Rattle.htt_parser_trees.specs.TreeViews.{raw_sum_operand_tree, raw_sum_row, raw_term_tree, raw_terms_row}
use Rattle.htt_parser_trees.specs.TreeViews.{raw_ty_tree}

abbrev pub raw_params_tree : List RawParam → RawParamTrees
raw_params_tree xs = onto raw_param_tree xs no_params

abbrev pub raw_sum_rest : List SumOperand → RawSumRestTree
raw_sum_rest xs = onto raw_sum_operand_tree xs s_end

abbrev pub raw_prod_rest : List ProdOperand → RawProdRestTree
raw_prod_rest xs = onto raw_prod_operand_tree xs x_end

abbrev pub raw_parts_tree : List RawPart → RawPartTrees
raw_parts_tree xs = onto raw_part_tree xs no_parts

abbrev pub raw_term_trees : List RawTerm → RawTermTrees
raw_term_trees xs = onto (λ x. more_terms (raw_term_tree x)) xs no_terms

abbrev pub raw_steps_tree : List RawStep → RawCompTree → RawCompTree
raw_steps_tree xs last = onto (λ x. c_step (raw_step_name x) (raw_step_tree x)) xs last

unfoldable pub raw_prod_tree : RawProd → RawProdTree
raw_prod_tree p = x_prod (raw_appl_tree p.first) (raw_prod_rest p.rest)

unfoldable pub raw_sum_tree : RawSum → RawSumTree
raw_sum_tree s = s_sum (raw_prod_tree s.first) (raw_sum_rest s.rest)

unfoldable pub raw_triple_tree : RawTriple → RawTripleTree
raw_triple_tree t = triple_of (raw_formula_tree t.pre) t.name (raw_mono_tree t.result) (raw_formula_tree t.post)

unfoldable pub raw_comp_tree : RawComp → RawCompTree
raw_comp_tree c = raw_steps_tree c.steps (c_ret (raw_term_tree c.result))

-- all that the equations below compute with
generated : Type 0
unfolding raw_ty_tree raw_prod_tree raw_sum_tree raw_triple_tree raw_comp_tree block.hidden-the_row-RawTerm-1
    block.hidden-the_row-RawTy-2 block.hidden-the_row-RawConj-3 block.hidden-the_row-RawDisj-4
    block.hidden-the_row-RawFormula-5 block.hidden-the_row-RawRel-7 block.hidden-the_row-RawStar-10
    block.hidden-the_row-RawComp-12 block.hidden-the_row-RawFix-14 block.hidden-the_row-RawTriple-15
    denote.Hole.Carrier.hidden
generated = ⊤

params_row_is : (xs : List RawParam) → raw_params_row (block.hidden-the_row-RawParam-13 xs) ≡ raw_params_tree xs
unfolding raw_ty_tree block.hidden-the_row-RawParam-13 denote.Hole.Carrier.hidden
params_row_is [] = refl
params_row_is (x ∷ xs) = ap (raw_param_tree x) (params_row_is xs)

sum_row_is : (xs : List SumOperand) → raw_sum_row (block.hidden-the_row-SumOperand-9 xs) ≡ raw_sum_rest xs
unfolding raw_ty_tree block.hidden-the_row-SumOperand-9 denote.Hole.Carrier.hidden
sum_row_is [] = refl
sum_row_is (x ∷ xs) = ap (raw_sum_operand_tree x) (sum_row_is xs)

prod_row_is : (xs : List ProdOperand) → raw_prod_row (block.hidden-the_row-ProdOperand-8 xs) ≡ raw_prod_rest xs
unfolding raw_ty_tree block.hidden-the_row-ProdOperand-8 denote.Hole.Carrier.hidden
prod_row_is [] = refl
prod_row_is (x ∷ xs) = ap (raw_prod_operand_tree x) (prod_row_is xs)

prod_is : (p : RawProd)
    → x_prod (raw_appl_tree p.first) (raw_prod_row (block.hidden-the_row-ProdOperand-8 p.rest)) ≡ raw_prod_tree p
unfolding raw_prod_tree
prod_is p = λ j. x_prod (raw_appl_tree p.first) (prod_row_is p.rest j)

parts_row_is : (xs : List RawPart) → raw_parts_row (block.hidden-the_row-RawPart-0 xs) ≡ raw_parts_tree xs
unfolding raw_ty_tree block.hidden-the_row-RawPart-0 denote.Hole.Carrier.hidden
parts_row_is [] = refl
parts_row_is (x ∷ xs) = ap (raw_part_tree x) (parts_row_is xs)

terms_row_is : (xs : List RawTerm) → raw_terms_row (block.hidden-the_row-RawTerm-6 xs) ≡ raw_term_trees xs
unfolding raw_ty_tree block.hidden-the_row-RawTerm-6 denote.Hole.Carrier.hidden
terms_row_is [] = refl
terms_row_is (x ∷ xs) = ap (more_terms (raw_term_tree x)) (terms_row_is xs)

steps_row_is : (xs : List RawStep) (last : RawCompTree)
    → raw_steps_row (block.hidden-the_row-RawStep-11 xs) last ≡ raw_steps_tree xs last
unfolding raw_ty_tree block.hidden-the_row-RawStep-11 denote.Hole.Carrier.hidden
steps_row_is [] last = refl
steps_row_is (x ∷ xs) last = ap (c_step (raw_step_name x) (raw_step_tree x)) (steps_row_is xs last)

sum_is : (s : RawSum)
    → s_sum (x_prod (raw_appl_tree s.first.first) (raw_prod_row (block.hidden-the_row-ProdOperand-8 s.first.rest)))
    (raw_sum_row (block.hidden-the_row-SumOperand-9 s.rest))
    ≡ raw_sum_tree s
unfolding raw_sum_tree
sum_is s = λ j. s_sum (prod_is s.first j) (sum_row_is s.rest j)

comp_is : (c : RawComp)
    → raw_steps_row (block.hidden-the_row-RawStep-11 c.steps) (c_ret (raw_term_tree c.result)) ≡ raw_comp_tree c
unfolding raw_comp_tree
comp_is c = steps_row_is c.steps (c_ret (raw_term_tree c.result))

pub raw_ty_fun : (at : ℕ) (parameter : Binder) (argument : RawTy) (answer : RawTy)
    → raw_ty_tree (vty.Fun at parameter argument answer)
    ≡ y_fun at parameter (raw_ty_tree argument) (raw_ty_tree answer)
unfolding generated
raw_ty_fun at parameter argument answer = refl

pub raw_ty_all : (at : ℕ) (parameter : Span) (body : RawTy)
    → raw_ty_tree (vty.All at parameter body) ≡ y_all at parameter (raw_ty_tree body)
unfolding generated
raw_ty_all at parameter body = refl

pub raw_ty_hoare : (at : ℕ) (triple : RawTriple)
    → raw_ty_tree (vty.Hoare at triple) ≡ y_hoare at (raw_triple_tree triple)
unfolding generated
raw_ty_hoare at triple = refl

pub raw_ty_mono : (m : RawMono) → raw_ty_tree (vty.Mono m) ≡ y_mono (raw_mono_tree m)
unfolding generated
raw_ty_mono m = refl

pub raw_term_fun : (at : ℕ) (parameter : Binder) (body : RawTerm)
    → raw_term_tree (vterm.Fun at parameter body) ≡ t_fun at parameter (raw_term_tree body)
unfolding generated
raw_term_fun at parameter body = refl

pub raw_term_fun_mono : (at : ℕ) (parameter : Span) (body : RawTerm)
    → raw_term_tree (vterm.FunMono at parameter body) ≡ t_fun_mono at parameter (raw_term_tree body)
unfolding generated
raw_term_fun_mono at parameter body = refl

pub raw_term_do : (at : ℕ) (body : RawComp) → raw_term_tree (vterm.Do at body) ≡ t_do at (raw_comp_tree body)
unfolding generated
raw_term_do at body = λ j. t_do at (comp_is body j)

pub raw_term_fix : (at : ℕ) (f : RawFix)
    → raw_term_tree (vterm.Fix at f)
    ≡ t_fix at f.name (raw_params_tree f.params) (raw_triple_tree f.triple) (raw_comp_tree f.body)
unfolding generated
raw_term_fix at f = λ j. t_fix at f.name (params_row_is f.params j) (raw_triple_tree f.triple) (comp_is f.body j)

pub raw_term_rel : (rel : RawRel) → raw_term_tree (vterm.Rel rel) ≡ t_rel (raw_rel_tree rel)
unfolding generated
raw_term_rel rel = refl

pub raw_param_named : (x : Span) (a : RawTy)
    → raw_param_tree (vparam.Named x a) ≡ more_params (binders.Name x) (raw_ty_tree a)
unfolding generated
raw_param_named x a = refl

pub raw_param_blank : (a : RawTy) → raw_param_tree (vparam.Blank a) ≡ more_params binders.Blank (raw_ty_tree a)
unfolding generated
raw_param_blank a = refl

pub raw_rel_sum : (s : RawSum) → raw_rel_tree (vrel.Sum s) ≡ r_sum (raw_sum_tree s)
unfolding generated
raw_rel_sum s = λ j. r_sum (sum_is s j)

pub raw_rel_less : (s : RawSum) (s2 : RawSum)
    → raw_rel_tree (vrel.Less s s2) ≡ r_less (raw_sum_tree s) (raw_sum_tree s2)
unfolding generated
raw_rel_less s s2 = λ j. r_less (sum_is s j) (sum_is s2 j)

pub raw_sum_operand_plus : (prod : RawProd)
    → raw_sum_operand_tree (vsum_operand.Plus prod) ≡ s_more plus (raw_prod_tree prod)
unfolding generated
raw_sum_operand_plus prod = λ j. s_more plus (prod_is prod j)

pub raw_sum_operand_minus : (prod : RawProd)
    → raw_sum_operand_tree (vsum_operand.Minus prod) ≡ s_more minus (raw_prod_tree prod)
unfolding generated
raw_sum_operand_minus prod = λ j. s_more minus (prod_is prod j)

pub raw_sum_operand_bar : (prod : RawProd)
    → raw_sum_operand_tree (vsum_operand.Bar prod) ≡ s_more bar (raw_prod_tree prod)
unfolding generated
raw_sum_operand_bar prod = λ j. s_more bar (prod_is prod j)

pub raw_sum_operand_caret : (prod : RawProd)
    → raw_sum_operand_tree (vsum_operand.Caret prod) ≡ s_more caret (raw_prod_tree prod)
unfolding generated
raw_sum_operand_caret prod = λ j. s_more caret (prod_is prod j)

pub raw_prod_operand_times : (appl : RawAppl)
    → raw_prod_operand_tree (vprod_operand.Times appl) ≡ x_more times (raw_appl_tree appl)
unfolding generated
raw_prod_operand_times appl = refl

pub raw_prod_operand_and : (appl : RawAppl)
    → raw_prod_operand_tree (vprod_operand.And appl) ≡ x_more ampersand (raw_appl_tree appl)
unfolding generated
raw_prod_operand_and appl = refl

pub raw_prod_operand_shift_left : (appl : RawAppl)
    → raw_prod_operand_tree (vprod_operand.ShiftLeft appl) ≡ x_more shift_left (raw_appl_tree appl)
unfolding generated
raw_prod_operand_shift_left appl = refl

pub raw_prod_operand_shift_right : (appl : RawAppl)
    → raw_prod_operand_tree (vprod_operand.ShiftRight appl) ≡ x_more shift_right (raw_appl_tree appl)
unfolding generated
raw_prod_operand_shift_right appl = refl

pub raw_appl_unary : (at : ℕ) (word : UnaryWord) (operand : RawAtom)
    → raw_appl_tree (vappl.Unary at word operand) ≡ l_unary at word (raw_atom_tree operand)
unfolding generated
raw_appl_unary at word operand = refl

pub raw_appl_apply : (head : RawAtom) (parts : List RawPart)
    → raw_appl_tree (vappl.Apply head parts) ≡ l_apply (raw_atom_tree head) (raw_parts_tree parts)
unfolding generated
raw_appl_apply head parts = λ j. l_apply (raw_atom_tree head) (parts_row_is parts j)

pub raw_part_atom : (atom : RawAtom) → raw_part_tree (vpart.Atom atom) ≡ atom_part (raw_atom_tree atom)
unfolding generated
raw_part_atom atom = refl

pub raw_part_mono : (m : RawMono) → raw_part_tree (vpart.Mono m) ≡ mono_part (raw_mono_tree m)
unfolding generated
raw_part_mono m = refl

pub raw_atom_name : (span : Span) → raw_atom_tree (vatom.Name span) ≡ a_name span
unfolding generated
raw_atom_name span = refl

pub raw_atom_number : (at : ℕ) (value : ℕ) → raw_atom_tree (vatom.Number at value) ≡ a_number at value
unfolding generated
raw_atom_number at value = refl

pub raw_atom_true : (at : ℕ) → raw_atom_tree (vatom.True at) ≡ a_true at
unfolding generated
raw_atom_true at = refl

pub raw_atom_false : (at : ℕ) → raw_atom_tree (vatom.False at) ≡ a_false at
unfolding generated
raw_atom_false at = refl

pub raw_atom_null : (at : ℕ) → raw_atom_tree (vatom.Null at) ≡ a_null at
unfolding generated
raw_atom_null at = refl

pub raw_atom_place : (at : ℕ) (value : ℕ) → raw_atom_tree (vatom.Place at value) ≡ a_place at value
unfolding generated
raw_atom_place at value = refl

pub raw_atom_eq : (at : ℕ) (m : RawMono) (left : RawTerm) (right : RawTerm)
    → raw_atom_tree (vatom.Eq at m left right) ≡ a_eq at (raw_mono_tree m) (raw_term_tree left) (raw_term_tree right)
unfolding generated
raw_atom_eq at m left right = refl

pub raw_atom_sel : (at : ℕ) (m : RawMono) (test : RawTerm) (this : RawTerm) (that : RawTerm)
    → raw_atom_tree (vatom.Sel at m test this that)
    ≡ a_sel at (raw_mono_tree m) (raw_term_tree test) (raw_term_tree this) (raw_term_tree that)
unfolding generated
raw_atom_sel at m test this that = refl

pub raw_atom_unit : (at : ℕ) → raw_atom_tree (vatom.Unit at) ≡ a_unit at
unfolding generated
raw_atom_unit at = refl

pub raw_atom_brackets : (at : ℕ) (t : RawTerm) → raw_atom_tree (vatom.Brackets at t) ≡ a_brackets at (raw_term_tree t)
unfolding generated
raw_atom_brackets at t = refl

pub raw_atom_pair : (at : ℕ) (left : RawTerm) (right : RawTerm)
    → raw_atom_tree (vatom.Pair at left right) ≡ a_pair at (raw_term_tree left) (raw_term_tree right)
unfolding generated
raw_atom_pair at left right = refl

pub raw_atom_annotated : (at : ℕ) (t : RawTerm) (a : RawTy)
    → raw_atom_tree (vatom.Annotated at t a) ≡ a_annotated at (raw_term_tree t) (raw_ty_tree a)
unfolding generated
raw_atom_annotated at t a = refl

pub raw_step_alloc : (x : Binder) (m : RawMono) (value : RawAtom)
    → raw_step_tree (vstep.Alloc x m value) ≡ s_alloc (raw_mono_tree m) (raw_atom_tree value)
unfolding generated
raw_step_alloc x m value = refl

pub raw_step_get : (x : Binder) (m : RawMono) (at_place : RawAtom)
    → raw_step_tree (vstep.Get x m at_place) ≡ s_get (raw_mono_tree m) (raw_atom_tree at_place)
unfolding generated
raw_step_get x m at_place = refl

pub raw_step_set : (x : Binder) (m : RawMono) (at_place : RawAtom) (value : RawAtom)
    → raw_step_tree (vstep.Set x m at_place value)
    ≡ s_set (raw_mono_tree m) (raw_atom_tree at_place) (raw_atom_tree value)
unfolding generated
raw_step_set x m at_place value = refl

pub raw_step_free : (x : Binder) (m : RawMono) (at_place : RawAtom)
    → raw_step_tree (vstep.Free x m at_place) ≡ s_free (raw_mono_tree m) (raw_atom_tree at_place)
unfolding generated
raw_step_free x m at_place = refl

pub raw_step_if : (x : Binder) (m : RawMono) (test : RawAtom) (this : RawComp) (that : RawComp)
    → raw_step_tree (vstep.If x m test this that)
    ≡ s_if (raw_mono_tree m) (raw_atom_tree test) (raw_comp_tree this) (raw_comp_tree that)
unfolding generated
raw_step_if x m test this that = λ j. s_if (raw_mono_tree m) (raw_atom_tree test) (comp_is this j) (comp_is that j)

pub raw_step_claim : (x : Binder) (f : RawFormula) → raw_step_tree (vstep.Claim x f) ≡ s_claim (raw_formula_tree f)
unfolding generated
raw_step_claim x f = refl

pub raw_step_run : (x : Binder) (routine : RawAppl)
    → raw_step_tree (vstep.Run x routine) ≡ s_run (raw_appl_tree routine)
unfolding generated
raw_step_run x routine = refl

pub raw_formula_all : (at : ℕ) (x : Binder) (sort : RawSort) (body : RawFormula)
    → raw_formula_tree (vformula.All at x sort body) ≡ f_all at x (raw_sort_tree sort) (raw_formula_tree body)
unfolding generated
raw_formula_all at x sort body = refl

pub raw_formula_ex : (at : ℕ) (x : Binder) (sort : RawSort) (body : RawFormula)
    → raw_formula_tree (vformula.Ex at x sort body) ≡ f_ex at x (raw_sort_tree sort) (raw_formula_tree body)
unfolding generated
raw_formula_ex at x sort body = refl

pub raw_formula_disj : (e : RawDisj) → raw_formula_tree (vformula.Disj e) ≡ f_disj (raw_disj_tree e)
unfolding generated
raw_formula_disj e = refl

pub raw_formula_implies : (e : RawDisj) (f : RawFormula)
    → raw_formula_tree (vformula.Implies e f) ≡ f_implies (raw_disj_tree e) (raw_formula_tree f)
unfolding generated
raw_formula_implies e f = refl

pub raw_disj_conj : (c : RawConj) → raw_disj_tree (vdisj.Conj c) ≡ d_conj (raw_conj_tree c)
unfolding generated
raw_disj_conj c = refl

pub raw_disj_or : (c : RawConj) (e : RawDisj) → raw_disj_tree (vdisj.Or c e) ≡ d_or (raw_conj_tree c) (raw_disj_tree e)
unfolding generated
raw_disj_or c e = refl

pub raw_conj_star : (s : RawStar) → raw_conj_tree (vconj.Star s) ≡ j_star (raw_star_tree s)
unfolding generated
raw_conj_star s = refl

pub raw_conj_and : (s : RawStar) (c : RawConj)
    → raw_conj_tree (vconj.And s c) ≡ j_and (raw_star_tree s) (raw_conj_tree c)
unfolding generated
raw_conj_and s c = refl

pub raw_star_fatom : (fatom : RawFatom) → raw_star_tree (vstar.Fatom fatom) ≡ k_fatom (raw_fatom_tree fatom)
unfolding generated
raw_star_fatom fatom = refl

pub raw_star_times : (fatom : RawFatom) (s : RawStar)
    → raw_star_tree (vstar.Times fatom s) ≡ k_times (raw_fatom_tree fatom) (raw_star_tree s)
unfolding generated
raw_star_times fatom s = refl

pub raw_fatom_tt : (at : ℕ) → raw_fatom_tree (vfatom.Tt at) ≡ g_tt at
unfolding generated
raw_fatom_tt at = refl

pub raw_fatom_ff : (at : ℕ) → raw_fatom_tree (vfatom.Ff at) ≡ g_ff at
unfolding generated
raw_fatom_ff at = refl

pub raw_fatom_emp : (at : ℕ) → raw_fatom_tree (vfatom.Emp at) ≡ g_emp at
unfolding generated
raw_fatom_emp at = refl

pub raw_fatom_brackets : (at : ℕ) (f : RawFormula)
    → raw_fatom_tree (vfatom.Brackets at f) ≡ g_brackets at (raw_formula_tree f)
unfolding generated
raw_fatom_brackets at f = refl

pub raw_fatom_at_heap : (at : ℕ) (h : RawHeap) (f : RawFormula)
    → raw_fatom_tree (vfatom.AtHeap at h f) ≡ g_at_heap at h (raw_formula_tree f)
unfolding generated
raw_fatom_at_heap at h f = refl

pub raw_fatom_emp_of : (at : ℕ) (h : RawHeap) → raw_fatom_tree (vfatom.EmpOf at h) ≡ g_emp_of at h
unfolding generated
raw_fatom_emp_of at h = refl

pub raw_fatom_same : (at : ℕ) (left : RawHeap) (right : RawHeap)
    → raw_fatom_tree (vfatom.Same at left right) ≡ g_same at left right
unfolding generated
raw_fatom_same at left right = refl

pub raw_fatom_join : (at : ℕ) (whole : RawHeap) (left : RawHeap) (right : RawHeap)
    → raw_fatom_tree (vfatom.Join at whole left right) ≡ g_join at whole left right
unfolding generated
raw_fatom_join at whole left right = refl

pub raw_fatom_cell : (at : ℕ) (m : RawMono) (h : RawHeap) (at_place : RawTerm) (value : RawTerm)
    → raw_fatom_tree (vfatom.Cell at m h at_place value)
    ≡ g_cell at (raw_mono_tree m) h (raw_term_tree at_place) (raw_term_tree value)
unfolding generated
raw_fatom_cell at m h at_place value = refl

pub raw_fatom_block : (at : ℕ) (m : RawMono) (h : RawHeap) (at_place : RawTerm)
    → raw_fatom_tree (vfatom.Block at m h at_place) ≡ g_block at (raw_mono_tree m) h (raw_term_tree at_place)
unfolding generated
raw_fatom_block at m h at_place = refl

pub raw_fatom_use : (at : ℕ) (x : Span) (monos : List RawMono) (arguments : List RawTerm)
    → raw_fatom_tree (vfatom.Use at x monos arguments) ≡ g_use at x (map raw_mono_tree monos) (raw_term_trees arguments)
unfolding generated
raw_fatom_use at x monos arguments = λ j. g_use at x (map raw_mono_tree monos) (terms_row_is arguments j)

pub raw_fatom_use_at : (at : ℕ) (x : Span) (index : RawTerm) (arguments : List RawTerm)
    → raw_fatom_tree (vfatom.UseAt at x index arguments)
    ≡ g_use_at at x (raw_term_tree index) (raw_term_trees arguments)
unfolding generated
raw_fatom_use_at at x index arguments = λ j. g_use_at at x (raw_term_tree index) (terms_row_is arguments j)

pub raw_fatom_use_at_heap : (at : ℕ) (x : Span) (h : RawHeap) (index : RawTerm) (arguments : List RawTerm)
    → raw_fatom_tree (vfatom.UseAtHeap at x h index arguments)
    ≡ g_use_at_heap at x h (raw_term_tree index) (raw_term_trees arguments)
unfolding generated
raw_fatom_use_at_heap at x h index arguments =
    λ j. g_use_at_heap at x h (raw_term_tree index) (terms_row_is arguments j)

pub raw_fatom_eq : (left : RawRel) (m : RawMono) (right : RawRel)
    → raw_fatom_tree (vfatom.Eq left m right) ≡ g_eq (raw_rel_tree left) (raw_mono_tree m) (raw_rel_tree right)
unfolding generated
raw_fatom_eq left m right = refl

pub raw_fatom_points_to : (at_place : RawRel) (m : RawMono) (value : RawRel)
    → raw_fatom_tree (vfatom.PointsTo at_place m value)
    ≡ g_points (raw_rel_tree at_place) (raw_mono_tree m) (raw_rel_tree value)
unfolding generated
raw_fatom_points_to at_place m value = refl

pub raw_fatom_points_to_any : (at_place : RawRel) (m : RawMono)
    → raw_fatom_tree (vfatom.PointsToAny at_place m) ≡ g_points_any (raw_rel_tree at_place) (raw_mono_tree m)
unfolding generated
raw_fatom_points_to_any at_place m = refl

pub raw_step_name_alloc : (x : Binder) (m : RawMono) (value : RawAtom) → raw_step_name (vstep.Alloc x m value) ≡ x
unfolding generated
raw_step_name_alloc x m value = refl

pub raw_step_name_get : (x : Binder) (m : RawMono) (at_place : RawAtom) → raw_step_name (vstep.Get x m at_place) ≡ x
unfolding generated
raw_step_name_get x m at_place = refl

pub raw_step_name_set : (x : Binder) (m : RawMono) (at_place : RawAtom) (value : RawAtom)
    → raw_step_name (vstep.Set x m at_place value) ≡ x
unfolding generated
raw_step_name_set x m at_place value = refl

pub raw_step_name_free : (x : Binder) (m : RawMono) (at_place : RawAtom) → raw_step_name (vstep.Free x m at_place) ≡ x
unfolding generated
raw_step_name_free x m at_place = refl

pub raw_step_name_if : (x : Binder) (m : RawMono) (test : RawAtom) (this : RawComp) (that : RawComp)
    → raw_step_name (vstep.If x m test this that) ≡ x
unfolding generated
raw_step_name_if x m test this that = refl

pub raw_step_name_claim : (x : Binder) (f : RawFormula) → raw_step_name (vstep.Claim x f) ≡ x
unfolding generated
raw_step_name_claim x f = refl

pub raw_step_name_run : (x : Binder) (routine : RawAppl) → raw_step_name (vstep.Run x routine) ≡ x
unfolding generated
raw_step_name_run x routine = refl
