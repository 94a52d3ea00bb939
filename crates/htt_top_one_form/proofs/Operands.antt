-- Terms compared with those of the form, one variant of a tree at a time.
use Rattle.std.proofs.Common.{◌≡◌, ℕ, List, [], ◌∷◌, length, refl, ◌∙◌, ap, ◌<◌, arith}
use Rattle.std.specs.Prelude.{None, Some, ◌==◌}
use Rattle.htt_parser_trees.specs.declared.place.Span.{Span}
use Rattle.htt_parser_trees.specs.declared.tree.RawAtom.{RawAtom}
use Rattle.htt_parser_trees.specs.declared.tree.RawAtom as atom
use Rattle.htt_parser_trees.specs.declared.tree.RawAtom.TheVariants as vatom
use Rattle.htt_parser_trees.specs.declared.tree.RawAppl.TheVariants as vappl
use Rattle.htt_parser_trees.specs.declared.tree.RawPart.{RawPart}
use Rattle.htt_parser_trees.specs.declared.tree.RawPart as part
use Rattle.htt_parser_trees.specs.declared.tree.RawProd.{RawProd}
use Rattle.htt_parser_trees.specs.declared.tree.ProdOperand.{ProdOperand}
use Rattle.htt_parser_trees.specs.declared.tree.ProdOperand as prod_more
use Rattle.htt_parser_trees.specs.declared.tree.RawRel.{RawRel}
use Rattle.htt_parser_trees.specs.declared.tree.RawRel.TheVariants as vrel
use Rattle.htt_parser_trees.specs.declared.tree.RawSum.{RawSum}
use Rattle.htt_parser_trees.specs.declared.tree.SumOperand.{SumOperand}
use Rattle.htt_parser_trees.specs.declared.tree.SumOperand as sum_more
use Rattle.htt_parser_trees.specs.declared.tree.SumOperand.TheVariants as vsum_more
use Rattle.htt_parser_trees.specs.declared.tree.RawComp.{RawComp}
use Rattle.htt_parser_trees.specs.declared.tree.RawStep.{RawStep}
use Rattle.htt_parser_trees.specs.declared.tree.RawTerm.{RawTerm}
use Rattle.htt_parser_trees.specs.declared.tree.RawTerm as term
use Rattle.htt_parser_trees.specs.declared.tree.RawTerm.TheVariants as vterm
use Rattle.htt_parser_trees.specs.declared.tree.UnaryWord.{UnaryWord}
use Rattle.htt_parser_trees.specs.declared.tree.ProdOperand.TheBlock as block
use Rattle.htt_parser_trees.specs.declared.tree.ProdOperand.TheBlock.{end_of-RawComp, end_of-RawFix, end_of-RawRel, end_of-RawTerm, end_of-RawTy}
use Rattle.htt_parser_trees.specs.declared.tree.ProdOperand.TheBlock.{more_of-RawComp, more_of-RawFix, more_of-RawRel, more_of-RawTerm, more_of-RawTy}
use Rattle.htt_parser_trees.specs.Trees.{RawAtomTree, RawApplTree, RawProdTree, RawProdRestTree, RawSumRestTree, RawTermTree, l_apply, x_prod, r_sum, s_sum}
use Rattle.htt_parser_trees.specs.Trees.{s_end, c_ret, RawPartTrees}
use Rattle.htt_parser_trees.specs.TreeViews.{raw_ty_tree, raw_atom_tree, raw_appl_tree, raw_part_tree, raw_prod_operand_tree, raw_rel_tree}
use Rattle.htt_parser_trees.specs.TreeViews.{raw_sum_operand_tree, raw_term_tree}
use Rattle.htt_parser_trees.specs.TreeLevels.{raw_atom_name, raw_atom_number, raw_appl_apply, raw_appl_unary, raw_rel_sum, raw_rel_less, raw_term_do}
use Rattle.htt_parser_trees.specs.TreeLevels.{raw_term_rel, raw_sum_operand_plus, raw_parts_tree, raw_prod_rest, raw_prod_tree, raw_sum_rest, raw_sum_tree}
use Rattle.htt_parser_trees.specs.TreeLevels.{raw_steps_tree, raw_comp_tree}
use Rattle.htt_top_one_form.specs.declared.terms.Operand.TheVariants as operand
use Rattle.htt_top_one_form.proofs.Lists.{some_left, by_operands, by_steps}
use Rattle.htt_top_one_form.specs.Matching.{where_true, atom_operand, appl_operand, prod_operand, rel_operand, number_in, added, some_addend, addend_of}
use Rattle.htt_top_one_form.specs.Matching.{both_numbers, sum_returned, rel_returned, term_returned, comp_returned, what_returned}

-- ---- atoms

pub name_matched : (x : Span) → atom_operand (raw_atom_tree (vatom.Name x)) ≡ Some (operand.Name x)
unfolding atom_operand
name_matched x = ap atom_operand (raw_atom_name x)

pub number_matched : (at n : ℕ) → atom_operand (raw_atom_tree (vatom.Number at n)) ≡ Some (operand.Number n)
unfolding atom_operand
number_matched at n = ap atom_operand (raw_atom_number at n)

pub other_atom : (a : RawAtom) → ((x : Span) → a ≡ vatom.Name x → ⊥) → ((at n : ℕ) → a ≡ vatom.Number at n → ⊥) → None ≡ atom_operand (raw_atom_tree a)
unfolding raw_ty_tree atom_operand
other_atom (atom.Name x1) n m = absurd (n x1 refl)
other_atom (atom.Number x1 x2) n m = absurd (m x1 x2 refl)
other_atom (atom.True x1) n m = refl
other_atom (atom.False x1) n m = refl
other_atom (atom.Null x1) n m = refl
other_atom (atom.Place x1 x2) n m = refl
other_atom (atom.Eq' x1 x2 _ (more_of-RawTerm x3 end_of-RawTerm) _ (more_of-RawTerm x4 end_of-RawTerm)) n m = refl
other_atom (atom.Sel' x1 x2 _ (more_of-RawTerm x3 end_of-RawTerm) _ (more_of-RawTerm x4 end_of-RawTerm) _ (more_of-RawTerm x5 end_of-RawTerm)) n m = refl
other_atom (atom.Unit x1) n m = refl
other_atom (atom.Brackets' x1 _ (more_of-RawTerm x2 end_of-RawTerm)) n m = refl
other_atom (atom.Pair' x1 _ (more_of-RawTerm x2 end_of-RawTerm) _ (more_of-RawTerm x3 end_of-RawTerm)) n m = refl
other_atom (atom.Annotated' x1 _ (more_of-RawTerm x2 end_of-RawTerm) _ (more_of-RawTy x3 end_of-RawTy)) n m = refl

pub ruleset atoms = (name_matched, number_matched, other_atom)

-- ---- applications, products and relations of one operand

a_part : (a : RawAtomTree) (x : RawPart) (more : RawPartTrees) → appl_operand (l_apply a (raw_part_tree x more)) ≡ None
unfolding raw_ty_tree appl_operand
a_part a (part.Atom b) more = refl
a_part a (part.Mono m) more = refl

alone : (a : RawAtom) (xs : List RawPart)
    → appl_operand (l_apply (raw_atom_tree a) (raw_parts_tree xs)) ≡ where_true (length xs == 0) (atom_operand (raw_atom_tree a))
unfolding appl_operand
alone a [] = refl
alone a (x ∷ xs) = a_part (raw_atom_tree a) x (raw_parts_tree xs) ∙ ap (λ b. where_true b (atom_operand (raw_atom_tree a))) (some_left x xs)

pub apply_matched : (a : RawAtom) (xs : List RawPart)
    → appl_operand (raw_appl_tree (vappl.Apply a xs)) ≡ where_true (length xs == 0) (atom_operand (raw_atom_tree a))
apply_matched a xs = ap appl_operand (raw_appl_apply a xs) ∙ alone a xs

pub unary_matched : (at : ℕ) (word : UnaryWord) (a : RawAtom) → appl_operand (raw_appl_tree (vappl.Unary at word a)) ≡ None
unfolding appl_operand
unary_matched at word a = ap appl_operand (raw_appl_unary at word a)

pub ruleset appls = (apply_matched, unary_matched)

a_factor : (a : RawApplTree) (x : ProdOperand) (more : RawProdRestTree) → prod_operand (x_prod a (raw_prod_operand_tree x more)) ≡ None
unfolding raw_ty_tree prod_operand
a_factor a (prod_more.Times b) more = refl
a_factor a (prod_more.And b) more = refl
a_factor a (prod_more.ShiftLeft b) more = refl
a_factor a (prod_more.ShiftRight b) more = refl

alone_in_prod : (a : RawApplTree) (xs : List ProdOperand) → prod_operand (x_prod a (raw_prod_rest xs)) ≡ where_true (length xs == 0) (appl_operand a)
unfolding prod_operand
alone_in_prod a [] = refl
alone_in_prod a (x ∷ xs) = a_factor a x (raw_prod_rest xs) ∙ ap (λ b. where_true b (appl_operand a)) (some_left x xs)

pub prod_matched : (p : RawProd) → prod_operand (raw_prod_tree p) ≡ where_true (length p.rest == 0) (appl_operand (raw_appl_tree p.first))
unfolding raw_prod_tree
prod_matched p = alone_in_prod (raw_appl_tree p.first) p.rest

a_summand : (p : RawProdTree) (x : SumOperand) (more : RawSumRestTree) → rel_operand (r_sum (s_sum p (raw_sum_operand_tree x more))) ≡ None
unfolding raw_ty_tree rel_operand
a_summand p (sum_more.Plus' x1 _ x2) more = refl
a_summand p (sum_more.Minus' x1 _ x2) more = refl
a_summand p (sum_more.Bar' x1 _ x2) more = refl
a_summand p (sum_more.Caret' x1 _ x2) more = refl

alone_in_sum : (p : RawProdTree) (xs : List SumOperand) → rel_operand (r_sum (s_sum p (raw_sum_rest xs))) ≡ where_true (length xs == 0) (prod_operand p)
unfolding rel_operand
alone_in_sum p [] = refl
alone_in_sum p (x ∷ xs) = a_summand p x (raw_sum_rest xs) ∙ ap (λ b. where_true b (prod_operand p)) (some_left x xs)

of_sum : (s : RawSum) → rel_operand (r_sum (raw_sum_tree s)) ≡ where_true (length s.rest == 0) (prod_operand (raw_prod_tree s.first))
unfolding raw_sum_tree
of_sum s = alone_in_sum (raw_prod_tree s.first) s.rest

pub sum_alone : (s : RawSum) → rel_operand (raw_rel_tree (vrel.Sum s)) ≡ where_true (length s.rest == 0) (prod_operand (raw_prod_tree s.first))
sum_alone s = ap rel_operand (raw_rel_sum s) ∙ of_sum s

pub less_matched : (s t : RawSum) → rel_operand (raw_rel_tree (vrel.Less s t)) ≡ None
unfolding rel_operand
less_matched s t = ap rel_operand (raw_rel_less s t)

pub ruleset rels = (sum_alone, less_matched)

-- ---- sums of numbers

pub plus_matched : (p : RawProd) → added (raw_sum_operand_tree (vsum_more.Plus p) s_end) ≡ number_in (raw_prod_tree p)
unfolding added
plus_matched p = ap (λ f. added (f s_end)) (raw_sum_operand_plus p)

pub other_operand : (x : SumOperand) → ((p : RawProd) → x ≡ vsum_more.Plus p → ⊥) → None ≡ added (raw_sum_operand_tree x s_end)
unfolding raw_ty_tree added block.hidden-the_row-ProdOperand-8 block.shape-the_row-ProdOperand-8 denote.Hole.Carrier.hidden
other_operand (sum_more.Plus' x1 a x2) n =
    by_operands (λ s r.
    ((p : RawProd) → sum_more.Plus' x1 s r ≡ vsum_more.Plus p → ⊥) → None ≡ added (raw_sum_operand_tree (sum_more.Plus' x1 s r) s_end))
    (λ xs m. absurd (m (record { first = x1; rest = xs }) refl)) a x2 n
other_operand (sum_more.Minus' x1 _ x2) n = refl
other_operand (sum_more.Bar' x1 _ x2) n = refl
other_operand (sum_more.Caret' x1 _ x2) n = refl

pub ruleset operands = (plus_matched, other_operand)

one_added : (x : SumOperand) → addend_of (raw_sum_operand_tree x s_end) ≡ some_addend (added (raw_sum_operand_tree x s_end))
unfolding raw_ty_tree addend_of
one_added (sum_more.Plus' x1 _ x2) = refl
one_added (sum_more.Minus' x1 _ x2) = refl
one_added (sum_more.Bar' x1 _ x2) = refl
one_added (sum_more.Caret' x1 _ x2) = refl

two_added : (x y : SumOperand) (more : RawSumRestTree) → addend_of (raw_sum_operand_tree x (raw_sum_operand_tree y more)) ≡ None
unfolding raw_ty_tree addend_of
two_added (sum_more.Plus' x1 _ x2) (sum_more.Plus' y1 _ y2) more = refl
two_added (sum_more.Plus' x1 _ x2) (sum_more.Minus' y1 _ y2) more = refl
two_added (sum_more.Plus' x1 _ x2) (sum_more.Bar' y1 _ y2) more = refl
two_added (sum_more.Plus' x1 _ x2) (sum_more.Caret' y1 _ y2) more = refl
two_added (sum_more.Minus' x1 _ x2) (sum_more.Plus' y1 _ y2) more = refl
two_added (sum_more.Minus' x1 _ x2) (sum_more.Minus' y1 _ y2) more = refl
two_added (sum_more.Minus' x1 _ x2) (sum_more.Bar' y1 _ y2) more = refl
two_added (sum_more.Minus' x1 _ x2) (sum_more.Caret' y1 _ y2) more = refl
two_added (sum_more.Bar' x1 _ x2) (sum_more.Plus' y1 _ y2) more = refl
two_added (sum_more.Bar' x1 _ x2) (sum_more.Minus' y1 _ y2) more = refl
two_added (sum_more.Bar' x1 _ x2) (sum_more.Bar' y1 _ y2) more = refl
two_added (sum_more.Bar' x1 _ x2) (sum_more.Caret' y1 _ y2) more = refl
two_added (sum_more.Caret' x1 _ x2) (sum_more.Plus' y1 _ y2) more = refl
two_added (sum_more.Caret' x1 _ x2) (sum_more.Minus' y1 _ y2) more = refl
two_added (sum_more.Caret' x1 _ x2) (sum_more.Bar' y1 _ y2) more = refl
two_added (sum_more.Caret' x1 _ x2) (sum_more.Caret' y1 _ y2) more = refl

pub none_added : (xs : List SumOperand) → length xs < 1 → addend_of (raw_sum_rest xs) ≡ Some None
unfolding addend_of
none_added [] few = refl
none_added (x ∷ xs) few = absurd (omega arith)

pub some_added : (x : SumOperand) (xs : List SumOperand)
    → addend_of (raw_sum_rest (x ∷ xs)) ≡ where_true (length xs == 0) (some_addend (added (raw_sum_operand_tree x s_end)))
some_added x [] = one_added x
some_added x (y ∷ xs) = two_added x y (raw_sum_rest xs) ∙ ap (λ b. where_true b (some_addend (added (raw_sum_operand_tree x s_end)))) (some_left y xs)

pub ruleset rests = (none_added, some_added)

pub sum_matched : (s : RawSum) → sum_returned (raw_sum_tree s) ≡ both_numbers (number_in (raw_prod_tree s.first)) (addend_of (raw_sum_rest s.rest))
unfolding raw_sum_tree sum_returned
sum_matched s = refl

-- ---- computations that only return

pub sum_is_returned : (s : RawSum) → rel_returned (raw_rel_tree (vrel.Sum s)) ≡ sum_returned (raw_sum_tree s)
unfolding rel_returned
sum_is_returned s = ap rel_returned (raw_rel_sum s)

pub less_is_not : (s t : RawSum) → rel_returned (raw_rel_tree (vrel.Less s t)) ≡ None
unfolding rel_returned
less_is_not s t = ap rel_returned (raw_rel_less s t)

pub ruleset returning_rels = (sum_is_returned, less_is_not)

pub rel_is_returned : (r : RawRel) → term_returned (raw_term_tree (vterm.Rel r)) ≡ rel_returned (raw_rel_tree r)
unfolding term_returned
rel_is_returned r = ap term_returned (raw_term_rel r)

pub no_rel : (m : RawTerm) → ((r : RawRel) → m ≡ vterm.Rel r → ⊥) → None ≡ term_returned (raw_term_tree m)
unfolding raw_ty_tree term_returned block.hidden-the_row-RawRel-7 denote.Hole.Carrier.hidden
no_rel (term.Fun' x1 x2 _ (more_of-RawTerm x3 end_of-RawTerm)) n = refl
no_rel (term.FunMono' x1 x2 _ (more_of-RawTerm x3 end_of-RawTerm)) n = refl
no_rel (term.Do' x1 _ (more_of-RawComp _ x2 x3 end_of-RawComp)) n = refl
no_rel (term.Fix' x1 _ (more_of-RawFix x2 _ x3 x4 x5 x6 x7 _ x8 x9 end_of-RawFix)) n = refl
no_rel (term.Rel' _ (more_of-RawRel x1 end_of-RawRel)) n = absurd (n x1 refl)

pub ruleset returning_terms = (rel_is_returned, no_rel)

without_steps : (xs : List RawStep) (m : RawTermTree) → comp_returned (raw_steps_tree xs (c_ret m)) ≡ where_true (length xs == 0) (term_returned m)
unfolding comp_returned
without_steps [] m = refl
without_steps (x ∷ xs) m = ap (λ b. where_true b (term_returned m)) (some_left x xs)

pub comp_matched : (c : RawComp) → comp_returned (raw_comp_tree c) ≡ where_true (length c.steps == 0) (term_returned (raw_term_tree c.result))
unfolding raw_comp_tree
comp_matched c = without_steps c.steps (raw_term_tree c.result)

pub do_matched : (at : ℕ) (c : RawComp) → what_returned (raw_term_tree (vterm.Do at c)) ≡ comp_returned (raw_comp_tree c)
unfolding what_returned
do_matched at c = ap what_returned (raw_term_do at c)

pub no_do : (m : RawTerm) → ((at : ℕ) (c : RawComp) → m ≡ vterm.Do at c → ⊥) → None ≡ what_returned (raw_term_tree m)
unfolding raw_ty_tree what_returned block.hidden-the_row-RawComp-12 block.hidden-the_row-RawStep-11 block.shape-the_row-RawStep-11 denote.Hole.Carrier.hidden
no_do (term.Fun' x1 x2 _ (more_of-RawTerm x3 end_of-RawTerm)) n = refl
no_do (term.FunMono' x1 x2 _ (more_of-RawTerm x3 end_of-RawTerm)) n = refl
no_do (term.Do' x1 _ (more_of-RawComp a x2 x3 end_of-RawComp)) n =
    by_steps (λ s r.
    ((at : ℕ) (c : RawComp) → term.Do' x1 tt (more_of-RawComp s r x3 end_of-RawComp) ≡ vterm.Do at c → ⊥)
    → None ≡ what_returned (raw_term_tree (term.Do' x1 tt (more_of-RawComp s r x3 end_of-RawComp))))
    (λ xs m. absurd (m x1 (record { steps = xs; result = x3 }) refl)) a x2 n
no_do (term.Fix' x1 _ (more_of-RawFix x2 _ x3 x4 x5 x6 x7 _ x8 x9 end_of-RawFix)) n = refl
no_do (term.Rel' _ (more_of-RawRel x1 end_of-RawRel)) n = refl

pub ruleset programs = (do_matched, no_do)
