-- Terms that say something are those of the form.
use Rattle.std.proofs.Common.{◌≡◌, ℕ, refl, sym, ◌∙◌, ap}
use Rattle.std.specs.Prelude.{None, Some, Option}
use Rattle.htt_parser_trees.specs.declared.place.Span.{Span}
use Rattle.htt_parser_trees.specs.Trees.{RawTermTree, t_fun, t_fun_mono, t_do, t_fix, t_rel, RawRelTree, r_sum, r_less, RawSumTree, s_sum, RawSumRestTree}
use Rattle.htt_parser_trees.specs.Trees.{s_end, s_more, plus, minus, bar, caret, RawProdTree, x_prod, x_end, x_more, RawApplTree, l_unary, l_apply, no_parts}
use Rattle.htt_parser_trees.specs.Trees.{atom_part, mono_part, RawAtomTree, RawCompTree, c_ret, c_step, a_name, a_number, a_true, a_false, a_null, a_place}
use Rattle.htt_parser_trees.specs.Trees.{a_eq, a_sel, a_unit, a_brackets, a_pair, a_annotated}
use Rattle.htt_top_one_form.specs.declared.terms.Operand.{Operand}
use Rattle.htt_top_one_form.specs.declared.terms.Operand.TheVariants as operand
use Rattle.htt_top_one_form.specs.declared.terms.Returned.{Returned}
use Rattle.htt_top_one_form.specs.Form.{lone_prod, lone_rel, IsReturned}
use Rattle.htt_top_one_form.specs.Form as form
use Rattle.htt_top_one_form.specs.Matching.{atom_operand, appl_operand, prod_operand, rel_operand, operand_number, number_in, added, some_addend, addend_of}
use Rattle.htt_top_one_form.specs.Matching.{both_numbers, sum_returned, rel_returned, term_returned, comp_returned, what_returned}

pub none_is : {A : Type 0} {x : A} → None ≡ Some x → ⊥
none_is e = cc

-- ---- what stands alone

number_of_name : (x : Span) (n : ℕ) → Some (operand.Name x) ≡ Some (operand.Number n) → ⊥
number_of_name x n e = cc

name_of_number : (x : Span) (n : ℕ) → Some (operand.Number n) ≡ Some (operand.Name x) → ⊥
name_of_number x n e = cc

same_name : (x y : Span) → Some (operand.Name x) ≡ Some (operand.Name y) → x ≡ y
same_name x y e = cc

same_number : (m n : ℕ) → Some (operand.Number m) ≡ Some (operand.Number n) → m ≡ n
same_number m n e = cc

is_name : (a : RawAtomTree) (y : Span) → atom_operand a ≡ Some (operand.Name y) → a ≡ a_name y
unfolding atom_operand
is_name (a_name x) y e = ap a_name (same_name x y e)
is_name (a_number at m) y e = absurd (name_of_number y m e)
is_name (a_true at) y e = absurd (none_is e)
is_name (a_false at) y e = absurd (none_is e)
is_name (a_null at) y e = absurd (none_is e)
is_name (a_place at m) y e = absurd (none_is e)
is_name (a_eq at m l r) y e = absurd (none_is e)
is_name (a_sel at m l r s) y e = absurd (none_is e)
is_name (a_unit at) y e = absurd (none_is e)
is_name (a_brackets at t) y e = absurd (none_is e)
is_name (a_pair at l r) y e = absurd (none_is e)
is_name (a_annotated at t a) y e = absurd (none_is e)

is_number : (a : RawAtomTree) (n : ℕ) → atom_operand a ≡ Some (operand.Number n) → (at : ℕ) × (a ≡ a_number at n)
unfolding atom_operand
is_number (a_name x) n e = absurd (number_of_name x n e)
is_number (a_number at m) n e = (at, ap (a_number at) (same_number m n e))
is_number (a_true at) n e = absurd (none_is e)
is_number (a_false at) n e = absurd (none_is e)
is_number (a_null at) n e = absurd (none_is e)
is_number (a_place at m) n e = absurd (none_is e)
is_number (a_eq at m l r) n e = absurd (none_is e)
is_number (a_sel at m l r s) n e = absurd (none_is e)
is_number (a_unit at) n e = absurd (none_is e)
is_number (a_brackets at t) n e = absurd (none_is e)
is_number (a_pair at l r) n e = absurd (none_is e)
is_number (a_annotated at t a) n e = absurd (none_is e)

pub record Lone {A : Type 0} (phrase : RawAtomTree → A) (tree : A) (o : Operand) : Type 0 where
  pub atom : RawAtomTree
  pub whole : tree ≡ phrase atom
  pub said : atom_operand atom ≡ Some o

appl_alone : (l : RawApplTree) (o : Operand) → appl_operand l ≡ Some o → Lone (λ a. l_apply a no_parts) l o
unfolding appl_operand
appl_alone (l_apply a no_parts) o e = record { atom = a; whole = refl; said = e }
appl_alone (l_apply a (atom_part b ps)) o e = absurd (none_is e)
appl_alone (l_apply a (mono_part m ps)) o e = absurd (none_is e)
appl_alone (l_unary at word a) o e = absurd (none_is e)

prod_alone : (p : RawProdTree) (o : Operand) → prod_operand p ≡ Some o → Lone lone_prod p o
unfolding prod_operand
prod_alone (x_prod l x_end) o e = let h = appl_alone l o e in record { atom = h.atom; whole = ap (λ k. x_prod k x_end) h.whole; said = h.said }
prod_alone (x_prod l (x_more sign k r)) o e = absurd (none_is e)

rel_alone : (r : RawRelTree) (o : Operand) → rel_operand r ≡ Some o → Lone lone_rel r o
unfolding rel_operand
rel_alone (r_sum (s_sum p s_end)) o e = let h = prod_alone p o e in record { atom = h.atom; whole = ap (λ q. r_sum (s_sum q s_end)) h.whole; said = h.said }
rel_alone (r_sum (s_sum p (s_more sign q r))) o e = absurd (none_is e)
rel_alone (r_less s t) o e = absurd (none_is e)

pub rel_is_name : (r : RawRelTree) (x : Span) → rel_operand r ≡ Some (operand.Name x) → r ≡ lone_rel (a_name x)
rel_is_name r x e = let h = rel_alone r (operand.Name x) e in h.whole ∙ ap lone_rel (is_name h.atom x h.said)

pub rel_is_number : (r : RawRelTree) (n : ℕ) → rel_operand r ≡ Some (operand.Number n) → (at : ℕ) × (r ≡ lone_rel (a_number at n))
rel_is_number r n e = let h = rel_alone r (operand.Number n) e in let k = is_number h.atom n h.said in (k.0, h.whole ∙ ap lone_rel k.1)

-- ---- numbers and sums

number_told : (o : Option Operand) (n : ℕ) → operand_number o ≡ Some n → o ≡ Some (operand.Number n)
number_told None n e = absurd (none_is e)
number_told (Some (operand.Name x)) n e = absurd (none_is e)
number_told (Some (operand.Number m)) n e = ap (λ k. Some (operand.Number k)) (some_same m n e)
  where
    some_same : (m n : ℕ) → Some m ≡ Some n → m ≡ n
    some_same m n e = cc

prod_is_number : (p : RawProdTree) (n : ℕ) → number_in p ≡ Some n → (at : ℕ) × (p ≡ lone_prod (a_number at n))
prod_is_number p n e =
    let h = prod_alone p (operand.Number n) (number_told (prod_operand p) n e) in
    let k = is_number h.atom n h.said in
    (k.0, h.whole ∙ ap lone_prod k.1)

told_addend : (o : Option ℕ) (a : Option ℕ) → some_addend o ≡ Some a → (n : ℕ) × (o ≡ Some n) × (a ≡ Some n)
told_addend None a e = absurd (none_is e)
told_addend (Some n) a e = (n, refl, same a n e)
  where
    same : (a : Option ℕ) (n : ℕ) → Some (Some n) ≡ Some a → a ≡ Some n
    same a n e = cc

is_added : (p : RawProdTree) (a : Option ℕ) → some_addend (number_in p) ≡ Some a → (at : ℕ) × (s_more plus p s_end ≡ form.addend at a)
is_added p a e =
    let h = told_addend (number_in p) a e in
    let k = prod_is_number p h.0 h.1 in
    (k.0, ap (λ q. s_more plus q s_end) k.1 ∙ ap (form.addend k.0) (sym h.2))

is_addend : (r : RawSumRestTree) (a : Option ℕ) → addend_of r ≡ Some a → (at : ℕ) × (r ≡ form.addend at a)
unfolding addend_of added
is_addend s_end a e = (0, ap (form.addend 0) (same a e))
  where
    same : (a : Option ℕ) → Some None ≡ Some a → None ≡ a
    same a e = cc
is_addend (s_more plus p s_end) a e = is_added p a e
is_addend (s_more minus p s_end) a e = absurd (none_is e)
is_addend (s_more bar p s_end) a e = absurd (none_is e)
is_addend (s_more caret p s_end) a e = absurd (none_is e)
is_addend (s_more sign p (s_more other q r)) a e = absurd (none_is e)

told_numbers : (l : Option ℕ) (r : Option (Option ℕ)) (x : Returned) → both_numbers l r ≡ Some x → (l ≡ Some x.left) × (r ≡ Some x.right)
told_numbers None r x e = absurd (none_is e)
told_numbers (Some l) None x e = absurd (none_is e)
told_numbers (Some l) (Some r) x e = (
  ap (λ (y : Returned). Some y.left) (same (record { left = l; right = r }) x e),
  ap (λ (y : Returned). Some y.right) (same (record { left = l; right = r }) x e),
)
  where
    same : (y x : Returned) → Some y ≡ Some x → y ≡ x
    same y x e = cc

record IsSum (s : RawSumTree) (x : Returned) : Type 0 where
  pub left_at : ℕ
  pub right_at : ℕ
  pub tree : s ≡ s_sum (lone_prod (a_number left_at x.left)) (form.addend right_at x.right)

is_sum : (s : RawSumTree) (x : Returned) → sum_returned s ≡ Some x → IsSum s x
unfolding sum_returned
is_sum (s_sum p r) x e =
    let h = told_numbers (number_in p) (addend_of r) x e in
    let k = prod_is_number p x.left h.0 in
    let m = is_addend r x.right h.1 in
    record { left_at = k.0; right_at = m.0; tree = λ j. s_sum (k.1 j) (m.1 j) }

record IsSumIn {A : Type 0} (phrase : RawSumTree → A) (tree : A) (x : Returned) : Type 0 where
  pub sum : RawSumTree
  pub whole : tree ≡ phrase sum
  pub said : sum_returned sum ≡ Some x

rel_is_sum : (r : RawRelTree) (x : Returned) → rel_returned r ≡ Some x → IsSumIn r_sum r x
unfolding rel_returned
rel_is_sum (r_sum s) x e = record { sum = s; whole = refl; said = e }
rel_is_sum (r_less s t) x e = absurd (none_is e)

term_is_sum : (m : RawTermTree) (x : Returned) → term_returned m ≡ Some x → IsSumIn (λ s. t_rel (r_sum s)) m x
unfolding term_returned
term_is_sum (t_rel r) x e = let h = rel_is_sum r x e in record { sum = h.sum; whole = ap t_rel h.whole; said = h.said }
term_is_sum (t_fun at b m) x e = absurd (none_is e)
term_is_sum (t_fun_mono at b m) x e = absurd (none_is e)
term_is_sum (t_do at c) x e = absurd (none_is e)
term_is_sum (t_fix at f ps t c) x e = absurd (none_is e)

comp_is_sum : (c : RawCompTree) (x : Returned) → comp_returned c ≡ Some x → IsSumIn (λ s. c_ret (t_rel (r_sum s))) c x
unfolding comp_returned
comp_is_sum (c_ret m) x e = let h = term_is_sum m x e in record { sum = h.sum; whole = ap c_ret h.whole; said = h.said }
comp_is_sum (c_step b s c) x e = absurd (none_is e)

pub is_returned : (m : RawTermTree) (x : Returned) → what_returned m ≡ Some x → IsReturned m x.left x.right
unfolding what_returned
is_returned (t_do at c) x e =
    let h = comp_is_sum c x e in
    let k = is_sum h.sum x h.said in
    record { at = at; left_at = k.left_at; right_at = k.right_at; tree = ap (t_do at) h.whole ∙ ap (λ s. t_do at (c_ret (t_rel (r_sum s)))) k.tree }
is_returned (t_rel r) x e = absurd (none_is e)
is_returned (t_fun at b m) x e = absurd (none_is e)
is_returned (t_fun_mono at b m) x e = absurd (none_is e)
is_returned (t_fix at f ps t c) x e = absurd (none_is e)

-- ---- and the form's own say it

addend_told : (at : ℕ) (a : Option ℕ) → addend_of (form.addend at a) ≡ Some a
unfolding addend_of added prod_operand appl_operand atom_operand
addend_told at None = refl
addend_told at (Some n) = refl

pub returned_told : (m : RawTermTree) (l : ℕ) (r : Option ℕ) → IsReturned m l r → what_returned m ≡ Some (record { left = l; right = r })
unfolding what_returned comp_returned term_returned rel_returned sum_returned prod_operand appl_operand atom_operand
returned_told m l r is = ap what_returned is.tree ∙ ap (both_numbers (Some l)) (addend_told is.right_at r)
