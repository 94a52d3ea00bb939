-- The axioms: a table of formulas. A row gives the formula of an axiom at its monotypes, which stand in
-- brackets in a proof, and its arguments, which are heaps and terms of shown monotypes. Instances are
-- canonical where the arguments are: an operation that meets literals is folded.
use Rattle.std.specs.Prelude.{◌≡◌, ℕ, zero, suc, ◌+◌, List, [], ◌∷◌, Bool, true, false, Option, Some, None, nat_eq}
use Rattle.std.specs.Prelude.{if◌then◌else◌}
use Rattle.htt_syntax.specs.declared.mono.Op.{Op}
use Rattle.htt_syntax.specs.declared.mono.Op.TheVariants.{Add, Sub, Mul, And, Or, Xor, Shl, Lt}
use Rattle.htt_syntax.specs.Trees.{MonoTree, TermTree, FormulaTree, ArgTree, m_word, m_bool, m_loc, m_unit, m_pair}
use Rattle.htt_syntax.specs.Trees.{m_var, t_var, t_word, t_bool, t_loc, t_unit, t_pair, t_fst, t_snd, t_bin, t_eq, f_ff}
use Rattle.htt_syntax.specs.Trees.{f_and, f_or, f_imp, f_ex_t, f_ex_h, f_emp, f_cell, f_block, f_join, f_same, f_eq}
use Rattle.htt_syntax.specs.Trees.{a_heap, a_term}
use Rattle.theory_renaming.specs.Renaming.{rename_mono}
use Rattle.theory_canonical.specs.Folding.{folding}
use Rattle.theory_substitution.specs.Closing.{up}
use Rattle.theory_typing.specs.Contexts.{IsComparable}
use Rattle.theory_logic_axioms.specs.Names.{AxiomName, emp_some, emp_one, join_emp, join_comm, join_assoc, join_fun}
use Rattle.theory_logic_axioms.specs.Names.{join_cancel, join_empty, join_cross, cell_block, cell_one, cell_val}
use Rattle.theory_logic_axioms.specs.Names.{cell_make, block_part, block_sep, block_null, block_emp, block_word}
use Rattle.theory_logic_axioms.specs.Names.{block_place, block_width, add_comm, mul_comm, add_assoc, mul_assoc}
use Rattle.theory_logic_axioms.specs.Names.{add_zero, mul_one, mul_zero, mul_add, sub_add, add_sub, lt_irrefl, lt_zero}
use Rattle.theory_logic_axioms.specs.Names.{lt_trans, lt_total, lt_step, lt_gap, lt_pred, eq_yes, eq_no, bool_or}
use Rattle.theory_logic_axioms.specs.Names.{bool_ne, pair_eta, unit_eta, and_zero, or_zero, xor_self, shl_one}

infixr 20 ◌⇒◌
-- The sort of an argument: a heap, or a term of a monotype.
pub data ArgSort : Type 0 where
  heap_sort : ArgSort
  term_sort : MonoTree → ArgSort

abbrev pub place_sort : ArgSort
place_sort = term_sort m_loc

abbrev pub heaps : ℕ → List ArgSort
heaps zero = []
heaps (suc n) = heap_sort ∷ heaps n

abbrev pub words : ℕ → List ArgSort
words zero = []
words (suc n) = term_sort m_word ∷ words n

-- How many words, truth values and places a monotype has, and how often it has a variable.
unfoldable pub count_of_words : MonoTree → ℕ
count_of_words m_word = 1
count_of_words m_bool = 1
count_of_words m_loc = 1
count_of_words m_unit = 0
count_of_words (m_pair left right) = count_of_words left + count_of_words right
count_of_words (m_var index) = 0

unfoldable pub uses_of : ℕ → MonoTree → ℕ
uses_of index (m_pair left right) = uses_of index left + uses_of index right
uses_of index (m_var other) = if nat_eq index other then 1 else 0
uses_of index _ = 0

pub record SameWidth (t s : MonoTree) : Type 0 where
  pub same_words : count_of_words t ≡ count_of_words s
  pub same_variables : (index : ℕ) → uses_of index t ≡ uses_of index s

-- What an axiom takes: no monotype, one or two, and arguments whose sorts these may decide. With two of the
-- forms goes a side condition on the monotypes.
pub data Signature : Type 0 where
  no_mono : List ArgSort → Signature
  one_mono : (MonoTree → List ArgSort) → Signature
  -- one at which `eq` compares
  one_comparable : (MonoTree → List ArgSort) → Signature
  two_monos : (MonoTree → MonoTree → List ArgSort) → Signature
  -- two that are as wide as each other
  two_as_wide : (MonoTree → MonoTree → List ArgSort) → Signature

abbrev pub signature : AxiomName → Signature
signature emp_some = no_mono []
signature emp_one = no_mono (heaps 2)
signature join_emp = no_mono (heaps 2)
signature join_comm = no_mono (heaps 3)
signature join_assoc = no_mono (heaps 5)
signature join_fun = no_mono (heaps 4)
signature join_cancel = no_mono (heaps 4)
signature join_empty = no_mono (heaps 3)
signature join_cross = no_mono (heaps 5)
signature cell_block = one_mono (λ t. heap_sort ∷ place_sort ∷ term_sort t ∷ [])
signature cell_one = one_mono (λ t. heap_sort ∷ heap_sort ∷ place_sort ∷ term_sort t ∷ [])
signature cell_val = one_mono (λ t. heap_sort ∷ place_sort ∷ term_sort t ∷ term_sort t ∷ [])
signature cell_make = one_mono (λ t. place_sort ∷ term_sort t ∷ [])
signature block_part = two_monos (λ t s. heap_sort ∷ heap_sort ∷ heap_sort ∷ heap_sort ∷ heap_sort ∷ place_sort ∷ [])
signature block_sep = two_monos (λ t s. heap_sort ∷ heap_sort ∷ heap_sort ∷ place_sort ∷ [])
signature block_null = one_mono (λ t. heaps 1)
signature block_emp = one_mono (λ t. heap_sort ∷ place_sort ∷ [])
signature block_word = no_mono (heap_sort ∷ place_sort ∷ [])
signature block_place = two_monos (λ t s. heap_sort ∷ place_sort ∷ place_sort ∷ [])
signature block_width = two_as_wide (λ t s. heap_sort ∷ place_sort ∷ [])
signature add_comm = no_mono (words 2)
signature mul_comm = no_mono (words 2)
signature add_assoc = no_mono (words 3)
signature mul_assoc = no_mono (words 3)
signature add_zero = no_mono (words 1)
signature mul_one = no_mono (words 1)
signature mul_zero = no_mono (words 1)
signature mul_add = no_mono (words 3)
signature sub_add = no_mono (words 2)
signature add_sub = no_mono (words 2)
signature lt_irrefl = no_mono (words 1)
signature lt_zero = no_mono (words 1)
signature lt_trans = no_mono (words 3)
signature lt_total = no_mono (words 2)
signature lt_step = no_mono (words 2)
signature lt_gap = no_mono (words 2)
signature lt_pred = no_mono (words 1)
signature eq_yes = one_comparable (λ t. term_sort t ∷ term_sort t ∷ [])
signature eq_no = one_comparable (λ t. term_sort t ∷ term_sort t ∷ [])
signature bool_or = no_mono (term_sort m_bool ∷ [])
signature bool_ne = no_mono []
signature pair_eta = two_monos (λ t s. term_sort (m_pair t s) ∷ [])
signature unit_eta = no_mono (term_sort m_unit ∷ [])
signature and_zero = no_mono (words 1)
signature or_zero = no_mono (words 1)
signature xor_self = no_mono (words 1)
signature shl_one = no_mono (words 1)

abbrev pub sorts_at : Signature → List MonoTree → Option (List ArgSort)
sorts_at (no_mono sorts) [] = Some sorts
sorts_at (one_mono sorts) (t ∷ []) = Some (sorts t)
sorts_at (one_comparable sorts) (t ∷ []) = Some (sorts t)
sorts_at (two_monos sorts) (t ∷ s ∷ []) = Some (sorts t s)
sorts_at (two_as_wide sorts) (t ∷ s ∷ []) = Some (sorts t s)
sorts_at _ _ = None

abbrev pub condition_at : Signature → List MonoTree → Type 0
condition_at (one_comparable sorts) (t ∷ []) = IsComparable t
condition_at (two_as_wide sorts) (t ∷ s ∷ []) = SameWidth t s
condition_at _ _ = Unit {0}

-- The sorts of an axiom's arguments at these monotypes, if they are as many as it takes.
unfoldable pub argument_sorts : AxiomName → List MonoTree → Option (List ArgSort)
argument_sorts axiom_name monos = sorts_at (signature axiom_name) monos

unfoldable pub SideCondition : AxiomName → List MonoTree → Type 0
SideCondition axiom_name monos = condition_at (signature axiom_name) monos

-- Each argument is a heap where a heap is meant, and a term where a term is.
abbrev pub fits_sorts : List ArgSort → List ArgTree → Bool
fits_sorts [] [] = true
fits_sorts (heap_sort ∷ sorts) (a_heap h ∷ others) = fits_sorts sorts others
fits_sorts (term_sort t ∷ sorts) (a_term m ∷ others) = fits_sorts sorts others
fits_sorts _ _ = false

abbrev pub fits_shape : Option (List ArgSort) → List ArgTree → Bool
fits_shape (Some sorts) arguments = fits_sorts sorts arguments
fits_shape None arguments = false

abbrev pub ◌⇒◌ : FormulaTree → FormulaTree → FormulaTree
F ⇒ G = f_imp F G

-- An operation, folded where it meets literals.
abbrev pub op_of : Op → TermTree → TermTree → TermTree
op_of op x y = folding (t_bin op x y)

abbrev pub plus : TermTree → TermTree → TermTree
plus x y = op_of Add x y

abbrev pub minus : TermTree → TermTree → TermTree
minus x y = op_of Sub x y

abbrev pub times : TermTree → TermTree → TermTree
times x y = op_of Mul x y

abbrev pub equal_words : TermTree → TermTree → FormulaTree
equal_words x y = f_eq m_word x y

-- whether x is below y, as an equation with a truth value
abbrev pub less : TermTree → TermTree → Bool → FormulaTree
less x y truth = f_eq m_bool (op_of Lt x y) (t_bool truth)

-- A monotype under one more binder.
abbrev pub up_mono : MonoTree → MonoTree
up_mono t = rename_mono suc t

-- join_cross has four heaps of its own, of which p is the outermost.
abbrev pub cross_parts : ℕ → ℕ → ℕ → ℕ → FormulaTree
cross_parts a b c d =
    f_ex_h (f_ex_h (f_ex_h (f_ex_h
    (f_and (f_join (suc (suc (suc (suc a)))) 3 2)
    (f_and (f_join (suc (suc (suc (suc b)))) 1 0)
    (f_and (f_join (suc (suc (suc (suc c)))) 3 1) (f_join (suc (suc (suc (suc d)))) 2 0)))))))

-- The formula of an axiom at these monotypes and arguments, if they have its shape.
unfoldable pub formula_of : AxiomName → List MonoTree → List ArgTree → Option FormulaTree
formula_of emp_some [] [] = Some (f_ex_h (f_emp 0))
formula_of emp_one [] (a_heap h ∷ a_heap k ∷ []) = Some (f_emp h ⇒ f_emp k ⇒ f_same h k)
formula_of join_emp [] (a_heap h ∷ a_heap e ∷ []) = Some (f_emp e ⇒ f_join h h e)
formula_of join_comm [] (a_heap h ∷ a_heap a ∷ a_heap b ∷ []) = Some (f_join h a b ⇒ f_join h b a)
formula_of join_assoc [] (a_heap h ∷ a_heap a ∷ a_heap b ∷ a_heap c ∷ a_heap d ∷ []) =
    Some (f_join h a b ⇒ f_join a c d ⇒ f_ex_h (f_and (f_join (suc h) (suc c) 0) (f_join 0 (suc d) (suc b))))
formula_of join_fun [] (a_heap h ∷ a_heap k ∷ a_heap a ∷ a_heap b ∷ []) =
    Some (f_join h a b ⇒ f_join k a b ⇒ f_same h k)
formula_of join_cancel [] (a_heap h ∷ a_heap a ∷ a_heap b ∷ a_heap c ∷ []) =
    Some (f_join h a b ⇒ f_join h a c ⇒ f_same b c)
formula_of join_empty [] (a_heap h ∷ a_heap a ∷ a_heap b ∷ []) =
    Some (f_emp h ⇒ f_join h a b ⇒ f_and (f_emp a) (f_emp b))
formula_of join_cross [] (a_heap h ∷ a_heap a ∷ a_heap b ∷ a_heap c ∷ a_heap d ∷ []) =
    Some (f_join h a b ⇒ f_join h c d ⇒ cross_parts a b c d)
formula_of cell_block (t ∷ []) (a_heap h ∷ a_term m ∷ a_term n ∷ []) = Some (f_cell t h m n ⇒ f_block t h m)
formula_of cell_one (t ∷ []) (a_heap g ∷ a_heap k ∷ a_term m ∷ a_term n ∷ []) =
    Some (f_cell t g m n ⇒ f_cell t k m n ⇒ f_same g k)
formula_of cell_val (t ∷ []) (a_heap g ∷ a_term m ∷ a_term n ∷ a_term p ∷ []) =
    Some (f_cell t g m n ⇒ f_cell t g m p ⇒ f_eq t n p)
formula_of cell_make (t ∷ []) (a_term m ∷ a_term n ∷ []) =
    Some ((f_eq m_loc m (t_loc 0) ⇒ f_ff) ⇒ f_ex_h (f_cell (up_mono t) 0 (up m) (up n)))
formula_of block_part (t ∷ s ∷ []) (a_heap h ∷ a_heap a ∷ a_heap b ∷ a_heap c ∷ a_heap d ∷ a_term m ∷ []) =
    Some (f_block t a m ⇒ f_join h a b ⇒ f_block s c m ⇒ f_join h c d ⇒ f_and (f_same a c) (f_same b d))
formula_of block_sep (t ∷ s ∷ []) (a_heap h ∷ a_heap a ∷ a_heap b ∷ a_term m ∷ []) =
    Some (f_block t a m ⇒ f_block s b m ⇒ f_join h a b ⇒ f_ff)
formula_of block_null (t ∷ []) (a_heap h ∷ []) = Some (f_block t h (t_loc 0) ⇒ f_ff)
formula_of block_emp (t ∷ []) (a_heap h ∷ a_term m ∷ []) = Some (f_block t h m ⇒ f_emp h ⇒ f_ff)
formula_of block_word [] (a_heap h ∷ a_term m ∷ []) =
    Some (f_block m_word h m ⇒ f_ex_t m_word (f_cell m_word (suc h) (up m) (t_var 0)))
formula_of block_place (t ∷ s ∷ []) (a_heap h ∷ a_term m ∷ a_term n ∷ []) =
    Some (f_block t h m ⇒ f_block s h n ⇒ f_eq m_loc m n)
formula_of block_width (t ∷ s ∷ []) (a_heap h ∷ a_term m ∷ []) = Some (f_block t h m ⇒ f_block s h m)
formula_of add_comm [] (a_term x ∷ a_term y ∷ []) = Some (equal_words (plus x y) (plus y x))
formula_of mul_comm [] (a_term x ∷ a_term y ∷ []) = Some (equal_words (times x y) (times y x))
formula_of add_assoc [] (a_term x ∷ a_term y ∷ a_term z ∷ []) =
    Some (equal_words (plus (plus x y) z) (plus x (plus y z)))
formula_of mul_assoc [] (a_term x ∷ a_term y ∷ a_term z ∷ []) =
    Some (equal_words (times (times x y) z) (times x (times y z)))
formula_of add_zero [] (a_term x ∷ []) = Some (equal_words (plus x (t_word 0)) x)
formula_of mul_one [] (a_term x ∷ []) = Some (equal_words (times x (t_word 1)) x)
formula_of mul_zero [] (a_term x ∷ []) = Some (equal_words (times x (t_word 0)) (t_word 0))
formula_of mul_add [] (a_term x ∷ a_term y ∷ a_term z ∷ []) =
    Some (equal_words (times x (plus y z)) (plus (times x y) (times x z)))
formula_of sub_add [] (a_term x ∷ a_term y ∷ []) = Some (equal_words (plus (minus x y) y) x)
formula_of add_sub [] (a_term x ∷ a_term y ∷ []) = Some (equal_words (minus (plus x y) y) x)
formula_of lt_irrefl [] (a_term x ∷ []) = Some (less x x false)
formula_of lt_zero [] (a_term x ∷ []) = Some (less x (t_word 0) false)
formula_of lt_trans [] (a_term x ∷ a_term y ∷ a_term z ∷ []) = Some (less x y true ⇒ less y z true ⇒ less x z true)
formula_of lt_total [] (a_term x ∷ a_term y ∷ []) = Some (f_or (less x y true) (f_or (equal_words x y) (less y x true)))
formula_of lt_step [] (a_term x ∷ a_term y ∷ []) = Some (less x y true ⇒ less x (plus x (t_word 1)) true)
formula_of lt_gap [] (a_term x ∷ a_term y ∷ []) = Some (less x y true ⇒ less y (plus x (t_word 1)) false)
formula_of lt_pred [] (a_term x ∷ []) = Some ((equal_words x (t_word 0) ⇒ f_ff) ⇒ less (minus x (t_word 1)) x true)
formula_of eq_yes (t ∷ []) (a_term m ∷ a_term n ∷ []) =
    Some (f_eq m_bool (folding (t_eq t m n)) (t_bool true) ⇒ f_eq t m n)
formula_of eq_no (t ∷ []) (a_term m ∷ a_term n ∷ []) =
    Some (f_eq t m n ⇒ f_eq m_bool (folding (t_eq t m n)) (t_bool true))
formula_of bool_or [] (a_term b ∷ []) = Some (f_or (f_eq m_bool b (t_bool true)) (f_eq m_bool b (t_bool false)))
formula_of bool_ne [] [] = Some (f_eq m_bool (t_bool true) (t_bool false) ⇒ f_ff)
formula_of pair_eta (t ∷ s ∷ []) (a_term p ∷ []) =
    Some (f_eq (m_pair t s) (t_pair (folding (t_fst p)) (folding (t_snd p))) p)
formula_of unit_eta [] (a_term u ∷ []) = Some (f_eq m_unit u t_unit)
formula_of and_zero [] (a_term x ∷ []) = Some (equal_words (op_of And x (t_word 0)) (t_word 0))
formula_of or_zero [] (a_term x ∷ []) = Some (equal_words (op_of Or x (t_word 0)) x)
formula_of xor_self [] (a_term x ∷ []) = Some (equal_words (op_of Xor x x) (t_word 0))
formula_of shl_one [] (a_term x ∷ []) = Some (equal_words (op_of Shl x (t_word 1)) (plus x x))
formula_of _ _ _ = None

-- The axiom has this instance.
pub record IsInstance (axiom_name :
    AxiomName) (monos : List MonoTree) (arguments : List ArgTree) (formula : FormulaTree) : Type 0 where
  pub side_condition : SideCondition axiom_name monos
  pub row : formula_of axiom_name monos arguments ≡ Some formula
