-- Trees in which each variable is used by its sort. Of a term only what its value depends on counts.
use Rattle.std.specs.Prelude.{◌≡◌, ◌≢◌, ℕ, List, [], ◌∷◌, Some, slice_get}
use Rattle.htt_syntax.specs.Trees.{MonoTree, TermTree, TermTrees, FormulaTree, ArgTree, m_pair, m_var, t_var, t_pair}
use Rattle.htt_syntax.specs.Trees.{t_fst, t_snd, t_not, t_bin, t_eq, t_sel, t_at, no_terms, more_terms, f_and, f_or}
use Rattle.htt_syntax.specs.Trees.{f_imp, f_all_t, f_ex_t, f_all_h, f_ex_h, f_emp, f_cell, f_block, f_join, f_same}
use Rattle.htt_syntax.specs.Trees.{f_eq, f_at, f_rec, f_tt, f_ff, a_heap, a_term}
use Rattle.theory_renaming.specs.Renaming.{Map}
use Rattle.theory_substitution.specs.Closing.{closing}

-- What a variable stands for.
pub data Sort : Type 0 where
  for_mono for_value for_heap : Sort

-- The sorts of variables, the innermost first.
abbrev pub Sorts : Type 0
Sorts = List Sort

abbrev pub HasSort : Sorts → ℕ → Sort → Type 0
HasSort g n s = slice_get g n ≡ Some s

unfoldable pub SortedMono : Sorts → MonoTree → Type 0
SortedMono g (m_pair left right) = SortedMono g left × SortedMono g right
SortedMono g (m_var index) = HasSort g index for_mono
SortedMono g _ = Unit {0}

unfoldable pub SortedTerm : Sorts → TermTree → Type 0
SortedTerm g (t_var index) = HasSort g index for_value
SortedTerm g (t_pair left right) = SortedTerm g left × SortedTerm g right
SortedTerm g (t_fst pair) = SortedTerm g pair
SortedTerm g (t_snd pair) = SortedTerm g pair
SortedTerm g (t_not term) = SortedTerm g term
SortedTerm g (t_bin op left right) = SortedTerm g left × SortedTerm g right
SortedTerm g (t_eq mono left right) = SortedMono g mono × SortedTerm g left × SortedTerm g right
SortedTerm g (t_sel mono test on_true on_false) = SortedTerm g test × SortedTerm g on_true × SortedTerm g on_false
SortedTerm g (t_at at term) = SortedTerm g term
SortedTerm g _ = Unit {0}

unfoldable pub SortedTerms : Sorts → TermTrees → Type 0
SortedTerms g no_terms = Unit {0}
SortedTerms g (more_terms first others) = SortedTerm g first × SortedTerms g others

unfoldable pub SortedFormula : Sorts → FormulaTree → Type 0
SortedFormula g f_tt = Unit {0}
SortedFormula g f_ff = Unit {0}
SortedFormula g (f_and left right) = SortedFormula g left × SortedFormula g right
SortedFormula g (f_or left right) = SortedFormula g left × SortedFormula g right
SortedFormula g (f_imp left right) = SortedFormula g left × SortedFormula g right
SortedFormula g (f_all_t mono body) = SortedMono g mono × SortedFormula (for_value ∷ g) body
SortedFormula g (f_ex_t mono body) = SortedMono g mono × SortedFormula (for_value ∷ g) body
SortedFormula g (f_all_h body) = SortedFormula (for_heap ∷ g) body
SortedFormula g (f_ex_h body) = SortedFormula (for_heap ∷ g) body
SortedFormula g (f_emp heap) = HasSort g heap for_heap
SortedFormula g (f_cell mono heap place value) =
    SortedMono g mono × HasSort g heap for_heap × SortedTerm g place × SortedTerm g value
SortedFormula g (f_block mono heap place) = SortedMono g mono × HasSort g heap for_heap × SortedTerm g place
SortedFormula g (f_join whole left right) =
    HasSort g whole for_heap × HasSort g left for_heap × HasSort g right for_heap
SortedFormula g (f_same left right) = HasSort g left for_heap × HasSort g right for_heap
SortedFormula g (f_eq mono left right) = SortedMono g mono × SortedTerm g left × SortedTerm g right
SortedFormula g (f_at at formula) = SortedFormula g formula
SortedFormula g (f_rec number heap place arguments) =
    HasSort g heap for_heap × SortedTerm g place × SortedTerms g arguments

abbrev pub AreSortedMonos : Sorts → List MonoTree → Type 0
AreSortedMonos g [] = Unit {0}
AreSortedMonos g (mono ∷ others) = SortedMono g mono × AreSortedMonos g others

abbrev pub AreSortedArgs : Sorts → List ArgTree → Type 0
AreSortedArgs g [] = Unit {0}
AreSortedArgs g (a_heap heap ∷ others) = HasSort g heap for_heap × AreSortedArgs g others
AreSortedArgs g (a_term term ∷ others) = SortedTerm g term × AreSortedArgs g others

-- The sorts of arguments as entries, the last of them innermost.
abbrev pub sort_of_arg : ArgTree → Sort
sort_of_arg (a_heap heap) = for_heap
sort_of_arg (a_term term) = for_value

abbrev pub under_args : List ArgTree → Sorts → Sorts
under_args [] g = g
under_args (argument ∷ others) g = under_args others (sort_of_arg argument ∷ g)

-- The map sends each variable to one of its sort.
pub record KeepsSorts (m : Map) (g h : Sorts) : Type 0 where
  pub at : (n : ℕ) (s : Sort) → HasSort g n s → HasSort h (m n) s

-- The second has the entries of the first but for x, which is of this sort.
pub record ClosesSort (x : ℕ) (s : Sort) (g h : Sorts) : Type 0 where
  pub here : HasSort g x s
  pub others : (n : ℕ) (t : Sort) → n ≢ x → HasSort g n t → HasSort h (closing x n) t
