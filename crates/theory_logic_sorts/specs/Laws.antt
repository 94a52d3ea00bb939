-- The laws of sorted trees.
use Rattle.std.specs.Prelude.{ℕ, List, ◌∷◌, map, IfSome}
use Rattle.htt_syntax.specs.Trees.{MonoTree, TermTree, FormulaTree, ArgTree}
use Rattle.theory_renaming.specs.Renaming.{Map, rename_mono, rename_term, rename_formula}
use Rattle.theory_canonical.specs.Skeletons.{sk_o}
use Rattle.theory_canonical.specs.Contexts.{Standing, as_mono, as_heap, as_term, Heads}
use Rattle.theory_canonical.specs.Canonical.{IsCanonical, IsCanonicalFormula}
use Rattle.theory_substitution.specs.Substitution.{SubTerm, SubFormula}
use Rattle.theory_logic_axioms.specs.Names.{AxiomName}
use Rattle.theory_logic_axioms.specs.Table.{formula_of}
use Rattle.theory_logic_rules.specs.Sequents.{put_heap, PutArgs}
use Rattle.theory_logic_sorts.specs.Sorts.{Sort, Sorts, for_mono, for_value, for_heap, HasSort, SortedMono, SortedTerm}
use Rattle.theory_logic_sorts.specs.Sorts.{SortedFormula, AreSortedMonos, AreSortedArgs, under_args, KeepsSorts}
use Rattle.theory_logic_sorts.specs.Sorts.{ClosesSort}

-- A variable of a sort as canonical trees are told of it.
abbrev pub standing_of_sort : Sort → Standing
standing_of_sort for_mono = as_mono
standing_of_sort for_value = as_term sk_o
standing_of_sort for_heap = as_heap

abbrev pub standings_of_sorts : Sorts → List Standing
standings_of_sorts g = map standing_of_sort g

pub record CanonicalTreesAreSorted : Type 0 where
  pub terms : (heads : Heads) (g : Sorts) (M : TermTree)
      → IsCanonical heads (standings_of_sorts g) M sk_o
      → SortedTerm g M
  pub formulas : (heads : Heads) (g : Sorts) (F : FormulaTree)
      → IsCanonicalFormula heads (standings_of_sorts g) F
      → SortedFormula g F

pub record RenamingKeepsSorts : Type 0 where
  pub monos : {m : Map} {g h : Sorts}
      → KeepsSorts m g h
      → (t : MonoTree)
      → SortedMono g t
      → SortedMono h (rename_mono m t)
  pub terms : {m : Map} {g h : Sorts}
      → KeepsSorts m g h
      → (M : TermTree)
      → SortedTerm g M
      → SortedTerm h (rename_term m M)
  pub formulas : {m : Map} {g h : Sorts}
      → KeepsSorts m g h
      → (F : FormulaTree)
      → SortedFormula g F
      → SortedFormula h (rename_formula m F)

pub record SubstitutionKeepsSorts : Type 0 where
  pub terms : (new : TermTree) (x : ℕ) {g h : Sorts}
      → ClosesSort x for_value g h
      → SortedTerm h new
      → (M R : TermTree)
      → SubTerm new sk_o x M R
      → SortedTerm g M
      → SortedTerm h R
  pub formulas : (new : TermTree) (x : ℕ) {g h : Sorts}
      → ClosesSort x for_value g h
      → SortedTerm h new
      → (F R : FormulaTree)
      → SubFormula new sk_o x F R
      → SortedFormula g F
      → SortedFormula h R
  pub heaps : (heap : ℕ) (g : Sorts)
      → HasSort g heap for_heap
      → (F : FormulaTree)
      → SortedFormula (for_heap ∷ g) F
      → SortedFormula g (put_heap heap F)

abbrev pub InstancesAreSorted : Type 0
InstancesAreSorted =
    (g : Sorts) (axiom_name : AxiomName) (monos : List MonoTree) (arguments : List ArgTree)
    → AreSortedMonos g monos
    → AreSortedArgs g arguments
    → IfSome (formula_of axiom_name monos arguments) (SortedFormula g)

abbrev pub ArgumentsKeepSorts : Type 0
ArgumentsKeepSorts =
    (g : Sorts) (arguments : List ArgTree)
    → AreSortedArgs g arguments
    → (F R : FormulaTree)
    → PutArgs arguments F R
    → SortedFormula (under_args arguments g) F
    → SortedFormula g R
