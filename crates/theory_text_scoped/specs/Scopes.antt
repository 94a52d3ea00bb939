-- Scopes in which each declared name stands for sorted trees, and the current heap is a heap.
use Rattle.std.specs.Prelude.{ℕ, zero, suc, List, [], ◌∷◌, length, Option, Some, None, IfSome}
use Rattle.htt_syntax.specs.Trees.{MonoTree}
use Rattle.theory_text_names.specs.Scopes.{Sort, a_mono, a_term, the_mem, a_hypothesis, Local, PredTree, Meaning}
use Rattle.theory_text_names.specs.Scopes.{means_mono, means_pred, Declared, Names, Scope}
use Rattle.theory_text_scoped.specs.Sorted.{Sorts, IsHeap, SortedMono, SortedFormula}

-- the context of a scope: the sorts of its locals but for hypotheses
abbrev pub with_sort : Sort → Sorts → Sorts
with_sort a_hypothesis g = g
with_sort sort g = sort ∷ g

unfoldable pub sorts_in : List Local → Sorts
sorts_in [] = []
sorts_in (l ∷ ls) = with_sort l.sort (sorts_in ls)

-- under so many monotypes, and under so many parameters
unfoldable pub under_monotypes : ℕ → Sorts → Sorts
under_monotypes zero g = g
under_monotypes (suc n) g = under_monotypes n (a_mono ∷ g)

unfoldable pub under_parameters : ℕ → Sorts → Sorts
under_parameters zero g = g
under_parameters (suc n) g = under_parameters n (a_term ∷ g)

-- parameters, each under those before it
unfoldable pub SortedParams : Sorts → List MonoTree → Type 0
SortedParams g [] = Unit {0}
SortedParams g (t ∷ ts) = SortedMono g t × SortedParams (a_term ∷ g) ts

pub record SortedPred (p : PredTree) : Type 0 where
  pub params : SortedParams (under_monotypes p.monos []) p.params
  pub body : SortedFormula (the_mem ∷ under_parameters (length p.params) (under_monotypes p.monos [])) p.body

abbrev pub SortedMeaning : Meaning → Type 0
SortedMeaning (means_mono t) = SortedMono [] t
SortedMeaning (means_pred p) = SortedPred p
SortedMeaning _ = Unit {0}

abbrev pub SortedDeclared : Option Declared → Type 0
SortedDeclared None = Unit {0}
SortedDeclared (Some d) = SortedMeaning d.meaning

unfoldable pub SortedNames : Names → Type 0
SortedNames [] = Unit {0}
SortedNames (d ∷ ds) = SortedDeclared d × SortedNames ds

pub record IsSortedScope (s : Scope) : Type 0 where
  pub names : SortedNames s.names
  pub current : IfSome s.current (IsHeap (sorts_in s.locals))
