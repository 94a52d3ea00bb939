-- When the arguments of an axiom have values of their sorts, and that the axioms are true.
use Rattle.std.specs.Prelude.{List, [], ◌∷◌, Option, Some, None}
use Rattle.htt_syntax.specs.Trees.{MonoTree, FormulaTree, ArgTree, a_heap, a_term}
use Rattle.theory_values.specs.Values.{HasType}
use Rattle.theory_values.specs.Heaps.{IsHeap}
use Rattle.theory_truth.specs.Worlds.{World, heap_at, mono_under}
use Rattle.theory_truth.specs.TermValue.{term_value}
use Rattle.theory_truth.specs.Truth.{Holds}
use Rattle.theory_truth.specs.Predicates.{RecTree, recs_of}
use Rattle.theory_logic_axioms.specs.Names.{AxiomName}
use Rattle.theory_logic_axioms.specs.Table.{ArgSort, heap_sort, term_sort, argument_sorts, IsInstance}

-- In the world each argument is of its sort: a heap, or a term whose value is of the sort's monotype.
abbrev pub AreOfSorts : World → List ArgSort → List ArgTree → Type 0
AreOfSorts w [] [] = Unit {0}
AreOfSorts w (heap_sort ∷ sorts) (a_heap h ∷ others) = IsHeap (heap_at w h) × AreOfSorts w sorts others
AreOfSorts w (term_sort t ∷ sorts) (a_term m ∷ others) =
    HasType (term_value w m) (mono_under w t) × AreOfSorts w sorts others
AreOfSorts w _ _ = ⊥

-- The arguments have the shape that the axiom takes at these monotypes.
abbrev pub AreOfShape : World → Option (List ArgSort) → List ArgTree → Type 0
AreOfShape w (Some sorts) arguments = AreOfSorts w sorts arguments
AreOfShape w None arguments = ⊥

abbrev pub AxiomsAreTrue : Type 0
AxiomsAreTrue =
    (table : List RecTree) (w : World) (axiom_name : AxiomName) (monos : List MonoTree) (arguments : List ArgTree)
    → AreOfShape w (argument_sorts axiom_name monos) arguments
    → (F : FormulaTree)
    → IsInstance axiom_name monos arguments F
    → Holds (recs_of table) w F
