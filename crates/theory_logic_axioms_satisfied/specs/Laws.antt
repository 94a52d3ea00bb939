-- The axioms are true in every valuation.
use Rattle.std.specs.Prelude.{◌≡◌, List, [], ◌∷◌, Some}
use Rattle.htt_syntax.specs.Trees.{MonoTree, FormulaTree, ArgTree, a_heap, a_term}
use Rattle.theory_values.specs.Values.{HasType}
use Rattle.theory_values.specs.Heaps.{IsHeap}
use Rattle.theory_truth.specs.Predicates.{RecTree, recs_of}
use Rattle.theory_canonical.specs.Skeletons.{sk_o}
use Rattle.theory_logic_axioms.specs.Names.{AxiomName}
use Rattle.theory_logic_axioms.specs.Table.{ArgSort, heap_sort, term_sort, argument_sorts, IsInstance}
use Rattle.theory_denotation.specs.Valuations.{Valuation, mono_in, heap_in, HeadEntries}
use Rattle.theory_denotation.specs.Denotation.{term_den}
use Rattle.theory_denotation.specs.Satisfaction.{Satisfies}

-- In the valuation each argument is of its sort: a heap, or a term that denotes a value of the sort's
-- monotype.
abbrev pub DenoteSorts : HeadEntries → Valuation → List ArgSort → List ArgTree → Type 0
DenoteSorts e w [] [] = Unit {0}
DenoteSorts e w (heap_sort ∷ sorts) (a_heap h ∷ others) = IsHeap (heap_in w h) × DenoteSorts e w sorts others
DenoteSorts e w (term_sort t ∷ sorts) (a_term m ∷ others) =
    HasType (term_den e w m sk_o) (mono_in w t) × DenoteSorts e w sorts others
DenoteSorts e w _ _ = ⊥

abbrev pub AxiomsAreSatisfied : Type 0
AxiomsAreSatisfied =
    (table : List RecTree) (e : HeadEntries) (w : Valuation) (axiom_name : AxiomName) (monos : List MonoTree)
    (sorts : List ArgSort) (arguments : List ArgTree)
    → argument_sorts axiom_name monos ≡ Some sorts
    → DenoteSorts e w sorts arguments
    → (F : FormulaTree)
    → IsInstance axiom_name monos arguments F
    → Satisfies (recs_of table) e w F
