-- The axioms are true in every valuation, since they are so of literals in its first-order reading.
use Rattle.std.proofs.Common.{◌≡◌, List, [], ◌∷◌, Option, Some, None, refl, sym, subst}
use Rattle.htt_syntax.specs.Trees.{FormulaTree, ArgTree, a_heap, a_term}
use Rattle.theory_values.specs.Values.{Value, HasType}
use Rattle.theory_values.specs.Heaps.{IsHeap}
use Rattle.theory_truth.specs.Worlds.{mono_under}
use Rattle.theory_truth.specs.Truth.{Recs, Holds}
use Rattle.theory_truth.specs.Predicates.{recs_of}
use Rattle.theory_canonical.specs.Skeletons.{sk_o}
use Rattle.theory_logic_axioms.specs.Table.{ArgSort, heap_sort, term_sort, argument_sorts, formula_of}
use Rattle.theory_logic_axioms_true.specs.Laws.{AreOfSorts, AreOfShape}
use Rattle.theory_logic_axioms_true.proofs.True.{axioms}
use Rattle.theory_denotation.specs.Valuations.{Valuation, HeadEntries}
use Rattle.theory_denotation.specs.Denotation.{term_den}
use Rattle.theory_denotation.specs.Satisfaction.{Satisfies}
use Rattle.theory_logic_axioms_satisfied.specs.Laws.{DenoteSorts, AxiomsAreSatisfied}
use Rattle.theory_logic_axioms_satisfied.proofs.Literals.{world_of, heap_read, mono_read, literal_value, literals_of}
use Rattle.theory_logic_axioms_satisfied.proofs.Rows.{SameSaying, row}

-- the literals are of the arguments' sorts
literals_sorted : (e : HeadEntries) (w : Valuation) (sorts : List ArgSort) (arguments : List ArgTree)
    → DenoteSorts e w sorts arguments
    → AreOfSorts (world_of w) sorts (literals_of e w arguments)
literals_sorted e w [] [] d = tt
literals_sorted e w [] (a_heap h ∷ others) d = absurd d
literals_sorted e w [] (a_term m ∷ others) d = absurd d
literals_sorted e w (heap_sort ∷ sorts) [] d = absurd d
literals_sorted e w (term_sort t ∷ sorts) [] d = absurd d
literals_sorted e w (heap_sort ∷ sorts) (a_term m ∷ others) d = absurd d
literals_sorted e w (term_sort t ∷ sorts) (a_heap h ∷ others) d = absurd d
literals_sorted e w (heap_sort ∷ sorts) (a_heap h ∷ others) d = (subst IsHeap (heap_read w h) d.0, literals_sorted e w sorts others d.1)
literals_sorted e w (term_sort t ∷ sorts) (a_term m ∷ others) d =
    let v = term_den e w m sk_o in (
      subst (λ (x : Value). HasType x (mono_under (world_of w) t)) (sym (literal_value (world_of w) v))
          (subst (HasType v) (mono_read w t) d.0),
      literals_sorted e w sorts others d.1,
    )

of_shape : (e : HeadEntries) (w : Valuation) (o : Option (List ArgSort)) (sorts : List ArgSort) (arguments : List ArgTree)
    → o ≡ Some sorts
    → DenoteSorts e w sorts arguments
    → AreOfShape (world_of w) o (literals_of e w arguments)
of_shape e w o sorts arguments q d =
    subst (λ (o : Option (List ArgSort)). AreOfShape (world_of w) o (literals_of e w arguments)) (sym q)
    (literals_sorted e w sorts arguments d)

as_is : (A : Type 0) → Type 0
as_is A = A

-- the other formula holds, so the formula is satisfied
carried : (R : Recs) (e : HeadEntries) (w : Valuation) (F : FormulaTree) (x y : Option FormulaTree)
    → x ≡ Some F
    → SameSaying R e w x y
    → ((G : FormulaTree) → y ≡ Some G → Holds R (world_of w) G)
    → Satisfies R e w F
unfolding as_is
carried R e w F x y q same true = go y (subst (λ (z : Option FormulaTree). SameSaying R e w z y) q same) true
  where
    go : (y : Option FormulaTree) → SameSaying R e w (Some F) y → ((G : FormulaTree) → y ≡ Some G → Holds R (world_of w) G) → Satisfies R e w F
    go (Some G) same true = subst as_is (sym same) (true G refl)
    go None same true = absurd (subst as_is (sym same) tt)

pub satisfied : AxiomsAreSatisfied
satisfied table e w axiom_name monos sorts arguments shaped d F i =
    carried (recs_of table) e w F (formula_of axiom_name monos arguments) (formula_of axiom_name monos (literals_of e w arguments)) i.row
    (row (recs_of table) e w axiom_name monos arguments)
    (λ G q.
    axioms table (world_of w) axiom_name monos (literals_of e w arguments)
    (of_shape e w (argument_sorts axiom_name monos) sorts arguments shaped d) G (record { side_condition = i.side_condition; row = q }))
