-- Formed arguments, hypotheses and sequents.
use Rattle.std.specs.Prelude.{ℕ, List, [], ◌∷◌}
use Rattle.htt_syntax.specs.Trees.{MonoTree, TermTree, FormulaTree, ArgTree, a_heap, a_term}
use Rattle.theory_typing.specs.Contexts.{Context, Environment}
use Rattle.theory_logic_axioms.specs.Table.{ArgSort, heap_sort, term_sort}
use Rattle.theory_formed_shapes.specs.Shapes.{sh_mono, ShapeEntry, in_heap, in_term, Shapes, IsHeapAt, shapes_of}
use Rattle.theory_formed_shapes.specs.Formed.{FileShapes, file_shapes, IsFormedMono, IsFormedTerm, IsFormedFormula}
use Rattle.theory_formed_shapes.specs.Environments.{IsFormedContext}

abbrev pub AreFormedMonos : Shapes → List MonoTree → Type 0
AreFormedMonos g [] = Unit {0}
AreFormedMonos g (mono ∷ others) = IsFormedMono g mono × AreFormedMonos g others

-- Arguments of these sorts: heaps of the context, and terms of the sorts' monotypes.
pub data AreFormedArgs (file : FileShapes) (g : Shapes) : List ArgSort → List ArgTree → Type 0 where
  formed_no_args : AreFormedArgs file g [] []
  formed_heap_arg : {h : ℕ} {sorts : List ArgSort} {others : List ArgTree}
      → IsHeapAt g h
      → AreFormedArgs file g sorts others
      → AreFormedArgs file g (heap_sort ∷ sorts) (a_heap h ∷ others)
  formed_term_arg : {m : TermTree} {t : MonoTree} {sorts : List ArgSort} {others : List ArgTree}
      → IsFormedTerm file g m (sh_mono t)
      → AreFormedArgs file g sorts others
      → AreFormedArgs file g (term_sort t ∷ sorts) (a_term m ∷ others)

-- A context with an entry more for each sort, the first of them outermost.
abbrev pub sort_entry : ArgSort → ShapeEntry
sort_entry heap_sort = in_heap
sort_entry (term_sort t) = in_term (sh_mono t)

abbrev pub with_sorts : List ArgSort → Shapes → Shapes
with_sorts [] g = g
with_sorts (sort ∷ sorts) g = with_sorts sorts (sort_entry sort ∷ g)

abbrev pub AreClosedSorts : List ArgSort → Type 0
AreClosedSorts [] = Unit {0}
AreClosedSorts (heap_sort ∷ sorts) = AreClosedSorts sorts
AreClosedSorts (term_sort t ∷ sorts) = IsFormedMono [] t × AreClosedSorts sorts

-- Formed hypotheses, and a formed goal under them, in a formed context.
abbrev pub IsFormedIn : Environment → Context → FormulaTree → Type 0
IsFormedIn env g F = IsFormedFormula (file_shapes env) (shapes_of g) F

abbrev pub AreFormedIn : Environment → Context → List FormulaTree → Type 0
AreFormedIn env g [] = Unit {0}
AreFormedIn env g (F ∷ others) = IsFormedIn env g F × AreFormedIn env g others

pub record IsFormedSequent (env : Environment) (g : Context) (hypotheses : List FormulaTree) (goal : FormulaTree) :
    Type 0 where
  pub context : IsFormedContext (file_shapes env) g
  pub hypotheses_formed : AreFormedIn env g hypotheses
  pub goal_formed : IsFormedIn env g goal
