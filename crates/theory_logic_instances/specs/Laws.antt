-- Instances of axioms are true, at canonical arguments and at written ones.
use Rattle.std.specs.Prelude.{◌≡◌, List, Some}
use Rattle.htt_syntax.specs.Trees.{MonoTree, FormulaTree, ArgTree}
use Rattle.theory_truth.specs.Worlds.{World}
use Rattle.theory_truth.specs.Truth.{Holds}
use Rattle.theory_truth.specs.Predicates.{recs_of}
use Rattle.theory_typing.specs.Contexts.{Context, Environment}
use Rattle.theory_typing.specs.Worlds.{IsWorldOf}
use Rattle.theory_logic_axioms.specs.Names.{AxiomName}
use Rattle.theory_logic_axioms.specs.Table.{ArgSort, argument_sorts, IsInstance}
use Rattle.theory_logic_rules.specs.Sequents.{FitsArgs}
use Rattle.theory_formed_shapes.specs.Shapes.{shapes_of}
use Rattle.theory_formed_shapes.specs.Formed.{file_shapes}
use Rattle.theory_formed_items.specs.Environments.{IsFormedEnvironment}
use Rattle.theory_formed_proofs.specs.Sequents.{AreFormedArgs}
use Rattle.theory_typing_values.specs.FirstOrder.{IsFirstOrder}

-- Canonical arguments of the axiom's sorts are heaps of the context, and formed terms of the monotypes; the
-- canonical forms of arguments that fit the sorts are such.
pub record InstancesAreTrue : Type 0 where
  pub canonical : (env : Environment)
      → IsFormedEnvironment env
      → (g : Context) (axiom_name : AxiomName) (monos : List MonoTree) (sorts : List ArgSort) (arguments : List ArgTree)
      → argument_sorts axiom_name monos ≡ Some sorts
      → AreFormedArgs (file_shapes env) (shapes_of g) sorts arguments
      → (F : FormulaTree)
      → IsInstance axiom_name monos arguments F
      → (w : World)
      → IsWorldOf g w
      → Holds (recs_of env.recs) w F
  pub fitting : (env : Environment)
      → IsFormedEnvironment env
      → (g : Context)
      → IsFirstOrder g
      → (axiom_name : AxiomName) (monos : List MonoTree) (sorts : List ArgSort) (arguments values : List ArgTree)
      → argument_sorts axiom_name monos ≡ Some sorts
      → FitsArgs env g arguments sorts values
      → (F : FormulaTree)
      → IsInstance axiom_name monos values F
      → (w : World)
      → IsWorldOf g w
      → Holds (recs_of env.recs) w F
