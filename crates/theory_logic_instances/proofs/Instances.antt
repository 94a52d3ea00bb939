-- Formed arguments have values of their sorts in a world, so an instance at them is true; and what fits is formed.
use Rattle.std.proofs.Common.{◌≡◌, ℕ, List, [], ◌∷◌, Some}
use Rattle.htt_syntax.specs.Trees.{MonoTree, FormulaTree, ArgTree}
use Rattle.theory_truth.specs.Worlds.{World}
use Rattle.theory_truth.specs.Truth.{Holds}
use Rattle.theory_truth.specs.Predicates.{recs_of}
use Rattle.theory_typing.specs.Contexts.{en_mono, en_heap, en_term, Context, Environment, IsHeapEntry, heap_here, heap_there}
use Rattle.theory_typing.specs.Worlds.{IsWorldOf}
use Rattle.theory_typing.proofs.Given.{heap_given}
use Rattle.theory_logic_axioms.specs.Names.{AxiomName}
use Rattle.theory_logic_axioms.specs.Table.{ArgSort, argument_sorts, IsInstance}
use Rattle.theory_logic_axioms_true.specs.Laws.{AreOfSorts}
use Rattle.theory_logic_axioms_true.proofs.True.{axioms, of_shape}
use Rattle.theory_formed_shapes.specs.Shapes.{IsHeapAt, heap_at_zero, heap_further, shapes_of}
use Rattle.theory_formed_shapes.specs.Formed.{FileShapes, file_shapes, z_mono}
use Rattle.theory_formed_shapes.specs.Environments.{IsFormedContext, formed_none, formed_mono, formed_heap, formed_term}
use Rattle.theory_formed_typing.proofs.Terms.{mono_formed}
use Rattle.theory_formed_typing.proofs.Ends.{FileEnds, environment_ends}
use Rattle.theory_formed_items.specs.Environments.{IsFormedEnvironment}
use Rattle.theory_formed_proofs.specs.Sequents.{AreFormedArgs, formed_no_args, formed_heap_arg, formed_term_arg}
use Rattle.theory_formed_proofs.proofs.Arguments.{args_fitted}
use Rattle.theory_typing_values.specs.FirstOrder.{IsFirstOrder, fo_none, fo_mono, fo_heap, fo_value}
use Rattle.theory_typing_values.proofs.Values.{shapes_world, value_typed}
use Rattle.theory_logic_instances.specs.Laws.{InstancesAreTrue}

heap_found : (g : Context) {n : ℕ} → IsHeapAt (shapes_of g) n → IsHeapEntry g n
heap_found [] d = elim d [ ]
heap_found (en_mono ∷ g) (heap_further d) = heap_there (heap_found g d)
heap_found (en_heap ∷ g) heap_at_zero = heap_here
heap_found (en_heap ∷ g) (heap_further d) = heap_there (heap_found g d)
heap_found (en_term ty ∷ g) (heap_further d) = heap_there (heap_found g d)

args_valued : (g : Context) {file : FileShapes} {w : World} {sorts : List ArgSort} {arguments : List ArgTree}
    → AreFormedArgs file (shapes_of g) sorts arguments
    → FileEnds file
    → IsWorldOf g w
    → AreOfSorts w sorts arguments
args_valued g formed_no_args ends q = tt
args_valued g (formed_heap_arg d rest) ends q = (heap_given q (heap_found g d), args_valued g rest ends q)
args_valued g (formed_term_arg d rest) ends q = (value_typed d ends (shapes_world q), args_valued g rest ends q)

instance_true : (env : Environment)
    → IsFormedEnvironment env
    → (g : Context) (axiom_name : AxiomName) (monos : List MonoTree) (sorts : List ArgSort) (arguments : List ArgTree)
    → argument_sorts axiom_name monos ≡ Some sorts
    → AreFormedArgs (file_shapes env) (shapes_of g) sorts arguments
    → (F : FormulaTree)
    → IsInstance axiom_name monos arguments F
    → (w : World)
    → IsWorldOf g w
    → Holds (recs_of env.recs) w F
instance_true env f g axiom_name monos sorts arguments e d F i w q =
    axioms env.recs w axiom_name monos arguments
    (of_shape w (argument_sorts axiom_name monos) sorts arguments e (args_valued g d (environment_ends env f.vals_end) q)) F i

-- a first-order context is formed
context_formed : {file : FileShapes} {g : Context} → IsFirstOrder g → IsFormedContext file g
context_formed fo_none = formed_none
context_formed (fo_mono p) = formed_mono (context_formed p)
context_formed (fo_heap p) = formed_heap (context_formed p)
context_formed (fo_value f p) = formed_term (context_formed p) (z_mono (mono_formed f))

pub instances : InstancesAreTrue
instances = record {
  canonical = instance_true;
  fitting = λ env f g p axiom_name monos sorts arguments values e d F i w q.
      instance_true env f g axiom_name monos sorts values e (args_fitted d f.forms (context_formed p)) F i w q;
}
