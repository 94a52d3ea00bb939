-- What proofs infer is formed, and so is each goal that stands in a proof.
use Rattle.std.specs.Prelude.{List, Some, ◌≡◌}
use Rattle.htt_syntax.specs.Trees.{MonoTree, FormulaTree, ArgTree, ProofTree}
use Rattle.theory_typing.specs.Contexts.{Context, Environment}
use Rattle.theory_logic_axioms.specs.Names.{AxiomName}
use Rattle.theory_logic_axioms.specs.Table.{ArgSort, argument_sorts, IsInstance}
use Rattle.theory_logic_rules.specs.Sequents.{PutArgs}
use Rattle.theory_logic_rules.specs.Rules.{Infers, Proves}
use Rattle.theory_formed_shapes.specs.Shapes.{Shapes}
use Rattle.theory_formed_shapes.specs.Formed.{FileShapes, file_shapes, IsFormedFormula, IsClosedFile}
use Rattle.theory_formed_shapes.specs.Environments.{IsFormedContext}
use Rattle.theory_formed_items.specs.Environments.{IsFormedEnvironment}
use Rattle.theory_formed_proofs.specs.Sequents.{AreFormedMonos, AreFormedArgs, with_sorts, AreClosedSorts, IsFormedIn}
use Rattle.theory_formed_proofs.specs.Sequents.{AreFormedIn, IsFormedSequent}
use Rattle.theory_formed_proofs.specs.Derivations.{FormedInference, FormedProof}

pub record ProofInfersFormed : Type 0 where
  pub inferred : (env : Environment) (g : Context)
      → IsFormedEnvironment env
      → IsFormedContext (file_shapes env) g
      → (hypotheses : List FormulaTree)
      → AreFormedIn env g hypotheses
      → (p : ProofTree) (F : FormulaTree)
      → Infers env g hypotheses p F
      → IsFormedIn env g F
  -- instances of axioms, at formed monotypes and arguments of the axiom's sorts
  pub instances : (file : FileShapes)
      → IsClosedFile file
      → (g : Shapes) (axiom_name : AxiomName) (monos : List MonoTree) (sorts : List ArgSort) (arguments : List ArgTree)
      (F : FormulaTree)
      → AreFormedMonos g monos
      → argument_sorts axiom_name monos ≡ Some sorts
      → AreFormedArgs file g sorts arguments
      → IsInstance axiom_name monos arguments F
      → IsFormedFormula file g F
  -- arguments that are put for the innermost variables
  pub arguments : (file : FileShapes)
      → IsClosedFile file
      → (g : Shapes) (sorts : List ArgSort) (arguments : List ArgTree) (F R : FormulaTree)
      → AreClosedSorts sorts
      → AreFormedArgs file g sorts arguments
      → PutArgs arguments F R
      → IsFormedFormula file (with_sorts sorts g) F
      → IsFormedFormula file g R
  -- each sequent and each inferred formula in a derivation
  pub inferences : (env : Environment) (g : Context)
      → IsFormedEnvironment env
      → IsFormedContext (file_shapes env) g
      → (hypotheses : List FormulaTree)
      → AreFormedIn env g hypotheses
      → (p : ProofTree) (F : FormulaTree) (derivation : Infers env g hypotheses p F)
      → FormedInference derivation
  pub proofs : (env : Environment) (g : Context)
      → IsFormedEnvironment env
      → (hypotheses : List FormulaTree) (goal : FormulaTree)
      → IsFormedSequent env g hypotheses goal
      → (p : ProofTree) (derivation : Proves env g hypotheses p goal)
      → FormedProof derivation
