-- What is so of each of a sequent's hypotheses.
use Rattle.std.specs.Prelude.{List, [], ◌∷◌}
use Rattle.htt_syntax.specs.Trees.{FormulaTree}
use Rattle.theory_truth.specs.Worlds.{World}
use Rattle.theory_truth.specs.Truth.{Holds}
use Rattle.theory_truth.specs.Predicates.{recs_of}
use Rattle.theory_typing.specs.Contexts.{Context, Environment}
use Rattle.theory_formed_shapes.specs.Shapes.{shapes_of}
use Rattle.theory_formed_shapes.specs.Formed.{file_shapes, IsFormedFormula}
use Rattle.theory_logic_sorts.specs.Sorts.{Sorts, SortedFormula}

abbrev pub Each : (FormulaTree → Type 0) → List FormulaTree → Type 0
Each P [] = Unit {0}
Each P (F ∷ others) = P F × Each P others

-- They use each variable by its sort.
abbrev pub AreSorted : Sorts → List FormulaTree → Type 0
AreSorted g hypotheses = Each (SortedFormula g) hypotheses

-- They are formed, and canonical.
abbrev pub AreFormed : Environment → Context → List FormulaTree → Type 0
AreFormed env g hypotheses = Each (IsFormedFormula (file_shapes env) (shapes_of g)) hypotheses

-- They are true in the world, with what the environment's predicates say.
abbrev pub AreTrue : Environment → World → List FormulaTree → Type 0
AreTrue env w hypotheses = Each (Holds (recs_of env.recs) w) hypotheses
