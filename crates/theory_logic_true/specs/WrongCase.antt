-- A case distinction whose second branch has the first branch's hypothesis beside its own.
use Rattle.std.specs.Prelude.{List, [], ◌∷◌, ◌++◌}
use Rattle.htt_syntax.specs.Trees.{FormulaTree, ProofTree, f_ff, f_or}
use Rattle.theory_truth.specs.Worlds.{World}
use Rattle.theory_truth.specs.Truth.{Holds}
use Rattle.theory_truth.specs.Predicates.{recs_of}
use Rattle.theory_typing.specs.Contexts.{Context, Environment}
use Rattle.theory_logic_rules.specs.Rules.{Infers, Proves}

-- The premises of that wrong rule.
pub record WrongCase (env :
    Environment) (g : Context) (hypotheses : List FormulaTree) (p q r : ProofTree) (A B goal : FormulaTree) :
    Type 0 where
  pub alternatives : Infers env g hypotheses p (f_or A B)
  pub first_branch : Proves env g (hypotheses ++ A ∷ []) q goal
  pub second_branch : Proves env g (hypotheses ++ A ∷ B ∷ []) r goal

-- In each environment and context some alternatives and proofs meet them without hypotheses, for a goal
-- that is true in no world.
pub record IsWrong (env : Environment) (g : Context) : Type 0 where
  pub alternatives : ProofTree
  pub first_branch : ProofTree
  pub second_branch : ProofTree
  pub left : FormulaTree
  pub right : FormulaTree
  pub premises : WrongCase env g [] alternatives first_branch second_branch left right f_ff
  pub never_true : (w : World) → Holds (recs_of env.recs) w f_ff → ⊥

abbrev pub BranchesNeedTheirOwn : Type 0
BranchesNeedTheirOwn = (env : Environment) (g : Context) → IsWrong env g
