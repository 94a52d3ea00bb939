-- The computation that has one step.
use Rattle.std.proofs.Common.{◌≡◌, refl, List, [], ◌∷◌}
use Rattle.htt_syntax.specs.Trees.{t_var, c_ret, c_step}
use Rattle.htt_syntax.specs.Views.{step_tree}
use Rattle.htt_syntax.specs.Levels.{steps_tree}
use Rattle.htt_syntax.specs.declared.tree.Step.{Step}

pub one_run : (steps : List Step) (step : Step) → steps ≡ step ∷ [] → steps_tree steps (t_var 0) ≡ c_step (step_tree step) (c_ret (t_var 0))
one_run steps step e = rw e refl
