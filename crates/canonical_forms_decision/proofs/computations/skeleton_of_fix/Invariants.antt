use Rattle.std.proofs.Common.{◌≡◌, ◌≤◌, drop, length}
use Rattle.htt_syntax.specs.Trees.{x_body}
use Rattle.htt_syntax.specs.Levels.{params_tree, triple_tree, comp_tree}
use Rattle.theory_denotation.specs.Denotation.{fix_skeleton}
use Rattle.canonical_forms_skeletons.specs.Views.{skeleton_tree}
use Rattle.canonical_forms_decision.proofs.computations.skeleton_of_fix.Given as goal

-- the skeleton from the parameter on that is reached
abbrev pub invariant-loop-left : goal.invariant-loop-left
invariant-loop-left l =
    (skeleton_tree l.whole ≡ fix_skeleton (params_tree (drop l.left l.fix.params) (x_body (triple_tree l.fix.triple) (comp_tree l.fix.body))))
    × (l.left ≤ length l.fix.params)

abbrev pub decreases-loop-left : goal.decreases-loop-left
decreases-loop-left l = l.left
