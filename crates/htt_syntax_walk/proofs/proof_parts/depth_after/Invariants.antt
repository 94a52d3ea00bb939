use Rattle.std.proofs.Common.{◌≡◌, take, map}
use Rattle.htt_syntax.specs.ProofViews.{stmt_tree}
use Rattle.htt_syntax_walk.specs.Descent.{depth_after}
use Rattle.htt_syntax_walk.proofs.proof_parts.depth_after.Given as goal

abbrev pub invariant-loop-stmt : goal.invariant-loop-stmt
invariant-loop-stmt l = l.inner ≡ depth_after l.depth (map stmt_tree (take l.stmt-index l.stmts))
