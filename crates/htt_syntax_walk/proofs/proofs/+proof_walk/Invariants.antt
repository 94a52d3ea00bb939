use Rattle.std.proofs.Common.{◌≡◌, take, map}
use Rattle.htt_syntax.specs.ProofViews.{stmt_tree}
use Rattle.htt_syntax_walk.specs.Descent.{walked_stmts, depth_after}
use Rattle.htt_syntax_walk.proofs.proofs.+proof_walk.Given as goal

abbrev pub invariant-walk_stmts-loop-stmt : goal.invariant-walk_stmts-loop-stmt
invariant-walk_stmts-loop-stmt g l =
    (map stmt_tree l.walked.items ≡ walked_stmts (g.A.Action.puts l.action) l.depth (map stmt_tree (take l.stmt-index l.stmts)))
    × (l.inner ≡ depth_after l.depth (map stmt_tree (take l.stmt-index l.stmts)))
