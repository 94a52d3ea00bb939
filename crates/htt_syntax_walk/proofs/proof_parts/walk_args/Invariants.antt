use Rattle.std.proofs.Common.{◌≡◌, take, map}
use Rattle.htt_syntax.specs.ProofViews.{arg_tree}
use Rattle.htt_syntax_walk.specs.WalkProof.{walk_arg}
use Rattle.htt_syntax_walk.proofs.proof_parts.walk_args.Given as goal

abbrev pub invariant-loop-arg : goal.invariant-loop-arg
invariant-loop-arg g l = map arg_tree l.walked.items ≡ map (walk_arg (g.A.Action.puts l.action) l.depth) (map arg_tree (take l.arg-index l.args))
