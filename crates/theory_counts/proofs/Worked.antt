-- The counts compute.
use Rattle.std.proofs.Common.{refl}
use Rattle.theory_counts.specs.Nodes.{nodes_mono, nodes_option, nodes_monos, nodes_ty, nodes_arg, nodes_args, nodes_proof}
use Rattle.theory_counts.specs.Depth.{depth_mono, depth_option, depth_monos, depth_ty, depth_arg, depth_args, depth_proof}
use Rattle.theory_counts.specs.Examples.{WorkedCounts}

pub worked : WorkedCounts
unfolding nodes_mono nodes_option nodes_monos nodes_ty nodes_arg nodes_args nodes_proof depth_mono depth_option depth_monos depth_ty
    depth_arg depth_args depth_proof
worked = record {
  pair = refl;
  pair_depth = refl;
  word = refl;
  routine = refl;
  routine_depth = refl;
  annotated = refl;
  annotated_depth = refl;
  body = refl;
  body_depth = refl;
  two_steps = refl;
  two_steps_depth = refl;
  branches = refl;
  branches_depth = refl;
  recursion = refl;
  recursion_depth = refl;
  star = refl;
  star_depth = refl;
  atom = refl;
  made = refl;
  block = refl;
  block_depth = refl;
  axiom_proof = refl;
  axiom_proof_depth = refl;
  five_times = refl;
  six_times = refl;
  six_times_depth = refl;
  forty_claims = refl;
  forty_claims_depth = refl;
  sixteen_cells = refl;
  sixteen_cells_depth = refl;
  implied_depth = refl;
}
