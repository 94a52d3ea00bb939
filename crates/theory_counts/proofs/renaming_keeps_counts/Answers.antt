use Rattle.theory_counts.proofs.NodesKept.{nodes_mono_kept, nodes_ty_kept, nodes_term_kept, nodes_comp_kept, nodes_formula_kept, nodes_proof_kept}
use Rattle.theory_counts.proofs.DepthKept.{depth_mono_kept, depth_ty_kept, depth_term_kept, within_comp_kept, depth_formula_kept, depth_proof_kept}
use Rattle.std.proofs.Common.{suc}
use Rattle.theory_counts.proofs.renaming_keeps_counts.Goals as goal

pub returns : goal.returns
returns c = record {
  nodes = record {
    monos = nodes_mono_kept;
    types = nodes_ty_kept;
    terms = nodes_term_kept;
    comps = nodes_comp_kept;
    formulas = nodes_formula_kept;
    proofs = nodes_proof_kept;
  };
  depth = record {
    monos = depth_mono_kept;
    types = depth_ty_kept;
    terms = depth_term_kept;
    comps = λ m comp j. suc (within_comp_kept m comp j);
    formulas = depth_formula_kept;
    proofs = depth_proof_kept;
  };
}
