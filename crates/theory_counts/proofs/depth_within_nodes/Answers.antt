use Rattle.theory_counts.proofs.Shallow.{mono_shallow, ty_shallow, term_shallow, comp_shallow, formula_shallow, proof_shallow}
use Rattle.theory_counts.proofs.depth_within_nodes.Goals as goal

pub returns : goal.returns
returns c = record {
  law = record {
    monos = mono_shallow;
    types = ty_shallow;
    terms = term_shallow;
    comps = comp_shallow;
    formulas = formula_shallow;
    proofs = proof_shallow;
  };
}
