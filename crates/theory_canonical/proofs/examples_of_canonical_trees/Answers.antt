use Rattle.theory_canonical.proofs.Examples.{skeletons, foldings, unfolded, expansions, canonical}
use Rattle.theory_canonical.proofs.Computations.{computations, formulas}
use Rattle.theory_canonical.proofs.examples_of_canonical_trees.Goals as goal

pub returns : goal.returns
returns c = record {
  skeletons = skeletons;
  foldings = foldings;
  no_foldings = unfolded;
  expansions = expansions;
  canonical = canonical;
  computations = computations;
  formulas = formulas;
}
