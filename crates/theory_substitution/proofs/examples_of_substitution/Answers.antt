use Rattle.theory_substitution.proofs.Examples.{applications, terms, monotypes, computations, others, binders}
use Rattle.theory_substitution.proofs.examples_of_substitution.Goals as goal

pub returns : goal.returns
returns c = record { applications = applications; terms = terms; monotypes = monotypes; computations = computations; others = others; binders = binders }
