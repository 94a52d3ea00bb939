use Rattle.theory_triples.proofs.Stable.{triple_laws}
use Rattle.theory_triples.proofs.triple_laws.Goals as goal

pub returns : goal.returns
returns c = record { laws = triple_laws }
