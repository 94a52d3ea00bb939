use Rattle.theory_meaning_triples.proofs.Triples.{meets}
use Rattle.theory_meaning_triples.proofs.text_meets_triples.Goals as goal

pub returns : goal.returns
returns c = record { law = meets }
