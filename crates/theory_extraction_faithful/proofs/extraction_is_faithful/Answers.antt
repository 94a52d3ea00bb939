use Rattle.theory_extraction_faithful.proofs.Faithful.{faithful}
use Rattle.theory_extraction_faithful.proofs.extraction_is_faithful.Goals as goal

pub returns : goal.returns
returns c = record { law = faithful }
