use Rattle.word_loader_format.proofs.LawProofs.{coded_or_refused_lem}
use Rattle.word_loader_format.proofs.laws.coded_or_refused.Goals as goal

pub returns : goal.returns
returns c = record { law = coded_or_refused_lem }
