use Rattle.word_loader_format.proofs.LawProofs.{coded_isnt_refused_lem}
use Rattle.word_loader_format.proofs.laws.coded_isnt_refused.Goals as goal

pub returns : goal.returns
returns c = record { law = coded_isnt_refused_lem }
