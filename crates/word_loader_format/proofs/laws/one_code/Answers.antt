use Rattle.word_loader_format.proofs.LawProofs.{one_code_lem}
use Rattle.word_loader_format.proofs.laws.one_code.Goals as goal

pub returns : goal.returns
returns c = record { law = one_code_lem }
