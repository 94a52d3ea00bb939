use Rattle.word_loader_format.proofs.LawProofs.{one_refusal_lem}
use Rattle.word_loader_format.proofs.laws.one_refusal.Goals as goal

pub returns : goal.returns
returns c = record { law = one_refusal_lem }
