use Rattle.word_loader_code.proofs.Steps.{over_is_final_lem}
use Rattle.word_loader_code.proofs.laws.over_is_final.Goals as goal

pub returns : goal.returns
returns c = record { law = over_is_final_lem }
