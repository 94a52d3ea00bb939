use Rattle.word_loader_code.proofs.Codes.{codes}
use Rattle.word_loader_code.proofs.laws.worked_code.Goals as goal

pub returns : goal.returns
returns c = record { examples = codes }
