use Rattle.htt_lexer.proofs.Examples.{worked}
use Rattle.htt_lexer.proofs.laws.worked_examples.Goals as goal

pub returns : goal.returns
returns c = record { examples = worked }
