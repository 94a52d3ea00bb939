use Rattle.htt_lexer.proofs.TokenLaws.{laws}
use Rattle.htt_lexer.proofs.laws.token_laws.Goals as goal

pub returns : goal.returns
returns c = record { laws = laws }
