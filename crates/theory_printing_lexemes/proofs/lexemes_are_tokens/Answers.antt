use Rattle.theory_printing_lexemes.proofs.Lexemes.{lexemes}
use Rattle.theory_printing_lexemes.proofs.lexemes_are_tokens.Goals as goal

pub returns : goal.returns
returns c = record { law = lexemes }
