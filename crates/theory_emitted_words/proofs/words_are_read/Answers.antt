use Rattle.theory_emitted_words.proofs.Words.{read}
use Rattle.theory_emitted_words.proofs.words_are_read.Goals as goal

pub returns : goal.returns
returns c = record { law = read }
