use Rattle.theory_denotation_heads.proofs.Files.{denote}
use Rattle.theory_denotation_heads.proofs.file_entries_denote.Goals as goal

pub returns : goal.returns
returns c = record { law = denote }
