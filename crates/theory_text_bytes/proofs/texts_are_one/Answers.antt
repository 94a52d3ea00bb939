use Rattle.theory_text_bytes.proofs.One.{texts}
use Rattle.theory_text_bytes.proofs.texts_are_one.Goals as goal

pub returns : goal.returns
returns c = record { law = texts }
