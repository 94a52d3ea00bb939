use Rattle.theory_text_bytes.proofs.One.{stops}
use Rattle.theory_text_bytes.proofs.stops_are_one.Goals as goal

pub returns : goal.returns
returns c = record { law = stops }
