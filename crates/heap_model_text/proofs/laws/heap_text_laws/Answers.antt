use Rattle.heap_model_text.proofs.FileLemmas.{heap_text_laws}
use Rattle.heap_model_text.proofs.laws.heap_text_laws.Goals as goal

pub returns : goal.returns
returns c = record { laws = heap_text_laws }
