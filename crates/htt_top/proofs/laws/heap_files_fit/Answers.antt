use Rattle.htt_top.proofs.SizeLemmas.{heap_files_fit_lem}
use Rattle.htt_top.proofs.laws.heap_files_fit.Goals as goal

pub returns : goal.returns
returns c = record { law = heap_files_fit_lem }
