use Rattle.htt_base.proofs.FailingLemmas.{Contains-decided}
use Rattle.htt_base.proofs.mem_files.MemFiles.fails.Goals as goal

pub returns-clause-fails : goal.returns-clause-fails
returns-clause-fails c = rw (← c.deref.ensures.value) (Contains-decided _ _ _ c.contains.ensures.cases)
