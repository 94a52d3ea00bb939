use Rattle.std.proofs.Common.{◌≡◌, ap}
use Rattle.htt_base.specs.declared.mem_files.MemFiles.{MemFiles}
use Rattle.htt_base.proofs.HeldLemmas.{written_done}
use Rattle.htt_base.proofs.mem_files.MemFilesFiles.write.Goals as goal

pub returns-in-Ok-clause-gives : goal.returns-in-Ok-clause-gives
returns-in-Ok-clause-gives c =
    let entries : c.fails.new.self.entries.items ≡ c.args.self.now.entries.items = ap (λ (f : MemFiles). f.entries.items) c.fails.ensures.counted in
    rw (← entries) (written_done _ _ _ _ c.in-Ok.ensures.ok)
