use Rattle.std.proofs.Common.{◌<◌, length, arith}
use Rattle.htt_base.proofs.TakenLemmas.{taken_whole}
use Rattle.htt_base.proofs.real_files.read_up_to.Goals as goal

pub returns-in-Ok-2-clause-whole : goal.returns-in-Ok-2-clause-whole
returns-in-Ok-2-clause-whole g c =
    let fewer : length c.read_to_end.new.buf.items < c.take.result.limit = omega arith in
    rw (← c.take.ensures.inner) (taken_whole _ c.take.result.limit _ (rw c.new-bytes.ensures.items at c.in-Ok-2.ensures.bytes) fewer)
