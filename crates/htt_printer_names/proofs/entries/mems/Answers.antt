use Rattle.htt_resolve_scopes.specs.declared.local.Sort.TheVariants as sorts
use Rattle.std.proofs.Common.{arith}
use Rattle.theory_text_names.specs.Uses.{is_mem}
use Rattle.htt_printer_names.proofs.Inward.{count_none, count_step}
use Rattle.htt_printer_names.proofs.entries.mems.Goals as goal

pub loop-sort-init : goal.loop-sort-init
loop-sort-init c = (count_none is_mem, omega arith)

pub loop-sort-preserved : goal.loop-sort-preserved
loop-sort-preserved c =
    count_step is_mem c.args.entries.now c.loop-sort.sort-index c.loop-sort.count c.from-count.result c.is_mem.result sorts.Mono
    c.loop-sort.invariant.0 c.loop-sort.invariant.1 c.loop-sort-test.true c.is_mem.ensures.mem c.from-count.ensures
