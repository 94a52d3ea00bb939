use Rattle.std.proofs.Common.{rules, refl, length}
use Rattle.std.proofs.lemmas.Option.{slice_get_read}
use Rattle.htt_syntax_walk.proofs.Blocks.{depth_starts, depth_continues, depth_ends}
use Rattle.htt_syntax_walk.proofs.proof_parts.depth_after.Goals as goal

pub returns : goal.returns
returns c = record { after = depth_ends c.args.depth c.loop-stmt.stmt-index c.args.stmts.now c.loop-stmt.inner c.loop-stmt.invariant c.loop-stmt-test.false }

pub loop-stmt-init : goal.loop-stmt-init
loop-stmt-init c = depth_starts c.args.depth

pub loop-stmt-preserved : goal.loop-stmt-preserved
loop-stmt-preserved c =
    depth_continues c.args.depth c.loop-stmt.stmt-index c.args.stmts.now c.stmt-item.result c.loop-stmt.inner c.in_ok-inner.inner
    (slice_get_read c.args.stmts.now (length c.args.stmts.now) c.loop-stmt.stmt-index c.stmt-item.result refl c.loop-stmt-test.true
    c.stmt-item.is) c.loop-stmt.invariant (search rules)
