use Rattle.std.proofs.Common.{rules, refl, length}
use Rattle.std.proofs.lemmas.Option.{slice_get_read}
use Rattle.htt_syntax_walk.proofs.Blocks.{stmts_start, stmts_continue, stmts_end, depth_starts, depth_continues}
use Rattle.htt_syntax_walk.proofs.proofs.+proof_walk.Goals as goal

pub walk_stmts-returns : goal.walk_stmts-returns
walk_stmts-returns g t c = record {
  walked =
      stmts_end (g.A.Action.puts c.args.action.now) c.args.depth c.loop-stmt.stmt-index c.args.stmts.now c.loop-stmt.walked.items
      c.of.result c.of.ensures.same_items c.loop-stmt.invariant.0 c.loop-stmt-test.false;
}

pub walk_stmts-loop-stmt-init : goal.walk_stmts-loop-stmt-init
walk_stmts-loop-stmt-init g t c = (
  stmts_start (g.A.Action.puts c.args.action.now) c.args.depth c.new-walked.result.items c.new-walked.ensures.items,
  depth_starts c.args.depth,
)

pub walk_stmts-loop-stmt-preserved : goal.walk_stmts-loop-stmt-preserved
walk_stmts-loop-stmt-preserved g t c = (
  stmts_continue (g.A.Action.puts c.args.action.now) c.args.depth c.loop-stmt.stmt-index c.args.stmts.now c.loop-stmt.walked.items
      c.push.new.self.items c.stmt-item.result c.in_ok-walk_stmt.field-0 c.loop-stmt.inner (search rules)
      (slice_get_read c.args.stmts.now (length c.args.stmts.now) c.loop-stmt.stmt-index c.stmt-item.result refl c.loop-stmt-test.true
      c.stmt-item.is) c.loop-stmt.invariant.0 c.loop-stmt.invariant.1 c.in_ok-walk_stmt.ensures.walked,
  depth_continues c.args.depth c.loop-stmt.stmt-index c.args.stmts.now c.stmt-item.result c.loop-stmt.inner c.in_ok-inner.inner
      (slice_get_read c.args.stmts.now (length c.args.stmts.now) c.loop-stmt.stmt-index c.stmt-item.result refl c.loop-stmt-test.true
      c.stmt-item.is) c.loop-stmt.invariant.1 (search rules),
)
