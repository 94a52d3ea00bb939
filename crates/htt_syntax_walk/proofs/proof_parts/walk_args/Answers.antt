use Rattle.std.proofs.Common.{rules, refl, length}
use Rattle.std.proofs.lemmas.Option.{slice_get_read}
use Rattle.htt_syntax.specs.ProofViews.{arg_tree}
use Rattle.htt_syntax_walk.specs.WalkProof.{walk_arg}
use Rattle.htt_syntax_walk.proofs.Blocks.{items_walked, items_continue}
use Rattle.htt_syntax_walk.proofs.proof_parts.walk_args.Goals as goal

pub returns : goal.returns
returns g c = record {
  walked =
      items_walked arg_tree (walk_arg (g.A.Action.puts c.args.action.now) c.args.depth) c.loop-arg.arg-index c.args.args.now
      c.loop-arg.walked.items c.of.result c.of.ensures.same_items c.loop-arg.invariant c.loop-arg-test.false;
}

pub loop-arg-preserved : goal.loop-arg-preserved
loop-arg-preserved g c =
    items_continue arg_tree (walk_arg (g.A.Action.puts c.args.action.now) c.args.depth) c.loop-arg.arg-index c.args.args.now
    c.loop-arg.walked.items c.push.new.self.items c.arg-item.result c.in_ok-walk_arg.field-0 (search rules)
    (slice_get_read c.args.args.now (length c.args.args.now) c.loop-arg.arg-index c.arg-item.result refl c.loop-arg-test.true c.arg-item.is)
    c.loop-arg.invariant c.in_ok-walk_arg.ensures.walked
