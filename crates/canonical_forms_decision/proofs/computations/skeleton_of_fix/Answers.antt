use Rattle.std.proofs.Common.{length, ap, sym, ◌∙◌, arith}
use Rattle.htt_syntax.specs.Trees.{x_body}
use Rattle.htt_syntax.specs.Levels.{triple_tree, comp_tree, fix_tree}
use Rattle.canonical_forms_skeletons.specs.Levels.{skeleton_c}
use Rattle.canonical_forms_decision.proofs.Loops.{skeleton_end, skeleton_before, whole_skeleton}
use Rattle.canonical_forms_decision.proofs.computations.skeleton_of_fix.Goals as goal

pub loop-left-init : goal.loop-left-init
loop-left-init c =
    let same = c.as_slice-params.ensures.same_items in
    let params = c.args.fix.now.params in
    let read = c.as_slice-params.result.now in
    let long = ap length same in (
      skeleton_c ∙ sym (skeleton_end (length read) read params (triple_tree c.args.fix.now.triple) (comp_tree c.args.fix.now.body) same (omega arith)),
      omega (arith, long),
    )

pub loop-left-preserved : goal.loop-left-preserved
loop-left-preserved c =
    skeleton_before c.loop-left.left c.as_slice-params.result.now c.args.fix.now.params c.index-params-left.result
    (x_body (triple_tree c.args.fix.now.triple) (comp_tree c.args.fix.now.body)) _ _ c.as_slice-params.ensures.same_items
    c.loop-left-test.true c.loop-left.invariant.1 c.index-params-left.is c.in_ok-whole.ensures.arrow c.loop-left.invariant.0

pub returns : goal.returns
unfolding fix_tree
returns c = record { skeleton = whole_skeleton c.loop-left.left c.args.fix.now.params _ _ c.loop-left-test.false c.loop-left.invariant.0 }
