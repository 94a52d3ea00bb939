use Rattle.std.proofs.Common.{rules, refl, length}
use Rattle.std.proofs.lemmas.Option.{slice_get_read}
use Rattle.htt_syntax.specs.Views.{mono_tree}
use Rattle.htt_syntax_walk.specs.Walk.{walk_mono}
use Rattle.htt_syntax_walk.proofs.Blocks.{items_walked, items_continue}
use Rattle.htt_syntax_walk.proofs.proof_parts.walk_monos.Goals as goal

pub returns : goal.returns
returns g c = record {
  walked =
      items_walked mono_tree (walk_mono (g.A.Action.puts c.args.action.now) c.args.depth) c.loop-mono.mono-index c.args.monos.now
      c.loop-mono.walked.items c.of.result c.of.ensures.same_items c.loop-mono.invariant c.loop-mono-test.false;
}

pub loop-mono-preserved : goal.loop-mono-preserved
loop-mono-preserved g c =
    items_continue mono_tree (walk_mono (g.A.Action.puts c.args.action.now) c.args.depth) c.loop-mono.mono-index c.args.monos.now
    c.loop-mono.walked.items c.push.new.self.items c.mono-item.result c.in_ok-walk_mono.field-0 (search rules)
    (slice_get_read c.args.monos.now (length c.args.monos.now) c.loop-mono.mono-index c.mono-item.result refl c.loop-mono-test.true
    c.mono-item.is) c.loop-mono.invariant c.in_ok-walk_mono.ensures.walked
