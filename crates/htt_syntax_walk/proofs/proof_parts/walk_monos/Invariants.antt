use Rattle.std.proofs.Common.{◌≡◌, take, map}
use Rattle.htt_syntax.specs.Views.{mono_tree}
use Rattle.htt_syntax_walk.specs.Walk.{walk_mono}
use Rattle.htt_syntax_walk.proofs.proof_parts.walk_monos.Given as goal

abbrev pub invariant-loop-mono : goal.invariant-loop-mono
invariant-loop-mono g l = map mono_tree l.walked.items ≡ map (walk_mono (g.A.Action.puts l.action) l.depth) (map mono_tree (take l.mono-index l.monos))
