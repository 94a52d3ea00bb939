use Rattle.std.proofs.Common.{◌≡◌, ◌+◌, ◌*◌, drop, reverse, vec_len}
use Rattle.theory_grammar.specs.Phrases.{mono_closes}
use Rattle.theory_grammar.specs.Reading.{deeper}
use Rattle.htt_parser_trees.specs.Trees.{RawMonoTree}
use Rattle.htt_parser_trees.specs.MonoLevels.{raw_brackets_tree}
use Rattle.htt_parser_words.proofs.cursor.Cursor.+mono.Given as goal

abbrev pub decreases-mono : goal.decreases-mono
decreases-mono l = l.left * 4 + 3

abbrev pub decreases-closes : goal.decreases-closes
decreases-closes l = l.left * 4 + 2

abbrev pub decreases-mono_right : goal.decreases-mono_right
decreases-mono_right l = l.left * 4 + 1

abbrev pub decreases-deeper_mono : goal.decreases-deeper_mono
decreases-deeper_mono l = l.left * 4

-- closing the brackets that are left round what was closed
abbrev pub invariant-closes-loop-open : goal.invariant-closes-loop-open
invariant-closes-loop-open l =
    (m : RawMonoTree)
    → mono_closes (deeper 63 l.left) (reverse l.initial.opens.items) m (drop l.initial.at l.self.tokens.now)
    ≡ mono_closes (deeper 63 l.left) (reverse l.opens.items) (raw_brackets_tree l.brackets.items m) (drop l.at l.self.tokens.now)

abbrev pub decreases-closes-loop-open : goal.decreases-closes-loop-open
decreases-closes-loop-open l = vec_len l.opens
