use Rattle.std.proofs.Common.{◌≡◌, ◌-◌, drop}
use Rattle.htt_parser_trees.specs.Trees.{onto}
use Rattle.htt_parser_trees.specs.TreeViews.{raw_part_tree}
use Rattle.theory_grammar.specs.Phrases.{parts_on}
use Rattle.theory_grammar.specs.Reading.{deeper}
use Rattle.htt_parser_words.specs.Results.{mapped}
use Rattle.htt_parser_operands.proofs.operands.Operands.parts.Given as goal

abbrev pub invariant-loop-parts : goal.invariant-loop-parts
invariant-loop-parts g l =
    parts_on (deeper 63 l.self.level.left) 63 (drop l.fn.at l.self.level.cursor.tokens.now)
    ≡ mapped (onto raw_part_tree l.parts.items) (parts_on (deeper 63 l.self.level.left) l.room (drop l.at l.self.level.cursor.tokens.now))

abbrev pub decreases-loop-parts : goal.decreases-loop-parts
decreases-loop-parts g l = l.room
