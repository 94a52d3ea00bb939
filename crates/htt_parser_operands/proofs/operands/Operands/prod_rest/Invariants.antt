use Rattle.std.proofs.Common.{◌≡◌, ◌-◌, drop}
use Rattle.htt_parser_trees.specs.Trees.{onto}
use Rattle.htt_parser_trees.specs.TreeViews.{raw_prod_operand_tree}
use Rattle.theory_grammar.specs.Phrases.{prod_on}
use Rattle.theory_grammar.specs.Reading.{deeper}
use Rattle.htt_parser_words.specs.Results.{mapped}
use Rattle.htt_parser_operands.proofs.operands.Operands.prod_rest.Given as goal

abbrev pub invariant-loop-operands : goal.invariant-loop-operands
invariant-loop-operands g l =
    prod_on (deeper 63 l.self.level.left) 63 (drop l.fn.at l.self.level.cursor.tokens.now)
    ≡ mapped (onto raw_prod_operand_tree l.operands.items)
    (prod_on (deeper 63 l.self.level.left) l.room (drop l.at l.self.level.cursor.tokens.now))

abbrev pub decreases-loop-operands : goal.decreases-loop-operands
decreases-loop-operands g l = l.room
