use Rattle.std.proofs.Common.{◌≡◌, ◌<◌, ◌-◌, subst, arith, rules}
use Rattle.std.specs.Prelude.{Option, None, Ok}
use Rattle.htt_parser_trees.specs.Trees.{s_end}
use Rattle.htt_parser_trees.specs.TreeViews.{raw_sum_operand_tree}
use Rattle.theory_grammar.specs.Phrases.{sum_on}
use Rattle.theory_grammar.specs.Reading.{deeper}
use Rattle.htt_parser_words.specs.Results.{HasRoom}
use Rattle.htt_parser_words.proofs.Steps.{stopped}
use Rattle.htt_parser_words.proofs.Loops.{loop_empty, chain_more, chain_ends, chain_stops}
use Rattle.htt_parser_operands.proofs.operands.Operands.sum_rest.Goals as goal

pub loop-operands-init : goal.loop-operands-init
loop-operands-init g c = loop_empty raw_sum_operand_tree _ _ c.new-operands.ensures.items

pub returns-in_err-operand : goal.returns-in_err-operand
returns-in_err-operand g c =
    stopped _ _ _ _ _ c.from_residual.ensures.1
    (chain_stops _ _ raw_sum_operand_tree c.loop-operands.operands.items _ _ c.loop-operands.invariant c.in_err-operand.ensures.gives)

pub loop-operands-smaller : goal.loop-operands-smaller
loop-operands-smaller g c =
    let some : 0 < c.loop-operands.room =
    subst (λ (q : Option _). HasRoom (Ok q) c.loop-operands.room) c.in-Some.is c.in_ok-operand.ensures.room in
    omega (arith, some)

pub loop-operands-preserved : goal.loop-operands-preserved
loop-operands-preserved g c =
    chain_more c.args.self.now.level.cursor.tokens.now raw_sum_operand_tree s_end (sum_on (deeper 63 c.args.self.now.level.left)) _
    c.loop-operands.operands.items _ _ _ _ c.loop-operands.at _ c.loop-operands.invariant c.in_ok-operand.ensures.gives c.in-Some.is
    c.in_ok-push.ensures.items

pub returns : goal.returns
returns g c =
    let none : c.in_ok-operand.field-0 ≡ None = search rules in
    chain_ends c.args.self.now.level.cursor.tokens.now raw_sum_operand_tree s_end (sum_on (deeper 63 c.args.self.now.level.left)) _
    c.loop-operands.operands.items _ c.loop-operands.room c.loop-operands.at c.loop-operands.invariant c.in_ok-operand.ensures.gives none
