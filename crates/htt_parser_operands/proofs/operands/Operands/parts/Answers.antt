use Rattle.std.proofs.Common.{◌≡◌, ◌<◌, ◌-◌, subst, arith, rules}
use Rattle.std.specs.Prelude.{Option, None, Ok}
use Rattle.htt_parser_trees.specs.Trees.{no_parts}
use Rattle.htt_parser_trees.specs.TreeViews.{raw_part_tree}
use Rattle.theory_grammar.specs.Phrases.{parts_on}
use Rattle.theory_grammar.specs.Reading.{deeper}
use Rattle.htt_parser_words.specs.Results.{HasRoom}
use Rattle.htt_parser_words.proofs.Steps.{stopped}
use Rattle.htt_parser_words.proofs.Loops.{loop_empty, chain_more, chain_ends, chain_stops}
use Rattle.htt_parser_operands.proofs.operands.Operands.parts.Goals as goal

pub loop-parts-init : goal.loop-parts-init
loop-parts-init g c = loop_empty raw_part_tree _ _ c.new-parts.ensures.items

pub returns-in_err-part : goal.returns-in_err-part
returns-in_err-part g c =
    stopped _ _ _ _ _ c.from_residual.ensures.1
    (chain_stops _ _ raw_part_tree c.loop-parts.parts.items _ _ c.loop-parts.invariant c.in_err-part.ensures.gives)

pub loop-parts-smaller : goal.loop-parts-smaller
loop-parts-smaller g c =
    let some : 0 < c.loop-parts.room = subst (λ (q : Option _). HasRoom (Ok q) c.loop-parts.room) c.in-Some.is c.in_ok-part.ensures.room in
    omega (arith, some)

pub loop-parts-preserved : goal.loop-parts-preserved
loop-parts-preserved g c =
    chain_more c.args.self.now.level.cursor.tokens.now raw_part_tree no_parts (parts_on (deeper 63 c.args.self.now.level.left)) _
    c.loop-parts.parts.items _ _ _ _ c.loop-parts.at _ c.loop-parts.invariant c.in_ok-part.ensures.gives c.in-Some.is
    c.in_ok-push.ensures.items

pub returns : goal.returns
returns g c =
    let none : c.in_ok-part.field-0 ≡ None = search rules in
    chain_ends c.args.self.now.level.cursor.tokens.now raw_part_tree no_parts (parts_on (deeper 63 c.args.self.now.level.left)) _
    c.loop-parts.parts.items _ c.loop-parts.room c.loop-parts.at c.loop-parts.invariant c.in_ok-part.ensures.gives none
