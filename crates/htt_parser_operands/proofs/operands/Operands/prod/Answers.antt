use Rattle.std.proofs.Common.{◌-◌, ◌∙◌, refl, drop}
use Rattle.htt_parser_trees.specs.TreeLevels.{raw_prod_tree}
use Rattle.htt_parser_words.proofs.Monotypes.{err_along}
use Rattle.htt_parser_words.proofs.Steps.{stopped, after_err, reading}
use Rattle.htt_parser_operands.proofs.Choices.{prod_is}
use Rattle.htt_parser_operands.proofs.operands.Operands.prod.Goals as goal

pub returns-in_err-first : goal.returns-in_err-first
unfolding reading
returns-in_err-first g c =
    stopped _ _ _ _ _ c.from_residual.ensures.1
    (err_along _ _ _ _ (prod_is c.args.self.now.level.left (drop c.args.at c.args.self.now.level.cursor.tokens.now))
    (after_err _ _ _ _ c.in_err-first.ensures))

pub returns-in_err-rest : goal.returns-in_err-rest
unfolding reading
returns-in_err-rest g c =
    stopped _ _ _ _ _ c.from_residual-in_err-rest.ensures.1
    (err_along _ _ _ _ (prod_is c.args.self.now.level.left (drop c.args.at c.args.self.now.level.cursor.tokens.now))
    (rw c.in_ok-first.ensures (after_err _ _ _ _ c.in_err-rest.ensures)))

pub returns : goal.returns
unfolding reading raw_prod_tree
returns g c =
    (prod_is c.args.self.now.level.left (drop c.args.at c.args.self.now.level.cursor.tokens.now))
    ∙ rw (c.in_ok-first.ensures, c.in_ok-rest.ensures, c.of.ensures.same_items) refl
