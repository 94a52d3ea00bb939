use Rattle.std.proofs.Common.{◌-◌, ◌∙◌, refl, drop}
use Rattle.htt_parser_trees.specs.TreeLevels.{raw_appl_apply}
use Rattle.htt_parser_words.proofs.Monotypes.{err_along}
use Rattle.htt_parser_words.proofs.Steps.{stopped, after_err, reading}
use Rattle.htt_parser_operands.proofs.Choices.{apply_is}
use Rattle.htt_parser_operands.proofs.operands.Operands.apply.Goals as goal

pub returns-in_err-head : goal.returns-in_err-head
unfolding reading
returns-in_err-head g c =
    stopped _ _ _ _ _ c.from_residual.ensures.1
    (err_along _ _ _ _ (apply_is c.args.self.now.level.left (drop c.args.at c.args.self.now.level.cursor.tokens.now))
    (after_err _ _ _ _ c.in_err-head.ensures))

pub returns-in_err-parts : goal.returns-in_err-parts
unfolding reading
returns-in_err-parts g c =
    stopped _ _ _ _ _ c.from_residual-in_err-parts.ensures.1
    (err_along _ _ _ _ (apply_is c.args.self.now.level.left (drop c.args.at c.args.self.now.level.cursor.tokens.now))
    (rw c.in_ok-head.ensures (after_err _ _ _ _ c.in_err-parts.ensures)))

pub returns : goal.returns
unfolding reading
returns g c =
    (apply_is c.args.self.now.level.left (drop c.args.at c.args.self.now.level.cursor.tokens.now))
    ∙ rw (c.in_ok-head.ensures, c.in_ok-parts.ensures, raw_appl_apply, c.of.ensures.same_items) refl
