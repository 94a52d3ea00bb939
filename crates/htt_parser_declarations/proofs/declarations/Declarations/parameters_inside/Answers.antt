use Rattle.std.proofs.Common.{◌≡◌, ◌∙◌, sym, ap, drop, [], ◌∷◌, rules}
use Rattle.std.specs.Prelude.{Ok, map}
use Rattle.htt_parser_trees.specs.Trees.{onto}
use Rattle.htt_parser_trees.specs.DeclViews.{raw_mono_param_tree}
use Rattle.theory_grammar.specs.Reading.{deeper}
use Rattle.theory_grammar.specs.Readers.{◌>>=◌}
use Rattle.htt_parser_words.specs.Results.{mapped}
use Rattle.htt_parser_words.proofs.Monotypes.{err_along, gives_along}
use Rattle.htt_parser_words.proofs.Steps.{stopped, after_err}
use Rattle.htt_parser_declarations.specs.Parts.{more_parameters_at, put_param}
use Rattle.htt_parser_declarations.proofs.Lists.{there_next, there_none, there_some}
use Rattle.htt_parser_declarations.proofs.declarations.Declarations.parameters_inside.Goals as goal

pub returns-then-is_sign : goal.returns-then-is_sign
returns-then-is_sign c =
    let us = drop c.args.at c.args.self.now.proofs.phrases.cursor.tokens.now in
    there_none (deeper 63 c.args.left) us (sym c.is_sign.ensures.is ∙ c.if-is_sign.true)
    ∙ ap (λ xs. Ok (map raw_mono_param_tree xs, us)) (sym c.new-parameters.ensures.items)

pub returns-in_err-first : goal.returns-in_err-first
unfolding ◌>>=◌
returns-in_err-first c =
    let us = drop c.args.at c.args.self.now.proofs.phrases.cursor.tokens.now in
    stopped _ _ _ _ _ c.from_residual.ensures.1
    (err_along _ _ _ _ (there_next (deeper 63 c.args.left) us (sym c.is_sign.ensures.is ∙ c.if-is_sign.false))
    (after_err _ _ _ _ c.in_err-first.ensures))

pub returns : goal.returns
returns c =
    let d = deeper 63 c.args.left in
    let rest = drop c.in_ok-first.at c.args.self.now.proofs.phrases.cursor.tokens.now in
    let one : c.push.new.self.items ≡ c.in_ok-first.first ∷ [] = search rules in
    let some = there_some d _ rest (raw_mono_param_tree c.in_ok-first.first) (sym c.is_sign.ensures.is ∙ c.if-is_sign.false) c.in_ok-first.ensures in
    gives_along _ _ _ _ _ (some ∙ ap (λ xs. mapped (onto put_param xs) (more_parameters_at d rest)) (sym one)) c.more_parameters.ensures
