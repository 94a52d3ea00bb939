use Rattle.std.proofs.Common.{◌≡◌, ◌∙◌, sym, ap, drop, [], ◌∷◌, rules}
use Rattle.std.specs.Prelude.{Ok, map}
use Rattle.htt_parser_trees.specs.Trees.{onto}
use Rattle.htt_parser_trees.specs.ProofViews.{raw_arg_tree}
use Rattle.theory_grammar.specs.Reading.{deeper, more_args}
use Rattle.htt_parser_words.specs.Results.{mapped}
use Rattle.htt_parser_words.proofs.Monotypes.{gives_along}
use Rattle.htt_parser_proofs.specs.Parts.{put_arg}
use Rattle.htt_parser_proofs.proofs.Lists.{there_none, there_some}
use Rattle.htt_parser_proofs.proofs.proofs.Proofs.arguments.Goals as goal

pub returns-then-is_sign : goal.returns-then-is_sign
returns-then-is_sign c =
    let us = drop c.args.at c.args.self.now.phrases.cursor.tokens.now in
    there_none (deeper 63 c.args.left) us (sym c.is_sign.ensures.is ∙ c.if-is_sign.true)
    ∙ ap (λ xs. Ok (map raw_arg_tree xs, us)) (sym c.new-arguments.ensures.items)

pub returns : goal.returns
returns c =
    let d = deeper 63 c.args.left in
    let rest = drop c.in_ok-first.at c.args.self.now.phrases.cursor.tokens.now in
    let one : c.push.new.self.items ≡ c.in_ok-first.first ∷ [] = search rules in
    let some = there_some d _ rest (raw_arg_tree c.in_ok-first.first) (sym c.is_sign.ensures.is ∙ c.if-is_sign.false) c.in_ok-first.ensures in
    gives_along _ _ _ _ _ (some ∙ ap (λ xs. mapped (onto put_arg xs) (more_args d rest)) (sym one)) c.more_arguments.ensures
