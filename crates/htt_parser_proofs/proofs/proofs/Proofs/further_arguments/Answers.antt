use Rattle.std.proofs.Common.{◌≡◌, ◌-◌, ◌<◌, ◌∙◌, ◌++◌, [], ◌∷◌, ap, sym, subst, ℕ, drop, rules, arith}
use Rattle.std.specs.Prelude.{Ok, Option}
use Rattle.htt_parser_trees.specs.ProofViews.{raw_arg_tree}
use Rattle.theory_grammar.specs.Reading.{args_on, deeper}
use Rattle.htt_parser_words.specs.Results.{HasRoom}
use Rattle.htt_parser_words.proofs.Steps.{stopped}
use Rattle.htt_parser_words.proofs.Loops.{chain_more, chain_ends, chain_stops, onto_map}
use Rattle.htt_parser_proofs.specs.Parts.{put_arg}
use Rattle.htt_parser_proofs.proofs.Lists.{onto_none}
use Rattle.htt_parser_proofs.proofs.proofs.Proofs.further_arguments.Goals as goal

pub returns-in_err-argument : goal.returns-in_err-argument
returns-in_err-argument c =
    stopped _ _ _ _ _ c.from_residual.ensures.1
    (chain_stops _ _ put_arg c.loop-arguments.arguments.items _ _ c.loop-arguments.invariant c.in_err-argument.ensures.gives)

pub loop-arguments-init : goal.loop-arguments-init
loop-arguments-init c = sym (onto_none put_arg _ _ c.new-arguments.ensures.items)

pub loop-arguments-smaller : goal.loop-arguments-smaller
loop-arguments-smaller c =
    let some : 0 < c.loop-arguments.room = subst (λ (q : Option _). HasRoom (Ok q) c.loop-arguments.room) c.in-Some.is c.in_ok-argument.ensures.room in
    omega arith

pub loop-arguments-preserved : goal.loop-arguments-preserved
loop-arguments-preserved c =
    let pushed : c.push.new.self.items ≡ c.loop-arguments.arguments.items ++ c.in-Some.argument ∷ [] = search rules in
    chain_more _ put_arg [] (args_on (deeper 63 c.args.left)) _ _ _ _ _ _ _ _ c.loop-arguments.invariant c.in_ok-argument.ensures.gives c.in-Some.is pushed

pub returns : goal.returns
returns c =
    let us = drop c.loop-arguments.at c.args.self.now.phrases.cursor.tokens.now in
    chain_ends _ put_arg [] (args_on (deeper 63 c.args.left)) _ c.loop-arguments.arguments.items _ _ c.loop-arguments.at
    c.loop-arguments.invariant c.in_ok-argument.ensures.gives (search rules)
    ∙ ap (λ xs. Ok (xs, us)) (onto_map raw_arg_tree c.loop-arguments.arguments.items)
