use Rattle.std.proofs.Common.{◌≡◌, [], ◌∷◌, ◌++◌, ◌∙◌, ap, drop, refl, rules}
use Rattle.std.specs.Prelude.{Ok}
use Rattle.htt_lexer_tokens.specs.declared.tokens.Kind.TheVariants.{Sign}
use Rattle.htt_lexer_tokens.specs.declared.tokens.Sign.TheVariants.{CommaSign}
use Rattle.htt_parser_trees.specs.DeclViews.{raw_mono_param_tree}
use Rattle.theory_grammar.specs.Readers.{after_commas, give}
use Rattle.theory_grammar.specs.Reading.{mono_parameter_reader, deeper}
use Rattle.htt_parser_words.proofs.Steps.{stopped}
use Rattle.htt_parser_words.proofs.Loops.{loop_more, loop_ends, loop_is_over, loop_stops, onto_map}
use Rattle.htt_parser_declarations.specs.Parts.{put_param}
use Rattle.htt_parser_declarations.proofs.Lists.{more_begin}
use Rattle.htt_parser_declarations.proofs.declarations.Declarations.more_parameters.Goals as goal
use Rattle.htt_parser_declarations.proofs.declarations.Declarations.more_parameters.Goals.{else-loop-test, then-loop-test+in_ok-more_parameter+in-None}

pub loop-init : goal.loop-init
loop-init c = more_begin _ _ _ _

pub returns-in_err-more_parameter : goal.returns-in_err-more_parameter
returns-in_err-more_parameter c =
    stopped _ _ _ _ _ c.from_residual.ensures.1
    (loop_stops _ _ put_param c.loop.parameters.items (after_commas (Sign CommaSign) (mono_parameter_reader (deeper 63 c.args.left)))
    c.loop.at _ _ _ c.loop-test.true c.loop.invariant c.in_err-more_parameter.ensures)

pub loop-preserved : goal.loop-preserved
loop-preserved c =
    let pushed : c.push.new.self.items ≡ c.loop.parameters.items ++ c.in-Some.parameter ∷ [] = search rules in
    loop_more _ _ _ (after_commas (Sign CommaSign) (mono_parameter_reader (deeper 63 c.args.left))) _ _ _ _ _ _ _ _ _ c.loop-test.true
    c.loop.invariant c.in_ok-more_parameter.ensures c.in-Some.is pushed

pub returns : goal.returns
unfolding after_commas give
returns c =
    let ts = c.args.self.now.proofs.phrases.cursor.tokens.now in
    let is = ap (λ more. Ok (more, drop c.loop.at ts)) (onto_map raw_mono_param_tree c.loop.parameters.items) in
    let next = after_commas (Sign CommaSign) (mono_parameter_reader (deeper 63 c.args.left)) in
    elim c.loop-test.branch [
      | else-loop-test w ↦ loop_is_over ts put_param [] next _ c.loop.parameters.items _ _ c.loop.at w.loop-test.false c.loop.invariant refl ∙ is
      | then-loop-test+in_ok-more_parameter+in-None w ↦
          loop_ends ts put_param [] next _ c.loop.parameters.items _ _ _ c.loop.at w.loop-test.true c.loop.invariant
          w.in_ok-more_parameter.ensures w.in-None.is
          ∙ is
    ]
