use Rattle.std.proofs.Common.{◌≡◌, [], ◌∷◌, ◌++◌, ◌∙◌, ap, drop, refl, rules}
use Rattle.std.specs.Prelude.{Ok}
use Rattle.htt_lexer_tokens.specs.declared.tokens.Kind.TheVariants.{Sign}
use Rattle.htt_lexer_tokens.specs.declared.tokens.Sign.TheVariants.{CommaSign}
use Rattle.theory_grammar.specs.Readers.{after_commas, give}
use Rattle.theory_grammar.specs.Phrases.{a_name_there}
use Rattle.htt_parser_words.proofs.Steps.{stopped}
use Rattle.htt_parser_words.proofs.Loops.{loop_more, loop_ends, loop_is_over, loop_stops}
use Rattle.htt_parser_declarations.specs.Parts.{put_name}
use Rattle.htt_parser_declarations.proofs.Lists.{names_begin, onto_names}
use Rattle.htt_parser_declarations.proofs.declarations.Declarations.names.Goals as goal
use Rattle.htt_parser_declarations.proofs.declarations.Declarations.names.Goals.{else-loop-test, then-loop-test+in_ok-more_name+in-None}

pub loop-init : goal.loop-init
loop-init c =
    let one : c.push.new.self.items ≡ c.in_ok-first.first ∷ [] = search rules in
    names_begin _ _ _ _ _ c.in_ok-first.ensures one

pub returns-in_err-more_name : goal.returns-in_err-more_name
returns-in_err-more_name c =
    stopped _ _ _ _ _ c.from_residual-in_err-more_name.ensures.1
    (loop_stops _ _ put_name c.loop.names.items (after_commas (Sign CommaSign) a_name_there) c.loop.at _ _ _ c.loop-test.true
    c.loop.invariant c.in_err-more_name.ensures)

pub loop-preserved : goal.loop-preserved
loop-preserved c =
    let pushed : c.push-in-Some.new.self.items ≡ c.loop.names.items ++ c.in-Some.name ∷ [] = search rules in
    loop_more _ put_name _ (after_commas (Sign CommaSign) a_name_there) _ _ _ _ _ _ _ _ _ c.loop-test.true c.loop.invariant
    c.in_ok-more_name.ensures c.in-Some.is pushed

pub returns : goal.returns
unfolding after_commas give
returns c =
    let ts = c.args.self.now.proofs.phrases.cursor.tokens.now in
    let is = ap (λ xs. Ok (xs, drop c.loop.at ts)) (onto_names c.loop.names.items) in
    let next = after_commas (Sign CommaSign) a_name_there in
    elim c.loop-test.branch [
      | else-loop-test w ↦ loop_is_over ts put_name [] next _ c.loop.names.items _ _ c.loop.at w.loop-test.false c.loop.invariant refl ∙ is
      | then-loop-test+in_ok-more_name+in-None w ↦
          loop_ends ts put_name [] next _ c.loop.names.items _ _ _ c.loop.at w.loop-test.true c.loop.invariant w.in_ok-more_name.ensures
          w.in-None.is
          ∙ is
    ]
