use Rattle.std.proofs.Common.{◌≡◌, [], ◌∷◌, ◌++◌, ◌∙◌, ap, drop, refl, rules}
use Rattle.std.specs.Prelude.{Ok}
use Rattle.htt_lexer_tokens.specs.declared.tokens.Kind.TheVariants.{Sign}
use Rattle.htt_lexer_tokens.specs.declared.tokens.Sign.TheVariants.{CommaSign}
use Rattle.htt_parser_trees.specs.MonoLevels.{raw_mono_tree}
use Rattle.theory_grammar.specs.Readers.{after_commas, give}
use Rattle.theory_grammar.specs.Phrases.{mono_reader}
use Rattle.theory_grammar.specs.Reading.{deeper}
use Rattle.htt_parser_words.proofs.Steps.{stopped}
use Rattle.htt_parser_words.proofs.Loops.{loop_more, loop_ends, loop_is_over, loop_stops, onto_map}
use Rattle.htt_parser_words.proofs.MonoLists.{monos_begin}
use Rattle.htt_parser_words.proofs.cursor.Cursor.monos.Goals as goal
use Rattle.htt_parser_words.proofs.cursor.Cursor.monos.Goals.{else-loop-test, then-loop-test+in_ok-more_mono+in-None}

pub loop-init : goal.loop-init
loop-init c =
    let one : c.push.new.self.items ≡ c.in_ok-first.first ∷ [] = search rules in
    monos_begin _ _ _ _ _ _ c.in_ok-first.ensures one

pub returns-in_err-more_mono : goal.returns-in_err-more_mono
returns-in_err-more_mono c =
    stopped _ _ _ _ _ c.from_residual-in_err-more_mono.ensures.1
    (loop_stops _ _ (λ m ms. raw_mono_tree m ∷ ms) c.loop.monos.items (after_commas (Sign CommaSign) (mono_reader (deeper 63 c.args.left)))
    c.loop.at _ _ _ c.loop-test.true c.loop.invariant c.in_err-more_mono.ensures)

pub loop-preserved : goal.loop-preserved
loop-preserved c =
    let pushed : c.push-in-Some.new.self.items ≡ c.loop.monos.items ++ c.in-Some.mono ∷ [] = search rules in
    loop_more _ _ _ (after_commas (Sign CommaSign) (mono_reader (deeper 63 c.args.left))) _ _ _ _ _ _ _ _ _ c.loop-test.true
    c.loop.invariant c.in_ok-more_mono.ensures c.in-Some.is pushed

pub returns : goal.returns
unfolding after_commas give
returns c =
    let map_is = onto_map raw_mono_tree c.loop.monos.items in
    let is = ap (λ ms. Ok (ms, drop c.loop.at c.args.self.now.tokens.now)) map_is in
    let ts = c.args.self.now.tokens.now in
    let next = after_commas (Sign CommaSign) (mono_reader (deeper 63 c.args.left)) in
    elim c.loop-test.branch [
      | else-loop-test w ↦
          loop_is_over ts (λ m ms. raw_mono_tree m ∷ ms) [] next _ c.loop.monos.items _ _ c.loop.at w.loop-test.false c.loop.invariant refl
          ∙ is
      | then-loop-test+in_ok-more_mono+in-None w ↦
          loop_ends ts (λ m ms. raw_mono_tree m ∷ ms) [] next _ c.loop.monos.items _ _ _ c.loop.at w.loop-test.true c.loop.invariant
          w.in_ok-more_mono.ensures w.in-None.is
          ∙ is
    ]
