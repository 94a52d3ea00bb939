use Rattle.std.proofs.Common.{◌≡◌, ◌∷◌, ◌-◌, drop}
use Rattle.htt_lexer_tokens.specs.declared.tokens.Kind.TheVariants as kinds
use Rattle.htt_lexer_tokens.specs.declared.tokens.Sign.TheVariants.{CommaSign}
use Rattle.htt_parser_trees.specs.Trees.{onto}
use Rattle.htt_parser_trees.specs.MonoLevels.{raw_mono_tree}
use Rattle.theory_grammar.specs.Readers.{after_commas}
use Rattle.theory_grammar.specs.Phrases.{mono_reader}
use Rattle.theory_grammar.specs.Reading.{deeper}
use Rattle.htt_parser_words.specs.Lists.{monos_at}
use Rattle.htt_parser_words.specs.Results.{mapped}
use Rattle.htt_parser_words.proofs.cursor.Cursor.monos.Given as goal

-- the monotypes so far, before those that follow
abbrev pub invariant-loop : goal.invariant-loop
invariant-loop l =
    monos_at (deeper 63 l.left) (drop l.fn.at l.self.tokens.now)
    ≡ mapped (onto (λ m ms. raw_mono_tree m ∷ ms) l.monos.items)
    (after_commas (kinds.Sign CommaSign) (mono_reader (deeper 63 l.left)) (l.end - l.counter) (drop l.at l.self.tokens.now))
