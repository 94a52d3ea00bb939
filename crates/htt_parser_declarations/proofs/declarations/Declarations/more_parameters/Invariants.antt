use Rattle.std.proofs.Common.{◌≡◌, ◌-◌, drop}
use Rattle.htt_lexer_tokens.specs.declared.tokens.Kind.TheVariants as kinds
use Rattle.htt_lexer_tokens.specs.declared.tokens.Sign.TheVariants.{CommaSign}
use Rattle.htt_parser_trees.specs.Trees.{onto}
use Rattle.theory_grammar.specs.Readers.{after_commas}
use Rattle.theory_grammar.specs.Reading.{mono_parameter_reader, deeper}
use Rattle.htt_parser_words.specs.Results.{mapped}
use Rattle.htt_parser_declarations.specs.Parts.{more_parameters_at, put_param}
use Rattle.htt_parser_declarations.proofs.declarations.Declarations.more_parameters.Given as goal

-- the parameters so far, before those that follow
abbrev pub invariant-loop : goal.invariant-loop
invariant-loop l =
    mapped (onto put_param l.fn.parameters.items)
    (more_parameters_at (deeper 63 l.left) (drop l.fn.at l.self.proofs.phrases.cursor.tokens.now))
    ≡ mapped (onto put_param l.parameters.items)
    (after_commas (kinds.Sign CommaSign) (mono_parameter_reader (deeper 63 l.left)) (l.end - l.counter)
    (drop l.at l.self.proofs.phrases.cursor.tokens.now))
