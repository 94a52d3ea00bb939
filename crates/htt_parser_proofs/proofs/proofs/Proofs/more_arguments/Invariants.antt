use Rattle.std.proofs.Common.{◌≡◌, ◌-◌, drop}
use Rattle.htt_lexer_tokens.specs.declared.tokens.Kind.TheVariants as kinds
use Rattle.htt_lexer_tokens.specs.declared.tokens.Sign.TheVariants.{CommaSign}
use Rattle.htt_parser_trees.specs.Trees.{onto}
use Rattle.theory_grammar.specs.Readers.{after_commas}
use Rattle.theory_grammar.specs.Reading.{arg_reader, more_args, deeper}
use Rattle.htt_parser_words.specs.Results.{mapped}
use Rattle.htt_parser_proofs.specs.Parts.{put_arg}
use Rattle.htt_parser_proofs.proofs.proofs.Proofs.more_arguments.Given as goal

-- the arguments so far, before those that follow
abbrev pub invariant-loop : goal.invariant-loop
invariant-loop l =
    mapped (onto put_arg l.fn.arguments.items) (more_args (deeper 63 l.left) (drop l.fn.at l.self.phrases.cursor.tokens.now))
    ≡ mapped (onto put_arg l.arguments.items)
    (after_commas (kinds.Sign CommaSign) (arg_reader (deeper 63 l.left)) (l.end - l.counter) (drop l.at l.self.phrases.cursor.tokens.now))
