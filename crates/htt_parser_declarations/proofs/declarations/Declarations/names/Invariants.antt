use Rattle.std.proofs.Common.{◌≡◌, ◌-◌, drop}
use Rattle.htt_lexer_tokens.specs.declared.tokens.Kind.TheVariants as kinds
use Rattle.htt_lexer_tokens.specs.declared.tokens.Sign.TheVariants.{CommaSign}
use Rattle.htt_parser_trees.specs.Trees.{onto}
use Rattle.theory_grammar.specs.Readers.{after_commas}
use Rattle.theory_grammar.specs.Phrases.{a_name_there}
use Rattle.htt_parser_words.specs.Results.{mapped}
use Rattle.htt_parser_declarations.specs.Parts.{names_at, put_name}
use Rattle.htt_parser_declarations.proofs.declarations.Declarations.names.Given as goal

-- the names so far, before those that follow
abbrev pub invariant-loop : goal.invariant-loop
invariant-loop l =
    names_at (drop l.fn.at l.self.proofs.phrases.cursor.tokens.now)
    ≡ mapped (onto put_name l.names.items)
    (after_commas (kinds.Sign CommaSign) a_name_there (l.end - l.counter) (drop l.at l.self.proofs.phrases.cursor.tokens.now))
