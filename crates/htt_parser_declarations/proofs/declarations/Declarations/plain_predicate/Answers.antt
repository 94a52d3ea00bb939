use Rattle.std.proofs.Common.{sym, ap, drop}
use Rattle.theory_grammar.specs.Reading.{deeper, pred_on}
use Rattle.htt_parser_words.proofs.Monotypes.{gives_along}
use Rattle.htt_parser_declarations.proofs.declarations.Declarations.plain_predicate.Goals as goal

pub returns : goal.returns
returns c =
    let us = drop c.args.at c.args.self.now.proofs.phrases.cursor.tokens.now in
    gives_along _ _ _ _ _ (ap (λ xs. pred_on (deeper 63 c.args.left) c.args.name xs us) (sym c.new.ensures.items)) c.predicate.ensures
