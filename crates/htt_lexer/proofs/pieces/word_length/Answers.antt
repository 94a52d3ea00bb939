use Rattle.std.proofs.Common.{rules, of_calls, ◌∙◌}
use Rattle.std.proofs.lemmas.Fn.{always_returns_same}
use Rattle.htt_lexer.proofs.Searches.{ends_told}
use Rattle.htt_lexer.proofs.pieces.word_length.Goals as goal

pub returns : goal.returns
returns c =
    c.unwrap_or.ensures
    ∙ ends_told _ c.args.text.now c.find.result c.utf8.text c.find.ensures.cases
    (always_returns_same _ _ _ (λ a r f k. search (rules, of_calls)))
