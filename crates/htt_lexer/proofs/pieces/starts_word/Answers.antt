use Rattle.std.proofs.Common.{rules, of_calls}
use Rattle.std.proofs.lemmas.Fn.{always_returns_same}
use Rattle.htt_lexer.proofs.Searches.{starts_told}
use Rattle.htt_lexer.proofs.pieces.starts_word.Goals as goal

pub returns : goal.returns
returns c =
    starts_told _ c.args.text.now c.starts_with.result c.utf8.text c.starts_with.ensures.cases
    (always_returns_same _ _ _ (λ a r f k. search (rules, of_calls)))
