use Rattle.std.proofs.Common.{drop}
use Rattle.htt_parser_words.proofs.Monotypes.{gives_along}
use Rattle.htt_parser_phrases.proofs.Deepening.{refused_deeper, wanted_deeper}
use Rattle.htt_parser_phrases.proofs.phrases.+Phrases-read+fn-Phrases-read-closure.Goals as goal

pub returns-then-left-eq0 : goal.returns-then-left-eq0
returns-then-left-eq0 n c =
    refused_deeper c.args.what c.args.self.now.cursor.tokens.now c.args.at c.args.left _ _ c.if-left-eq0.true c.phrase_of.ensures
    c.refuse.ensures

pub returns : goal.returns
returns n c =
    gives_along _ _ _ _ _ (wanted_deeper c.args.what c.args.left (drop c.args.at c.args.self.now.cursor.tokens.now) c.if-left-eq0.false)
    c.read_at.ensures
