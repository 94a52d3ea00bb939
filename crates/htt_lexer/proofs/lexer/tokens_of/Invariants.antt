use Rattle.std.proofs.Common.{◌-◌, suc, length}
use Rattle.htt_lexer.proofs.Cutting.{Cutting}
use Rattle.htt_lexer.proofs.lexer.tokens_of.Given as goal

-- the tokens so far are those before the byte `at`
abbrev pub invariant-loop-tokens : goal.invariant-loop-tokens
invariant-loop-tokens l = Cutting l.text l.at l.tokens.items

abbrev pub decreases-loop-tokens : goal.decreases-loop-tokens
decreases-loop-tokens l = suc (length l.text) - l.at
