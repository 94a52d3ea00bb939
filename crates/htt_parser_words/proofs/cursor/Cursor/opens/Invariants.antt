use Rattle.std.proofs.Common.{◌≡◌, [], drop, reverse, length}
use Rattle.htt_parser_words.specs.Brackets.{opened}
use Rattle.htt_parser_words.proofs.cursor.Cursor.opens.Given as goal

-- the brackets so far, and those that still open
abbrev pub invariant-loop-token : goal.invariant-loop-token
invariant-loop-token l = opened [] (drop l.at l.self.tokens.now) ≡ opened (reverse l.opens.items) (drop l.next l.self.tokens.now)

abbrev pub decreases-loop-token : goal.decreases-loop-token
decreases-loop-token l = length (drop l.next l.self.tokens.now)
