use Rattle.std.proofs.Common.{◌*◌, ◌+◌}
use Rattle.htt_parser_phrases.proofs.phrases.+Phrases-read+fn-Phrases-read-closure.Given as goal

abbrev pub decreases-Phrases::read : goal.decreases-Phrases::read
decreases-Phrases::read l = l.left * 2

abbrev pub decreases-closure : goal.decreases-closure
decreases-closure l = l.below * 2 + 1
