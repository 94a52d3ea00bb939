use Rattle.std.proofs.Common.{length}
use Rattle.word_loader.proofs.parts.+width_all.Given as goal

abbrev pub decreases-width_all : goal.decreases-width_all
decreases-width_all l = length l.operands.now
