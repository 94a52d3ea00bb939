use Rattle.std.proofs.Common.{length}
use Rattle.sp_checker.proofs.ends.+some_values.Given as goal

abbrev pub decreases-some_values : goal.decreases-some_values
decreases-some_values l = length l.bound.now
