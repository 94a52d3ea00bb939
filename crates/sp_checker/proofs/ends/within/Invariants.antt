use Rattle.std.proofs.Common.{◌≡◌, suc, ◌∷◌}
use Rattle.std.specs.List.{range_with_len}
use Rattle.sp_checker.proofs.ends.within.Given as goal

abbrev pub invariant-loop-index : goal.invariant-loop-index
invariant-loop-index l = l.to.items ≡ l.fn.count ∷ suc l.fn.count ∷ range_with_len 0 l.index
