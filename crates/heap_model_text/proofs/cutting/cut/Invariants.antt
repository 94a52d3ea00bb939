use Rattle.std.proofs.Common.{◌≡◌, ◌++◌, take, drop}
use Rattle.heap_model_text.specs.Cutting.{before_mark, from_mark}
use Rattle.heap_model_text.proofs.cutting.cut.Given as goal

-- no byte so far is the mark
abbrev pub invariant-loop-i : goal.invariant-loop-i
invariant-loop-i l = record {
  before : before_mark l.mark l.bytes ≡ take l.i l.bytes ++ before_mark l.mark (drop l.i l.bytes);
  from : from_mark l.mark l.bytes ≡ from_mark l.mark (drop l.i l.bytes);
}
