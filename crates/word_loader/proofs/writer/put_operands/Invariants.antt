use Rattle.std.proofs.Common.{◌≡◌, ◌++◌, take}
use Rattle.std.specs.List.{flat_map}
use Rattle.word_loader_format.specs.Layout.{field_bytes, operand_fields}
use Rattle.word_loader.proofs.writer.put_operands.Given as goal

abbrev pub invariant-loop-i : goal.invariant-loop-i
invariant-loop-i l = l.out.items ≡ l.fn.out.items ++ flat_map field_bytes (operand_fields (take l.i l.operands) l.numbers)
