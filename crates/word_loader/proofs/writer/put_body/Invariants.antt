use Rattle.std.proofs.Common.{◌≡◌, ◌++◌, take}
use Rattle.std.specs.List.{flat_map}
use Rattle.word_loader_format.specs.Layout.{field_bytes, instr_fields}
use Rattle.word_loader.proofs.writer.put_body.Given as goal

abbrev pub invariant-loop-instr : goal.invariant-loop-instr
invariant-loop-instr l = l.out.items ≡ l.fn.out.items ++ flat_map field_bytes (flat_map instr_fields (take l.instr-index l.body))
