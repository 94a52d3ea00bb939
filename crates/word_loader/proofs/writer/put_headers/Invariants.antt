use Rattle.std.proofs.Common.{◌≡◌, ◌++◌, take}
use Rattle.std.specs.List.{flat_map}
use Rattle.word_loader_format.specs.Layout.{field_bytes, header_fields}
use Rattle.word_loader.proofs.writer.put_headers.Given as goal

abbrev pub invariant-loop-function : goal.invariant-loop-function
invariant-loop-function l = l.out.items ≡ l.fn.out.items ++ flat_map field_bytes (flat_map header_fields (take l.function-index l.functions))
