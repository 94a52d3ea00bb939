use Rattle.std.proofs.Common.{◌≡◌, ◌++◌, ◌-◌}
use Rattle.word_loader_format.specs.Numbers.{little_endian}
use Rattle.word_loader.proofs.fields.put_number.Given as goal

-- what is left to append makes the whole
abbrev pub invariant-loop : goal.invariant-loop
invariant-loop l = l.out.items ++ little_endian (l.width - l.counter) l.rest ≡ l.fn.out.items ++ little_endian l.width l.value
