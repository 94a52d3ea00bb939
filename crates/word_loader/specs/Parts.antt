-- Operands as an array of five, the most that an instruction has.
use Rattle.std.specs.Prelude.{ℕ, ◌-◌, List, ◌++◌, length, replicate}

abbrev pub padded : List ℕ → List ℕ
padded numbers = numbers ++ replicate (5 - length numbers) 0
