use Rattle.std.proofs.Common.{◌≡◌, ◌++◌, ◌+◌, ◌*◌, ◌-◌, ◌≤◌, take, replicate}
use Rattle.word_loader_format.specs.Rows.{numbers_at, width_all}
use Rattle.word_loader.proofs.parts.numbers_at.Given as goal

-- the operands so far, and 0 in the other places
abbrev pub invariant-loop-i : goal.invariant-loop-i
invariant-loop-i l =
    record {
      made : l.numbers ≡ numbers_at l.file l.at (take l.i l.operands) ++ replicate (5 - l.i) 0;
      place : l.place ≡ l.at + width_all (take l.i l.operands);
      near : l.place ≤ l.at + 8 * l.i;
    }
