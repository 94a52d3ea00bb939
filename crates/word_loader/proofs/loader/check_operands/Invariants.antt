use Rattle.std.proofs.Common.{◌≡◌, ◌+◌, ◌≤◌, drop, length}
use Rattle.word_loader_format.specs.Rows.{operands_tests, width_all}
use Rattle.word_loader.specs.Answers.{site_seen}
use Rattle.word_loader.proofs.Steps.{IsDecidedBy}
use Rattle.word_loader.proofs.loader.check_operands.Given as goal

-- the tests of the operands that are left decide
abbrev pub invariant-loop-operand : goal.invariant-loop-operand
invariant-loop-operand l =
    record {
      left :
          IsDecidedBy (operands_tests l.file (site_seen l.site) l.at l.operands)
          (operands_tests l.file (site_seen l.site) l.place (drop l.operand-index l.operands));
      width : l.place + width_all (drop l.operand-index l.operands) ≡ l.at + width_all l.operands;
      room : l.place ≤ length l.file;
    }
