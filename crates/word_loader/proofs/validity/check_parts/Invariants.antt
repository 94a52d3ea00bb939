use Rattle.std.proofs.Common.{drop}
use Rattle.word_loader.specs.Answers.{site_seen}
use Rattle.word_loader.specs.Validity.{code_parts_tests}
use Rattle.word_loader.proofs.Steps.{IsDecidedBy}
use Rattle.word_loader.proofs.validity.check_parts.Given as goal

abbrev pub invariant-loop-i : goal.invariant-loop-i
invariant-loop-i l =
    IsDecidedBy (code_parts_tests (site_seen l.site) l.operands l.site.numbers.now)
    (code_parts_tests (site_seen l.site) (drop l.i l.operands) (drop l.i l.site.numbers.now))
