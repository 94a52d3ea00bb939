use Rattle.std.proofs.Common.{◌≤◌, drop, true}
use Rattle.std.specs.Prelude.{nat_eq}
use Rattle.word_loader.specs.Validity.{code_headers_tests}
use Rattle.word_loader.proofs.Steps.{IsDecidedBy}
use Rattle.word_loader.proofs.validity.check_headers.Given as goal

abbrev pub invariant-loop-i : goal.invariant-loop-i
invariant-loop-i l =
    record {
      left : IsDecidedBy (code_headers_tests true 0 l.functions) (code_headers_tests (nat_eq l.i 0) l.before (drop l.i l.functions));
      few : l.before ≤ 1000000;
    }
