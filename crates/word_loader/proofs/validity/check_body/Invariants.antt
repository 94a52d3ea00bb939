use Rattle.std.proofs.Common.{drop}
use Rattle.word_loader.specs.Validity.{code_body_tests}
use Rattle.word_loader.proofs.Steps.{IsDecidedBy}
use Rattle.word_loader.proofs.validity.check_body.Given as goal

abbrev pub invariant-loop-i : goal.invariant-loop-i
invariant-loop-i l = IsDecidedBy (code_body_tests l.code l.function l.function.body) (code_body_tests l.code l.function (drop l.i l.function.body))
