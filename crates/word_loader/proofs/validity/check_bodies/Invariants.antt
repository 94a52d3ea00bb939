use Rattle.std.proofs.Common.{drop}
use Rattle.word_loader.specs.Validity.{code_bodies_tests}
use Rattle.word_loader.proofs.Steps.{IsDecidedBy}
use Rattle.word_loader.proofs.validity.check_bodies.Given as goal

abbrev pub invariant-loop-function : goal.invariant-loop-function
invariant-loop-function l = IsDecidedBy (code_bodies_tests l.code l.functions) (code_bodies_tests l.code (drop l.function-index l.functions))
