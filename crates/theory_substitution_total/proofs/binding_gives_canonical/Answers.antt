use Rattle.std.proofs.Common.{arith}
use Rattle.theory_substitution_total.proofs.Total.{smaller, spliced}
use Rattle.theory_substitution_total.proofs.binding_gives_canonical.Goals as goal

pub returns : goal.returns
returns c = record { law = λ heads g comp others d e. spliced heads 1 (smaller heads 1) (omega arith) d e }
