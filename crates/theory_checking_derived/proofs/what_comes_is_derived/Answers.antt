use Rattle.theory_checking_derived.proofs.Derived.{what_comes_is_derived}
use Rattle.theory_checking_derived.proofs.what_comes_is_derived.Goals as goal

pub returns : goal.returns
returns c = record { law = what_comes_is_derived }
