use Rattle.theory_machine.proofs.Supplied.{shipped_choices_suffice_lem}
use Rattle.theory_machine.proofs.laws.shipped_choices_suffice.Goals as goal

pub returns : goal.returns
returns c = record { law = shipped_choices_suffice_lem }
