use Rattle.theory_text_examples.proofs.Worked.{refusals, scoping, sugars, proofs}
use Rattle.theory_text_examples.proofs.worked_texts.Goals as goal

pub returns-clause-refusals : goal.returns-clause-refusals
returns-clause-refusals c = refusals

pub returns-clause-scoping : goal.returns-clause-scoping
returns-clause-scoping c = scoping

pub returns-clause-sugars : goal.returns-clause-sugars
returns-clause-sugars c = sugars

pub returns-clause-proofs : goal.returns-clause-proofs
returns-clause-proofs c = proofs
