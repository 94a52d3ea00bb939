use Rattle.theory_logic_rules.proofs.Forms.{inferences, goals}
use Rattle.theory_logic_rules.proofs.Variables.{variables}
use Rattle.theory_logic_rules.proofs.Examples.{statements, forms, unfoldings}
use Rattle.theory_logic_rules.proofs.examples_of_proofs.Goals as goal

pub returns : goal.returns
returns c = record { statements = statements; forms = forms; unfoldings = unfoldings; inferences = inferences; goals = goals; variables = variables }
