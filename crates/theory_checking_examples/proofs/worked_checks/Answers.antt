use Rattle.theory_checking_examples.proofs.Examples.{terms, formulas, items, checked_items}
use Rattle.theory_checking_examples.proofs.worked_checks.Goals as goal

pub returns : goal.returns
returns c = record { terms = terms; formulas = formulas; items = items; checked_items = checked_items }
