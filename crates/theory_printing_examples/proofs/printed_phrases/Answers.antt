use Rattle.theory_printing_examples.proofs.Printed.{printed_monotypes, printed_types, printed_terms, printed_operands, printed_steps, printed_formulas}
use Rattle.theory_printing_examples.proofs.Printed.{printed_connectives, printed_heaps}
use Rattle.theory_printing_examples.proofs.printed_phrases.Goals as goal

pub returns-clause-monotypes : goal.returns-clause-monotypes
returns-clause-monotypes c = printed_monotypes

pub returns-clause-types : goal.returns-clause-types
returns-clause-types c = printed_types

pub returns-clause-terms : goal.returns-clause-terms
returns-clause-terms c = printed_terms

pub returns-clause-operands : goal.returns-clause-operands
returns-clause-operands c = printed_operands

pub returns-clause-steps : goal.returns-clause-steps
returns-clause-steps c = printed_steps

pub returns-clause-formulas : goal.returns-clause-formulas
returns-clause-formulas c = printed_formulas

pub returns-clause-connectives : goal.returns-clause-connectives
returns-clause-connectives c = printed_connectives

pub returns-clause-heaps : goal.returns-clause-heaps
returns-clause-heaps c = printed_heaps
