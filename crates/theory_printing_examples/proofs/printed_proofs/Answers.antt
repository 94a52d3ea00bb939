use Rattle.theory_printing_examples.proofs.Printed.{printed_proofs, printed_blocks}
use Rattle.theory_printing_examples.proofs.printed_proofs.Goals as goal

pub returns-clause-proofs : goal.returns-clause-proofs
returns-clause-proofs c = printed_proofs

pub returns-clause-blocks : goal.returns-clause-blocks
returns-clause-blocks c = printed_blocks
