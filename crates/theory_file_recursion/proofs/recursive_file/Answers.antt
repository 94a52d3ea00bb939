use Rattle.theory_file_recursion.proofs.Doubling.{recursion}
use Rattle.theory_file_recursion.proofs.recursive_file.Goals as goal

pub returns : goal.returns
returns c = record { law = recursion }
