use Rattle.theory_file_derived.proofs.Derived.{files}
use Rattle.theory_file_derived.proofs.derived_files.Goals as goal

pub returns : goal.returns
returns c = record { law = files }
