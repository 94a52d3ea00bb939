-- The law of declared names.
use Rattle.theory_printing_declared.specs.Laws.{DeclaredNames}
use Rattle.theory_printing_declared.proofs.Found.{declared_in_order}
use Rattle.theory_printing_declared.proofs.Order.{files_in_order}
use Rattle.theory_printing_declared.proofs.Given.{declared_given}

pub declared_names : DeclaredNames
declared_names = record { in_order = declared_in_order; of_files = files_in_order; of_scopes = declared_given }
