use Rattle.theory_printing_conditions.specs.Conditions.{is_block}
use Rattle.theory_printing_proofs.proofs.Readings.{any_proof}
use Rattle.theory_printing_proofs.proofs.Proofs.{read_proof}
use Rattle.theory_printing_proofs.proofs.printed_proofs_are_derived.Goals as goal

pub returns : goal.returns
returns c = record { law = record { proofs = λ counts s r p l names has v. any_proof (is_block p) (read_proof names p has l v) } }
