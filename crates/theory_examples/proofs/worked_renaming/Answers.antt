use Rattle.theory_examples.proofs.Renamings.{renamings, renamed_proofs, scopes}
use Rattle.theory_examples.proofs.worked_renaming.Goals as goal

pub returns : goal.returns
returns c = record { renamings = renamings; proofs = renamed_proofs; scopes = scopes }
