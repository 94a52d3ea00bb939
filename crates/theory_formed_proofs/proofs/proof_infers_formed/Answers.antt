use Rattle.theory_formed_proofs.proofs.Proofs.{infers_formed_all}
use Rattle.theory_formed_proofs.proofs.proof_infers_formed.Goals as goal

pub returns : goal.returns
returns c = record { law = infers_formed_all }
