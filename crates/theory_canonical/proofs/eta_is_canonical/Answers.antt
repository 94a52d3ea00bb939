use Rattle.theory_canonical.proofs.Expanded.{expanded_canonical}
use Rattle.theory_canonical.proofs.eta_is_canonical.Goals as goal

pub returns : goal.returns
returns c = record { law = λ heads g ty term d e. expanded_canonical term d (record { at = λ n found s. s }) e }
