use Rattle.obligations.proofs.OneClaim.{claims_are_once}
use Rattle.obligations.proofs.claims.claims_are_once.Goals as goal

pub returns : goal.returns
returns c = record { law = claims_are_once }
