use Rattle.obligations.proofs.OneClaim.{claims_come_to_one}
use Rattle.obligations.proofs.claims.claims_come_to_one.Goals as goal

pub returns : goal.returns
returns c = record { law = claims_come_to_one }
