use Rattle.shared_terms_rows.proofs.Built.{kind_built}
use Rattle.shared_terms_rows.proofs.rows_are_of_their_kind.Goals as goal

pub returns : goal.returns
returns c = record { law = kind_built }
