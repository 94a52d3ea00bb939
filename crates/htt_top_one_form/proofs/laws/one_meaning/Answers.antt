use Rattle.htt_top_one_form.proofs.Meaning.{one_form}
use Rattle.htt_top_one_form.proofs.laws.one_meaning.Goals as goal

pub returns : goal.returns
returns c = record { law = one_form }
