use Rattle.htt_top_words.proofs.FormLemmas.{one_form_lem}
use Rattle.htt_top_words.proofs.laws.one_form.Goals as goal

pub returns : goal.returns
returns c = record { law = one_form_lem }
