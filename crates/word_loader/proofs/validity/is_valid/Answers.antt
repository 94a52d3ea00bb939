use Rattle.word_loader.proofs.ValidityLemmas.{exactly_valid}
use Rattle.word_loader.proofs.validity.is_valid.Goals as goal

pub returns : goal.returns
returns c = exactly_valid c.args.code.now c.check_code.result c.is_ok.result c.check_code.ensures c.is_ok.ensures.value
