use Rattle.shared_terms_filling.specs.Filled.{stood, KnownFilled}
use Rattle.shared_terms_filling.proofs.Grows.{filled_kept}
use Rattle.shared_terms_filling.proofs.work.FillWork.rename.Goals as goal

pub rename-requires-clause-known : goal.rename-requires-clause-known
unfolding KnownFilled
rename-requires-clause-known c = c.requires.known.0

pub returns-clause-known : goal.returns-clause-known
unfolding stood KnownFilled
returns-clause-known c = (c.rename.ensures.known, λ task r g. filled_kept c.rename.ensures.kept (c.requires.known.1 task r g))
