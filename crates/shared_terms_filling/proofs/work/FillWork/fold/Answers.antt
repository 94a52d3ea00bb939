use Rattle.shared_terms_filling.specs.Filled.{stood, KnownFilled}
use Rattle.shared_terms_filling.proofs.Grows.{filled_kept}
use Rattle.shared_terms_filling.proofs.work.FillWork.fold.Goals as goal

pub fold-requires-clause-known : goal.fold-requires-clause-known
unfolding KnownFilled
fold-requires-clause-known c = c.requires.known.0

pub returns-clause-known : goal.returns-clause-known
unfolding stood KnownFilled
returns-clause-known c = (c.fold.ensures.known, λ task r g. filled_kept c.fold.ensures.kept (c.requires.known.1 task r g))
