use Rattle.shared_terms_renaming.specs.Known.{held, Known}
use Rattle.shared_terms_renaming.proofs.Grows.{renames_kept}
use Rattle.shared_terms_renaming.proofs.work.Work.push.Goals as goal

pub returns-clause-known : goal.returns-clause-known
unfolding held Known
returns-clause-known c = λ task r g. renames_kept c.push.ensures.kept (c.requires.known task r g)
