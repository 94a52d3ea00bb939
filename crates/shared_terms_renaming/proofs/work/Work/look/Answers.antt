use Rattle.std.proofs.Common.{sym, ◌∙◌}
use Rattle.shared_terms_renaming.specs.Known.{held, Known}
use Rattle.shared_terms_renaming.proofs.Grows.{looked}
use Rattle.shared_terms_renaming.proofs.work.Work.look.Goals as goal

pub returns : goal.returns
unfolding held Known
returns c = record { done = looked _ _ (λ r p. c.requires.known c.args.task r (sym c.get.ensures.value ∙ sym c.copied.ensures ∙ p)) }
