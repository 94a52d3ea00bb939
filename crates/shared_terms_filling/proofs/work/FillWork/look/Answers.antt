use Rattle.std.proofs.Common.{sym, ◌∙◌}
use Rattle.shared_terms_renaming.proofs.Grows.{looked}
use Rattle.shared_terms_filling.specs.Filled.{stood, KnownFilled}
use Rattle.shared_terms_filling.proofs.work.FillWork.look.Goals as goal

pub returns : goal.returns
unfolding stood KnownFilled
returns c = record { done = looked _ _ (λ r p. c.requires.known.1 c.args.task r (sym c.get.ensures.value ∙ sym c.copied.ensures ∙ p)) }
