use Rattle.std.proofs.Common.{refl, sym, ap, ◌∙◌}
use Rattle.std.specs.Map.{lookup}
use Rattle.shared_terms_renaming.specs.Known.{held}
use Rattle.shared_terms_filling.specs.contracts.work.FillTaskPartialEq as TaskEq
use Rattle.shared_terms_filling.specs.Filled.{stood, KnownFilled, Fills}
use Rattle.shared_terms_filling.proofs.Grows.{noted}
use Rattle.shared_terms_filling.proofs.work.FillWork.note.Goals as goal

pub returns-in_err-insert-clause-known : goal.returns-in_err-insert-clause-known
unfolding stood KnownFilled
returns-in_err-insert-clause-known c =
    (c.requires.known.0, λ task r g. c.requires.known.1 task r (ap (lookup (TaskEq.TheImpl.eq-value.it task)) (sym c.in_err-insert.ensures.err) ∙ g))

pub returns-in_err-insert-clause-kept : goal.returns-in_err-insert-clause-kept
unfolding stood
returns-in_err-insert-clause-kept c = refl

pub returns-clause-known : goal.returns-clause-known
unfolding stood KnownFilled
returns-clause-known c = (
  c.requires.known.0,
  λ task r g.
      noted (λ t v. Fills (held c.args.self.now.work) t v) c.args.task task c.args.filled r _ _ (c.in_ok-insert.ensures.updates.0 task)
      c.requires.done (λ h. c.requires.known.1 task r h) g,
)

pub returns-clause-kept : goal.returns-clause-kept
unfolding stood
returns-clause-kept c = refl
