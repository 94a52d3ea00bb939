use Rattle.std.proofs.Common.{refl, sym, ap, ◌∙◌}
use Rattle.std.specs.Map.{lookup}
use Rattle.shared_terms_renaming.specs.Known.{held, Known, Renames}
use Rattle.shared_terms_renaming.specs.contracts.work.TaskPartialEq as TaskEq
use Rattle.shared_terms_renaming.proofs.Grows.{noted}
use Rattle.shared_terms_table.specs.View.{parts_of}
use Rattle.shared_terms_renaming.proofs.work.Work.note.Goals as goal

pub returns-in_err-insert-clause-known : goal.returns-in_err-insert-clause-known
unfolding held Known
returns-in_err-insert-clause-known c = λ task r g. c.requires.known task r (ap (lookup (TaskEq.TheImpl.eq-value.it task)) (sym c.in_err-insert.ensures.err) ∙ g)

pub returns-in_err-insert-clause-kept : goal.returns-in_err-insert-clause-kept
unfolding held
returns-in_err-insert-clause-kept c = refl

pub returns-clause-known : goal.returns-clause-known
unfolding held Known
returns-clause-known c = λ task r g.
    noted (λ t v. Renames (parts_of c.args.self.now.table) t.renaming t.place v) c.args.task task c.args.renamed r _ _ (c.in_ok-insert.ensures.updates.0 task)
    c.requires.done (λ h. c.requires.known task r h) g

pub returns-clause-kept : goal.returns-clause-kept
unfolding held
returns-clause-kept c = refl
