use Rattle.std.proofs.Common.{arith}
use Rattle.shared_terms_filling.proofs.Grows.{mono_kept}
use Rattle.shared_terms_filling.proofs.Fillings.{task_under}
use Rattle.shared_terms_filling.proofs.work.FillWork.under.Goals as goal

pub returns-clause-under : goal.returns-clause-under
returns-clause-under c =
    task_under c.args.task c.args.binders _ _ _ (grind (arith, c.checked_add.ensures, c.in_ok-index.ensures)) (mono_kept c.raise.ensures.kept c.requires.mono) (c.in_ok-mono.ensures.raised)
