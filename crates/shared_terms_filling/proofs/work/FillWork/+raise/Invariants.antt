use Rattle.shared_terms_filling.proofs.work.FillWork.+raise.Given as goal

abbrev pub decreases-raise : goal.decreases-raise
decreases-raise l = l.binders
