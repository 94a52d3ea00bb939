use Rattle.std.proofs.Common.{arith}
use Rattle.shared_terms_renaming.proofs.Slots.{ok_map}
use Rattle.shared_terms_filling.proofs.Fillings.{raises_none, raises_next}
use Rattle.shared_terms_filling.proofs.work.FillWork.+raise.Goals as goal

pub returns-then-binders-eq0-clause-raised : goal.returns-then-binders-eq0-clause-raised
returns-then-binders-eq0-clause-raised t c = raises_none c.args.binders (omega (arith, c.if-binders-eq0.true)) c.requires.within

pub returns-clause-raised : goal.returns-clause-raised
returns-clause-raised t c =
    ok_map _ _ _
    (λ r m. raises_next _ _ (omega (arith, c.if-binders-eq0.false)) c.rename.ensures.kept (c.in_ok-below.ensures.raised) m)
    c.rename.ensures.renamed
