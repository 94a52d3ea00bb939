use Rattle.canonical_forms_decision.proofs.Decided.{decided}
use Rattle.canonical_forms_decision.proofs.decision.is_canonical.Goals as goal

pub returns : goal.returns
returns c = record { decided = decided c.term_at.result _ _ _ _ _ _ c.in_ok-context.ensures.heads c.in_ok-context.ensures.standings c.term_at.ensures.decided }
