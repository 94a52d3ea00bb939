use Rattle.canonical_forms_decision.proofs.Entries.{given}
use Rattle.canonical_forms_decision.proofs.context.Context.given.Goals as goal

pub returns-clause-standings : goal.returns-clause-standings
returns-clause-standings c =
    given c.loop-skeleton.entries.items c.loop-skeleton.skeleton-index c.args.skeletons.now c.loop-skeleton.invariant c.loop-skeleton-test.false
