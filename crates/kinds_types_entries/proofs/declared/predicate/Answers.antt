use Rattle.std.proofs.Common.{sym}
use Rattle.theory_views.specs.Environments.{rec_tree}
use Rattle.theory_checking.specs.Stops.{finds, finds_none}
use Rattle.kinds_types_entries.proofs.Listed.{found, none_found}
use Rattle.kinds_types_entries.proofs.declared.predicate.Goals as goal

pub returns-in-Some : goal.returns-in-Some
returns-in-Some c =
    record { comes = finds (found rec_tree c.args.recs.now c.args.number c.args.at c.in-Some.predicate.now (sym c.in-Some.ensures.item)) }

pub returns-in-None : goal.returns-in-None
returns-in-None c = record { comes = finds_none (none_found rec_tree c.args.recs.now c.args.number c.args.at (sym c.in-None.ensures.item)) }
