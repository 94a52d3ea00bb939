use Rattle.std.proofs.Common.{arith, rules}
use Rattle.shared_terms_renaming.specs.Maps.{map_of}
use Rattle.shared_terms_renaming.proofs.Maps.{past_below, past_from, closing_to, closing_above}
use Rattle.shared_terms_renaming.proofs.renaming.Renaming.index.Goals as goal

pub returns-then-index-from : goal.returns-then-index-from
unfolding map_of
returns-then-index-from c = record { index = rw (c.in-Past.is) (past_below c.in-Past.from c.args.index (omega (arith, c.if-index-from.true))) }

pub returns-else-index-from : goal.returns-else-index-from
unfolding map_of
returns-else-index-from c = record { index = search (rules, c.in-Past.is, past_from c.in-Past.from c.args.index (omega (arith, c.if-index-from.false))) }

pub returns-then-index-gap : goal.returns-then-index-gap
unfolding map_of
returns-then-index-gap c = record { index = rw (c.in-Closing.is) (closing_to c.in-Closing.gap c.args.index (omega (arith, c.if-index-gap.true))) }

pub returns-else-index-gap : goal.returns-else-index-gap
unfolding map_of
returns-else-index-gap c = record { index = rw (c.in-Closing.is) (closing_above c.in-Closing.gap c.args.index (omega (arith, c.if-index-gap.false))) }
