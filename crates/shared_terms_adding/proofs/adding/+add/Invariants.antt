use Rattle.std.proofs.Common.{◌+◌, ◌*◌}
use Rattle.shared_terms_adding.specs.Views.{part_of, part_in}
use Rattle.shared_terms_adding.proofs.Rank.{rank, rank_in}
use Rattle.shared_terms_adding.proofs.adding.+add.Given as goal

-- what stands in a slot is less than the tree
abbrev pub decreases-add : goal.decreases-add
decreases-add l = 2 * rank (part_of l.tree)

abbrev pub decreases-add_slot : goal.decreases-add_slot
decreases-add_slot l = 2 * rank_in (part_in l.slot) + 1
