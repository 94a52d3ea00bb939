use Rattle.std.proofs.Common.{◌≡◌, length}
use Rattle.shared_terms_table.specs.View.{parts_of}
use Rattle.shared_terms_sizes.specs.Sized.{Sized}
use Rattle.shared_terms_sizes.proofs.sizes.Sizes.follow.Given as goal

abbrev pub invariant-loop-place : goal.invariant-loop-place
invariant-loop-place l = Sized (parts_of l.table) l.self.nodes.items × (length l.self.nodes.items ≡ l.place)
