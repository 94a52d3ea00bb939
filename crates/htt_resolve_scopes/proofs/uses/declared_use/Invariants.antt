use Rattle.std.proofs.Common.{◌≡◌, length}
use Rattle.theory_text_names.specs.Uses.{declared_use}
use Rattle.htt_resolve_names.specs.Views.{rows_tree}
use Rattle.htt_resolve_scopes.proofs.uses.declared_use.Given as goal

-- the first row of this name is one of those that are left
abbrev pub invariant-onward : goal.invariant-onward
invariant-onward l = declared_use l.name (rows_tree l.fn.rows) ≡ declared_use l.name (rows_tree l.left)

abbrev pub decreases-onward : goal.decreases-onward
decreases-onward l = length l.left
